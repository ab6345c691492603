use Rattle.std.proofs.Common.{ap, ◌∙◌, get_or}
use Rattle.c_wide.proofs.axlebloom_wide_sure.Goals as goal

pub returns : goal.returns
returns c = c.described_sure.ensures ∙ ap (λ figures. get_or figures 2 0) c.describe.ensures.figures
