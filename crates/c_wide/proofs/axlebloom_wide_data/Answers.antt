use Rattle.std.proofs.Common.{ap, ◌∙◌, get_or}
use Rattle.c_wide.proofs.axlebloom_wide_data.Goals as goal

pub returns : goal.returns
returns c = c.described_data.ensures ∙ ap (λ figures. get_or figures 1 0) c.describe.ensures.figures
