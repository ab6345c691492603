use Rattle.std.proofs.Common.{ap, ◌∙◌, get_or}
use Rattle.c_wide.proofs.axlebloom_wide_places.Goals as goal

pub returns : goal.returns
returns c = c.described_places.ensures ∙ ap (λ figures. get_or figures 0 0) c.describe.ensures.figures
