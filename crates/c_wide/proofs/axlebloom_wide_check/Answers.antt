use Rattle.std.proofs.Common.{ap, ◌∙◌}
use Rattle.c_answers.specs.Numbers.{checked_mended}
use Rattle.c_wide.proofs.axlebloom_wide_check.Goals as goal

pub returns : goal.returns
returns c = c.mended_of_check.ensures ∙ ap checked_mended c.check.ensures.answer
