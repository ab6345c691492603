use Rattle.std.proofs.Common.{ap₂, ◌∙◌}
use Rattle.c_catalogue.specs.Answers.{lookup_answer}
use Rattle.c_catalogue.proofs.axlebloom_lookup.Goals as goal

pub returns : goal.returns
returns c = let e = c.lookup.ensures in c.lookup_answer.ensures ∙ ap₂ lookup_answer e.number e.figures
