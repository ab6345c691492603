use Rattle.std.proofs.Common.{ap₂, ◌∙◌}
use Rattle.c_catalogue.specs.Answers.{compact_answer}
use Rattle.c_catalogue.proofs.axlebloom_compact.Goals as goal

pub returns : goal.returns
returns c =
    let e = c.compact.ensures in
    record { answer = c.compact_answer.ensures ∙ ap₂ compact_answer e.number e.figures; text = e.buffer }
