use Rattle.std.proofs.Common.{ap₂, ◌∙◌}
use Rattle.c_catalogue.specs.Answers.{change_answer}
use Rattle.c_catalogue.proofs.axlebloom_put.Goals as goal

pub returns : goal.returns
returns c =
    let e = c.put.ensures in
    record { answer = c.change_answer.ensures ∙ ap₂ change_answer e.number e.figures; text = e.buffer }
