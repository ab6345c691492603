use Rattle.std.proofs.Common.{◌∙◌}
use Rattle.c_answers.specs.MendsLaws.{mended-by}
use Rattle.c_wide.proofs.axlebloom_wide_recover.Goals as goal

pub returns : goal.returns
returns c =
    let k = c.recover in
    let e = k.ensures in
    record { answer = c.mended_of.ensures ∙ mended-by k.result _ _ e.answer.number e.answer.group; word = e.word; marks = e.marks }
