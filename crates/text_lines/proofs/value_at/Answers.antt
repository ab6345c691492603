use Rattle.text.specs.FieldLaws.{part-taken}
use Rattle.text_lines.proofs.value_at.Goals as goal

pub returns : goal.returns
returns c =
    let a = c.args in
    cc (part-taken 9 a.from a.line.now)
