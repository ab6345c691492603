use Rattle.std.proofs.Common.{◌∙◌}
use Rattle.text.specs.WrittenLaws.{written-padded}
use Rattle.text_lines.proofs.line_of.Goals as goal

pub returns : goal.returns
returns c =
    let e = c.put_line-length.ensures in
    record { size = e.size; most = e.most; contents = e.out ∙ written-padded 1024 _ }
