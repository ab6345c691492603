use Rattle.std.proofs.Common.{◌+◌, sym, arith}
use Rattle.catalogue_lines.specs.ReadingLaws.{field-some, field-none}
use Rattle.text.specs.FieldLaws.{part-taken}
use Rattle.catalogue_lines.proofs.field_after.Goals as goal

pub returns-then-line-at : goal.returns-then-line-at
returns-then-line-at c = let a = c.args in record { value = sym (field-none a.line.now a.at (omega arith)); most = λ h. h }

pub returns : goal.returns
returns c =
    let a = c.args in
    let p = c.part_end-end in
    let n = c.number.ensures.value in
    let e = p.ensures.end in
    record { value = cc (field-some a.line.now a.at (omega arith), part-taken 9 (a.at + 1) a.line.now); most = λ h. omega arith }
