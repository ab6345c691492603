use Rattle.std.proofs.Common.{refl, arith}
use Rattle.text.specs.Records.{all_under, values_from}
use Rattle.text_lines.proofs.LineKinds.{numbers-read, holds-numbers, numbers-long}
use Rattle.text_lines.proofs.read_numbers.Goals as goal

pub returns-then-line-gt1024-clause-read : goal.returns-then-line-gt1024-clause-read
returns-then-line-gt1024-clause-read c = numbers-long c.args.name.now c.args.line.now (omega arith)

pub returns-then-not-is_same-clause-read : goal.returns-then-not-is_same-clause-read
returns-then-not-is_same-clause-read c =
    let line = c.args.line.now in
    let e = c.part_end-e in
    rw c.if-not-is_same.true at
    (numbers-read line (omega arith) e.result e.ensures.end c.args.name.now _ (all_under 256 (values_from e.result line)) c.is_same.ensures refl)

pub returns-then-not-all_under-clause-read : goal.returns-then-not-all_under-clause-read
returns-then-not-all_under-clause-read c =
    let e = c.part_end-e in
    rw (c.if-not-is_same.false, c.if-not-all_under.true) at
    (numbers-read c.args.line.now (omega arith) e.result e.ensures.end c.args.name.now _ _ c.is_same.ensures c.all_under.ensures)

pub returns-clause-read : goal.returns-clause-read
returns-clause-read c =
    let e = c.part_end-e in
    rw (c.if-not-is_same.false, c.if-not-all_under.false) at
    (numbers-read c.args.line.now (omega arith) e.result e.ensures.end c.args.name.now _ _ c.is_same.ensures c.all_under.ensures)

pub returns-clause-values : goal.returns-clause-values
returns-clause-values c =
    let e = c.part_end-e in
    let v = c.write_values-count.ensures in
    holds-numbers c.args.line.now (omega arith) e.result e.ensures.end _ v.value v.bytes_after
