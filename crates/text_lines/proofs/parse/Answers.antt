use Rattle.std.proofs.Common.{sym, ap, ◌∙◌, arith}
use Rattle.text.specs.RecordLaws.{kind-long}
use Rattle.text_lines.specs.Kinds.{kind_number, kind_or_none, record_number}
use Rattle.text_lines.proofs.LineKinds.{kind-none, kind-over, kind-miscounted, kind-read, holds}
use Rattle.text_lines.proofs.parse.Goals as goal

pub returns-then-line-gt1024-clause-kind : goal.returns-then-line-gt1024-clause-kind
returns-then-line-gt1024-clause-kind c = sym (kind-long c.args.line.now (omega arith))

pub returns-in_err-kind-clause-kind : goal.returns-in_err-kind-clause-kind
returns-in_err-kind-clause-kind c =
    let e = c.part_end-e in
    ap record_number c.from_residual.ensures
    ∙ kind-none c.args.line.now (omega arith) e.result e.ensures.end (sym (ap kind_or_none c.in_err-kind.was) ∙ c.name_kind.ensures)

pub returns-then-not-all_under-clause-kind : goal.returns-then-not-all_under-clause-kind
returns-then-not-all_under-clause-kind c =
    let e = c.part_end-e in
    kind-over c.args.line.now (omega arith) e.result e.ensures.end (kind_number c.in_ok-kind.kind)
    (sym (ap kind_or_none c.in_ok-kind.was) ∙ c.name_kind.ensures)
    (cc (sym c.all_under.ensures ∙ c.if-not-all_under.true))

pub returns-then-not-is_count-clause-kind : goal.returns-then-not-is_count-clause-kind
returns-then-not-is_count-clause-kind c =
    let e = c.part_end-e in
    kind-miscounted c.args.line.now (omega arith) e.result e.ensures.end (kind_number c.in_ok-kind.kind)
    (sym (ap kind_or_none c.in_ok-kind.was) ∙ c.name_kind.ensures)
    (cc (sym c.all_under.ensures ∙ c.if-not-all_under.false))
    (cc (sym c.is_count.ensures ∙ c.if-not-is_count.true))

pub returns-clause-kind : goal.returns-clause-kind
returns-clause-kind c =
    let e = c.part_end-e in
    kind-read c.args.line.now (omega arith) e.result e.ensures.end (kind_number c.in_ok-kind.kind)
    (sym (ap kind_or_none c.in_ok-kind.was) ∙ c.name_kind.ensures)
    (cc (sym c.all_under.ensures ∙ c.if-not-all_under.false))
    (cc (sym c.is_count.ensures ∙ c.if-not-is_count.false))

pub returns-clause-values : goal.returns-clause-values
returns-clause-values c =
    let v = c.write_values-count.ensures in
    holds c.args.line.now (omega arith) c.part_end-e.result c.part_end-e.ensures.end _ v.value v.bytes_after v.marks_after
