use Rattle.std.proofs.Common.{sym, ap, ◌∙◌, arith}
use Rattle.text_lines.specs.Kinds.{kind_number, record_number}
use Rattle.text_lines.specs.KindsLaws.{kind-shape}
use Rattle.block_input.specs.HeadLaws.{shape-unread, shape-read}
use Rattle.block_input.proofs.read_shape.Goals as goal

pub returns-in_default : goal.returns-in_default
returns-in_default c = shape-unread c.args.line.now 0 (sym (ap record_number c.in_default.is) ∙ c.parse.ensures.kind) (λ z. omega arith)

pub returns-in_default-kind : goal.returns-in_default-kind
returns-in_default-kind c =
    let p = c.in-Some in
    shape-unread c.args.line.now (kind_number p.record.kind) p.ensures.kind (λ z. c.in_default-kind.not-Shape (kind-shape _ z))

pub returns : goal.returns
returns c =
    let p = c.in-Some in
    shape-read c.args.line.now p.record p.ensures.kind p.ensures.values c.in-Shape.is _ (c.number.ensures ∙ c.shape_refusal.ensures)
