use Rattle.std.proofs.Common.{sym, ap, ◌∙◌, subst, ◌<◌, rules}
use Rattle.release.specs.Texts.{lent_text}
use Rattle.release.specs.JoinedLaws.{row_below, row_at}
use Rattle.release.proofs.number_text.Goals as goal

pub overflow_add-i : goal.overflow_add-i
overflow_add-i c =
    let r = c.row-i in
    let h : r.result < 33 = subst (λ x. x < 33) (sym r.ensures) (row_below _) in
    search rules

pub lend_part-requires : goal.lend_part-requires
lend_part-requires c =
    let r = row_at _ _ _ _ c.row-i.ensures c.start-a.ensures c.start-e.ensures in
    (r.order, r.most)

pub overflow_sub-result : goal.overflow_sub-result
overflow_sub-result c =
    let r = row_at _ _ _ _ c.row-i.ensures c.start-a.ensures c.start-e.ensures in
    let h = r.order in
    search rules

pub returns : goal.returns
returns c =
    let a = c.args in
    let r = row_at _ _ _ _ c.row-i.ensures c.start-a.ensures c.start-e.ensures in
    record { size = r.size; out = c.lend_part.ensures ∙ ap (λ t. lent_text t a.out.now) r.text }
