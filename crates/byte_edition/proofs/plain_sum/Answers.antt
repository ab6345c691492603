use Rattle.std.proofs.Common.{◌∙◌, List, ℕ, arith}
use Rattle.byte_edition.proofs.Laws.{ones-sum}
use Rattle.byte_edition.proofs.plain_sum.Goals as goal

pub returns-else-part-gt16 : goal.returns-else-part-gt16
returns-else-part-gt16 c =
    let u : List ℕ = c.args.part.now in
    c.sum.ensures ∙ ones-sum u (λ i. (c.shared_slice_known-1.given i).fits) (omega arith)
