use Rattle.std.proofs.Common.{◌≡◌, sym, ap, ap₂, ◌∙◌, List, ℕ, ◌+◌, ◌*◌, add-one, get_or}
use Rattle.binary_field.specs.Xor.{◌⊕◌}
use Rattle.binary_field.specs.XorLaws.{⊕-bits, ⊕-zero-r}
use Rattle.binary_field.specs.Product.{product}
use Rattle.binary_field.specs.ProductLaws.{zero-product}
use Rattle.binary_field.specs.Sum.{sum_below}
use Rattle.binary_field.specs.SumLaws.{sum-none, sum-suc}
use Rattle.wide_across.proofs.sparse_sums.Goals as goal
use Rattle.wide_across.proofs.sparse_sums.Goals.{then-v-ne0, else-v-ne0}

-- one term more
more : (j : ℕ) (f : ℕ → ℕ) {s p : ℕ} → s ≡ sum_below j f → p ≡ f j → s ⊕ p ≡ sum_below (j + 1) f
more j f e g = ap₂ ◌⊕◌ e g ∙ sym (sum-suc j f) ∙ ap (λ n. sum_below n f) (sym (add-one j))

-- a term that is 0
same : (j : ℕ) (f : ℕ → ℕ) {s : ℕ} → s ≡ sum_below j f → 0 ≡ f j → s ≡ sum_below (j + 1) f
same j f {s} e g = sym (⊕-zero-r s) ∙ more j f e g

none : (part : List ℕ) (j b : ℕ) → get_or part j 0 ≡ 0 → 0 ≡ product 16 69643 (get_or part j 0) b
none part j b e = sym (ap (λ v. product 16 69643 v b) e ∙ zero-product 16 69643 b)

pub loop-j-init : goal.loop-j-init
loop-j-init c = (sym (sum-none _), sym (sum-none _))

pub loop-j-preserved : goal.loop-j-preserved
loop-j-preserved c =
    let a = c.args in
    let part : List ℕ = a.part.now in
    let row : List ℕ = a.row.now in
    let j : ℕ = c.loop-j.j in (
      elim c.if-v-ne0.branch [
        | then-v-ne0 w ↦ (w.first-is ∙ ⊕-bits c.loop-j.first w.multiple-first.result
            ∙ more j (λ k. product 16 69643 (get_or part k 0) (get_or row (2 * k) 0)) c.loop-j.invariant.0
            w.multiple-first.ensures)
        | else-v-ne0 w ↦ (w.first-is
            ∙ same j (λ k. product 16 69643 (get_or part k 0) (get_or row (2 * k) 0))
            c.loop-j.invariant.0 (none part j (get_or row (2 * j) 0) w.if-v-ne0.false))
      ],
      elim c.if-v-ne0.branch [
        | then-v-ne0 w ↦ (w.second-is ∙ ⊕-bits c.loop-j.second w.multiple-second.result
            ∙ more j (λ k. product 16 69643 (get_or part k 0) (get_or row (2 * k + 1) 0)) c.loop-j.invariant.1
            w.multiple-second.ensures)
        | else-v-ne0 w ↦ (w.second-is
            ∙ same j (λ k. product 16 69643 (get_or part k 0) (get_or row (2 * k + 1) 0)) c.loop-j.invariant.1
            (none part j (get_or row (2 * j + 1) 0) w.if-v-ne0.false))
      ],
    )
