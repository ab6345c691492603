-- Laws: Marks: one mark more.
use Rattle.std.specs.Prelude.{◌≡◌, true, false, List, ℕ, suc, ◌<◌, eqb, length, set}
use Rattle.std.proofs.Common.{sym, ap, ◌∙◌, arith, get_or-set_same, get_or-set_other}
use Rattle.counting.specs.Count.{one}
use Rattle.counting.specs.CountLaws.{total-bump}
use Rattle.code.specs.Marks.{lost, lost_in}
use Rattle.code.specs.StretchLaws.{own-place}

pub marked_other : (marks : List ℕ) (j i : ℕ) → ¬ (i ≡ j) → lost (set marks j 1) i ≡ lost marks i
marked_other marks j i n = ap (λ b. eqb b 1) (get_or-set_other marks j i 1 0 n)

pub marked-own : (marks : List ℕ) (j : ℕ) → j < length marks → lost (set marks j 1) j ≡ true
marked-own marks j l = ap (λ b. eqb b 1) (get_or-set_same marks j 1 0 l)

pub marked-count : (w : ℕ) (marks : List ℕ) (j : ℕ) → j < w → length marks ≡ w → lost marks j ≡ false → lost_in w (set marks j 1) 0 ≡ suc (lost_in w marks 0)
unfolding lost_in
marked-count w marks j l e f =
    total-bump w j _ _ l
    (λ i k n. ap (λ q. one (lost (set marks j 1) q)) (own-place w i) ∙ ap one (marked_other marks j i n) ∙ ap (λ q. one (lost marks q)) (sym (own-place w i)))
    (ap (λ q. one (lost (set marks j 1) q)) (own-place w j) ∙ ap one (marked-own marks j (omega arith))
    ∙ sym (ap (λ q. suc (one (lost marks q))) (own-place w j) ∙ ap (λ b. suc (one b)) f))
