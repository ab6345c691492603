-- Laws: One place filled by the sum of the others, and a group that has lost it alone.
use Rattle.std.specs.Prelude.{◌≡◌, List, ℕ, zero, suc, ◌≤◌, ◌<◌, length, get_or, set}
use Rattle.std.proofs.Common.{sym, ap, ap₂, ◌∙◌, subst, true≢false, arith, length-set, get_or-set_same, get_or-set_other}
use Rattle.binary_field.specs.Xor.{◌⊕◌}
use Rattle.binary_field.specs.XorLaws.{⊕-zero-l, ⊕-self}
use Rattle.binary_field.specs.Sum.{sum_below}
use Rattle.code.specs.Marks.{lost, lost_in}
use Rattle.code.specs.Word.{local_sum}
use Rattle.code_engine.specs.ChangeLaws.{sum-change}
use Rattle.code_engine.specs.Filled.{FilledIn}
use Rattle.code_engine.specs.Positions.{Positions}
use Rattle.wide_shape.specs.Edition.{wide_edition}
use Rattle.wide_sums.specs.PowerSumsLaws.{raised-none, raised-sum}
use Rattle.wide_solve.specs.One.{FilledAt}

-- place p blanked, and the sum s of all symbols then written there
pub summed_at : (xs : List ℕ) (p s : ℕ) → p < length xs → s ≡ sum_below (length (set xs p 0)) (λ i. get_or (set xs p 0) i 0)
    → FilledAt p xs (set (set xs p 0) p s)
summed_at xs p s l e = record {
  size = length-set ys p s ∙ length-set xs p 0;
  others = λ i d. get_or-set_other ys p i s 0 d ∙ get_or-set_other xs p i 0 0 d;
  zero = ap (λ n. sum_below n (λ i. get_or zs i 0)) (length-set ys p s)
      ∙ sum-change (length ys) p (λ i. get_or ys i 0) (λ i. get_or zs i 0) room (λ i _ d. sym (get_or-set_other ys p i s 0 d))
      ∙ ap₂ ◌⊕◌ (sym e) (ap₂ ◌⊕◌ (get_or-set_same xs p 0 0 l) (get_or-set_same ys p s 0 room) ∙ ⊕-zero-l s)
      ∙ ⊕-self s;
}
  where
    ys : List ℕ
    ys = set xs p 0

    zs : List ℕ
    zs = set ys p s

    room : p < length ys
    room = subst (λ n. p < n) (sym (length-set xs p 0)) l

-- one is lost
pub filled-one : {marks at xs ys : List ℕ} (t : ℕ) → t ≡ 1 → t ≡ lost_in (length marks) marks 0 → Positions marks (length marks) at t
    → length marks ≡ length xs → length xs ≤ 256 → ((j : ℕ) → get_or ys j 0 < 65536) → FilledAt (get_or at 0 0) xs ys → FilledIn wide_edition marks xs ys
filled-one {marks} {at} {xs} {ys} t one all P same narrow small F = record {
  size = F.size;
  present = λ p e. F.others p (λ q. true≢false (sym (P.erased 0 (omega arith)) ∙ ap (lost marks) (sym q) ∙ e));
  zero = λ _ _ _. first;
  other = λ n. let k = few in absurd (n narrow same (omega arith));
}
  where
    few : lost_in (length xs) marks 0 ≡ 1
    few = subst (λ n. lost_in n marks 0 ≡ 1) same (sym all ∙ one)

    first : (e : ℕ) → e < lost_in (length xs) marks 0 → local_sum wide_edition (length xs) ys 0 e ≡ 0
    first zero l = subst (λ n. local_sum wide_edition n ys 0 0 ≡ 0) F.size (sym (raised-sum (raised-none ys small)) ∙ F.zero)
    first (suc e) l = let k = few in absurd (omega arith)
