-- The search of the lost places, turn by turn.
use Rattle.std.specs.Prelude.{◌≡◌, refl, Bool, true, false, cond, List, [], ◌∷◌, ◌++◌, eqb, get_or, set, drop, replicate}
use Rattle.std.proofs.Common.{sym, ap₂, ◌∙◌, append_assoc, append-nil, length-take, take-append-drop, get_or-set_same, get_or-set_other, take_all, drop-set-lt}
use Rattle.std.proofs.Math.Path.{ap}
use Prim.Native.Nat.{ℕ, suc, ◌+◌, ◌-◌, ◌≤◌, ◌<◌}
use Rattle.std.proofs.Math.Nat.{le_of_eq}
use Rattle.std.proofs.Math.Numerals.{add-one}
use Rattle.std.proofs.Math.Decide.{ℕ_discrete}
use native.Mathlib.Omega.{arith}
use Rattle.std.proofs.Math.ListN.{length, take}
use Rattle.std.proofs.lemmas.List.{length-replicate}
use Rattle.std.proofs.Math.Seq.{take-suc-set, drop-cons}
use Rattle.counting.specs.Count.{count_below, one}
use Rattle.counting.specs.CountLaws.{total-suc, total_ext}
use Rattle.code.specs.Marks.{lost, lost_in}
use Rattle.code.specs.StretchLaws.{own-place}
use Rattle.code_engine.specs.ListsLaws.{each_set}
use Rattle.code_engine.specs.Positions.{Positions, first_lost}

-- ---- the search for lost places
module _ (marks : List ℕ) where
  pub lost-below : (w : ℕ) → count_below w (lost marks) ≡ lost_in w marks 0
  unfolding lost_in
  lost-below w = total_ext w _ _ (λ j _. ap (λ p. one (lost marks p)) (sym (own-place w j)))

  pub count_next : (i : ℕ) (b : Bool) → lost marks i ≡ b → count_below (i + 1) (lost marks) ≡ count_below i (lost marks) + one b
  count_next i b e = ap (λ n. count_below n (lost marks)) (add-one i) ∙ total-suc i _ ∙ ap (λ b. count_below i (lost marks) + one b) e

  module _ (at : List ℕ) (i n : ℕ) (P : Positions marks i at n) where
    pub found-next : n < length at → lost marks i ≡ true → Positions marks (i + 1) (set at n i) (n + 1)
    found-next h e = record {
      inside = each_set (λ _ p. p < i + 1) at n i 0 h (λ j l. let b = P.inside j l in omega arith) (omega arith);
      erased = each_set (λ _ p. lost marks p ≡ true) at n i 0 h P.erased e;
      ascending = λ j k l b. elim (ℕ_discrete k n) [
        | yes q ↦ (rw (q, here, there j (omega arith)) (P.inside j (omega arith)))
        | no q ↦ (rw (there j (omega arith), there k q) (P.ascending j k l (omega arith)))
      ];
    }
      where
        here : get_or (set at n i) n 0 ≡ i
        here = get_or-set_same at n i 0 h

        there : (j : ℕ) → (j ≡ n → ⊥) → get_or (set at n i) j 0 ≡ get_or at j 0
        there j q = get_or-set_other at n j i 0 q

    pub found_none : Positions marks (i + 1) at n
    found_none = record { inside = λ j l. let b = P.inside j l in omega arith; erased = P.erased; ascending = P.ascending }

-- the first lost places, as the search writes them: n are found up to i
pub length-first : (k i : ℕ) (marks : List ℕ) → length (first_lost k i marks) ≡ k
unfolding first_lost
length-first k i [] = length-replicate k 0
length-first k i (m ∷ marks) = go (eqb m 1) (length-first (k - 1) (suc i) marks) (length-first k (suc i) marks)
  where
    go : (b : Bool) → length (first_lost (k - 1) (suc i) marks) ≡ k - 1 → length (first_lost k (suc i) marks) ≡ k
        → length (cond b (take k (i ∷ first_lost (k - 1) (suc i) marks)) (first_lost k (suc i) marks)) ≡ k
    go true e f = length-take k (i ∷ first_lost (k - 1) (suc i) marks) ∙ omega arith
    go false e f = f

module _ (marks at : List ℕ) (i n : ℕ) (l : i < length marks) where
  pub first-none : lost marks i ≡ false → first_lost (4 - n) (i + 1) (drop (i + 1) marks) ≡ first_lost (4 - n) i (drop i marks)
  unfolding first_lost
  first-none e = rw (add-one i, drop-cons marks i 0 l, e)

  pub first_next : lost marks i ≡ true → n < 4 → length at ≡ 4
      → take (n + 1) (set at n i) ++ first_lost (4 - (n + 1)) (i + 1) (drop (i + 1) marks) ≡ take n at ++ first_lost (4 - n) i (drop i marks)
  unfolding first_lost
  first_next e h size =
      let d : 4 - n ≡ suc (4 - suc n) = omega arith in
      let z : suc (4 - suc n) - 1 ≡ 4 - suc n = omega arith in
      let k : length (first_lost (4 - suc n) (suc i) (drop (suc i) marks)) ≤ 4 - suc n = le_of_eq (length-first (4 - suc n) (suc i) (drop (suc i) marks)) in
      rw (add-one n, add-one i, d, drop-cons marks i 0 l, e, z, take-suc-set at n i (omega arith), append_assoc)
      (ap (λ t. take n at ++ (i ∷ t)) (sym (take_all (4 - suc n) (first_lost (4 - suc n) (suc i) (drop (suc i) marks)) k)))

-- what is not yet written is 0
pub rest-zero : (at : List ℕ) (i n : ℕ) → n < 4 → length at ≡ 4 → drop n at ≡ replicate (4 - n) 0 → drop (n + 1) (set at n i) ≡ replicate (4 - (n + 1)) 0
rest-zero at i n h size e =
    let d : 4 - n ≡ suc (4 - suc n) = omega arith in
    let s : n < suc n = omega arith in
    rw (add-one n, drop-set-lt) (ap (drop 1) (sym (drop-cons at n 0 (omega arith)) ∙ e ∙ ap (λ k. replicate k 0) d))

-- the search at its end
pub first-all : (at : List ℕ) (i n : ℕ) → drop n at ≡ replicate (4 - n) 0 → take n at ++ first_lost (4 - n) i [] ≡ at
unfolding first_lost
first-all at i n e = ap (λ t. take n at ++ t) (sym e) ∙ take-append-drop n at

-- none are written after the fourth
pub first-full : (marks at : List ℕ) (i n : ℕ) → 4 ≤ n → length at ≡ 4 → take n at ++ first_lost (4 - n) i marks ≡ at
first-full marks at i n h size =
    ap₂ ◌++◌ (take_all n at (omega arith)) (empty (first_lost (4 - n) i marks) (length-first (4 - n) i marks ∙ omega arith)) ∙ append-nil at
  where
    empty : (xs : List ℕ) → length xs ≡ 0 → xs ≡ []
    empty [] e = refl
    empty (x ∷ xs) e = absurd (omega arith)
