-- The steps of the loops, on lists.
use mathlib.Core.Path.{◌≡◌, refl, ap, ap₂, ◌∙◌}
use mathlib.Core.Bool.{Bool, true, false, not, ◌&&◌}
use mathlib.Core.List.{List, ◌++◌, append_assoc, append-nil}
use Prim.Native.Nat.{ℕ, suc, ◌+◌, ◌-◌, ◌*◌, ◌/◌, ◌≤◌, ◌<◌}
use native.Mathlib.Nat.{suc-mul, le-div_iff_mul-le}
use native.Mathlib.Numerals.{add-one}
use native.Mathlib.Omega.{arith}
use lib.Dec.{eqb}
use lib.ListN.{length, get_or, take, drop, set, drop_of_length-le}
use lib.Seq.{drop-cons, take-suc, take-suc-set, drop-set-lt, take_all}
use borrow.Author.Tests.{eq-eqb, ne_eqb}
use Rattle.code.specs.Stretch.{stretch, with_stretch}
use Rattle.code.specs.LentLaws.{stretch-lent, with-lent}
use Rattle.code.specs.Marks.{lost}
use Rattle.code_engine.specs.Bound.{free, bound_of}
use Rattle.code_engine.specs.BoundGroups.{BoundUpTo}
use Rattle.code_engine.specs.BoundGroupsLaws.{upto-more}

module _ (xs : List ℕ) (i : ℕ) (h : i < length xs) where
  pub pass_step : (d : ℕ) → (get_or xs i 0 ≡ 1 → ⊥) → take (i + 1) xs ++ bound_of d (drop (i + 1) xs) ≡ take i xs ++ bound_of d (drop i xs)
  unfolding bound_of
  pass_step d n =
      let z : d - 0 ≡ d = omega arith in
      rw (add-one, take-suc xs i 0, drop-cons xs i 0, ne_eqb (get_or xs i 0) 1 n, z, append_assoc)

  pub clear-free-step : (c k : ℕ) → get_or xs i 0 ≡ 1 → k < c → take (i + 1) xs ++ bound_of (c - (k + 1)) (drop (i + 1) xs)
      ≡ take i xs ++ bound_of (c - k) (drop i xs)
  unfolding bound_of
  clear-free-step c k e l =
      let d : c - k ≡ suc (c - (k + 1)) = omega arith in
      let z : suc (c - (k + 1)) - 1 ≡ c - (k + 1) = omega arith in
      rw (d, add-one i, take-suc xs i 0, drop-cons xs i 0, eq-eqb (get_or xs i 0) 1 e, z, append_assoc)

  pub clear_step : (c k : ℕ) → get_or xs i 0 ≡ 1 → c ≤ k → take (i + 1) (set xs i 0) ++ bound_of (c - k) (drop (i + 1) (set xs i 0))
      ≡ take i xs ++ bound_of (c - k) (drop i xs)
  unfolding bound_of
  clear_step c k e l =
      let d : c - k ≡ 0 = omega arith in
      let s : i < suc i = omega arith in
      rw (d, add-one i, take-suc-set, drop-set-lt, drop-cons xs i 0, eq-eqb (get_or xs i 0) 1 e, append_assoc)

pub bound-end : (xs : List ℕ) (i d : ℕ) → length xs ≤ i → take i xs ++ bound_of d (drop i xs) ≡ xs
unfolding bound_of
bound-end xs i d h = rw (drop_of_length-le xs, take_all, append-nil)

-- group g of those that are whole lies within the list
pub group-room : (n w g : ℕ) → (w ≡ 0 → ⊥) → g < n / w → g * w + w ≤ n
group-room n w g some l =
    let pos : 0 < w = omega arith in
    let h : suc g * w ≤ n = (le-div_iff_mul-le {k = w} {x = suc g} {y = n} pos).0 l in
    let e = suc-mul g w in omega arith

-- the part of group g, which starts at a, is lent and comes back as ys
module _ (g w c a : ℕ) (marks held ys : List ℕ) (at : a ≡ g * w) (y : ys ≡ bound_of c (take (a + w - a) (drop a held))) where
  put_back : take a held ++ (ys ++ drop (a + w - a) (drop a held)) ≡ with_stretch w g held (bound_of c (stretch w g held))
  put_back =
      ap₂ (λ n x. take n held ++ (x ++ drop (n + w - n) (drop n held))) at (y ∙ ap (λ n. bound_of c (take (n + w - n) (drop n held))) at)
      ∙ with-lent w g held (bound_of c (take (g * w + w - g * w) (drop (g * w) held)))
      ∙ ap (λ p. with_stretch w g held (bound_of c p)) (stretch-lent w g held)

  pub group-step : a + w ≤ length marks → BoundUpTo g w c marks held
      → BoundUpTo (g + 1) w c marks (take a held ++ (ys ++ drop (a + w - a) (drop a held)))
  group-step fits K = rw (put_back, add-one) (upto-more g w c marks held (let e = suc-mul g w in omega arith) K)

-- ---- a place whose mark is bound is not free
pub bound-not-free : (marks bound : List ℕ) (p : ℕ) → get_or marks p 0 ≡ get_or bound p 0 → free marks bound p ≡ false
bound-not-free marks bound p e = ap (λ x. eqb x 1 && not (lost bound p)) e ∙ neither (lost bound p)
  where
    neither : (b : Bool) → (b && not b) ≡ false
    neither true = refl
    neither false = refl
