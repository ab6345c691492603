-- The step of each loop, on lists, and its end.
use mathlib.Core.Path.{◌≡◌}
use mathlib.Core.Bool.{true, false}
use mathlib.Core.List.{List}
use Prim.Native.Nat.{ℕ, suc, ◌+◌, ◌≤◌, ◌<◌}
use native.Mathlib.Numerals.{add-one}
use borrow.Author.Tests.{eq-eqb, ne_eqb}
use lib.ListN.{length, get_or, drop, drop_of_length-le}
use lib.Seq.{drop-cons}
use Rattle.text.specs.Decimal.{unreadable, digits_after, digit_after}
use Rattle.text.specs.DecimalLaws.{digit-again, digit-stop}
use Rattle.text.specs.Fields.{same}

module _ (bound : ℕ) (field : List ℕ) (i : ℕ) (l : i < length field) (a : ℕ) where
  pub digits_more : digit_after bound a (get_or field i 0) < bound → digits_after bound (digit_after bound a (get_or field i 0))
      (drop (i + 1) field) ≡ digits_after bound a (drop i field)
  digits_more k = rw (drop-cons field i 0 l, add-one i, digit-again bound a (get_or field i 0) (drop (suc i) field) k)

  pub digits-stop : bound ≤ digit_after bound a (get_or field i 0) → digits_after bound a (drop i field) ≡ unreadable bound
  digits-stop k = rw (drop-cons field i 0 l, digit-stop bound a (get_or field i 0) (drop (suc i) field) k)

pub digits-end : (bound : ℕ) (field : List ℕ) (i : ℕ) → length field ≤ i → (a : ℕ) → digits_after bound a (drop i field) ≡ a
unfolding digits_after
digits-end bound field i l a = rw (drop_of_length-le field l)

module _ (name wanted : List ℕ) (i : ℕ) (l : i < length name) (k : i < length wanted) where
  pub same_more : get_or name i 0 ≡ get_or wanted i 0 → same (drop (i + 1) name) (drop (i + 1) wanted) ≡ same (drop i name) (drop i wanted)
  unfolding same
  same_more e = rw (drop-cons name i 0 l, drop-cons wanted i 0 k, add-one i, eq-eqb (get_or name i 0) (get_or wanted i 0) e)

  pub same_stop : (get_or name i 0 ≡ get_or wanted i 0 → ⊥) → same (drop i name) (drop i wanted) ≡ false
  unfolding same
  same_stop e = rw (drop-cons name i 0 l, drop-cons wanted i 0 k, ne_eqb (get_or name i 0) (get_or wanted i 0) e)

pub same_end : (name wanted : List ℕ) (i : ℕ) → length name ≤ i → length wanted ≤ i → same (drop i name) (drop i wanted) ≡ true
unfolding same
same_end name wanted i l k = rw (drop_of_length-le name l, drop_of_length-le wanted k)
