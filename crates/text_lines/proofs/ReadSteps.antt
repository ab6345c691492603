-- The step of each loop, on lists, and its end.
use mathlib.Core.Path.{◌≡◌}
use mathlib.Core.Bool.{true, false}
use mathlib.Core.List.{List, map}
use Prim.Native.Nat.{ℕ, suc, ◌+◌, ◌≤◌, ◌<◌}
use native.Mathlib.Numerals.{add-one}
use borrow.Author.Tests.{lt-ltb, le-ltb}
use lib.ListN.{length, drop, set}
use lib.Seq.{sets}
use Rattle.text.specs.Fields.{meaning, to_tab, end_of}
use Rattle.text.specs.FieldLaws.{values-more, values-end}
use Rattle.text.specs.Records.{all_under, values_from}

-- the value of the field after place i, and the place after it
module _ (line : List ℕ) (i : ℕ) (l : i < length line) where
  pub under_more : (bound : ℕ) → meaning (to_tab (drop (i + 1) line)) < bound
      → all_under bound (values_from (end_of 9 (i + 1) line) line) ≡ all_under bound (values_from i line)
  unfolding all_under
  under_more bound h = rw (values-more i line l, lt-ltb (meaning (to_tab (drop (i + 1) line))) bound h)

  pub under-stop : (bound : ℕ) → bound ≤ meaning (to_tab (drop (i + 1) line)) → all_under bound (values_from i line) ≡ false
  unfolding all_under
  under-stop bound h = rw (values-more i line l, le-ltb (meaning (to_tab (drop (i + 1) line))) bound h)

  pub count-more : length (values_from i line) ≡ suc (length (values_from (end_of 9 (i + 1) line) line))
  count-more = rw (values-more i line l)

  pub write-more : (f : ℕ → ℕ) (xs : List ℕ) (n : ℕ)
      → sets (set xs n (f (meaning (to_tab (drop (i + 1) line))))) (n + 1) (map f (values_from (end_of 9 (i + 1) line) line))
      ≡ sets xs n (map f (values_from i line))
  write-more f xs n = rw (values-more i line l, add-one n)

module _ (line : List ℕ) (i : ℕ) (l : length line ≤ i) where
  pub under-end : (bound : ℕ) → all_under bound (values_from i line) ≡ true
  unfolding all_under
  under-end bound = rw (values-end i line l)

  pub count-end : length (values_from i line) ≡ 0
  count-end = rw (values-end i line l)

  pub write-end : (f : ℕ → ℕ) (xs : List ℕ) (n : ℕ) → sets xs n (map f (values_from i line)) ≡ xs
  write-end f xs n = rw (values-end i line l)
