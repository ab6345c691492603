-- The kind of a line from its parts, and the arrays that hold its values.
use mathlib.Core.Path.{◌≡◌, refl, sym, ap, ◌∙◌}
use mathlib.Core.Bool.{Bool, true, false, cond, not, ◌&&◌, ◌||◌}
use mathlib.Core.List.{List, ◌++◌, map}
use Prim.Native.Nat.{ℕ, zero, suc, ◌-◌, ◌%◌, ◌/◌, ◌≤◌, ◌<◌}
use native.Mathlib.Nat.{zero-add, sub-zero, zero-sub, suc-sub-suc}
use native.Mathlib.Omega.{arith}
use borrow.Author.Tests.{le-leb, lt-leb}
use lib.Dec.{eqb}
use lib.ListN.{length, take, drop, replicate, length-map, length-replicate}
use lib.Seq.{sets, sets-eq}
use Rattle.text.specs.Fields.{same, to_tab, end_of}
use Rattle.text.specs.FieldLaws.{take_part, values-few}
use Rattle.text.specs.Records.{name_kind, line_name, contents, bound_of, all_under, line_kind, line_bytes, line_marks, values_from}
use Rattle.text.specs.RecordLaws.{name-first, contents-later}
use Rattle.text.specs.Padded.{padded}
use Rattle.text_lines.specs.declared.Record.{Record}
use Rattle.text_lines.specs.Held.{HoldsRecord}
use Rattle.text_lines.specs.declared.Numbers.{Numbers}
use Rattle.text_lines.specs.Numbers.{is_numbers, HoldsNumbers}

first-end : (line : List ℕ) → end_of 9 0 line ≡ length (to_tab line)
unfolding end_of
first-end line = zero-add (length (to_tab line))

drop-zeros : (n m : ℕ) → ◌≡◌ {A = List ℕ} (drop n (replicate m 0)) (replicate (m - n) 0)
drop-zeros zero m = rw (sub-zero m)
drop-zeros (suc n) zero = rw (zero-sub (suc n))
drop-zeros (suc n) (suc m) = rw (suc-sub-suc m n) (drop-zeros n m)

-- values written from the start over zeros
pub written : (n : ℕ) (vs : List ℕ) → length vs ≤ n → sets (replicate n 0) 0 vs ≡ padded n vs
written n vs l =
    sets-eq vs (replicate n 0) 0 (rw (length-replicate {A = ℕ} n 0) (omega arith))
    ∙ ap (λ k. vs ++ drop k (replicate n 0)) (zero-add (length vs)) ∙ ap (λ z. vs ++ z) (drop-zeros (length vs) n)

-- a line of at most 1,024 bytes whose first field ends at e
module _ (line : List ℕ) (short : length line ≤ 1024) (e : ℕ) (is : e ≡ end_of 9 0 line) where
  at-values : values_from e line ≡ contents line
  at-values = ap (λ i. values_from i line) (is ∙ first-end line) ∙ sym (contents-later line)

  at_name : take e line ≡ line_name line
  at_name = ap (λ i. take i line) (is ∙ first-end line) ∙ take_part 9 line ∙ sym (name-first line)

  module _ (kind : ℕ) (name : kind ≡ name_kind (take e line)) where
    kind_at : line_kind line ≡ cond (all_under (bound_of kind) (values_from e line) && (not (eqb kind 1) || eqb (length (values_from e line)) 3)) kind 0
    unfolding line_kind
    kind_at = rw (at-values, name, at_name, le-leb (length line) 1024 short)

    pub kind-over : all_under (bound_of kind) (values_from e line) ≡ false → 0 ≡ line_kind line
    kind-over o = rw (kind_at, o)

    module _ (under : all_under (bound_of kind) (values_from e line) ≡ true) where
      pub kind-miscounted : (not (eqb kind 1) || eqb (length (values_from e line)) 3) ≡ false → 0 ≡ line_kind line
      kind-miscounted n = rw (kind_at, under, n)

      pub kind-read : (not (eqb kind 1) || eqb (length (values_from e line)) 3) ≡ true → kind ≡ line_kind line
      kind-read n = rw (kind_at, under, n)

  -- no kind has this name
  pub kind-none : 0 ≡ name_kind (take e line) → 0 ≡ line_kind line
  kind-none name = sym (kind_at 0 name ∙ none (all_under (bound_of 0) (values_from e line) && (not (eqb 0 1) || eqb (length (values_from e line)) 3)))
    where
      none : (b : Bool) → ◌≡◌ {A = ℕ} (cond b 0 0) 0
      none true = refl
      none false = refl

  all_fit : length (values_from e line) ≤ 1024
  all_fit = let k = values-few e line in omega arith

  fit : (f : ℕ → ℕ) → sets (replicate 1024 0) 0 (map f (values_from e line)) ≡ padded 1024 (map f (contents line))
  fit f = written 1024 (map f (values_from e line)) (rw (length-map (values_from e line) f) all_fit) ∙ ap (λ vs. padded 1024 (map f vs)) at-values

  pub holds : (r : Record) → r.count ≡ length (values_from e line) → r.bytes ≡ sets (replicate 1024 0) 0 (map (λ v. v % 256) (values_from e line))
      → r.marks ≡ sets (replicate 1024 0) 0 (map (λ v. v / 256) (values_from e line)) → HoldsRecord r line
  unfolding line_bytes line_marks
  holds r c b m =
      record {
        count = c ∙ ap length at-values ∙ sym (length-map (contents line) (λ v. v % 256));
        fits = rw c all_fit;
        bytes = b ∙ fit (λ v. v % 256);
        marks = m ∙ fit (λ v. v / 256);
      }

  -- a line of one name, by the tests of its name and of its fields
  pub numbers-read : (name : List ℕ) (named under : Bool) → named ≡ same (take e line) name → under ≡ all_under 256 (values_from e line)
      → (named && under) ≡ is_numbers name line
  unfolding is_numbers
  numbers-read name named under p q = rw (p, q, at_name, at-values, le-leb (length line) 1024 short)

  pub holds-numbers : (r : Numbers) → r.count ≡ length (values_from e line) → r.bytes ≡ sets (replicate 1024 0) 0 (map (λ v. v % 256) (values_from e line))
      → HoldsNumbers r line
  unfolding line_bytes
  holds-numbers r c b = record {
    count = c ∙ ap length at-values ∙ sym (length-map (contents line) (λ v. v % 256));
    fits = rw c all_fit;
    bytes = b ∙ fit (λ v. v % 256);
  }

pub numbers-long : (name line : List ℕ) → 1024 < length line → false ≡ is_numbers name line
unfolding is_numbers
numbers-long name line l = rw (lt-leb (length line) 1024 l)
