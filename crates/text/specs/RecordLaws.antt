-- A line's name and values by their places in it, its name by its kind, and a line that is too long.
use Rattle.std.proofs.Math.Path.{◌≡◌, refl}
use Rattle.std.proofs.Common.{ap, arith, length-take}
use Rattle.std.specs.Prelude.{Bool, cond, not, ◌&&◌, ◌||◌, List, leb, length, take}
use Rattle.std.proofs.Math.Bool.{true, false}
use Prim.Native.Nat.{ℕ, ◌+◌, ◌≤◌, ◌<◌}
use Rattle.std.proofs.lemmas.Bool.{lt-leb}
use Rattle.std.proofs.Math.Dec.{eqb}
use Rattle.text.specs.Fields.{same, to_tab, parts_from}
use Rattle.text.specs.Records.{shape_name, data_name, word_name, name_kind, line_name, contents, bound_of, all_under, line_kind, values_from}
use Rattle.text.specs.FieldLaws.{take_part, parts-split, values-few, same-eq}

pub name-first : (line : List ℕ) → line_name line ≡ to_tab line
unfolding line_name
name-first line = rw (parts-split 9 line)

pub contents-later : (line : List ℕ) → contents line ≡ values_from (length (to_tab line)) line
unfolding contents values_from parts_from
contents-later line = rw (parts-split 9 line)

pub kind-long : (line : List ℕ) → 1024 < length line → line_kind line ≡ 0
unfolding line_kind
kind-long line l = simp (lt-leb (length line) 1024 l)

-- each value has a tab before it, and the name stands before them
pub line-values : (line : List ℕ) → length (line_name line) + length (contents line) ≤ length line
line-values line =
    let n = ap length (name-first line) in
    let v = ap length (contents-later line) in
    let f = values-few (length (to_tab line)) line in
    let t : length (take (length (to_tab line)) line) ≡ length (to_tab line) = ap length (take_part 9 line) in
    let s = length-take (length (to_tab line)) line in
    omega arith

-- the names of records of data and of words
module _ (line : List ℕ) where
  name-kind : (kind : ℕ) → (0 ≡ kind → ⊥) → line_kind line ≡ kind → name_kind (line_name line) ≡ kind
  unfolding line_kind
  name-kind kind n = go (leb (length line) 1024 && all_under (bound_of named) (contents line) && (not (eqb named 1) || eqb (length (contents line)) 3))
    where
      named : ℕ
      named = name_kind (line_name line)

      go : (b : Bool) → cond b named 0 ≡ kind → named ≡ kind
      go true e = e
      go false e = absurd (n e)

  pub data-named : line_kind line ≡ 2 → line_name line ≡ data_name
  unfolding name_kind
  data-named k =
      go (same (line_name line) shape_name) (same (line_name line) data_name) (same (line_name line) word_name) refl (name-kind 2 (λ z. omega arith) k)
    where
      go : (p q r : Bool) → same (line_name line) data_name ≡ q → ◌≡◌ {A = ℕ} (cond p 1 (cond q 2 (cond r 3 0))) 2 → line_name line ≡ data_name
      go true q r e h = absurd (omega arith)
      go false true r e h = same-eq (line_name line) data_name e
      go false false true e h = absurd (omega arith)
      go false false false e h = absurd (omega arith)

  pub word-named : line_kind line ≡ 3 → line_name line ≡ word_name
  unfolding name_kind
  word-named k =
      go (same (line_name line) shape_name) (same (line_name line) data_name) (same (line_name line) word_name) refl (name-kind 3 (λ z. omega arith) k)
    where
      go : (p q r : Bool) → same (line_name line) word_name ≡ r → ◌≡◌ {A = ℕ} (cond p 1 (cond q 2 (cond r 3 0))) 3 → line_name line ≡ word_name
      go true q r e h = absurd (omega arith)
      go false true r e h = absurd (omega arith)
      go false false true e h = same-eq (line_name line) word_name e
      go false false false e h = absurd (omega arith)
