-- A name by its length and its bytes; two names byte by byte; the numbers of a line by their tests.
use mathlib.Core.Path.{◌≡◌, refl}
use mathlib.Core.Bool.{false}
use mathlib.Core.List.{List, [], ◌∷◌}
use Prim.Native.Nat.{ℕ, suc, ◌+◌, ◌-◌, ◌≤◌, ◌<◌}
use native.Mathlib.Numerals.{add-one}
use native.Mathlib.Omega.{arith}
use native.Mathlib.Decide.{dec_lt}
use borrow.Author.Tests.{lt-ltb, le-ltb, le-leb, lt-leb, eq-eqb, ne_eqb}
use lib.Dec.{ltb}
use lib.ListN.{length, get_or, take, drop, length-drop, drop_of_length-le}
use lib.Seq.{drop-cons, take_all}
use Rattle.shape.specs.Shapes.{made_of}
use Rattle.shape.specs.Laws.{shaped, unshaped}
use Rattle.shape.specs.declared.Shape.{Shape}
use Rattle.std.specs.Prelude.{Ok, Err, Some, None}
use Rattle.answers.specs.declared.Refusal.{Refusal}
use Rattle.answers.specs.Answers.{refusal_number}
use Rattle.answers.specs.AnswersLaws.{refusal-some}
use Rattle.code.specs.LimitsLaws.{refusal-of-good}
use Rattle.catalogue_text.specs.Names.{name_bytes, good_name, before}
use Rattle.text.specs.Fields.{same, later, parts_from, joined_by}
use Rattle.text.specs.FieldLaws.{parts-end, joined-parts}
use Rattle.catalogue_text.specs.Catalogue.{gone_name}
use Rattle.catalogue_lines.specs.Reading.{numbers_good, line_if, gone_after, gone_if}

pub name-none : (name : List ℕ) → length name < 1 → good_name name ≡ false
unfolding good_name
name-none name l = rw (lt-leb 1 (length name) l)

pub name-long : (name : List ℕ) → 16 < length name → good_name name ≡ false
unfolding good_name
name-long name l = rw (le-leb 1 (length name) (omega arith), lt-leb (length name) 16 l)

pub name-bytes : (name : List ℕ) → 1 ≤ length name → length name ≤ 16 → good_name name ≡ name_bytes name
unfolding good_name
name-bytes name n l = rw (le-leb 1 (length name) n, le-leb (length name) 16 l)

-- two names byte by byte
module _ (name other : List ℕ) (i : ℕ) where
  pub before_more : i < length name → i < length other → get_or name i 0 ≡ get_or other i 0
      → before (drop (i + 1) name) (drop (i + 1) other) ≡ before (drop i name) (drop i other)
  unfolding before
  before_more l h e = rw (drop-cons name i 0 l, drop-cons other i 0 h, add-one i, eq-eqb (get_or name i 0) (get_or other i 0) e)

  pub before-differ : i < length name → i < length other → (get_or name i 0 ≡ get_or other i 0 → ⊥)
      → before (drop i name) (drop i other) ≡ ltb (get_or name i 0) (get_or other i 0)
  unfolding before
  before-differ l h e = rw (drop-cons name i 0 l, drop-cons other i 0 h, ne_eqb (get_or name i 0) (get_or other i 0) e)

  before-nothing : (xs : List ℕ) → before xs [] ≡ false
  unfolding before
  before-nothing [] = refl
  before-nothing (x ∷ xs) = refl

  -- where one of them ends, the shorter one is first
  pub before-end : i ≤ length name → i ≤ length other → (i < length other → length name ≤ i)
      → before (drop i name) (drop i other) ≡ ltb (length name) (length other)
  unfolding before
  before-end l h e = go (dec_lt i (length other))
    where
      go : Dec (i < length other) → before (drop i name) (drop i other) ≡ ltb (length name) (length other)
      go (yes k) = rw (drop_of_length-le name (e k), drop-cons other i 0 k, lt-ltb (length name) (length other) (let n = e k in omega arith))
      go (no k) =
          let o : length other ≤ i = omega arith in
          rw (drop_of_length-le other o, le-ltb (length name) (length other) (omega arith)) (before-nothing (drop i name))

-- the tests of numbers
module _ (size r m w c : ℕ) where
  pub revision-none : r ≡ 0 → line_if size r m w c ≡ None
  unfolding line_if numbers_good
  revision-none e = rw (lt-leb 1 r (omega arith))

  pub revision-high : 65535 < r → line_if size r m w c ≡ None
  unfolding line_if numbers_good
  revision-high l = rw (le-leb 1 r (omega arith), lt-leb r 65535 l)

  module _ (some : (r ≡ 0 → ⊥)) (most : r ≤ 65535) where
    pub shape-refused : (e : Refusal) → made_of m w c ≡ Err e → line_if size r m w c ≡ None
    unfolding line_if numbers_good
    shape-refused e h =
        rw (le-leb 1 r (omega arith), le-leb r 65535 most, unshaped m w c e h, ne_eqb (refusal_number e) 0 (refusal-some e))

    pub shape-good : (s : Shape) → made_of m w c ≡ Ok s → line_if size r m w c ≡ Some (record { size = size; revision = r; m = s.m; w = s.w; c = s.c })
    unfolding line_if numbers_good
    shape-good s e =
        let g = shaped m w c s e in
        rw (le-leb 1 r (omega arith), le-leb r 65535 most, refusal-of-good m w c g.good, g.groups, g.width, g.checks)

-- the word gone behind a tab, by the bytes there
module _ (line : List ℕ) (at : ℕ) where
  pub gone-none : length line ≤ at → gone_after at line ≡ false
  unfolding gone_after joined_by same
  gone-none l = rw (parts-end 9 at line l)

  pub gone-some : at < length line → gone_after at line ≡ same (take (length line - (at + 1)) (drop (at + 1) line)) gone_name
  unfolding gone_after parts_from later
  gone-some l =
      let n = length-drop (at + 1) line in
      rw (take_all (length line - (at + 1)) (drop (at + 1) line) (omega arith), drop-cons line at 0 l, joined-parts 9 (drop (suc at) line), add-one at)

-- and the revision of such a line
module _ (size r : ℕ) where
  pub gone-zero : r ≡ 0 → gone_if size r ≡ None
  unfolding gone_if
  gone-zero e = rw (lt-leb 1 r (omega arith))

  pub gone-high : 65535 < r → gone_if size r ≡ None
  unfolding gone_if
  gone-high l = rw (le-leb 1 r (omega arith), lt-leb r 65535 l)

  pub gone-good : (r ≡ 0 → ⊥) → r ≤ 65535 → gone_if size r ≡ Some (record { size = size; revision = r; m = 0; w = 0; c = 0 })
  unfolding gone_if
  gone-good n l = rw (le-leb 1 r (omega arith), le-leb r 65535 l)
