-- A turn of the scan, with what its calls gave.
use mathlib.Core.Path.{◌≡◌, refl, sym, ap, ◌∙◌, subst}
use mathlib.Core.Bool.{true, false}
use mathlib.Core.List.{List, [], ◌∷◌}
use Prim.Native.Nat.{ℕ, ◌+◌, ◌-◌, ◌≤◌, ◌<◌}
use native.Mathlib.Omega.{arith}
use native.Mathlib.Decide.{dec_le}
use borrow.Author.Tests.{le-leb, lt-leb}
use lib.Dec.{T, eqb}
use lib.Pointwise.{pointwise}
use Rattle.std.specs.Prelude.{Some, None}
use lib.ListN.{length, take, drop}
use Rattle.text.specs.Decimal.{digits_of, number_of}
use Rattle.text.specs.Fields.{same, up_to, end_of}
use Rattle.text.specs.Lines.{cells_of}
use Rattle.text.specs.FieldLaws.{part-taken, same-eq, same-is}
use Rattle.catalogue_text.specs.Catalogue.{Entry, entry_of, is_one, floor_of}
use Rattle.catalogue_text.specs.CatalogueLaws.{line_right, read_name, two_name, head_right}
use Rattle.catalogue_lines.specs.declared.Line.{Line}
use Rattle.catalogue_lines.specs.Reading.{as_line}
use Rattle.catalogue_scan.specs.declared.Place.{Place}
use Rattle.catalogue_scan.specs.Places.{place_next, right_line, larger_gone, read_head, scanned_from}
use Rattle.catalogue_scan.specs.ScanLaws.{Scanning, scan-open, scan-wrong, scan-right, right-if, wrong-if, size-most, name-here, end_after}

module _ (text name : List ℕ) (first floor at from to : ℕ) (place : Place) (top : ℕ) (s : Scanning text name first at from to place top)
    (end : ℕ)
    (e : end ≡ end_of 10 at text) where
  last : List ℕ
  last = take (to - from) (drop from text)

  line : List ℕ
  line = up_to 10 (drop at text)

  pub step-open : at < length text → length text ≤ end → None ≡ scanned_from text first floor name
  step-open l h = sym (scan-open text name first floor at from to place top s l (subst (λ x. length text ≤ x) e h))

  module _ (h : end < length text) where
    inner : end_of 10 at text < length text
    inner = subst (λ x. x < length text) e h

    of_parts : right_line (take (to - from) (drop from text)) (take (end - at) (drop at text)) ≡ right_line last line
    unfolding last line
    of_parts = ap (right_line (take (to - from) (drop from text))) (ap (λ x. take (x - at) (drop at text)) e ∙ part-taken 10 at text)

    pub step-wrong : right_line (take (to - from) (drop from text)) (take (end - at) (drop at text)) ≡ None → None ≡ scanned_from text first floor name
    unfolding last line
    step-wrong z = sym (scan-wrong text name first floor at from to place top s inner (wrong-if last line (sym of_parts ∙ z)))

    module _ (r : Line) (q : right_line (take (to - from) (drop from text)) (take (end - at) (drop at text)) ≡ Some r) where
      right : T (line_right last line)
      right = (right-if last line r (sym of_parts ∙ q)).0

      as_line_lem : r ≡ as_line (entry_of line)
      as_line_lem = (right-if last line r (sym of_parts ∙ q)).1

      size_is : r.size ≡ length (entry_of line).name
      size_is = ap (λ (l : Line). l.size) as_line_lem

      pub step-size : at + r.size ≤ end
      unfolding last line
      step-size =
          let k = size-most text name first floor at from to place top s inner right in
          let z = size_is in
          let a = end_after text name first floor at from to place top s in
          omega arith

      read-entry : (t : ℕ) → t ≡ length (entry_of line).name → (v m w c : ℕ) → v ≡ (entry_of line).revision → m ≡ (entry_of line).m → w ≡ (entry_of line).w
          → c ≡ (entry_of line).c → ◌≡◌ {A = Entry} (record { name = take (at + t - at) (drop at text); revision = v; m = m; w = w; c = c }) (entry_of line)
      unfolding last line
      read-entry t e₀ v m w c e₁ e₂ e₃ e₄ =
          rw (e₀, e₁, e₂, e₃, e₄, name-here text name first floor at from to place top s inner right, ← read_name (up_to 10 (drop at text)))

      pub step_right : (p : Place)
          → p ≡ place_next name at (end + 1)
          (record { name = take (at + r.size - at) (drop at text); revision = r.revision; m = r.m; w = r.w; c = r.c }) place
          → (t : ℕ) → t ≡ larger_gone top r.m r.revision → Scanning text name first (end + 1) at (at + r.size) p t
      unfolding last line
      step_right p d t q =
          let i = read-entry r.size size_is r.revision r.m r.w r.c
          (ap (λ (l : Line). l.revision) as_line_lem) (ap (λ (l : Line). l.m) as_line_lem) (ap (λ (l : Line). l.w) as_line_lem) (ap (λ (l : Line). l.c) as_line_lem) in
          rw (d, q, i, e, size_is, ap (λ (l : Line). l.m) as_line_lem, ap (λ (l : Line). l.revision) as_line_lem)
          (scan-right text name first floor at from to place top s inner right)

  -- a line that isn't right, whether a line feed ends it or not
  pub step-unread : at < length text → right_line (take (to - from) (drop from text)) (take (end - at) (drop at text)) ≡ None → None ≡ scanned_from text first floor name
  step-unread l z = elim (dec_le (length text) end) [
    | yes h ↦ step-open l h
    | no h ↦ step-wrong (omega arith) z
  ]

-- the line's end is past its start
pub step_less : (n at end : ℕ) → at < n → at ≤ end → n - (end + 1) < n - at
step_less n at end l h = omega arith

-- the first line, test by test
module _ (line : List ℕ) where
  pub one-test : is_one line ≡ same line (115 ∷ 104 ∷ 97 ∷ 112 ∷ 101 ∷ 115 ∷ 9 ∷ 49 ∷ [])
  unfolding is_one cells_of digits_of
  one-test = refl

  pub head-one : is_one line ≡ true → read_head line ≡ Some (record { size = 9; version = 1; floor = 0 })
  unfolding read_head head_right floor_of
  head-one e =
      let n = ap length (same-eq line (115 ∷ 104 ∷ 97 ∷ 112 ∷ 101 ∷ 115 ∷ 9 ∷ 49 ∷ []) (sym one-test ∙ e)) in
      rw (e, n)

  module _ (two : is_one line ≡ false) where
    pub head-named : pointwise eqb (take 9 line) two_name ≡ false → read_head line ≡ None
    unfolding read_head head_right
    head-named e = rw (two, sym (same-is (take 9 line) two_name) ∙ e)

    module _ (named : pointwise eqb (take 9 line) two_name ≡ true) where
      is-named : same (take 9 line) two_name ≡ true
      is-named = sym (same-is (take 9 line) two_name) ∙ named

      pub head-high : (floor : ℕ) → number_of 65536 (drop 9 line) ≡ floor → 65535 < floor → read_head line ≡ None
      unfolding read_head head_right
      head-high floor e l = rw (two, is-named, e, lt-leb floor 65535 l)

      pub head-two : (floor : ℕ) → number_of 65536 (drop 9 line) ≡ floor → floor ≤ 65535
          → read_head line ≡ Some (record { size = length line + 1; version = 2; floor = floor })
      unfolding read_head head_right floor_of
      head-two floor e l = rw (two, is-named, e, le-leb floor 65535 l)
