-- A scan line by line: what is known at the start of each line.
use Rattle.std.proofs.Math.Path.{◌≡◌, refl, sym, ap}
use Rattle.std.proofs.Common.{◌∙◌, subst, arith, ne_eqb, length-take, drop-cons, drop-drop, take-take}
use Rattle.std.specs.Prelude.{Bool, ◌&&◌, take, Option, Some, None}
use Rattle.std.proofs.Math.Bool.{true, false, cond}
use mathlib.Core.List.{List, [], ◌∷◌}
use Prim.Native.Nat.{ℕ, ◌+◌, ◌-◌, ◌≤◌, ◌<◌}
use Rattle.std.proofs.Math.Nat.{zero-add}
use Rattle.std.proofs.Math.Numerals.{add-one}
use Rattle.std.proofs.Math.Dec.{T, eqb}
use Rattle.std.proofs.Math.ListN.{length, drop, length-append, drop_of_length-le}
use Rattle.text.specs.Fields.{parts, up_to, later, end_of}
use Rattle.text.specs.FieldLaws.{parts-split, parts_all, parts-end, take_part}
use Rattle.text.specs.Records.{line_name}
use Rattle.catalogue_text.specs.Names.{good_name, before}
use Rattle.catalogue_text.specs.NamesLaws.{is_true, true-is, and_none, and-all, name-some}
use Rattle.catalogue_text.specs.Catalogue.{none_gone, first_line, entry_line, entry_of, entries_of, is_one, floor_of, catalogue_of, of_form}
use Rattle.catalogue_text.specs.LineLaws.{entry-good}
use Rattle.catalogue_text.specs.CatalogueLaws.{line_good, line_right, rest_right, is_empty, rest_more, rest_end, entries-more, entries-end, good-read}
use Rattle.catalogue_text.specs.CatalogueLaws.{good-line, right-good, read_name}
use Rattle.catalogue_text.specs.CatalogueLaws.{rest-good, head_right, version_of, allows, right-head, form-lines, catalogue-lines}
use Rattle.catalogue_text.specs.Changes.{largest_gone}
use Rattle.catalogue_text.proofs.ChangesLaws.{none-largest}
use Rattle.catalogue_lines.specs.declared.Line.{Line}
use Rattle.catalogue_lines.specs.Reading.{as_line, read_line}
use Rattle.catalogue_lines.specs.ReadingLaws.{name-taken, name-size}
use Rattle.catalogue_scan.specs.declared.Place.{Place}
use Rattle.catalogue_scan.specs.declared.Head.{Head}
use Rattle.catalogue_scan.specs.declared.Found.{Found}
use Rattle.catalogue_scan.specs.Places.{place_at, place_next, place_from, right_line, larger_gone, read_head, found_from, scanned_from, found_in, scanned_of}

-- ---- a line of the text
module _ (text : List ℕ) (at : ℕ) where
  rest-split : parts 10 (drop at text) ≡ up_to 10 (drop at text) ∷ later 10 (drop (end_of 10 at text) text)
  unfolding end_of
  rest-split = parts-split 10 (drop at text) ∙ ap (λ d. up_to 10 (drop at text) ∷ later 10 d) (drop-drop (length (up_to 10 (drop at text))) at text)

  pub next-line : end_of 10 at text < length text → parts 10 (drop at text) ≡ up_to 10 (drop at text) ∷ parts 10 (drop (end_of 10 at text + 1) text)
  unfolding later
  next-line l = rest-split ∙ rw (drop-cons text (end_of 10 at text) 0 l, add-one (end_of 10 at text))

  empty-not : (xs : List ℕ) → 0 < length xs → is_empty xs ≡ false
  unfolding is_empty
  empty-not [] l = absurd (omega arith)
  empty-not (x ∷ xs) l = refl

  -- no line feed at the end
  pub open-line : at < end_of 10 at text → length text ≤ end_of 10 at text → (last : List ℕ) → rest_right last (parts 10 (drop at text)) ≡ false
  unfolding later rest_right end_of
  open-line l h last =
      ap (rest_right last) rest-split ∙ rw (drop_of_length-le text h) (empty-not (up_to 10 (drop at text)) (omega arith))

-- ---- a right line
good-name : (line : List ℕ) → T (line_good line) → T (good_name (line_name line))
good-name line t = subst (λ n. T (good_name n)) (read_name line) (entry-good (entry_of line) (good-read line t)).named

module _ (last line : List ℕ) where
  pub right-line : T (line_right last line)
      → (right_line last line ≡ Some (as_line (entry_of line))) × (1 ≤ length (entry_of line).name) × (take (length (entry_of line).name) line ≡ (entry_of line).name)
  unfolding right_line
  right-line t =
      let g = right-good last line t in
      let n = read_name line in (
        rw (is_true (line_right last line) t),
        rw n (name-some (line_name line) (good-name line g)),
        rw (n, name-size line) (name-taken line),
      )

  pub wrong-line : line_right last line ≡ false → right_line last line ≡ None
  unfolding right_line
  wrong-line e = rw e

  -- which of the two
  pub right-if : (r : Line) → right_line last line ≡ Some r → T (line_right last line) × (r ≡ as_line (entry_of line))
  unfolding right_line
  right-if r e = go (line_right last line) refl e
    where
      go : (b : Bool) → line_right last line ≡ b → cond {A = Option Line} b (Some (as_line (entry_of line))) None ≡ Some r
          → T (line_right last line) × (r ≡ as_line (entry_of line))
      go true d q = (true-is _ d, cc)
      go false d q = let z : ◌≡◌ {A = ℕ} 0 1 = cc in absurd (omega arith)

  pub wrong-if : right_line last line ≡ None → line_right last line ≡ false
  unfolding right_line
  wrong-if e = go (line_right last line) refl e
    where
      go : (b : Bool) → line_right last line ≡ b → cond {A = Option Line} b (Some (as_line (entry_of line))) None ≡ None → line_right last line ≡ false
      go true d q = let z : ◌≡◌ {A = ℕ} 0 1 = cc in absurd (omega arith)
      go false d q = d

-- ---- at the start of each line
pub record Scanning (text name : List ℕ) (first at from to : ℕ) (place : Place) (top : ℕ) : Type 0 where
  pub inside : at ≤ length text
  pub order : from ≤ to
  pub named : to ≤ length text
  pub tests : rest_right [] (parts 10 (drop first text)) ≡ rest_right (take (to - from) (drop from text)) (parts 10 (drop at text))
  pub places : place_from name first (place_at first) (entries_of (parts 10 (drop first text))) ≡ place_from name at place (entries_of (parts 10 (drop at text)))
  pub tops : largest_gone 0 (entries_of (parts 10 (drop first text))) ≡ largest_gone top (entries_of (parts 10 (drop at text)))

pub scan-start : (text name : List ℕ) (first : ℕ) → first ≤ length text → Scanning text name first first 0 0 (place_at first) 0
scan-start text name first l = record { inside = l; order = omega arith; named = omega arith; tests = refl; places = refl; tops = refl }

not_right : (text name : List ℕ) (first floor : ℕ) → rest_right [] (parts 10 (drop first text)) ≡ false → scanned_from text first floor name ≡ None
unfolding scanned_from
not_right text name first floor e = rw e

module _ (text name : List ℕ) (first floor at from to : ℕ) (place : Place) (top : ℕ) (s : Scanning text name first at from to place top) where
  abbrev last : List ℕ
  last = take (to - from) (drop from text)

  abbrev line : List ℕ
  line = up_to 10 (drop at text)

  abbrev end : ℕ
  end = end_of 10 at text

  pub end_after : end ≡ at + length line
  unfolding end_of
  end_after = refl

  pub scan-open : at < length text → length text ≤ end → scanned_from text first floor name ≡ None
  scan-open l h = not_right text name first floor (s.tests ∙ open-line text at (omega arith) h last)

  module _ (h : end < length text) where
    more : rest_right [] (parts 10 (drop first text)) ≡ (line_right last line && rest_right (line_name line) (parts 10 (drop (end + 1) text)))
    more = s.tests ∙ ap (rest_right last) (next-line text at h) ∙ rest_more last line (drop (end + 1) text)

    pub scan-wrong : line_right last line ≡ false → scanned_from text first floor name ≡ None
    scan-wrong e = not_right text name first floor (more ∙ ap (λ b. (b && rest_right (line_name line) (parts 10 (drop (end + 1) text)))) e)

    module _ (t : T (line_right last line)) where
      pub size-most : length (entry_of line).name ≤ length line
      size-most = let r = (right-line last line t).2 in let n = length-take (length (entry_of line).name) line in let z = ap length r in omega arith

      ends : at + length (entry_line (entry_of line)) ≡ end + 1
      ends =
          let g = ap length (good-line line (right-good last line t)) in
          let a = length-append line (10 ∷ []) in
          let e = end_after in
          omega arith

      pub name-here : take (at + length (entry_of line).name - at) (drop at text) ≡ line_name line
      name-here =
          let e : at + length (entry_of line).name - at ≡ length (entry_of line).name = omega arith in
          let k : take (length line) (drop at text) ≡ line = take_part 10 (drop at text) in
          rw e
          (sym (take-take (length (entry_of line).name) (length line) (drop at text) size-most)
          ∙ ap (take (length (entry_of line).name)) k ∙ (right-line last line t).2 ∙ read_name line)

      pub scan-right : Scanning text name first (end + 1) at (at + length (entry_of line).name) (place_next name at (end + 1) (entry_of line) place)
          (larger_gone top (entry_of line).m (entry_of line).revision)
      unfolding place_from largest_gone
      scan-right = record {
        inside = omega arith;
        order = omega arith;
        named = let k = size-most in let e = end_after in omega arith;
        tests = more ∙ rw (is_true (line_right last line) t, name-here);
        places =
            s.places
            ∙ ap (place_from name at place) (ap entries_of (next-line text at h) ∙ entries-more line (drop (end + 1) text))
            ∙ ap (λ k. place_from name k (place_next name at k (entry_of line) place) (entries_of (parts 10 (drop (end + 1) text)))) ends;
        tops = s.tops ∙ ap (largest_gone top) (ap entries_of (next-line text at h) ∙ entries-more line (drop (end + 1) text));
      }

  pub scan-done : length text ≤ at → scanned_from text first floor name ≡ Some (record { first = first; floor = floor; top = top; place = place })
  unfolding scanned_from place_from largest_gone
  scan-done l =
      let nothing : drop at text ≡ [] = drop_of_length-le text l in
      let right : rest_right [] (parts 10 (drop first text)) ≡ true = s.tests ∙ ap (λ d. rest_right last (parts 10 d)) nothing ∙ rest_end last in
      let found : place_from name first (place_at first) (entries_of (parts 10 (drop first text))) ≡ place =
      s.places ∙ ap (λ d. place_from name at place (entries_of (parts 10 d))) nothing ∙ ap (place_from name at place) entries-end in
      let largest : largest_gone 0 (entries_of (parts 10 (drop first text))) ≡ top =
      s.tops ∙ ap (λ d. largest_gone top (entries_of (parts 10 d))) nothing ∙ ap (largest_gone top) entries-end in
      rw (right, found, largest)

-- ---- the first line, and what the lines after it give
module _ (text name : List ℕ) where
  ending : end_of 10 0 text ≡ length (up_to 10 text)
  unfolding end_of
  ending = zero-add (length (up_to 10 text))

  not-formed : of_form text ≡ false → scanned_of text name ≡ None
  unfolding scanned_of
  not-formed e = rw e

  -- no line feed
  pub scan-endless : length text ≤ end_of 10 0 text → scanned_of text name ≡ None
  unfolding rest_right
  scan-endless l =
      let n : drop 1 (parts 10 text) ≡ [] =
      ap (drop 1) (parts_all 10 text) ∙ parts-end 10 (length (up_to 10 text)) text (subst (λ x. length text ≤ x) ending l) in
      not-formed (form-lines text ∙ ap (λ ps. (head_right (up_to 10 text) && (rest_right [] ps && allows (up_to 10 text) (entries_of ps)))) n
      ∙ and_none (head_right (up_to 10 text)))

  pub first_taken : take (end_of 10 0 text) text ≡ up_to 10 text
  first_taken = ap (λ i. take i text) ending ∙ take_part 10 text

  -- another first line
  pub scan-headless : read_head (take (end_of 10 0 text) text) ≡ None → scanned_of text name ≡ None
  unfolding read_head
  scan-headless e = go (head_right (up_to 10 text)) refl (sym (ap read_head first_taken) ∙ e)
    where
      go : (b : Bool) → head_right (up_to 10 text) ≡ b
          → cond {A = Option Head} b (Some (record { size = length (up_to 10 text) + 1; version = version_of (up_to 10 text); floor = floor_of (up_to 10 text) })) None ≡ None
          → scanned_of text name ≡ None
      go true d q = let z : ◌≡◌ {A = ℕ} 0 1 = cc in absurd (omega arith)
      go false d q = not-formed (form-lines text ∙ rw d)

  -- a right one
  module _ (l : end_of 10 0 text < length text) (head : Head) (e : read_head (take (end_of 10 0 text) text) ≡ Some head) where
    abbrev headed : List ℕ
    headed = up_to 10 text

    known : (head_right headed ≡ true) × (head.size ≡ end_of 10 0 text + 1) × (head.version ≡ version_of headed) × (head.floor ≡ floor_of headed)
    unfolding read_head
    known = go (head_right headed) refl (sym (ap read_head first_taken) ∙ e)
      where
        go : (b : Bool) → head_right headed ≡ b
            → cond {A = Option Head} b (Some (record { size = length headed + 1; version = version_of headed; floor = floor_of headed })) None ≡ Some head
            → (head_right headed ≡ true) × (head.size ≡ end_of 10 0 text + 1) × (head.version ≡ version_of headed) × (head.floor ≡ floor_of headed)
        go true d q =
            let k : record { size = length headed + 1; version = version_of headed; floor = floor_of headed } ≡ head = cc in (
              d,
              sym (ap (λ (h : Head). h.size) k) ∙ ap (λ x. x + 1) (sym ending),
              sym (ap (λ (h : Head). h.version) k),
              sym (ap (λ (h : Head). h.floor) k),
            )
        go false d q = let z : ◌≡◌ {A = ℕ} 0 1 = cc in absurd (omega arith)

    pub head-size : head.size ≤ length text
    head-size = let k = known.1 in omega arith

    lines : List (List ℕ)
    lines = parts 10 (drop head.size text)

    lines_are : drop 1 (parts 10 text) ≡ lines
    unfolding lines
    lines_are = ap (drop 1) (next-line text 0 l) ∙ ap (λ i. parts 10 (drop i text)) (sym known.1)

    formed : of_form text ≡ (rest_right [] lines && allows headed (entries_of lines))
    formed =
        form-lines text ∙ ap (λ b. (b && (rest_right [] (drop 1 (parts 10 text)) && allows headed (entries_of (drop 1 (parts 10 text)))))) known.0
        ∙ ap (λ ps. (rest_right [] ps && allows headed (entries_of ps))) lines_are

    -- the lines are not right
    pub lines-bad : scanned_from text head.size head.floor name ≡ None → scanned_of text name ≡ None
    unfolding scanned_from lines
    lines-bad = go (rest_right [] lines) refl
      where
        go : (b : Bool) → rest_right [] lines ≡ b
            → cond b (Some (found_from name head.size head.floor (entries_of lines))) None ≡ None → scanned_of text name ≡ None
        go true d h = let z : ◌≡◌ {A = ℕ} 0 1 = cc in absurd (omega arith)
        go false d h = not-formed (formed ∙ rw d)

    module _ (found : Found) (is : scanned_from text head.size head.floor name ≡ Some found) where
      found-is : (rest_right [] lines ≡ true) × (found ≡ found_from name head.size head.floor (entries_of lines))
      unfolding scanned_from lines
      found-is = go (rest_right [] lines) refl is
        where
          go : (b : Bool) → rest_right [] lines ≡ b
              → cond b (Some (found_from name head.size head.floor (entries_of lines))) None ≡ Some found
              → (rest_right [] lines ≡ true) × (found ≡ found_from name head.size head.floor (entries_of lines))
          go true d h = (d, cc)
          go false d h = let z : ◌≡◌ {A = ℕ} 0 1 = cc in absurd (omega arith)

      none-gone : none_gone (entries_of lines) ≡ eqb found.top 0
      none-gone =
          none-largest [] (entries_of lines) (rest-good [] lines (true-is _ found-is.0)).0
          ∙ ap (λ (f : Found). eqb f.top 0) (sym found-is.1)

      one-version : (b : Bool) → is_one headed ≡ b → head.version ≡ cond b 1 2
      one-version b d = known.2 ∙ rw d

      -- version 1 with a gone line
      pub scan-gone : head.version ≡ 1 → (found.top ≡ 0 → ⊥) → scanned_of text name ≡ None
      scan-gone v t = go (is_one headed) refl
        where
          go : (b : Bool) → is_one headed ≡ b → scanned_of text name ≡ None
          go true d = not-formed (formed ∙ rw (found-is.0, d, none-gone) (ne_eqb found.top 0 t))
          go false d = let k = one-version false d in absurd (omega arith)

      -- else the text is of the form
      pub scan-found : (head.version ≡ 1 → found.top ≡ 0) → Some found ≡ scanned_of text name
      unfolding scanned_of
      scan-found v =
          let a : allows headed (entries_of lines) ≡ true = go (is_one headed) refl in
          let f : of_form text ≡ true = formed ∙ rw (found-is.0, a) in
          let h = right-head headed (entries_of lines) (true-is _ known.0) (true-is _ a) in
          let s : length (first_line (version_of headed) (floor_of headed)) ≡ head.size =
          ap length h.1 ∙ length-append headed (10 ∷ []) ∙ ap (λ x. x + 1) (sym ending) ∙ sym known.1 in
          let first : ℕ = length (first_line (version_of headed) (floor_of headed)) in
          let k : found ≡ found_in name (catalogue_of text) =
          found-is.1 ∙ ap (λ x. found_from name x head.floor (entries_of lines)) (sym s) ∙ ap (λ x. found_from name first x (entries_of lines)) known.3
          ∙ ap (λ ps. found_from name first (floor_of headed) (entries_of ps)) (sym lines_are) ∙ ap (found_in name) (sym (catalogue-lines text)) in
          rw (f, k)
        where
          go : (b : Bool) → is_one headed ≡ b → allows headed (entries_of lines) ≡ true
          go true d = rw (d, none-gone) (ap (λ x. eqb x 0) (v (one-version true d)))
          go false d = rw d

-- ---- a line that is read, and the name before it
module _ (last line : List ℕ) where
  -- what can't be read is not right
  pub read_none : read_line line ≡ None → right_line last line ≡ None
  unfolding read_line right_line line_right
  read_none e = go (line_good line) refl e
    where
      go : (b : Bool) → line_good line ≡ b → cond {A = Option Line} b (Some (as_line (entry_of line))) None ≡ None
          → cond {A = Option Line} (before last (line_name line) && line_good line) (Some (as_line (entry_of line))) None ≡ None
      go true d z = let z : ◌≡◌ {A = ℕ} 0 1 = cc in absurd (omega arith)
      go false d z = rw (d, and_none (before last (line_name line)))

  -- what can be read is right if its name stands after the last one
  pub read_some : (r : Line) → read_line line ≡ Some r
      → (r.size ≤ length line) × (right_line last line ≡ cond {A = Option Line} (before last (take r.size line)) (Some r) None)
  unfolding read_line right_line line_right
  read_some r e = go (line_good line) refl e
    where
      size : length (entry_of line).name ≡ end_of 9 0 line
      size = ap length (read_name line) ∙ name-size line

      go : (b : Bool) → line_good line ≡ b → cond {A = Option Line} b (Some (as_line (entry_of line))) None ≡ Some r
          → (r.size ≤ length line)
          × (cond {A = Option Line} (before last (line_name line) && line_good line) (Some (as_line (entry_of line))) None
          ≡ cond {A = Option Line} (before last (take r.size line)) (Some r) None)
      go true d z =
          let i : as_line (entry_of line) ≡ r = cc in
          let n : r.size ≡ end_of 9 0 line = sym (ap (λ (l : Line). l.size) i) ∙ size in
          let k = name-taken line in
          let t = length-take (end_of 9 0 line) line in
          let q = ap length k in
          let m = name-size line in
          (omega arith, rw (d, i, n, k, and-all (before last (line_name line))) refl)
      go false d z = let z : ◌≡◌ {A = ℕ} 0 1 = cc in absurd (omega arith)
