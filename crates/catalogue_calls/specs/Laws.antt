-- Lookup, Put and Remove by what a scan finds.
use Rattle.std.specs.Prelude.{◌≡◌, true, false, cond, ◌||◌, ◌&&◌, List, [], ◌∷◌, ◌++◌, eqb, leb, ltb, take, drop, Result, Ok, Err}
use Rattle.std.proofs.Math.Path.{refl, subst}
use Rattle.std.proofs.Common.{sym, ap, ap₂, ◌∙◌, append_assoc, leb→le, length-drop, length-take-le, take-take}
use Prim.Native.Nat.{ℕ, zero, suc, ◌+◌, ◌-◌, ◌≤◌, ◌<◌}
use native.Mathlib.Omega.{arith}
use borrow.Author.Tests.{lt-ltb, le-ltb, eq-eqb, ne_eqb}
use Rattle.std.proofs.Math.ListN.{length, length-append}
use Rattle.counting.specs.TestLaws.{and_l, and_r}
use Rattle.code.specs.Refusals.{refuse, ◌or_else◌}
use Rattle.answers.specs.declared.Refusal.{Refusal}
use Rattle.answers.specs.Answers.{refusal_number}
use Rattle.answers.specs.AnswersLaws.{refusal-some, else-first}
use Rattle.shape.specs.Shapes.{byte_limits}
use Rattle.code.specs.Limits.{sale_refusal_in}
use Rattle.text.specs.Written.{written}
use Rattle.catalogue_text.specs.Names.{name_bytes, good_name}
use Rattle.catalogue_text.specs.NamesLaws.{true-is}
use Rattle.catalogue_text.specs.Catalogue.{Entry, Catalogue, first_line, entry_line, lines_of, catalogue_text}
use Rattle.catalogue_text.specs.CatalogueLaws.{cat-version, first-grows}
use Rattle.catalogue_text.specs.Changes.{put_in, found_revision, last_revision, next_entry, changed_by}
use Rattle.catalogue_text.specs.Buffers.{formed, catalogue_in, with_text}
use Rattle.catalogue_text.specs.BuffersLaws.{Formed, formed-parts, formed-good}
use Rattle.catalogue_scan.specs.declared.Place.{Place}
use Rattle.catalogue_scan.specs.declared.Found.{Found}
use Rattle.catalogue_scan.specs.PlacesLaws.{Spot, spot_of}
use Rattle.catalogue_scan.specs.Places.{FoundIn}
use Rattle.catalogue_lines.specs.Splice.{SpliceFits, spliced_in}
use Rattle.catalogue_lines.specs.SpliceLaws.{first_fits, first_spliced, drop-take}
use Rattle.catalogue_calls.specs.declared.Stored.{Stored}
use Rattle.catalogue_calls.specs.declared.Changed.{Changed}
use Rattle.catalogue_calls.specs.Calls.{text_refusal, name_refusal, stored, found_refusal, lookup_refusal, lookup_figures, looked_number, looked_figures}
use Rattle.catalogue_calls.specs.Calls.{changed_entry, changed_text, expected_refusal, change_refusal, put_refusal, remove_refusal, put_figures, put_buffer}
use Rattle.catalogue_calls.specs.Calls.{remove_figures, remove_buffer, changed_number, changed_figures, ChangeLeaves}

-- the text and the name are tested before all else
else-else : (r s t : ℕ) → ((r or_else s) or_else t) ≡ (r or_else s or_else t)
else-else zero s t = refl
else-else (suc r) s t = refl

module _ (buffer : List ℕ) (size : ℕ) (name : List ℕ) where
  pub find-bad : formed buffer size ≡ false → 16 ≡ (text_refusal buffer size or_else name_refusal name)
  unfolding text_refusal
  find-bad e = rw e refl

  pub find-unnamed : formed buffer size ≡ true → good_name name ≡ false → 17 ≡ (text_refusal buffer size or_else name_refusal name)
  unfolding text_refusal name_refusal
  find-unnamed e g = rw (e, g) refl

  pub find-good : formed buffer size ≡ true → good_name name ≡ true → 0 ≡ (text_refusal buffer size or_else name_refusal name)
  unfolding text_refusal name_refusal
  find-good e g = rw (e, g) refl

-- ---- Lookup
module _ (buffer : List ℕ) (size : ℕ) (name : List ℕ) where
  abbrev Looks : Result Stored Refusal → Type 0
  Looks r = (looked_number r ≡ lookup_refusal buffer size name) × (looked_figures r ≡ lookup_figures buffer size name)

  unfound : (e : Refusal) → refusal_number e ≡ lookup_refusal buffer size name → Looks (Err e)
  unfolding lookup_figures
  unfound e is = go (refusal_number e) refl
    where
      go : (r : ℕ) → refusal_number e ≡ r → Looks (Err e)
      go zero z = absurd (refusal-some e z)
      go (suc r) z = rw (sym is ∙ z) (z, refl)

  -- a text of another form, or a bad name
  pub looked-unfound : (e : Refusal) → refusal_number e ≡ (text_refusal buffer size or_else name_refusal name) → Looks (Err e)
  unfolding lookup_refusal
  looked-unfound e is = unfound e (else-first e is (found_refusal buffer size name) ∙ else-else (text_refusal buffer size) (name_refusal name) _)

  module _ (whole : formed buffer size ≡ true) where
    pub looked-none : good_name name ≡ true → (stored buffer size name).m ≡ 0 → Looks (Err Refusal.NoSuchName)
    unfolding lookup_refusal text_refusal name_refusal found_refusal
    looked-none e z = unfound Refusal.NoSuchName (rw (whole, e, eq-eqb (stored buffer size name).m 0 z))

    looked-zero : good_name name ≡ true → ((stored buffer size name).m ≡ 0 → ⊥) → lookup_refusal buffer size name ≡ 0
    unfolding lookup_refusal text_refusal name_refusal found_refusal
    looked-zero e n = rw (whole, e, ne_eqb (stored buffer size name).m 0 n)

-- ---- what a change writes
pub name-short : (name : List ℕ) → good_name name ≡ true → length name ≤ 16
unfolding good_name
name-short name e =
    leb→le (length name) 16
    (and_l (leb (length name) 16) _ (and_r (leb 1 (length name)) _ (true-is (leb 1 (length name) && (leb (length name) 16 && name_bytes name)) e)))

-- ---- a refusal, of a change, a put or a remove
refused : (buffer : List ℕ) (size : ℕ) (name : List ℕ) (m w c refusal : ℕ) (e : Refusal) → refusal_number e ≡ refusal
    → ChangeLeaves refusal buffer size name m w c (Err e) buffer
refused buffer size name m w c refusal e is = go (refusal_number e) refl
  where
    go : (r : ℕ) → refusal_number e ≡ r → ChangeLeaves refusal buffer size name m w c (Err e) buffer
    go zero z = absurd (refusal-some e z)
    go (suc r) z = rw (sym is ∙ z) (z, (refl, refl))

module _ (found : Found) (buffer : List ℕ) (size : ℕ) (name : List ℕ) (p : FoundIn found buffer size name) where
  abbrev cat : Catalogue
  cat = catalogue_in buffer size

  abbrev place : Place
  place = found.place

  -- the first line as it stands
  abbrev old : List ℕ
  old = first_line cat.version cat.floor

  held : Formed buffer size
  held = formed-parts buffer size p.whole

  pub spot : Spot name cat.list (take size buffer) (λ l. old ++ lines_of l) place
  unfolding catalogue_in
  spot =
      subst (λ (f : Found). Spot name (catalogue_in buffer size).list (take size buffer)
      (λ l. first_line (catalogue_in buffer size).version (catalogue_in buffer size).floor ++ lines_of l) f.place) (sym p.is)
      (spot_of (take size buffer) name held.text)

  pub first-is : found.first ≡ length old
  first-is = ap (λ (f : Found). f.first) p.is

  pub floor-is : found.floor ≡ cat.floor
  floor-is = ap (λ (f : Found). f.floor) p.is

  -- the first line of version 2 is not shorter than the one that stands there
  pub order : (place.from ≤ place.to) × (place.to ≤ size) × (size ≤ length buffer) × (size ≤ 4096) × (found.first ≤ length (first_line 2 found.floor))
  order =
      let s = spot in
      let n : length (take size buffer) ≡ size = length-take-le size buffer held.held in
      let i = s.inside in
      let g = first-grows cat.version cat.floor cat.floor cat.list (cat-version cat (formed-good buffer size p.whole)) (omega arith) in
      (s.order, omega arith, held.held, held.most, rw (first-is, floor-is) g)

  pub looked-place : good_name name ≡ true → (place.m ≡ 0 → ⊥) → Looks buffer size name
      (Ok (record { revision = place.revision; m = place.m; w = place.w; c = place.c }))
  unfolding lookup_figures
  looked-place e n =
      let s = spot in
      rw (looked-zero buffer size name p.whole e (λ z. n (s.m ∙ z)), s.revision, s.m, s.w, s.c) (refl, refl)

  pub found-revision : cond (eqb place.m 0) 0 place.revision ≡ found_revision (stored buffer size name)
  found-revision = let s = spot in rw (s.m, s.revision)

  pub last-revision : cond (eqb place.revision 0) found.floor place.revision ≡ last_revision cat.floor (stored buffer size name)
  last-revision = let s = spot in rw (s.revision, floor-is)

  pub change-last : (m w c last : ℕ) → last ≡ last_revision cat.floor (stored buffer size name) → last ≡ 65535
      → ChangeLeaves (change_refusal buffer size name m w c) buffer size name m w c (Err Refusal.RevisionEnd) buffer
  unfolding change_refusal
  change-last m w c last l e =
      refused buffer size name m w c (change_refusal buffer size name m w c) Refusal.RevisionEnd
      (rw (eq-eqb (last_revision cat.floor (stored buffer size name)) 65535 (sym l ∙ e)))

-- ---- a change after 20: what is found in the text, and the revision that the next one is counted from
pub record Changing (found : Found) (buffer : List ℕ) (size : ℕ) (name : List ℕ) (last : ℕ) : Type 0 where
  pub found_in : FoundIn found buffer size name
  pub last-is : last ≡ last_revision (catalogue_in buffer size).floor (stored buffer size name)
  pub more : last ≡ 65535 → ⊥

module _ (found : Found) (buffer : List ℕ) (size : ℕ) (name : List ℕ) (last : ℕ) (g : Changing found buffer size name last) (m w c : ℕ) where
  abbrev entry : Entry
  entry = changed_entry buffer size name m w c

  abbrev lines : List ℕ
  lines = lines_of (put_in entry (catalogue_in buffer size).list)

  -- the first line as it stands, and that of version 2
  abbrev standing : List ℕ
  standing = old found buffer size name g.found_in

  abbrev first : List ℕ
  first = first_line 2 found.floor

  -- the name's new line
  abbrev line : List ℕ
  line = entry_line (record { name = name; revision = last + 1; m = m; w = w; c = c })

  abbrev moved : ℕ
  moved = found.place.from + length line + (size - found.place.to)

  abbrev pub end : ℕ
  end = moved + (length first - found.first)

  abbrev Leaves : Result Changed Refusal → List ℕ → Type 0
  Leaves = ChangeLeaves (change_refusal buffer size name m w c) buffer size name m w c

  bounds : (found.place.from ≤ found.place.to) × (found.place.to ≤ size) × (size ≤ length buffer) × (size ≤ 4096) × (found.first ≤ length first)
  bounds = order found buffer size name g.found_in

  entry-is : record { name = name; revision = last + 1; m = m; w = w; c = c } ≡ entry
  unfolding next_entry
  entry-is = rw g.last-is

  entry-name : entry.name ≡ name
  unfolding next_entry
  entry-name = refl

  -- the bytes behind the name's line
  abbrev tail : List ℕ
  tail = take (size - found.place.to) (drop found.place.to buffer)

  tail-long : length tail ≡ size - found.place.to
  tail-long =
      let o = bounds in
      let d : length (drop found.place.to buffer) ≡ length buffer - found.place.to = length-drop found.place.to buffer in
      length-take-le (size - found.place.to) (drop found.place.to buffer) (omega arith)

  -- the text with the name's line in its place, and the first line as it was
  middle : standing ++ lines ≡ take found.place.from buffer ++ (line ++ tail)
  middle =
      let o = bounds in
      let k : line ≡ entry_line entry = ap entry_line entry-is in
      (spot found buffer size name g.found_in).spliced entry entry-name
      ∙ rw (← k, take-take found.place.from size buffer (omega arith), drop-take found.place.to size buffer)

  middle-long : length (standing ++ lines) ≡ moved
  middle-long =
      let o = bounds in
      let a : length (take found.place.from buffer) ≡ found.place.from = length-take-le found.place.from buffer (omega arith) in
      let t = tail-long in
      rw middle (simp length-append (omega arith))

  new_is : changed_text buffer size name m w c ≡ first ++ lines
  unfolding changed_text catalogue_text changed_by
  new_is = rw (floor-is found buffer size name g.found_in)

  new-long : length (changed_text buffer size name m w c) ≡ end
  new-long =
      let a = length-append standing lines in
      let b = length-append first lines in
      let n = middle-long in
      let f = first-is found buffer size name g.found_in in
      let o = bounds in
      ap length new_is ∙ omega arith

  refusal_is : change_refusal buffer size name m w c
      ≡ refuse 21 (ltb 4096 (length (changed_text buffer size name m w c)) || ltb (length buffer) (length (changed_text buffer size name m w c)))
  unfolding change_refusal
  refusal_is =
      rw (ne_eqb (last_revision (catalogue_in buffer size).floor (stored buffer size name)) 65535 (λ z. g.more (g.last-is ∙ z)))

  pub change-long : 4096 < end → Leaves (Err Refusal.CatalogueFull) buffer
  change-long h =
      let n = new-long in
      refused buffer size name m w c _ Refusal.CatalogueFull
      (sym (refusal_is ∙ rw (lt-ltb 4096 (length (changed_text buffer size name m w c)) (omega arith))))

  pub change-full : end ≤ 4096 → length buffer < end → Leaves (Err Refusal.CatalogueFull) buffer
  change-full h k =
      let n = new-long in
      refused buffer size name m w c _ Refusal.CatalogueFull
      (sym (refusal_is ∙ rw (
        le-ltb 4096 (length (changed_text buffer size name m w c)) (omega arith),
        lt-ltb (length buffer) (length (changed_text buffer size name m w c)) (omega arith),
      )))

  module _ (h : end ≤ 4096) (k : end ≤ length buffer) where
    pub line-fits : SpliceFits buffer size found.place.from found.place.to line
    line-fits = let o = bounds in record { order = omega arith; inside = omega arith; held = omega arith; room = omega arith }

    spliced : spliced_in buffer size found.place.from found.place.to line ≡ with_text (standing ++ lines) buffer
    unfolding spliced_in written with_text
    spliced =
        let n = middle-long in
        let o = bounds in
        let t = tail-long in
        let j : found.place.from + length (line ++ tail) ≡ length (standing ++ lines) = let q = length-append line tail in omega arith in
        rw (j, middle) (sym (append_assoc (take found.place.from buffer) (line ++ tail) _))

    not-refused : change_refusal buffer size name m w c ≡ 0
    not-refused =
        let n = new-long in
        refusal_is ∙ rw (
          le-ltb 4096 (length (changed_text buffer size name m w c)) (omega arith),
          le-ltb (length buffer) (length (changed_text buffer size name m w c)) (omega arith),
        )

    module _ (after : List ℕ) (e : after ≡ spliced_in buffer size found.place.from found.place.to line) where
      room : length (first ++ lines) ≤ length buffer
      room = let n = sym (ap length new_is) ∙ new-long in omega arith

      grows : length standing ≤ length first
      grows = let f = first-is found buffer size name g.found_in in let o = bounds in omega arith

      pub first-splice-fits : SpliceFits after moved 0 found.first first
      first-splice-fits =
          rw (← middle-long, first-is found buffer size name g.found_in) (first_fits buffer after standing first lines (e ∙ spliced) grows room)

      pub change-done : (last-buffer : List ℕ) → last-buffer ≡ spliced_in after moved 0 found.first first
          → Leaves (Ok (record { size = end; revision = last + 1 })) last-buffer
      change-done last-buffer q =
          let s = first_spliced buffer after standing first lines (e ∙ spliced) grows room in
          rw not-refused (
            refl,
            (
              ap₂ (λ x y. x ∷ y ∷ []) (sym new-long) (ap (λ (e : Entry). e.revision) entry-is),
              q ∙ rw (← middle-long, first-is found buffer size name g.found_in, new_is) s,
            ),
          )

-- ---- Put
module _ (m w c : ℕ) (name : List ℕ) (expected : ℕ) (buffer : List ℕ) (size : ℕ) where
  abbrev Put : Result Changed Refusal → List ℕ → Type 0
  Put r after =
      (changed_number r ≡ put_refusal m w c name expected buffer size) × ((changed_figures r ≡ put_figures m w c name expected buffer size)
      × (after ≡ put_buffer m w c name expected buffer size))

  answered : (e : Refusal) → refusal_number e ≡ put_refusal m w c name expected buffer size → Put (Err e) buffer
  unfolding put_figures put_buffer
  answered = refused buffer size name m w c (put_refusal m w c name expected buffer size)

  pub put-unsold : (e : Refusal) → refusal_number e ≡ sale_refusal_in byte_limits m w c → Put (Err e) buffer
  unfolding put_refusal
  put-unsold e is = answered e (else-first e is _)

  module _ (sold : sale_refusal_in byte_limits m w c ≡ 0) where
    pub put-unfound : (e : Refusal) → refusal_number e ≡ (text_refusal buffer size or_else name_refusal name) → Put (Err e) buffer
    unfolding put_refusal
    put-unfound e is = answered e (rw sold (else-first e is _ ∙ else-else (text_refusal buffer size) (name_refusal name) _))

    module _ (whole : formed buffer size ≡ true) where
      module _ (good : good_name name ≡ true) where
        pub put_other : (found_revision (stored buffer size name) ≡ expected → ⊥) → Put (Err Refusal.Revision) buffer
        unfolding put_refusal text_refusal name_refusal expected_refusal
        put_other n = answered Refusal.Revision (rw (sold, whole, good, ne_eqb (found_revision (stored buffer size name)) expected n))

        pub put-change : found_revision (stored buffer size name) ≡ expected → (r : Result Changed Refusal) (after : List ℕ)
            → ChangeLeaves (change_refusal buffer size name m w c) buffer size name m w c r after → Put r after
        unfolding put_figures put_buffer put_refusal text_refusal name_refusal expected_refusal
        put-change e r after h = rw (sold, whole, good, eq-eqb (found_revision (stored buffer size name)) expected e) h

-- ---- Remove
module _ (name : List ℕ) (expected : ℕ) (buffer : List ℕ) (size : ℕ) where
  abbrev Removed : Result Changed Refusal → List ℕ → Type 0
  Removed r after =
      (changed_number r ≡ remove_refusal name expected buffer size) × ((changed_figures r ≡ remove_figures name expected buffer size)
      × (after ≡ remove_buffer name expected buffer size))

  told : (e : Refusal) → refusal_number e ≡ remove_refusal name expected buffer size → Removed (Err e) buffer
  unfolding remove_figures remove_buffer
  told = refused buffer size name 0 0 0 (remove_refusal name expected buffer size)

  pub remove-unfound : (e : Refusal) → refusal_number e ≡ (text_refusal buffer size or_else name_refusal name) → Removed (Err e) buffer
  unfolding remove_refusal
  remove-unfound e is = told e (else-first e is _ ∙ else-else (text_refusal buffer size) (name_refusal name) _)

  module _ (whole : formed buffer size ≡ true) where
    module _ (good : good_name name ≡ true) where
      pub remove-none : (stored buffer size name).m ≡ 0 → Removed (Err Refusal.NoSuchName) buffer
      unfolding remove_refusal text_refusal name_refusal found_refusal
      remove-none z = told Refusal.NoSuchName (rw (whole, good, eq-eqb (stored buffer size name).m 0 z))

      module _ (there : (stored buffer size name).m ≡ 0 → ⊥) where
        revision-is : found_revision (stored buffer size name) ≡ (stored buffer size name).revision
        revision-is = rw (ne_eqb (stored buffer size name).m 0 there)

        pub remove-other : ((stored buffer size name).revision ≡ expected → ⊥) → Removed (Err Refusal.Revision) buffer
        unfolding remove_refusal text_refusal name_refusal found_refusal expected_refusal
        remove-other n =
            told Refusal.Revision (rw (
              whole,
              good,
              ne_eqb (found_revision (stored buffer size name)) expected (λ z. n (sym revision-is ∙ z)),
              ne_eqb (stored buffer size name).m 0 there,
            ))

        pub remove-change : (stored buffer size name).revision ≡ expected → (r : Result Changed Refusal) (after : List ℕ)
            → ChangeLeaves (change_refusal buffer size name 0 0 0) buffer size name 0 0 0 r after → Removed r after
        unfolding remove_figures remove_buffer remove_refusal text_refusal name_refusal found_refusal expected_refusal
        remove-change e r after h =
            rw (
              whole,
              good,
              eq-eqb (found_revision (stored buffer size name)) expected (revision-is ∙ e),
              ne_eqb (stored buffer size name).m 0 there,
            ) h
