-- Gone lines dropped one line at a time, and the first line after that.
use Rattle.std.specs.Prelude.{◌≡◌, ◌⊎◌, Bool, false, cond, not, ◌&&◌, T, eqb, get_or, drop, Result, Ok, Err, Option, Some}
use Rattle.std.specs.Option.{IsSome}
use Rattle.std.proofs.Math.Path.{refl, sym, ap, ap₂}
use Rattle.std.proofs.Common.{◌∙◌, subst, inl, inr, true≢false, length-drop, length-take-le, take-take, drop_at, drop-drop}
use Rattle.std.proofs.Math.Bool.{true}
use mathlib.Core.List.{List, [], ◌∷◌, ◌++◌, append_assoc, append-nil}
use Prim.Native.Nat.{ℕ, ◌+◌, ◌-◌, ◌≤◌, ◌<◌, max}
use native.Mathlib.Omega.{arith}
use Rattle.std.proofs.Math.Decide.{ℕ_discrete}
use borrow.Author.Tests.{eq-eqb, ne_eqb, eqb-true, eqb-false}
use Rattle.std.proofs.Math.ListN.{length, take, length-append}
use Rattle.std.proofs.Math.Seq.{take_at}
use Rattle.counting.specs.TestLaws.{and_l, and_r}
use Rattle.text.specs.Fields.{up_to, end_of}
use Rattle.text.specs.FieldLaws.{parts-split, parts-front}
use Rattle.text.specs.Written.{written}
use Rattle.text.specs.WrittenLaws.{written_on, written-nothing, length-written}
use Rattle.text.specs.Lines.{cells_of}
use Rattle.text.specs.DecimalLaws.{digits-some, digits-most}
use Rattle.catalogue_text.specs.Names.{before}
use Rattle.catalogue_text.specs.NamesLaws.{is_true, name-some}
use Rattle.catalogue_text.specs.Catalogue.{Entry, is_gone, good_entry, good_from, none_gone, Catalogue, good_version, good_catalogue, first_line, gone_line}
use Rattle.catalogue_text.specs.Catalogue.{entry_line, lines_of, catalogue_text}
use Rattle.catalogue_text.specs.LineLaws.{EntryGood, entry-good, body_of, body-line, body-one, body-read}
use Rattle.catalogue_text.specs.CatalogueLaws.{line_good, body-good, cat-list, cat-version, first-grows, first_two, first_one, versions}
use Rattle.catalogue_text.specs.Changes.{without_gone, largest_gone, compacted}
use Rattle.catalogue_text.proofs.ChangesLaws.{none-largest}
use Rattle.catalogue_text.specs.Buffers.{formed, catalogue_in, with_text}
use Rattle.catalogue_text.specs.BuffersLaws.{formed-parts, formed-good, formed-text, formed-long, with-same}
use Rattle.catalogue_lines.specs.declared.Line.{Line}
use Rattle.catalogue_lines.specs.Reading.{as_line, read_line}
use Rattle.catalogue_scan.specs.declared.Found.{Found}
use Rattle.catalogue_scan.specs.Places.{found_in, FoundIn}
use Rattle.catalogue_lines.specs.Splice.{SpliceFits, spliced_in}
use Rattle.catalogue_lines.specs.SpliceLaws.{first_fits, first_spliced, drop-take}
use Rattle.answers.specs.declared.Refusal.{Refusal}
use Rattle.catalogue_compact.specs.Compaction.{compact_refusal, compacted_text, compact_figures, compact_buffer, compacted_number, compacted_figures, LinesAt}

-- what stands behind bytes that were written
drop-written : (out : List ℕ) (at : ℕ) (text : List ℕ) (k : ℕ) → at ≤ length out → at + length text ≤ k → drop k (written out at text) ≡ drop k out
unfolding written
drop-written out at text k h l =
    let n : length (take at out) ≡ at = length-take-le at out h in
    let a = length-append (take at out) text in
    let r : ℕ = k - (at + length text) in
    let e : at + length text + r ≡ k = omega arith in
    let f : length (take at out ++ text) ≡ at + length text = omega arith in
    ap (λ i. drop i (take at out ++ (text ++ drop (at + length text) out))) (sym e)
    ∙ ap (drop (at + length text + r)) (sym (append_assoc (take at out) text (drop (at + length text) out)))
    ∙ sym (drop-drop r (at + length text) ((take at out ++ text) ++ drop (at + length text) out))
    ∙ ap (drop r) (drop_at (take at out ++ text) (drop (at + length text) out) (at + length text) f)
    ∙ drop-drop r (at + length text) out ∙ ap (λ i. drop i out) e

-- ---- at the start of each line
pub record Dropping (start : List ℕ) (size first : ℕ) (list : List Entry) (buffer : List ℕ) (at to : ℕ) : Type 0 where
  -- the lines that are kept of those before, and the entries of those after
  pub done : List ℕ
  pub rest : List Entry
  pub last : List ℕ
  pub good : T (good_from last rest)
  pub all : lines_of (without_gone list) ≡ done ++ lines_of (without_gone rest)
  pub place : to ≡ first + length done
  pub order : to ≤ at
  pub inside : at ≤ size
  pub held : size ≤ length start
  pub holds : buffer ≡ written start first done
  pub ahead : take (size - at) (drop at start) ≡ lines_of rest

pub drop-start : (buffer : List ℕ) (size first : ℕ) (list : List Entry) → LinesAt buffer size first list → Dropping buffer size first list buffer first first
drop-start buffer size first list l = record {
  done = [];
  rest = list;
  last = [];
  good = l.good;
  all = refl;
  place = omega arith;
  order = omega arith;
  inside = l.inside;
  held = l.held;
  holds = sym (written-nothing buffer first);
  ahead = l.lines;
}

some-line : (e : Entry) → 0 < length (entry_line e)
some-line e = rw (body-line e, length-append) (omega arith)

-- the first of some lines
pub first_of : (rest : List Entry) → 0 < length (lines_of rest) → (e : Entry) × (more : List Entry) × (rest ≡ e ∷ more)
unfolding lines_of
first_of [] l = absurd (omega arith)
first_of (e ∷ more) l = (e, more, refl)

no_lines : (rest : List Entry) → length (lines_of rest) ≡ 0 → rest ≡ []
unfolding lines_of
no_lines [] e = refl
no_lines (e ∷ more) z = let n = some-line e in let a = length-append (entry_line e) (lines_of more) in absurd (omega arith)

up-to : (e : Entry) → EntryGood e → (xs : List ℕ) → up_to 10 (body_of e ++ (10 ∷ xs)) ≡ body_of e
unfolding up_to
up-to e g xs = ap (λ ps. get_or ps 0 []) (sym (parts-split 10 (body_of e ++ (10 ∷ xs))) ∙ parts-front 10 (body_of e) (10 ∷ xs) (body-one e g) refl)

read_is : (e : Entry) → EntryGood e → T (good_entry e) → read_line (body_of e) ≡ Some (as_line e)
unfolding read_line
read_is e g t = rw (is_true (line_good (body_of e)) (body-good e g t), body-read e g)

kept-gone : (e : Entry) (more : List Entry) → e.m ≡ 0 → without_gone (e ∷ more) ≡ without_gone more
unfolding without_gone
kept-gone e more z = rw (eq-eqb e.m 0 z)

kept-shaped : (e : Entry) (more : List Entry) → (e.m ≡ 0 → ⊥) → without_gone (e ∷ more) ≡ e ∷ without_gone more
unfolding without_gone
kept-shaped e more n = rw (ne_eqb e.m 0 n)

lines_more : (e : Entry) (more : List Entry) → lines_of (e ∷ more) ≡ entry_line e ++ lines_of more
unfolding lines_of
lines_more e more = refl

lines_none : lines_of (without_gone []) ≡ []
unfolding lines_of without_gone
lines_none = refl

good_more : (last : List ℕ) (e : Entry) (more : List Entry) → T (good_from last (e ∷ more)) → T (good_entry e) × T (good_from e.name more)
unfolding good_from
good_more last e more t =
    let u = and_r (before last e.name) (good_entry e && good_from e.name more) t in
    (and_l (good_entry e) (good_from e.name more) u, and_r (good_entry e) (good_from e.name more) u)

module _ (start : List ℕ) (size first : ℕ) (list : List Entry) (buffer : List ℕ) (at to : ℕ) (d : Dropping start size first list buffer at to) where
  -- what is still to be read is as it was
  same_ahead : drop at buffer ≡ drop at start
  same_ahead =
      let o = d.order in
      let p = d.place in
      let i = d.inside in
      let h = d.held in
      ap (drop at) d.holds ∙ drop-written start first d.done at (omega arith) (omega arith)

  ahead-long : length (lines_of d.rest) ≡ size - at
  ahead-long =
      let k = length-drop at start in
      let h = d.held in
      sym (ap length d.ahead) ∙ length-take-le (size - at) (drop at start) (omega arith)

  pub buffer-long : length buffer ≡ length start
  buffer-long =
      let o = d.order in
      let p = d.place in
      let i = d.inside in
      let h = d.held in
      ap length d.holds ∙ length-written start first d.done (omega arith)

  -- at the end
  pub drop-end : size ≤ at → (to ≡ first + length (lines_of (without_gone list))) × (buffer ≡ written start first (lines_of (without_gone list)))
  drop-end l =
      let n = ahead-long in
      let z : d.rest ≡ [] = no_lines d.rest (omega arith) in
      let k : lines_of (without_gone list) ≡ d.done = d.all ∙ ap (λ r. d.done ++ lines_of (without_gone r)) z ∙ ap (λ x. d.done ++ x) lines_none
      ∙ append-nil d.done in
      rw k (d.place, d.holds)

  module _ (e : Entry) (more : List Entry) (z : d.rest ≡ e ∷ more) where
    goods : T (good_entry e) × T (good_from e.name more)
    goods = good_more d.last e more (subst (λ r. T (good_from d.last r)) z d.good)

    good : EntryGood e
    good = entry-good e goods.0

    ahead-is : take (size - at) (drop at buffer) ≡ body_of e ++ (10 ∷ lines_of more)
    ahead-is =
        ap (take (size - at)) same_ahead ∙ d.ahead ∙ ap lines_of z ∙ lines_more e more ∙ ap (λ l. l ++ lines_of more) (body-line e)
        ∙ append_assoc (body_of e) (10 ∷ []) (lines_of more)

    text-ahead : drop at (take size buffer) ≡ body_of e ++ (10 ∷ lines_of more)
    text-ahead = drop-take at size buffer ∙ ahead-is

    body-long : size - at ≡ length (body_of e) + 1 + length (lines_of more)
    body-long =
        let a = length-append (body_of e) (10 ∷ lines_of more) in
        let k = length-drop at buffer in
        let h = d.held in
        let n = buffer-long in
        let m : length (take (size - at) (drop at buffer)) ≡ size - at = length-take-le (size - at) (drop at buffer) (omega arith) in
        let q = ap length ahead-is in
        omega arith

    line-long : length (entry_line e) ≡ length (body_of e) + 1
    line-long = ap length (body-line e) ∙ length-append (body_of e) (10 ∷ [])

    front : (k : ℕ) (xs ys : List ℕ) → xs ++ ys ≡ body_of e ++ (10 ∷ lines_of more) → length xs ≡ k → k ≤ size - at → take k (drop at buffer) ≡ xs
    front k xs ys q n l = sym (take-take k (size - at) (drop at buffer) l) ∙ ap (take k) (ahead-is ∙ sym q) ∙ take_at xs ys k n

    module _ (end : ℕ) (en : end ≡ end_of 10 at (take size buffer)) where
      pub end_is : end ≡ at + length (body_of e)
      unfolding end_of
      end_is = en ∙ ap (λ t. at + length (up_to 10 t)) text-ahead ∙ ap (λ t. at + length t) (up-to e good (lines_of more))

      pub end-inside : end < size
      end-inside = let n = end_is in let b = body-long in omega arith

      line-is : take (end - at) (drop at buffer) ≡ body_of e
      line-is =
          let n = end_is in
          let b = body-long in
          front (end - at) (body_of e) (10 ∷ lines_of more) refl (omega arith) (omega arith)

      pub is-read : read_line (take (end - at) (drop at buffer)) ≡ Some (as_line e)
      is-read = ap read_line line-is ∙ read_is e good goods.0

      pub read-line : (line : Line) → read_line (take (end - at) (drop at buffer)) ≡ Some line → line.m ≡ e.m
      read-line line q =
          let k : ◌≡◌ {A = Option Line} (Some (as_line e)) (Some line) = sym is-read ∙ q in
          let i : as_line e ≡ line = cc in
          sym (ap (λ (l : Line). l.m) i)

      whole-line : take (end + 1 - at) (drop at buffer) ≡ entry_line e
      whole-line =
          let n = end_is in
          let b = body-long in
          let l = line-long in
          front (end + 1 - at) (entry_line e) (lines_of more)
          (ap (λ x. x ++ lines_of more) (body-line e) ∙ append_assoc (body_of e) (10 ∷ []) (lines_of more)) (omega arith) (omega arith)

      ahead-next : take (size - (end + 1)) (drop (end + 1) start) ≡ lines_of more
      ahead-next =
          let n = end_is in
          let b = body-long in
          let l = line-long in
          let k : ℕ = length (entry_line e) in
          let p : at + k ≡ end + 1 = omega arith in
          let q : size - at - k ≡ size - (end + 1) = omega arith in
          sym (ap₂ (λ x y. take x (drop y start)) q p)
          ∙ ap (take (size - at - k)) (sym (drop-drop k at start))
          ∙ sym (drop-take k (size - at) (drop at start))
          ∙ ap (drop k) (d.ahead ∙ ap lines_of z ∙ lines_more e more) ∙ drop_at (entry_line e) (lines_of more) k refl

      pub step_gone : e.m ≡ 0 → Dropping start size first list buffer (end + 1) to
      step_gone g =
          let n = end_is in
          let b = body-long in
          let o = d.order in
          record {
            done = d.done;
            rest = more;
            last = e.name;
            good = goods.1;
            all = d.all ∙ ap (λ r. d.done ++ lines_of (without_gone r)) z ∙ ap (λ r. d.done ++ lines_of r) (kept-gone e more g);
            place = d.place;
            order = omega arith;
            inside = omega arith;
            held = d.held;
            holds = d.holds;
            ahead = ahead-next;
          }

      pub step_kept : (e.m ≡ 0 → ⊥) → (after : List ℕ) → after ≡ written buffer to (take (end + 1 - at) (drop at buffer))
          → Dropping start size first list after (end + 1) (to + (end + 1 - at))
      step_kept g after q =
          let n = end_is in
          let b = body-long in
          let l = line-long in
          let o = d.order in
          let p = d.place in
          let i = d.inside in
          let h = d.held in
          let a = length-append d.done (entry_line e) in
          record {
            done = d.done ++ entry_line e;
            rest = more;
            last = e.name;
            good = goods.1;
            all =
                d.all ∙ ap (λ r. d.done ++ lines_of (without_gone r)) z
                ∙ ap (λ r. d.done ++ lines_of r) (kept-shaped e more g) ∙ ap (λ x. d.done ++ x) (lines_more e (without_gone more))
                ∙ sym (append_assoc d.done (entry_line e) (lines_of (without_gone more)));
            place = omega arith;
            order = omega arith;
            inside = omega arith;
            held = d.held;
            holds =
                q ∙ ap (written buffer to) whole-line ∙ ap (λ x. written x to (entry_line e)) d.holds
                ∙ ap (λ x. written (written start first d.done) x (entry_line e)) d.place
                ∙ written_on start first d.done (entry_line e) (omega arith);
            ahead = ahead-next;
          }

  -- with what a turn's calls gave
  module _ (l : at < size) (end : ℕ) (en : end ≡ end_of 10 at (take size buffer)) where
    some : (e : Entry) × (more : List Entry) × (d.rest ≡ e ∷ more)
    some = let n = ahead-long in first_of d.rest (omega arith)

    pub turn_inside : (end < size) × (at ≤ end) × (size ≤ length buffer)
    turn_inside =
        let n = end_is some.0 some.1 some.2 end en in
        let b = buffer-long in
        let h = d.held in
        (end-inside some.0 some.1 some.2 end en, omega arith, omega arith)

    -- the line can be read
    pub turn_some : IsSome (read_line (take (end - at) (drop at buffer)))
    turn_some = rw (is-read some.0 some.1 some.2 end en) refl

    pub turn : (line : Line) → read_line (take (end - at) (drop at buffer)) ≡ Some line → (after : List ℕ) (next : ℕ)
        → next ≡ cond (eqb line.m 0) to (to + (end + 1 - at))
        → after ≡ cond (eqb line.m 0) buffer (written buffer to (take (end + 1 - at) (drop at buffer)))
        → Dropping start size first list after (end + 1) next
    turn line q after next p r = go (eqb line.m 0) refl p r
      where
        m-is : line.m ≡ some.0.m
        m-is = read-line some.0 some.1 some.2 end en line q

        go : (b : Bool) → eqb line.m 0 ≡ b → next ≡ cond b to (to + (end + 1 - at))
            → after ≡ cond b buffer (written buffer to (take (end + 1 - at) (drop at buffer)))
            → Dropping start size first list after (end + 1) next
        go true c p r = rw (p, r) (step_gone some.0 some.1 some.2 end en (sym m-is ∙ eqb-true line.m 0 c))
        go false c p r = rw p (step_kept some.0 some.1 some.2 end en (λ z. eqb-false line.m 0 c (m-is ∙ z)) after r)

-- ---- room for the new first line

gone_long : (e : Entry) → T (good_entry e) → is_gone e ≡ true → 9 ≤ length (entry_line e)
unfolding entry_line gone_line cells_of
gone_long e t g =
    let n = name-some e.name (entry-good e t).named in
    let d = digits-some 4 e.revision in
    rw g (simp length-append (omega arith))

kept-short : (list : List Entry) → length (lines_of (without_gone list)) ≤ length (lines_of list)
unfolding without_gone lines_of
kept-short [] = omega arith
kept-short (e ∷ list) = go (is_gone e) (kept-short list)
  where
    go : (b : Bool) → length (lines_of (without_gone list)) ≤ length (lines_of list)
        → length (lines_of (cond b (without_gone list) (e ∷ without_gone list))) ≤ length (entry_line e ++ lines_of list)
    go true i = simp length-append (omega arith)
    go false i = simp length-append (omega arith)

kept-shorter : (last : List ℕ) (list : List Entry) → T (good_from last list) → none_gone list ≡ false
    → length (lines_of (without_gone list)) + 9 ≤ length (lines_of list)
unfolding without_gone lines_of none_gone
kept-shorter last [] t n = absurd (true≢false n)
kept-shorter last (e ∷ list) t n =
    go (is_gone e) refl n (kept-short list) (kept-shorter e.name list (good_more last e list t).1)
  where
    go : (b : Bool) → is_gone e ≡ b → (not b && none_gone list) ≡ false → length (lines_of (without_gone list)) ≤ length (lines_of list)
        → (none_gone list ≡ false → length (lines_of (without_gone list)) + 9 ≤ length (lines_of list))
        → length (lines_of (cond b (without_gone list) (e ∷ without_gone list))) + 9 ≤ length (entry_line e ++ lines_of list)
    go true d n k i = let l = gone_long e (good_more last e list t).0 d in simp length-append (omega arith)
    go false d n k i = let j = i n in simp length-append (omega arith)

first-most : (floor : ℕ) → length (first_line 2 floor) ≤ 15
first-most floor = let a = first_two floor in let m = digits-most 4 floor in omega arith

first-least : (version floor : ℕ) (list : List Entry) → T (good_version version floor list) → 9 ≤ length (first_line version floor)
first-least version floor list t = go (versions version floor list t)
  where
    go : ((version ≡ 1) × (floor ≡ 0) × T (none_gone list)) ⊎ ((version ≡ 2) × (floor ≤ 65535)) → 9 ≤ length (first_line version floor)
    go (inl (v, f, n)) = let a = first_one floor in rw v (omega arith)
    go (inr (v, m)) = let a = first_two floor in rw v (omega arith)

-- ---- Compaction
module _ (buffer : List ℕ) (size : ℕ) where
  abbrev Compact : Result ℕ Refusal → List ℕ → Type 0
  Compact r after =
      (compacted_number r ≡ compact_refusal buffer size) × ((compacted_figures r ≡ compact_figures buffer size) × (after ≡ compact_buffer buffer size))

  pub compact-bad : formed buffer size ≡ false → Compact (Err Refusal.CatalogueText) buffer
  unfolding compact_figures compact_buffer compact_refusal
  compact-bad e = rw e (refl, (refl, refl))

  compact-new : formed buffer size ≡ true → (n : ℕ) → n ≡ length (compacted_text buffer size) → (after : List ℕ)
      → after ≡ with_text (compacted_text buffer size) buffer
      → Compact (Ok n) after
  unfolding compact_figures compact_buffer compact_refusal
  compact-new e n p after q = rw e (refl, (ap (λ x. x ∷ []) p, q))

-- what holds once the gone lines are dropped: there is room for the new first line, and with it the text is compacted
pub record Compacts (found : Found) (buffer : List ℕ) (size floor end : ℕ) (after : List ℕ) : Type 0 where
  pub order : found.first ≤ end
  pub most : end - found.first + length (first_line 2 floor) ≤ 4096
  pub fits : SpliceFits after end 0 found.first (first_line 2 floor)
  pub done : (last : List ℕ) → last ≡ spliced_in after end 0 found.first (first_line 2 floor)
      → Compact buffer size (Ok (end - found.first + length (first_line 2 floor))) last

module _ (found : Found) (buffer : List ℕ) (size : ℕ) (name : List ℕ) (p : FoundIn found buffer size name) where
  abbrev cat : Catalogue
  cat = catalogue_in buffer size

  abbrev old : List ℕ
  old = first_line cat.version cat.floor

  good-cat : T (good_catalogue cat)
  good-cat = formed-good buffer size p.whole

  first-is : found.first ≡ length old
  first-is = ap (λ (f : Found). f.first) p.is

  floor-is : found.floor ≡ cat.floor
  floor-is = ap (λ (f : Found). f.floor) p.is

  none_is : none_gone cat.list ≡ eqb found.top 0
  none_is = none-largest [] cat.list (cat-list cat good-cat) ∙ ap (λ (f : Found). eqb f.top 0) (sym p.is)

  text-is : take size buffer ≡ old ++ lines_of cat.list
  unfolding catalogue_text
  text-is = sym (formed-text buffer size p.whole)

  size_is : size ≡ length old + length (lines_of cat.list)
  size_is =
      let h = (formed-parts buffer size p.whole).held in
      sym (length-take-le size buffer h) ∙ ap length text-is ∙ length-append old (lines_of cat.list)

  pub lines_at : LinesAt buffer size found.first cat.list
  lines_at =
      let h = (formed-parts buffer size p.whole).held in
      let s = size_is in
      let f = first-is in
      record {
        inside = omega arith;
        held = h;
        good = cat-list cat good-cat;
        lines =
            ap (λ x. take (size - x) (drop x buffer)) first-is ∙ sym (drop-take (length old) size buffer) ∙ ap (drop (length old)) text-is
            ∙ drop_at old (lines_of cat.list) (length old) refl;
      }

  none-text : found.top ≡ 0 → compacted_text buffer size ≡ catalogue_text cat
  unfolding compacted_text compacted
  none-text z = let n : none_gone cat.list ≡ true = none_is ∙ eq-eqb found.top 0 z in rw n

  -- with no gone line
  pub compact-none : found.top ≡ 0 → Compact buffer size (Ok size) buffer
  compact-none z =
      let c = none-text z in
      compact-new buffer size p.whole size (sym (formed-long buffer size p.whole) ∙ ap length (sym c)) buffer
      (sym (with-same buffer size p.whole) ∙ ap (λ t. with_text t buffer) (sym c))

  -- with gone lines
  module _ (some : found.top ≡ 0 → ⊥) (floor : ℕ) (f : floor ≡ max found.floor found.top) where
    left : List ℕ
    left = lines_of (without_gone cat.list)

    any : none_gone cat.list ≡ false
    any = none_is ∙ ne_eqb found.top 0 some

    new_is : compacted_text buffer size ≡ first_line 2 floor ++ left
    unfolding compacted_text compacted catalogue_text left
    new_is =
        let t : found.top ≡ largest_gone 0 cat.list = ap (λ (f : Found). f.top) p.is in
        let e : max cat.floor (largest_gone 0 cat.list) ≡ floor = ap₂ max (sym floor-is) (sym t) ∙ sym f in
        rw (any, e)

    grows : length old ≤ length (first_line 2 floor)
    grows =
        let g = floor-is in
        first-grows cat.version cat.floor floor cat.list (cat-version cat good-cat) (omega arith)

    room : length (first_line 2 floor ++ left) ≤ size
    unfolding left
    room =
        let a = length-append (first_line 2 floor) (lines_of (without_gone cat.list)) in
        let m = first-most floor in
        let l = first-least cat.version cat.floor cat.list (cat-version cat good-cat) in
        let k = kept-shorter [] cat.list (cat-list cat good-cat) any in
        let s = size_is in
        omega arith

    module _ (after : List ℕ) (end : ℕ) (e : end ≡ found.first + length (lines_of (without_gone cat.list)))
        (q : after ≡ written buffer found.first (lines_of (without_gone cat.list))) where
      after_is : after ≡ with_text (old ++ left) buffer
      unfolding written with_text left
      after_is =
          let s = size_is in
          let t : take (length old) buffer ≡ old =
          sym (take-take (length old) size buffer (omega arith)) ∙ ap (take (length old)) text-is ∙ take_at old (lines_of cat.list) (length old) refl in
          q ∙ rw (first-is, t, length-append) (sym (append_assoc old (lines_of (without_gone cat.list)) _))

      held : length (first_line 2 floor ++ left) ≤ length buffer
      held = let h = (formed-parts buffer size p.whole).held in let r = room in omega arith

      end-is-long : length (old ++ left) ≡ end
      unfolding left
      end-is-long = let a = length-append old (lines_of (without_gone cat.list)) in let f = first-is in omega arith

      long : end - found.first + length (first_line 2 floor) ≡ length (first_line 2 floor ++ left)
      long =
          let a = length-append old left in
          let b = length-append (first_line 2 floor) left in
          let g = first-is in
          let h = end-is-long in
          omega arith

      pub compacts : Compacts found buffer size floor end after
      unfolding left
      compacts =
          let r = room in
          let a = length-append (first_line 2 floor) (lines_of (without_gone cat.list)) in
          let m = (formed-parts buffer size p.whole).most in
          record {
            order = omega arith;
            most = omega arith;
            fits = rw (← end-is-long, first-is) (first_fits buffer after old (first_line 2 floor) left after_is grows held);
            done = λ last w. compact-new buffer size p.whole _ (long ∙ ap length (sym new_is)) last
                (w ∙ rw (← end-is-long, first-is, new_is) (first_spliced buffer after old (first_line 2 floor) left after_is grows held));
          }

-- a compacted text is not longer
pub compact-room-of : (buffer : List ℕ) (size : ℕ) → formed buffer size ≡ true → length (compacted_text buffer size) ≤ size
compact-room-of buffer size w = elim (ℕ_discrete found.top 0) [
  | yes z ↦ (let n = formed-long buffer size w in let c = none-text found buffer size [] p z in rw c (omega arith))
  | no n ↦ (
      let floor : ℕ = max found.floor found.top in
      let c = new_is found buffer size [] p n floor refl in
      rw c (room found buffer size [] p n floor refl)
      )
]
  where
    found : Found
    found = found_in [] (catalogue_in buffer size)

    p : FoundIn found buffer size []
    p = record { whole = w; is = refl }
