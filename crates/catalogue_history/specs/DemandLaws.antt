-- Proof: what put, remove and compaction leave.
use Rattle.std.specs.Prelude.{◌≡◌, ◌⊎◌, Bool, cond, ◌||◌, ◌&&◌, List, [], ◌∷◌, ℕ, zero, suc, ◌+◌, ◌≤◌, max, T, eqb, take, drop}
use Rattle.std.proofs.Math.Path.{refl, ap}
use Rattle.std.proofs.Common.{sym, ◌∙◌, subst, inl, inr, true≢false, arith}
use Rattle.std.proofs.Math.Bool.{true, false}
use borrow.Author.Tests.{eqb-false, ltb-false, not-false, le-leb}
use Rattle.std.proofs.Math.ListN.{length}
use Rattle.counting.specs.TestLaws.{and_l, and_r, and_intro}
use Rattle.code.specs.Refusals.{refuse, ◌or_else◌, unless_refused}
use Rattle.code.specs.RefusalsLaws.{refuse-zero, or_else-zero}
use Rattle.shape.specs.Laws.{sold-of-refusal}
use Rattle.shape.specs.Shapes.{byte_limits}
use Rattle.code.specs.Limits.{sale_refusal_in}
use Rattle.text.specs.Fields.{same}
use Rattle.text.specs.FieldLaws.{same-eq}
use Rattle.catalogue_text.specs.Names.{good_name, before}
use Rattle.catalogue_text.specs.NamesLaws.{true-is, name-first}
use Rattle.catalogue_text.specs.Catalogue.{Entry, is_gone, shape_or_gone, good_entry, good_from, good_list, none_gone, Catalogue, good_version, good_catalogue}
use Rattle.catalogue_text.specs.Catalogue.{catalogue_text}
use Rattle.catalogue_text.specs.LineLaws.{entry-good, good-entry, shape-numbers, gone-numbers}
use Rattle.catalogue_text.specs.CatalogueLaws.{cat-list, cat-version, versions, version-two}
use Rattle.catalogue_text.specs.Changes.{entry_for, entry_in, put_in, last_revision, next_entry, changed_by, without_gone, largest_gone, compacted}
use Rattle.catalogue_text.proofs.ChangesLaws.{put-found, put-others, put-good, kept-good, kept_entry, largest-most, largest-holds}
use Rattle.catalogue_text.specs.Buffers.{formed, catalogue_in, with_text}
use Rattle.catalogue_text.specs.BuffersLaws.{formed-parts, formed-good, formed-long, with-same, with-front, with-past, with-length, with_read, with-formed}
use Rattle.catalogue_calls.specs.Calls.{text_refusal, name_refusal, stored, found_refusal, lookup_refusal, entry_figures, lookup_figures, changed_entry, changed_text}
use Rattle.catalogue_calls.specs.Calls.{expected_refusal, change_refusal, change_figures, put_refusal, remove_refusal, put_figures, put_buffer, remove_figures}
use Rattle.catalogue_calls.specs.Calls.{remove_buffer}
use Rattle.catalogue_compact.specs.Compaction.{compact_refusal, compacted_text, compact_figures, compact_buffer}
use Rattle.catalogue_compact.specs.Laws.{compact-room-of}
use Rattle.catalogue_history.specs.Demand.{looked_in, ChangeDone, ChangeRefused, CompactDone}

-- a stored revision is at most 65,535
revision-most : (name last : List ℕ) (list : List Entry) → T (good_from last list) → (entry_for name list).revision ≤ 65535
unfolding entry_for good_from
revision-most name last [] t = omega arith
revision-most name last (e ∷ list) t = go (same e.name name) (revision-most name e.name list (and_r (good_entry e) (good_from e.name list) more))
  where
    more : T (good_entry e && good_from e.name list)
    more = and_r (before last e.name) (good_entry e && good_from e.name list) t

    go : (b : Bool) → (entry_for name list).revision ≤ 65535 → (cond b e (entry_for name list)).revision ≤ 65535
    go true i = (entry-good e (and_l (good_entry e) (good_from e.name list) more)).most
    go false i = i

pub floor-most : (cat : Catalogue) → T (good_catalogue cat) → cat.floor ≤ 65535
floor-most cat t = go (versions cat.version cat.floor cat.list (cat-version cat t))
  where
    go : ((cat.version ≡ 1) × (cat.floor ≡ 0) × T (none_gone cat.list)) ⊎ ((cat.version ≡ 2) × (cat.floor ≤ 65535)) → cat.floor ≤ 65535
    go (inl (v, f, n)) = omega arith
    go (inr (v, l)) = l

pub last-most : (floor : ℕ) (e : Entry) (k : ℕ) → floor ≤ k → e.revision ≤ k → last_revision floor e ≤ k
last-most floor e k f r = go (eqb e.revision 0)
  where
    go : (b : Bool) → cond b floor e.revision ≤ k
    go true = f
    go false = r

good-two : (floor : ℕ) (list : List Entry) → T (good_list list) → floor ≤ 65535 → T (good_catalogue (record { version = 2; floor = floor; list = list }))
unfolding good_catalogue
good-two floor list g l =
    and_intro (good_list list) (good_version 2 floor list) g (subst T (sym (version-two floor list)) (true-is _ (le-leb floor 65535 l)))

-- the catalogue after a change is good
pub changed-good : (cat : Catalogue) → T (good_catalogue cat) → (name : List ℕ) → good_name name ≡ true → (m w c : ℕ) → shape_or_gone m w c ≡ true
    → (last_revision cat.floor (entry_in name cat) ≡ 65535 → ⊥) → T (good_catalogue (changed_by name m w c cat))
unfolding changed_by next_entry
changed-good cat t name n m w c h r =
    let a = last-most cat.floor (entry_in name cat) 65535 (floor-most cat t) (revision-most name [] cat.list (cat-list cat t)) in
    let e : Entry = record { name = name; revision = last_revision cat.floor (entry_in name cat) + 1; m = m; w = w; c = c } in
    good-two cat.floor (put_in e cat.list)
    (put-good e (good-entry e (true-is _ n) (omega arith) (omega arith) h) [] (name-first name (true-is _ n)) cat.list (cat-list cat t))
    (floor-most cat t)

-- and after a compaction
pub compacted-good : (cat : Catalogue) → T (good_catalogue cat) → T (good_catalogue (compacted cat))
unfolding compacted
compacted-good cat t = go (none_gone cat.list)
  where
    go : (b : Bool)
        → T (good_catalogue (cond b cat (record { version = 2; floor = max cat.floor (largest_gone 0 cat.list); list = without_gone cat.list })))
    go true = t
    go false =
        let f = floor-most cat t in
        let m = largest-most 65535 0 [] cat.list (omega arith) (omega arith) (cat-list cat t) in
        good-two (max cat.floor (largest_gone 0 cat.list)) (without_gone cat.list) (kept-good [] cat.list (cat-list cat t)) (omega arith)

-- the entry of a name after it: as it was, or none if it was gone, and then its revision is at most the floor
pub compacted-entry : (cat : Catalogue) → T (good_catalogue cat) → (name : List ℕ)
    → (entry_in name (compacted cat) ≡ entry_in name cat)
    ⊎ ((is_gone (entry_in name cat) ≡ true) × (entry_in name (compacted cat) ≡ entry_for name []) × ((entry_in name cat).revision ≤ (compacted cat).floor))
unfolding compacted
compacted-entry cat t name =
    go (none_gone cat.list) (is_gone (entry_in name cat)) refl (kept_entry name [] cat.list (cat-list cat t)) (largest-holds name 0 cat.list)
  where
    next : Bool → Catalogue
    next n = cond n cat (record { version = 2; floor = max cat.floor (largest_gone 0 cat.list); list = without_gone cat.list })

    go : (n g : Bool) → is_gone (entry_in name cat) ≡ g
        → entry_for name (without_gone cat.list) ≡ cond (is_gone (entry_in name cat)) (entry_for name []) (entry_in name cat)
        → (is_gone (entry_in name cat) ≡ true → (entry_in name cat).revision ≤ largest_gone 0 cat.list)
        → (entry_in name (next n) ≡ entry_in name cat)
        ⊎ ((is_gone (entry_in name cat) ≡ true) × (entry_in name (next n) ≡ entry_for name []) × ((entry_in name cat).revision ≤ (next n).floor))
    go true g d e l = inl refl
    go false true d e l = let k = l d in inr (d, e ∙ rw d, omega arith)
    go false false d e l = inl (e ∙ rw d)

or-none : (a b : Bool) → (a || b) ≡ false → (a ≡ false) × (b ≡ false)
or-none true b e = absurd (true≢false e)
or-none false b e = (refl, e)

-- the number of a lookup, and the figures of its entry unless it is refused
abbrev looked_at : ℕ → Entry → ℕ × List ℕ
looked_at r e = (r, unless_refused r (entry_figures e) [])

looked-by : (buffer after : List ℕ) (size new : ℕ) (name : List ℕ) → formed buffer size ≡ true → formed after new ≡ true
    → stored after new name ≡ stored buffer size name → looked_in after new name ≡ looked_in buffer size name
unfolding looked_in lookup_figures lookup_refusal text_refusal found_refusal
looked-by buffer after size new name f g e = rw (f, g, e)

pub looked-is : (buffer : List ℕ) (size : ℕ) (name : List ℕ) (e : Entry) → formed buffer size ≡ true → good_name name ≡ true → stored buffer size name ≡ e
    → looked_in buffer size name ≡ cond (is_gone e) (18, []) (0, entry_figures e)
unfolding looked_in lookup_figures lookup_refusal text_refusal name_refusal found_refusal
looked-is buffer size name e f g s = rw (f, g, s) (go (is_gone e))
  where
    go : (b : Bool) → looked_at (refuse 18 b) e ≡ cond b (18, []) (0, entry_figures e)
    go true = refl
    go false = refl

-- ---- a change that is done
module _ (buffer : List ℕ) (size : ℕ) (name : List ℕ) (m w c : ℕ) (whole : formed buffer size ≡ true) (named : good_name name ≡ true)
    (shaped : shape_or_gone m w c ≡ true) (z : change_refusal buffer size name m w c ≡ 0) where
  abbrev cat : Catalogue
  cat = catalogue_in buffer size

  abbrev new : List ℕ
  new = changed_text buffer size name m w c

  changes : (last_revision cat.floor (stored buffer size name) ≡ 65535 → ⊥) × (length new ≤ 4096) × (length new ≤ length buffer)
  unfolding change_refusal
  changes =
      let b = or_else-zero (refuse 20 (eqb (last_revision cat.floor (stored buffer size name)) 65535)) _ z in
      let d = or-none _ _ (refuse-zero 20 _ b.1) in
      (eqb-false _ 65535 (refuse-zero 19 _ b.0), ltb-false 4096 (length new) d.0, ltb-false (length buffer) (length new) d.1)

  good : T (good_catalogue (changed_by name m w c cat))
  good = changed-good cat (formed-good buffer size whole) name named m w c shaped changes.0

  pub change-read : catalogue_in (with_text new buffer) (length new) ≡ changed_by name m w c cat
  unfolding changed_text
  change-read = with_read (changed_by name m w c cat) good buffer changes.2

  pub change-formed : formed (with_text new buffer) (length new) ≡ true
  unfolding changed_text
  change-formed = with-formed (changed_by name m w c cat) good buffer changes.2 changes.1

  entry-name : (changed_entry buffer size name m w c).name ≡ name
  unfolding next_entry
  entry-name = refl

  entry_here : entry_in name (changed_by name m w c cat) ≡ changed_entry buffer size name m w c
  unfolding changed_by next_entry
  entry_here = put-found (next_entry name m w c cat) cat.list

  entry-else : (other : List ℕ) → (other ≡ name → ⊥) → entry_in other (changed_by name m w c cat) ≡ stored buffer size other
  unfolding changed_by
  entry-else other n = put-others (next_entry name m w c cat) cat.list other (differ (same (next_entry name m w c cat).name other) refl)
    where
      differ : (b : Bool) → same (next_entry name m w c cat).name other ≡ b → b ≡ false
      differ true e = absurd (n (sym (same-eq (next_entry name m w c cat).name other e) ∙ entry-name))
      differ false e = refl

  shape_is : ◌≡◌ {A = ℕ × List ℕ} (cond (is_gone (changed_entry buffer size name m w c)) (18, []) (0, entry_figures (changed_entry buffer size name m w c)))
      (cond (eqb m 0) (18, []) (0, (changed_entry buffer size name m w c).revision ∷ m ∷ w ∷ c ∷ []))
  unfolding next_entry
  shape_is = refl

  pub change-done : (number : ℕ) → number ≡ 0 → (figures : List ℕ) → figures ≡ change_figures buffer size name m w c
      → (after : List ℕ) → after ≡ with_text new buffer → ChangeDone number figures after buffer size name m w c
  change-done number z figures a after e = rw e (record {
    done = z;
    answered = a;
    text = with-front new buffer changes.2;
    whole = change-formed;
    read = change-read;
    found =
        looked-is (with_text new buffer) (length new) name (changed_entry buffer size name m w c) change-formed named (ap (entry_in name) change-read ∙ entry_here)
        ∙ shape_is;
    others = λ other n.
        looked-by buffer (with_text new buffer) size (length new) other whole change-formed (ap (entry_in other) change-read ∙ entry-else other n);
    past = with-past new buffer changes.2;
    lent = with-length new buffer changes.2;
  })

-- ---- Put
module _ (m w c : ℕ) (name : List ℕ) (expected : ℕ) (buffer : List ℕ) (size : ℕ) where
  -- a refused put changes no byte
  pub put_refused : (r : ℕ) → put_refusal m w c name expected buffer size ≡ suc r
      → ChangeRefused (put_refusal m w c name expected buffer size) (put_figures m w c name expected buffer size)
      (put_buffer m w c name expected buffer size) buffer (suc r)
  unfolding put_figures put_buffer
  put_refused r e = record { answered = e; none = rw e; stays = rw e }

  module _ (z : put_refusal m w c name expected buffer size ≡ 0) where
    pub put-tests : (sale_refusal_in byte_limits m w c ≡ 0) × (formed buffer size ≡ true) × (good_name name ≡ true) × (change_refusal buffer size name m w c ≡ 0)
    unfolding put_refusal text_refusal name_refusal
    put-tests =
        let a = or_else-zero _ _ z in
        let b = or_else-zero _ _ a.1 in
        let d = or_else-zero _ _ b.1 in
        let e = or_else-zero (expected_refusal buffer size name expected) _ d.1 in
        (a.0, not-false _ (refuse-zero 15 _ b.0), not-false _ (refuse-zero 16 _ d.0), e.1)

    pub put-shaped : shape_or_gone m w c ≡ true
    put-shaped = (shape-numbers m w c (sold-of-refusal m w c put-tests.0).good).0

    -- after a put, lookup of that name gives that shape and revision, and of every other name what it gave before
    pub put-done : ChangeDone (put_refusal m w c name expected buffer size) (put_figures m w c name expected buffer size)
        (put_buffer m w c name expected buffer size) buffer size name m w c
    unfolding put_figures put_buffer
    put-done = change-done buffer size name m w c put-tests.1 put-tests.2 put-shaped put-tests.3 _ z _ (rw z) _ (rw z)

-- ---- Remove
module _ (name : List ℕ) (expected : ℕ) (buffer : List ℕ) (size : ℕ) where
  -- a refused remove changes no byte
  pub remove-refused : (r : ℕ) → remove_refusal name expected buffer size ≡ suc r
      → ChangeRefused (remove_refusal name expected buffer size) (remove_figures name expected buffer size)
      (remove_buffer name expected buffer size) buffer (suc r)
  unfolding remove_figures remove_buffer
  remove-refused r e = record { answered = e; none = rw e; stays = rw e }

  module _ (z : remove_refusal name expected buffer size ≡ 0) where
    pub remove-tests : (formed buffer size ≡ true) × (good_name name ≡ true) × (change_refusal buffer size name 0 0 0 ≡ 0)
    unfolding remove_refusal text_refusal name_refusal
    remove-tests =
        let a = or_else-zero _ _ z in
        let b = or_else-zero _ _ a.1 in
        let d = or_else-zero (found_refusal buffer size name) _ b.1 in
        let e = or_else-zero (expected_refusal buffer size name expected) _ d.1 in
        (not-false _ (refuse-zero 15 _ a.0), not-false _ (refuse-zero 16 _ b.0), e.1)

    -- a removed name is not found, and every other name as before
    pub remove-done : ChangeDone (remove_refusal name expected buffer size) (remove_figures name expected buffer size)
        (remove_buffer name expected buffer size) buffer size name 0 0 0
    unfolding remove_figures remove_buffer
    remove-done = change-done buffer size name 0 0 0 remove-tests.0 remove-tests.1 gone-numbers remove-tests.2 _ z _ (rw z) _ (rw z)

-- ---- Compaction
module _ (buffer : List ℕ) (size : ℕ) (whole : formed buffer size ≡ true) where
  abbrev held : Catalogue
  held = catalogue_in buffer size

  abbrev left : List ℕ
  left = compacted_text buffer size

  room : length left ≤ size
  room = compact-room-of buffer size whole

  after : compact_buffer buffer size ≡ with_text left buffer
  unfolding compact_buffer compact_refusal
  after = rw whole

  less : (length left ≤ length buffer) × (length left ≤ 4096)
  less = let f = formed-parts buffer size whole in let h = f.held in let m = f.most in let r = room in (omega arith, omega arith)

  good_left : T (good_catalogue (compacted held))
  good_left = compacted-good held (formed-good buffer size whole)

  pub compact-read : catalogue_in (with_text left buffer) (length left) ≡ compacted held
  unfolding compacted_text
  compact-read = with_read (compacted held) good_left buffer less.0

  pub compact-formed : formed (with_text left buffer) (length left) ≡ true
  unfolding compacted_text
  compact-formed = with-formed (compacted held) good_left buffer less.0 less.1

  none-gone : (name : List ℕ) → is_gone (entry_for name []) ≡ true
  unfolding entry_for
  none-gone name = refl

  looked-gone : (b : List ℕ) (n : ℕ) (name : List ℕ) → formed b n ≡ true → is_gone (stored b n name) ≡ true
      → looked_in b n name ≡ looked_at (name_refusal name or_else 18) (stored b n name)
  unfolding looked_in lookup_figures lookup_refusal text_refusal found_refusal
  looked-gone b n name f g = rw (f, g)

  refused-alike : (r : ℕ) (e f : Entry) → looked_at (r or_else 18) e ≡ looked_at (r or_else 18) f
  refused-alike zero e f = refl
  refused-alike (suc r) e f = refl

  found_alike : (name : List ℕ) → looked_in (with_text left buffer) (length left) name ≡ looked_in buffer size name
  found_alike name = go (compacted-entry held (formed-good buffer size whole) name)
    where
      go : (entry_in name (compacted held) ≡ entry_in name held)
          ⊎ ((is_gone (entry_in name held) ≡ true) × (entry_in name (compacted held) ≡ entry_for name [])
          × ((entry_in name held).revision ≤ (compacted held).floor))
          → looked_in (with_text left buffer) (length left) name ≡ looked_in buffer size name
      go (inl e) = looked-by buffer (with_text left buffer) size (length left) name whole compact-formed (ap (entry_in name) compact-read ∙ e)
      go (inr (g, e, l)) =
          let h : is_gone (stored (with_text left buffer) (length left) name) ≡ true = ap is_gone (ap (entry_in name) compact-read ∙ e) ∙ none-gone name in
          looked-gone (with_text left buffer) (length left) name compact-formed h
          ∙ refused-alike (name_refusal name) (stored (with_text left buffer) (length left) name) (stored buffer size name)
          ∙ sym (looked-gone buffer size name whole g)

  same_text : none_gone held.list ≡ true → left ≡ catalogue_text held
  unfolding compacted_text compacted
  same_text n = rw n

  -- "Compaction drops all gone lines and gives their room back"
  pub compact-done : CompactDone buffer size
  unfolding compact_figures compact_refusal
  compact-done = record {
    done = rw whole;
    answered = rw whole;
    text = ap (take (length left)) after ∙ with-front left buffer less.0;
    whole = ap (λ b. formed b (length left)) after ∙ compact-formed;
    read = ap (λ b. catalogue_in b (length left)) after ∙ compact-read;
    found = λ name. ap (λ b. looked_in b (length left) name) after ∙ found_alike name;
    past = ap (drop (length left)) after ∙ with-past left buffer less.0;
    lent = ap length after ∙ with-length left buffer less.0;
    none = λ n. (after ∙ ap (λ t. with_text t buffer) (same_text n) ∙ with-same buffer size whole, ap length (same_text n) ∙ formed-long buffer size whole);
  }
