-- Proof: a name with a revision never stands for two shapes.
use Rattle.std.specs.Prelude.{◌≡◌, ◌⊎◌, Bool, true, false, cond, ◌&&◌, List, [], ◌∷◌, ◌++◌, ℕ, zero, suc, ◌+◌, ◌≤◌, length, get_or, take, T}
use Rattle.std.proofs.Math.Path.{refl}
use Rattle.std.proofs.Common.{sym, ap, ap₂, ◌∙◌, subst, inl, inr, true≢false, arith, eq-eqb, ne_eqb, le-leb, length-append, take_at, length-take-le}
use Rattle.std.proofs.Math.Decide.{ℕ_discrete}
use Rattle.counting.specs.TestLaws.{and_l, and_r}
use Rattle.code.specs.Refusals.{unless_refused}
use Rattle.code.specs.RefusalsLaws.{refuse-zero, or_else-zero}
use Rattle.text.specs.Fields.{same}
use Rattle.text.specs.FieldLaws.{same-eq}
use Rattle.catalogue_text.specs.Names.{before}
use Rattle.catalogue_text.specs.NamesLaws.{is_true, same_refl, before-only, before-trans, same-sym}
use Rattle.catalogue_text.specs.Catalogue.{Entry, is_gone, good_entry, good_from, good_list, Catalogue, good_catalogue, catalogue_of, of_form}
use Rattle.catalogue_text.specs.LineLaws.{entry-good}
use Rattle.catalogue_text.specs.CatalogueLaws.{cat-list}
use Rattle.catalogue_text.specs.Changes.{entry_for, entry_in, last_revision, next_entry, changed_by, compacted}
use Rattle.catalogue_text.proofs.ChangesLaws.{put-found, put-others, compacted-floor}
use Rattle.catalogue_text.specs.Buffers.{formed, catalogue_in}
use Rattle.catalogue_text.specs.BuffersLaws.{formed-good, formed-parts}
use Rattle.catalogue_calls.specs.Calls.{text_refusal, name_refusal, found_refusal, stored, lookup_refusal, entry_figures, lookup_figures, put_refusal, put_figures}
use Rattle.catalogue_calls.specs.Calls.{put_buffer, remove_refusal, remove_figures, remove_buffer}
use Rattle.catalogue_compact.specs.Compaction.{compact_figures, compact_buffer}
use Rattle.catalogue_history.specs.Demand.{ChangeDone, ChangeRefused}
use Rattle.catalogue_history.specs.DemandLaws.{compacted-entry, last-most, put-done, put_refused, remove-done, remove-refused}
use Rattle.catalogue_history.specs.DemandLaws.{compact-done}
use Rattle.catalogue_history.specs.History.{Lent, CatalogueCall, put, remove, compact, lookup, lend, after_call, after_calls}
use Rattle.catalogue_history.specs.History.{read_in}
use Rattle.catalogue_history.specs.History.{LineOf, here, there, LineIn, Between, NeverTwo}

-- the last revision of a name
abbrev last_in : List ℕ → Catalogue → ℕ
last_in name cat = last_revision cat.floor (entry_in name cat)

last_some : (floor : ℕ) (e : Entry) → (e.revision ≡ 0 → ⊥) → last_revision floor e ≡ e.revision
last_some floor e n = rw (ne_eqb e.revision 0 n)

last_none : (floor : ℕ) (e : Entry) → e.revision ≡ 0 → last_revision floor e ≡ floor
last_none floor e z = rw (eq-eqb e.revision 0 z)

-- what a step keeps of a name: the floor and its last revision don't fall, and while that stays its line is the same or there is none
record Kept (name : List ℕ) (cat next : Catalogue) : Type 0 where
  floor : cat.floor ≤ next.floor
  last : last_in name cat ≤ last_in name next
  line : last_in name cat ≡ last_in name next → (entry_in name next ≡ entry_in name cat) ⊎ ((entry_in name next).revision ≡ 0)

kept_same : (name : List ℕ) (cat : Catalogue) → Kept name cat cat
kept_same name cat = record { floor = omega arith; last = omega arith; line = λ e. inl refl }

kept_on : (name : List ℕ) (a b c : Catalogue) → Kept name a b → Kept name b c → Kept name a c
kept_on name a b c k l =
    let p = k.floor in
    let q = l.floor in
    let r = k.last in
    let s = l.last in
    record { floor = omega arith; last = omega arith; line = λ e. go (k.line (omega arith)) (l.line (omega arith)) }
  where
    go : (entry_in name b ≡ entry_in name a) ⊎ ((entry_in name b).revision ≡ 0) → (entry_in name c ≡ entry_in name b) ⊎ ((entry_in name c).revision ≡ 0)
        → (entry_in name c ≡ entry_in name a) ⊎ ((entry_in name c).revision ≡ 0)
    go p (inr z) = inr z
    go (inl p) (inl q) = inl (q ∙ p)
    go (inr z) (inl q) = inr (ap (λ (e : Entry). e.revision) q ∙ z)

-- ---- a change, of a shape or of none
module _ (name : List ℕ) (m w c : ℕ) (cat : Catalogue) where
  changed-here : entry_in name (changed_by name m w c cat) ≡ next_entry name m w c cat
  unfolding changed_by next_entry
  changed-here = put-found (record { name = name; revision = last_in name cat + 1; m = m; w = w; c = c }) cat.list

  changed-else : (other : List ℕ) → same name other ≡ false → entry_in other (changed_by name m w c cat) ≡ entry_in other cat
  unfolding changed_by next_entry
  changed-else other n = put-others (record { name = name; revision = last_in name cat + 1; m = m; w = w; c = c }) cat.list other n

  changed-floor : (changed_by name m w c cat).floor ≡ cat.floor
  unfolding changed_by
  changed-floor = refl

  next-revision : (next_entry name m w c cat).revision ≡ last_in name cat + 1
  unfolding next_entry
  next-revision = refl

  changed-last : last_in name (changed_by name m w c cat) ≡ last_in name cat + 1
  changed-last =
      let r : (entry_in name (changed_by name m w c cat)).revision ≡ last_in name cat + 1 = ap (λ (e : Entry). e.revision) changed-here ∙ next-revision in
      last_some (changed_by name m w c cat).floor (entry_in name (changed_by name m w c cat)) (λ z. omega arith) ∙ r

  change-kept : (other : List ℕ) → Kept other cat (changed_by name m w c cat)
  change-kept other = go (same name other) refl
    where
      go : (b : Bool) → same name other ≡ b → Kept other cat (changed_by name m w c cat)
      go true d =
          let l = changed-last in
          let f = changed-floor in
          subst (λ x. Kept x cat (changed_by name m w c cat)) (same-eq name other d)
          (record { floor = omega arith; last = omega arith; line = λ e. absurd (omega arith) })
      go false d =
          let e = changed-else other d in
          let f = changed-floor in
          let l : last_in other (changed_by name m w c cat) ≡ last_in other cat = ap₂ last_revision f e in
          record { floor = omega arith; last = omega arith; line = λ q. inl e }

-- ---- a compaction
empty-revision : (name : List ℕ) → (entry_for name []).revision ≡ 0
unfolding entry_for
empty-revision name = refl

compact-kept : (cat : Catalogue) → T (good_catalogue cat) → (name : List ℕ) → Kept name cat (compacted cat)
compact-kept cat t name = go (compacted-entry cat t name)
  where
    f : cat.floor ≤ (compacted cat).floor
    f = compacted-floor cat

    stays : (e : Entry) (a b : ℕ) → a ≤ b → last_revision a e ≤ last_revision b e
    stays e a b l = elim (ℕ_discrete e.revision 0) [
      | yes z ↦ (let p = last_none a e z in let q = last_none b e z in omega arith)
      | no n ↦ (let p = last_some a e n in let q = last_some b e n in omega arith)
    ]

    go : (entry_in name (compacted cat) ≡ entry_in name cat)
        ⊎ ((is_gone (entry_in name cat) ≡ true) × (entry_in name (compacted cat) ≡ entry_for name []) × ((entry_in name cat).revision ≤ (compacted cat).floor))
        → Kept name cat (compacted cat)
    go (inl e) =
        let l = stays (entry_in name cat) cat.floor (compacted cat).floor f in
        let q = ap (last_revision (compacted cat).floor) e in
        record { floor = f; last = omega arith; line = λ p. inl e }
    go (inr (g, e, l)) =
        let z : (entry_in name (compacted cat)).revision ≡ 0 = ap (λ (x : Entry). x.revision) e ∙ empty-revision name in
        let q = last_none (compacted cat).floor (entry_in name (compacted cat)) z in
        let m = last-most cat.floor (entry_in name cat) (compacted cat).floor f l in
        record { floor = f; last = omega arith; line = λ p. inr z }

-- ---- a call
abbrev Step : Lent → Lent → Type 0
Step lent after = (formed after.buffer after.size ≡ true) × ((name : List ℕ) → Kept name (read_in lent) (read_in after))

stays : (lent : Lent) → formed lent.buffer lent.size ≡ true → (after : List ℕ) (size : ℕ) → after ≡ lent.buffer → size ≡ lent.size
    → Step lent (record { buffer = after; size = size })
stays lent f after size e n =
    rw (e, n) (f, λ name. kept_same name (read_in lent))

becomes : (lent : Lent) (next : Catalogue) (after : List ℕ) (size new : ℕ) → size ≡ new → formed after new ≡ true → catalogue_in after new ≡ next
    → ((name : List ℕ) → Kept name (read_in lent) next) → Step lent (record { buffer = after; size = size })
becomes lent next after size new s f r k = rw s (f, λ name. subst (Kept name (read_in lent)) (sym r) (k name))

changed : (lent : Lent) → formed lent.buffer lent.size ≡ true → (r : ℕ) (figures after name : List ℕ) (m w c : ℕ)
    → (r ≡ 0 → ChangeDone r figures after lent.buffer lent.size name m w c)
    → ((k : ℕ) → r ≡ suc k → ChangeRefused r figures after lent.buffer (suc k))
    → Step lent (record { buffer = after; size = get_or figures 0 lent.size })
changed lent f zero figures after name m w c done refused =
    let d = done refl in
    becomes lent (changed_by name m w c (read_in lent)) after (get_or figures 0 lent.size) _ (ap (λ l. get_or l 0 lent.size) d.answered) d.whole
    d.read (λ other. change-kept name m w c (read_in lent) other)
changed lent f (suc k) figures after name m w c done refused =
    let d = refused k refl in
    stays lent f after (get_or figures 0 lent.size) d.stays (ap (λ l. get_or l 0 lent.size) d.none)

-- the text in another buffer is read as before
lent_again : (lent : Lent) (rest : List ℕ) → formed lent.buffer lent.size ≡ true → Step lent (after_call (lend rest) lent)
unfolding formed catalogue_in
lent_again lent rest f =
    let P = formed-parts lent.buffer lent.size f in
    let t = length-take-le lent.size lent.buffer P.held in
    let a = length-append (take lent.size lent.buffer) rest in
    let e : take lent.size (take lent.size lent.buffer ++ rest) ≡ take lent.size lent.buffer =
    take_at (take lent.size lent.buffer) rest lent.size t in (
      rw (
        le-leb lent.size (length (take lent.size lent.buffer ++ rest)) (omega arith),
        le-leb lent.size 4096 P.most,
        e,
        is_true (of_form (take lent.size lent.buffer)) P.text,
      ),
      λ name. subst (Kept name (read_in lent)) (ap catalogue_of (sym e)) (kept_same name (read_in lent)),
    )

call_step : (call : CatalogueCall) (lent : Lent) → formed lent.buffer lent.size ≡ true → Step lent (after_call call lent)
call_step (put m w c name expected) lent f =
    changed lent f (put_refusal m w c name expected lent.buffer lent.size) (put_figures m w c name expected lent.buffer lent.size)
    (put_buffer m w c name expected lent.buffer lent.size) name m w c (λ z. put-done m w c name expected lent.buffer lent.size z)
    (λ k e. put_refused m w c name expected lent.buffer lent.size k e)
call_step (remove name expected) lent f =
    changed lent f (remove_refusal name expected lent.buffer lent.size) (remove_figures name expected lent.buffer lent.size)
    (remove_buffer name expected lent.buffer lent.size) name 0 0 0 (λ z. remove-done name expected lent.buffer lent.size z)
    (λ k e. remove-refused name expected lent.buffer lent.size k e)
call_step compact lent f =
    let d = compact-done lent.buffer lent.size f in
    becomes lent (compacted (read_in lent)) (compact_buffer lent.buffer lent.size) (get_or (compact_figures lent.buffer lent.size) 0 lent.size) _
    (ap (λ l. get_or l 0 lent.size) d.answered) d.whole d.read (compact-kept (read_in lent) (formed-good lent.buffer lent.size f))
call_step (lookup name) lent f = (f, λ other. kept_same other (read_in lent))
call_step (lend rest) lent f = lent_again lent rest f

calls-step : (calls : List CatalogueCall) (lent : Lent) → formed lent.buffer lent.size ≡ true → Step lent (after_calls calls lent)
calls-step [] lent f = (f, λ name. kept_same name (read_in lent))
calls-step (call ∷ calls) lent f =
    let s = call_step call lent f in
    let t = calls-step calls (after_call call lent) s.0 in
    (t.0, λ name. kept_on name (read_in lent) (read_in (after_call call lent)) (read_in (after_calls calls (after_call call lent))) (s.1 name) (t.1 name))

-- ---- lines of a list
pub line_after : (e : Entry) (last : List ℕ) (list : List Entry) → T (good_from last list) → LineOf e list → before last e.name ≡ true
unfolding good_from
line_after e last [] t l = elim l [ ]
line_after e last (f ∷ list) t here = is_true _ (and_l (before last f.name) (good_entry f && good_from f.name list) t)
line_after e last (f ∷ list) t (there l) =
    let more = and_r (good_entry f) (good_from f.name list) (and_r (before last f.name) (good_entry f && good_from f.name list) t) in
    before-trans last f.name e.name (is_true _ (and_l (before last f.name) (good_entry f && good_from f.name list) t))
    (line_after e f.name list more l)

-- the line of a name is the one that is found
line-found : (e : Entry) (last : List ℕ) (list : List Entry) → T (good_from last list) → LineOf e list → (entry_for e.name list ≡ e) × (1 ≤ e.revision)
unfolding good_from entry_for
line-found e last [] t l = elim l [ ]
line-found e last (f ∷ list) t here =
    let more = and_r (before last f.name) (good_entry f && good_from f.name list) t in
    (rw (same_refl f.name), (entry-good f (and_l (good_entry f) (good_from f.name list) more)).some)
line-found e last (f ∷ list) t (there l) =
    let more = and_r (good_entry f) (good_from f.name list) (and_r (before last f.name) (good_entry f && good_from f.name list) t) in
    let i = line-found e f.name list more l in
    let b = line_after e f.name list more l in
    let n : same f.name e.name ≡ false = same-sym f.name e.name ∙ (before-only f.name e.name b).1 in
    (rw n i.0, i.1)

-- a name that is found has a line
found-line : (name : List ℕ) (list : List Entry) → ((entry_for name list).revision ≡ 0 → ⊥)
    → LineOf (entry_for name list) list × ((entry_for name list).name ≡ name)
unfolding entry_for
found-line name [] n = absurd (n refl)
found-line name (e ∷ list) n = go (same e.name name) refl n (found-line name list)
  where
    go : (b : Bool) → same e.name name ≡ b → ((cond b e (entry_for name list)).revision ≡ 0 → ⊥)
        → (((entry_for name list).revision ≡ 0 → ⊥) → LineOf (entry_for name list) list × ((entry_for name list).name ≡ name))
        → LineOf (cond b e (entry_for name list)) (e ∷ list) × ((cond b e (entry_for name list)).name ≡ name)
    go true d n i = (here, same-eq e.name name d)
    go false d n i = let j = i n in (there j.0, j.1)

-- ---- two times
module _ (early late : Lent) (f : formed early.buffer early.size ≡ true) (s : Step early late) where
  good-early : T (good_list (read_in early).list)
  good-early = cat-list (read_in early) (formed-good early.buffer early.size f)

  good-late : T (good_list (read_in late).list)
  good-late = cat-list (read_in late) (formed-good late.buffer late.size s.0)

  -- by the entries of a name
  entries-rise : (name : List ℕ) → ((entry_in name (read_in early)).revision ≡ 0 → ⊥) → ((entry_in name (read_in late)).revision ≡ 0 → ⊥)
      → (entry_in name (read_in early)).revision ≤ (entry_in name (read_in late)).revision
  entries-rise name n o =
      let a = last_some (read_in early).floor (entry_in name (read_in early)) n in
      let b = last_some (read_in late).floor (entry_in name (read_in late)) o in
      let k = (s.1 name).last in
      omega arith

  entries-same : (name : List ℕ) → ((entry_in name (read_in early)).revision ≡ 0 → ⊥)
      → (entry_in name (read_in early)).revision ≡ (entry_in name (read_in late)).revision → entry_in name (read_in late) ≡ entry_in name (read_in early)
  entries-same name n e = go ((s.1 name).line (a ∙ e ∙ sym b))
    where
      o : (entry_in name (read_in late)).revision ≡ 0 → ⊥
      o z = n (e ∙ z)

      a : last_in name (read_in early) ≡ (entry_in name (read_in early)).revision
      a = last_some (read_in early).floor (entry_in name (read_in early)) n

      b : last_in name (read_in late) ≡ (entry_in name (read_in late)).revision
      b = last_some (read_in late).floor (entry_in name (read_in late)) o

      go : (entry_in name (read_in late) ≡ entry_in name (read_in early)) ⊎ ((entry_in name (read_in late)).revision ≡ 0)
          → entry_in name (read_in late) ≡ entry_in name (read_in early)
      go (inl p) = p
      go (inr z) = absurd (o z)

  module _ (e : Entry) (l : LineIn e early) where
    early-is : (entry_in e.name (read_in early) ≡ e) × (1 ≤ e.revision)
    early-is = line-found e [] (read_in early).list good-early l

    some : (entry_in e.name (read_in early)).revision ≡ 0 → ⊥
    some z = let k = early-is.1 in let r = ap (λ (x : Entry). x.revision) early-is.0 in omega arith

    module _ (g : Entry) (q : LineIn g late) (n : e.name ≡ g.name) where
      late_is : (entry_in e.name (read_in late) ≡ g) × (1 ≤ g.revision)
      late_is = let i = line-found g [] (read_in late).list good-late q in (ap (λ x. entry_in x (read_in late)) n ∙ i.0, i.1)

      more : (entry_in e.name (read_in late)).revision ≡ 0 → ⊥
      more z = let k = late_is.1 in let r = ap (λ (x : Entry). x.revision) late_is.0 in omega arith

      line-rises : e.revision ≤ g.revision
      line-rises =
          let a = ap (λ (x : Entry). x.revision) early-is.0 in
          let b = ap (λ (x : Entry). x.revision) late_is.0 in
          let k = entries-rise e.name some more in
          omega arith

      line_same : e.revision ≡ g.revision → e ≡ g
      line_same r =
          sym early-is.0
          ∙ sym (entries-same e.name some (ap (λ (x : Entry). x.revision) early-is.0 ∙ r ∙ sym (ap (λ (x : Entry). x.revision) late_is.0)))
          ∙ late_is.0

    line-dropped : ((g : Entry) → LineIn g late → e.name ≡ g.name → ⊥) → e.revision ≤ (read_in late).floor
    line-dropped n = elim (ℕ_discrete (entry_in e.name (read_in late)).revision 0) [
      | yes z ↦ (
          let a = last_some (read_in early).floor (entry_in e.name (read_in early)) some in
          let b = last_none (read_in late).floor (entry_in e.name (read_in late)) z in
          let r = ap (λ (x : Entry). x.revision) early-is.0 in
          let k = (s.1 e.name).last in
          omega arith
          )
      | no o ↦ (let i = found-line e.name (read_in late).list o in absurd (n (entry_in e.name (read_in late)) i.0 (sym i.1)))
    ]

-- ---- lookups
shown-some : (name last : List ℕ) (list : List Entry) → T (good_from last list) → is_gone (entry_for name list) ≡ false → (entry_for name list).revision ≡ 0 → ⊥
unfolding entry_for good_from
shown-some name last [] t g z = true≢false g
shown-some name last (e ∷ list) t g z = go (same e.name name) g z (shown-some name e.name list (and_r (good_entry e) (good_from e.name list) more))
  where
    more : T (good_entry e && good_from e.name list)
    more = and_r (before last e.name) (good_entry e && good_from e.name list) t

    go : (b : Bool) → is_gone (cond b e (entry_for name list)) ≡ false → (cond b e (entry_for name list)).revision ≡ 0
        → (is_gone (entry_for name list) ≡ false → (entry_for name list).revision ≡ 0 → ⊥) → ⊥
    go true g z i = let s = (entry-good e (and_l (good_entry e) (good_from e.name list) more)).some in omega arith
    go false g z i = i g z

-- what a lookup that is done says of the line
record Shown (e : Entry) (r m w c : ℕ) : Type 0 where
  there : is_gone e ≡ false
  revision : e.revision ≡ r
  groups : e.m ≡ m
  width : e.w ≡ w
  checks : e.c ≡ c

looked-shown : (buffer : List ℕ) (size : ℕ) (name : List ℕ) (r m w c : ℕ) → lookup_figures buffer size name ≡ r ∷ m ∷ w ∷ c ∷ []
    → Shown (stored buffer size name) r m w c
unfolding lookup_figures lookup_refusal found_refusal
looked-shown buffer size name r m w c e = go (lookup_refusal buffer size name) refl e
  where
    open-test : lookup_refusal buffer size name ≡ 0 → is_gone (stored buffer size name) ≡ false
    open-test z =
        let a = or_else-zero (text_refusal buffer size) _ z in
        let b = or_else-zero (name_refusal name) _ a.1 in
        refuse-zero 17 _ b.1

    go : (k : ℕ) → lookup_refusal buffer size name ≡ k → unless_refused k (entry_figures (stored buffer size name)) [] ≡ r ∷ m ∷ w ∷ c ∷ []
        → Shown (stored buffer size name) r m w c
    go zero z h = record { there = open-test z; revision = cc; groups = cc; width = cc; checks = cc }
    go (suc k) z h = let q : ◌≡◌ {A = ℕ} 0 1 = cc in absurd (omega arith)

module _ (early late : Lent) (f : formed early.buffer early.size ≡ true) (s : Step early late) where
  lookups-same : (name : List ℕ) (r m w c k l n : ℕ) → lookup_figures early.buffer early.size name ≡ r ∷ m ∷ w ∷ c ∷ []
      → lookup_figures late.buffer late.size name ≡ r ∷ k ∷ l ∷ n ∷ [] → (m ≡ k) × (w ≡ l) × (c ≡ n)
  lookups-same name r m w c k l n p q =
      let a = looked-shown early.buffer early.size name r m w c p in
      let b = looked-shown late.buffer late.size name r k l n q in
      let i = shown-some name [] (read_in early).list (good-early early late f s) a.there in
      let e = entries-same early late f s name i (a.revision ∙ sym b.revision) in (
        sym a.groups ∙ ap (λ (x : Entry). x.m) (sym e) ∙ b.groups,
        sym a.width ∙ ap (λ (x : Entry). x.w) (sym e) ∙ b.width,
        sym a.checks ∙ ap (λ (x : Entry). x.c) (sym e) ∙ b.checks,
      )

  between : Between early late
  between = record {
    whole = s.0;
    one-shape = λ e g l q n r. line_same early late f s e l g q n r;
    one-lookup = lookups-same;
    rises = λ e g l q n. line-rises early late f s e l g q n;
    dropped = λ e l n. line-dropped early late f s e l n;
    floor = (s.1 []).floor;
  }

-- "So in a text changed by our calls alone a name with a revision never stands for two shapes, compaction between or not": from any text of the form
pub never-two : (lent : Lent) → formed lent.buffer lent.size ≡ true → NeverTwo lent
never-two lent f before more =
    let s = calls-step before lent f in
    between (after_calls before lent) (after_calls more (after_calls before lent)) s.0 (calls-step more (after_calls before lent) s.0)
