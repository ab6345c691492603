-- After a put that name is found as it was put and every other name as before, and the list stays good.
use Rattle.std.specs.Prelude.{◌≡◌, refl, Bool, true, false, cond, not, ◌&&◌, List, [], ◌∷◌, ℕ, ◌+◌, ◌≤◌, max, T, eqb}
use Rattle.std.proofs.Common.{sym, ap, ◌∙◌, subst, arith, eq-eqb, ne_eqb}
use Rattle.std.proofs.lemmas.Bool.{false≢true}
use Rattle.counting.specs.TestLaws.{and_l, and_r, and_intro}
use Rattle.text.specs.Fields.{same}
use Rattle.text.specs.FieldLaws.{same-eq}
use Rattle.catalogue_text.specs.Names.{before}
use Rattle.catalogue_text.specs.NamesLaws.{is_true, true-is, same_refl, same-sym, before-only, before-else, before-trans}
use Rattle.catalogue_text.specs.Catalogue.{Entry, is_gone, good_entry, good_from, none_gone, Catalogue}
use Rattle.catalogue_text.specs.LineLaws.{entry-good}
use Rattle.catalogue_text.specs.Changes.{entry_for, entry_in, put_in, found_revision, next_entry, without_gone, largest_gone, compacted}

pub put-found : (e : Entry) (list : List Entry) → entry_for e.name (put_in e list) ≡ e
unfolding entry_for put_in
put-found e [] = rw (same_refl e.name)
put-found e (f ∷ list) = go (before f.name e.name) (same f.name e.name) refl (put-found e list)
  where
    go : (b s : Bool) → before f.name e.name ≡ b → entry_for e.name (put_in e list) ≡ e
        → entry_for e.name (cond b (f ∷ put_in e list) (cond s (e ∷ list) (e ∷ f ∷ list))) ≡ e
    go true s d i = rw (same-sym f.name e.name, (before-only f.name e.name d).1) i
    go false true d i = rw (same_refl e.name)
    go false false d i = rw (same_refl e.name)

pub put-others : (e : Entry) (list : List Entry) (name : List ℕ) → same e.name name ≡ false → entry_for name (put_in e list) ≡ entry_for name list
unfolding entry_for put_in
put-others e [] name n = rw n
put-others e (f ∷ list) name n = go (before f.name e.name) (same f.name e.name) refl (put-others e list name n)
  where
    go : (b s : Bool) → same f.name e.name ≡ s → entry_for name (put_in e list) ≡ entry_for name list
        → entry_for name (cond b (f ∷ put_in e list) (cond s (e ∷ list) (e ∷ f ∷ list))) ≡ cond (same f.name name) f (entry_for name list)
    go true s d i = ap (cond (same f.name name) f) i
    go false true d i = let k : same f.name name ≡ false = ap (λ x. same x name) (same-eq f.name e.name d) ∙ n in rw (n, k)
    go false false d i = rw n

pub put-good : (e : Entry) → T (good_entry e) → (last : List ℕ) → T (before last e.name) → (list : List Entry) → T (good_from last list)
    → T (good_from last (put_in e list))
unfolding good_from put_in
put-good e g last l [] t = and_intro (before last e.name) (good_entry e && true) l (and_intro (good_entry e) true g tt)
put-good e g last l (f ∷ list) t =
    go (before f.name e.name) (same f.name e.name) refl refl
    (λ k. put-good e g f.name k list (and_r (good_entry f) (good_from f.name list) more))
  where
    more : T (good_entry f && good_from f.name list)
    more = and_r (before last f.name) (good_entry f && good_from f.name list) t

    with-e : (rest : List Entry) → T (good_from e.name rest) → T (before last e.name && (good_entry e && good_from e.name rest))
    with-e rest k = and_intro (before last e.name) (good_entry e && good_from e.name rest) l (and_intro (good_entry e) (good_from e.name rest) g k)

    go : (b s : Bool) → before f.name e.name ≡ b → same f.name e.name ≡ s
        → (T (before f.name e.name) → T (good_from f.name (put_in e list)))
        → T (good_from last (cond b (f ∷ put_in e list) (cond s (e ∷ list) (e ∷ f ∷ list))))
    go true s d h i =
        and_intro (before last f.name) (good_entry f && good_from f.name (put_in e list))
        (and_l (before last f.name) (good_entry f && good_from f.name list) t)
        (and_intro (good_entry f) (good_from f.name (put_in e list)) (and_l (good_entry f) (good_from f.name list) more) (i (true-is _ d)))
    go false true d h i =
        with-e list (subst (λ x. T (good_from x list)) (same-eq f.name e.name h) (and_r (good_entry f) (good_from f.name list) more))
    go false false d h i =
        with-e (f ∷ list)
        (and_intro (before e.name f.name) (good_entry f && good_from f.name list) (true-is _ (before-else f.name e.name d h)) more)

-- ---- the largest revision of gone lines

pub largest-least : (top : ℕ) (list : List Entry) → top ≤ largest_gone top list
unfolding largest_gone
largest-least top [] = omega arith
largest-least top (e ∷ list) = go (is_gone e) (λ k. largest-least k list)
  where
    go : (b : Bool) → ((k : ℕ) → k ≤ largest_gone k list) → top ≤ largest_gone (cond b (max top e.revision) top) list
    go true i = let j = i (max top e.revision) in omega arith
    go false i = i top

-- it is 0 if there are none
pub none-largest : (last : List ℕ) (list : List Entry) → T (good_from last list) → none_gone list ≡ eqb (largest_gone 0 list) 0
unfolding good_from none_gone largest_gone
none-largest last [] t = refl
none-largest last (e ∷ list) t = go (is_gone e) (none-largest e.name list (and_r (good_entry e) (good_from e.name list) more))
  where
    more : T (good_entry e && good_from e.name list)
    more = and_r (before last e.name) (good_entry e && good_from e.name list) t

    go : (b : Bool) → none_gone list ≡ eqb (largest_gone 0 list) 0
        → (not b && none_gone list) ≡ eqb (largest_gone (cond b (max 0 e.revision) 0) list) 0
    go true i =
        let s = (entry-good e (and_l (good_entry e) (good_from e.name list) more)).some in
        let k = largest-least (max 0 e.revision) list in
        sym (ne_eqb (largest_gone (max 0 e.revision) list) 0 (λ z. omega arith))
    go false i = i

-- ---- what a compaction keeps

pub good-weaker : (last from : List ℕ) (list : List Entry) → before last from ≡ true → T (good_from from list) → T (good_from last list)
unfolding good_from
good-weaker last from [] b t = tt
good-weaker last from (e ∷ list) b t =
    let more : T (good_entry e && good_from e.name list) = and_r (before from e.name) (good_entry e && good_from e.name list) t in
    let k : before last e.name ≡ true =
    before-trans last from e.name b (is_true _ (and_l (before from e.name) (good_entry e && good_from e.name list) t)) in
    and_intro (before last e.name) (good_entry e && good_from e.name list) (true-is _ k) more

pub kept-good : (last : List ℕ) (list : List Entry) → T (good_from last list) → T (good_from last (without_gone list))
unfolding good_from without_gone
kept-good last [] t = tt
kept-good last (e ∷ list) t = go (is_gone e) (kept-good e.name list (and_r (good_entry e) (good_from e.name list) more))
  where
    first : T (before last e.name)
    first = and_l (before last e.name) (good_entry e && good_from e.name list) t

    more : T (good_entry e && good_from e.name list)
    more = and_r (before last e.name) (good_entry e && good_from e.name list) t

    go : (b : Bool) → T (good_from e.name (without_gone list)) → T (good_from last (cond b (without_gone list) (e ∷ without_gone list)))
    go true i = good-weaker last e.name (without_gone list) (is_true _ first) i
    go false i =
        and_intro (before last e.name) (good_entry e && good_from e.name (without_gone list)) first
        (and_intro (good_entry e) (good_from e.name (without_gone list)) (and_l (good_entry e) (good_from e.name list) more) i)

-- the largest revision of gone lines is one of theirs, so it is at most 65,535
pub largest-most : (k top : ℕ) (last : List ℕ) (list : List Entry) → 65535 ≤ k → top ≤ k → T (good_from last list) → largest_gone top list ≤ k
unfolding good_from largest_gone
largest-most k top last [] h l t = l
largest-most k top last (e ∷ list) h l t =
    go (is_gone e) (λ q i. largest-most k q e.name list h i (and_r (good_entry e) (good_from e.name list) more))
  where
    more : T (good_entry e && good_from e.name list)
    more = and_r (before last e.name) (good_entry e && good_from e.name list) t

    go : (b : Bool) → ((q : ℕ) → q ≤ k → largest_gone q list ≤ k) → largest_gone (cond b (max top e.revision) top) list ≤ k
    go true i = i (max top e.revision) (let m = (entry-good e (and_l (good_entry e) (good_from e.name list) more)).most in omega arith)
    go false i = i top l

-- every gone line's revision is at most it
pub largest-holds : (name : List ℕ) (top : ℕ) (list : List Entry) → is_gone (entry_for name list) ≡ true → (entry_for name list).revision ≤ largest_gone top list
unfolding largest_gone entry_for
largest-holds name top [] g = omega arith
largest-holds name top (e ∷ list) g = go (same e.name name) (is_gone e) refl g (λ k. largest-holds name k list) (λ k. largest-least k list)
  where
    go : (s b : Bool) → is_gone e ≡ b → is_gone (cond s e (entry_for name list)) ≡ true
        → ((k : ℕ) → is_gone (entry_for name list) ≡ true → (entry_for name list).revision ≤ largest_gone k list) → ((k : ℕ) → k ≤ largest_gone k list)
        → (cond s e (entry_for name list)).revision ≤ largest_gone (cond b (max top e.revision) top) list
    go true true d g i j = let k = j (max top e.revision) in omega arith
    go true false d g i j = absurd (false≢true (sym d ∙ g))
    go false b d g i j = i (cond b (max top e.revision) top) g

-- names that stand after a name
after_none : (name last : List ℕ) → ((x : List ℕ) → before last x ≡ true → before name x ≡ true) → (list : List Entry) → T (good_from last list)
    → entry_for name list ≡ entry_for name []
unfolding entry_for good_from
after_none name last h [] t = refl
after_none name last h (e ∷ list) t =
    let b : before name e.name ≡ true = h e.name (is_true _ (and_l (before last e.name) (good_entry e && good_from e.name list) t)) in
    let more = and_r (good_entry e) (good_from e.name list) (and_r (before last e.name) (good_entry e && good_from e.name list) t) in
    rw (before-only name e.name b).1 (after_none name e.name (λ x q. before-trans name e.name x b q) list more)

-- what is kept of a name: its entry, unless it is gone
pub kept_entry : (name last : List ℕ) (list : List Entry) → T (good_from last list)
    → entry_for name (without_gone list) ≡ cond (is_gone (entry_for name list)) (entry_for name []) (entry_for name list)
unfolding without_gone entry_for good_from
kept_entry name last [] t = refl
kept_entry name last (e ∷ list) t = go (same e.name name) (is_gone e) refl refl (kept_entry name e.name list more)
  where
    more : T (good_from e.name list)
    more = and_r (good_entry e) (good_from e.name list) (and_r (before last e.name) (good_entry e && good_from e.name list) t)

    go : (s g : Bool) → same e.name name ≡ s → is_gone e ≡ g
        → entry_for name (without_gone list) ≡ cond (is_gone (entry_for name list)) (entry_for name []) (entry_for name list)
        → entry_for name (cond g (without_gone list) (e ∷ without_gone list))
        ≡ cond (is_gone (cond s e (entry_for name list))) (entry_for name []) (cond s e (entry_for name list))
    go true true d g i =
        let n = same-eq e.name name d in
        after_none name e.name (λ x q. subst (λ y. before y x ≡ true) n q) (without_gone list) (kept-good e.name list more) ∙ rw g
    go true false d g i = rw (d, g)
    go false true d g i = i
    go false false d g i = rw d i

-- with no gone line nothing is dropped
pub kept-all : (list : List Entry) → none_gone list ≡ true → without_gone list ≡ list
unfolding without_gone none_gone
kept-all [] n = refl
kept-all (e ∷ list) n = go (is_gone e) refl n (kept-all list)
  where
    go : (b : Bool) → is_gone e ≡ b → (not b && none_gone list) ≡ true → (none_gone list ≡ true → without_gone list ≡ list)
        → cond b (without_gone list) (e ∷ without_gone list) ≡ e ∷ list
    go true d n i = absurd (false≢true n)
    go false d n i = ap (λ l. e ∷ l) (i n)

-- ---- the revisions

-- "New names start at floor+1"
pub next-new : (name : List ℕ) (m w c : ℕ) (cat : Catalogue) → (entry_in name cat).revision ≡ 0 → (next_entry name m w c cat).revision ≡ cat.floor + 1
unfolding next_entry
next-new name m w c cat z = rw (eq-eqb (entry_in name cat).revision 0 z)

-- a put and a remove leave "the revision raised by one", of a gone name too
pub next-raised : (name : List ℕ) (m w c : ℕ) (cat : Catalogue) → ((entry_in name cat).revision ≡ 0 → ⊥)
    → (next_entry name m w c cat).revision ≡ (entry_in name cat).revision + 1
unfolding next_entry
next-raised name m w c cat n = rw (ne_eqb (entry_in name cat).revision 0 n)

-- "a put on one expects 0"
pub gone-expects : (e : Entry) → is_gone e ≡ true → found_revision e ≡ 0
gone-expects e g = rw g

-- The floor never falls.
pub compacted-floor : (cat : Catalogue) → cat.floor ≤ (compacted cat).floor
unfolding compacted
compacted-floor cat = go (none_gone cat.list)
  where
    go : (b : Bool) → cat.floor ≤ (cond b cat (record {
      version = 2;
      floor = max cat.floor (largest_gone 0 cat.list);
      list = without_gone
          cat.list;
    })).floor
    go true = omega arith
    go false = omega arith
