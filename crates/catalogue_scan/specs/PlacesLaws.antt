-- The place of a name: the entry that it has, and the text with another line there.
use Rattle.std.specs.Prelude.{◌≡◌, refl, Bool, ◌&&◌, ℕ, ◌+◌, ◌≤◌, T}
use Rattle.std.proofs.Common.{sym, ◌∙◌, arith}
use Rattle.std.proofs.Math.Path.{ap, subst}
use Rattle.std.proofs.Math.Bool.{true, false}
use mathlib.Core.List.{List, [], ◌∷◌, ◌++◌, append_assoc}
use Rattle.std.proofs.Math.ListN.{length, take, drop, length-append}
use Rattle.std.proofs.Math.Seq.{take_at, drop_at}
use Rattle.counting.specs.TestLaws.{and_l, and_r}
use Rattle.text.specs.Fields.{same}
use Rattle.text.specs.FieldLaws.{same-eq}
use Rattle.catalogue_text.specs.Names.{before}
use Rattle.catalogue_text.specs.NamesLaws.{is_true, before-only, before-else, before-trans, same-sym}
use Rattle.catalogue_text.specs.Catalogue.{Entry, good_entry, good_from, Catalogue, first_line, entry_line, lines_of}
use Rattle.catalogue_text.specs.Catalogue.{catalogue_text}
use Rattle.catalogue_text.specs.Catalogue.{catalogue_of, of_form}
use Rattle.catalogue_text.specs.CatalogueLaws.{cat-list, read-good, text-of-read}
use Rattle.catalogue_text.specs.Changes.{entry_for, put_in}
use Rattle.catalogue_scan.specs.declared.Place.{Place}
use Rattle.catalogue_scan.specs.Places.{place_at, place_next, place_from}

module _ (name : List ℕ) where
  -- a line whose name stands before the name
  pub next-before : (at next : ℕ) (e : Entry) (place : Place) → before e.name name ≡ true → place_next name at next e place ≡ place_at next
  unfolding place_next
  next-before at next e place b = rw b

  pub next-same : (at next : ℕ) (e : Entry) (place : Place) → before e.name name ≡ false → same e.name name ≡ true
      → place_next name at next e place ≡ record { from = at; to = next; revision = e.revision; m = e.m; w = e.w; c = e.c }
  unfolding place_next
  next-same at next e place b s = rw (b, s)

  pub next-after : (at next : ℕ) (e : Entry) (place : Place) → before e.name name ≡ false
      → same e.name name ≡ false → place_next name at next e place ≡ place
  unfolding place_next
  next-after at next e place b s = rw (b, s)

  -- names after it change nothing
  place-stays : (at : ℕ) (place : Place) (last : List ℕ) → ((x : List ℕ) → before last x ≡ true → before name x ≡ true)
      → (list : List Entry) → T (good_from last list) → (place_from name at place list ≡ place) × (entry_for name list ≡ entry_for name [])
  unfolding place_from good_from entry_for
  place-stays at place last after [] t = (refl, refl)
  place-stays at place last after (e ∷ list) t =
      let b : before name e.name ≡ true = after e.name (is_true _ (and_l (before last e.name) (good_entry e && good_from e.name list) t)) in
      let n = before-only name e.name b in
      let more = and_r (good_entry e) (good_from e.name list) (and_r (before last e.name) (good_entry e && good_from e.name list) t) in
      let i = place-stays (at + length (entry_line e)) place e.name (λ x h. before-trans name e.name x b h) list more in (
        ap (λ p. place_from name (at + length (entry_line e)) p list) (next-after at (at + length (entry_line e)) e place n.0 n.1) ∙ i.0,
        rw n.1 i.1,
      )

-- of a text that a list is read from: the entry of the name, and the text with another line in its place
pub record Spot (name : List ℕ) (list : List Entry) (text : List ℕ) (rest : List Entry → List ℕ) (p : Place) : Type 0 where
  pub revision : p.revision ≡ (entry_for name list).revision
  pub m : p.m ≡ (entry_for name list).m
  pub w : p.w ≡ (entry_for name list).w
  pub c : p.c ≡ (entry_for name list).c
  pub order : p.from ≤ p.to
  pub inside : p.to ≤ length text
  pub spliced : (e : Entry) → e.name ≡ name → rest (put_in e list) ≡ take p.from text ++ (entry_line e ++ drop p.to text)

-- behind some text
module _ (name front : List ℕ) (at : ℕ) (f : length front ≡ at) where
  abbrev Behind : List Entry → Place → Type 0
  Behind list p = Spot name list (front ++ lines_of list) (λ l. front ++ lines_of l) p

  spot-none : Behind [] (place_at at)
  unfolding entry_for lines_of put_in
  spot-none = record {
    revision = refl;
    m = refl;
    w = refl;
    c = refl;
    order = omega arith;
    inside = simp length-append (omega arith);
    spliced = λ e n. rw (take_at front [] at f, drop_at front [] at f);
  }

  module _ (g : Entry) (list : List Entry) where
    -- the text up to the line's end
    long : length (front ++ entry_line g) ≡ at + length (entry_line g)
    long = length-append front (entry_line g) ∙ ap (λ n. n + length (entry_line g)) f

    whole : (rest : List ℕ) → (front ++ entry_line g) ++ rest ≡ front ++ (entry_line g ++ rest)
    whole rest = append_assoc front (entry_line g) rest

    spot-before : before g.name name ≡ true → (p : Place)
        → Spot name list ((front ++ entry_line g) ++ lines_of list) (λ l. (front ++ entry_line g) ++ lines_of l) p → Behind (g ∷ list) p
    unfolding entry_for lines_of put_in
    spot-before b p i =
        let n : same g.name name ≡ false = same-sym g.name name ∙ (before-only g.name name b).1 in
        let t = whole (lines_of list) in
        record {
          revision = rw n i.revision;
          m = rw n i.m;
          w = rw n i.w;
          c = rw n i.c;
          order = i.order;
          inside = subst (λ x. p.to ≤ length x) t i.inside;
          spliced = λ e d.
              rw (ap (before g.name) d, b)
              (sym (whole (lines_of (put_in e list))) ∙ i.spliced e d ∙ ap (λ x. take p.from x ++ (entry_line e ++ drop p.to x)) t);
        }

    spot-same : before g.name name ≡ false → same g.name name ≡ true
        → Behind (g ∷ list) (record { from = at; to = at + length (entry_line g); revision = g.revision; m = g.m; w = g.w; c = g.c })
    unfolding entry_for lines_of put_in
    spot-same b s = record {
      revision = rw s;
      m = rw s;
      w = rw s;
      c = rw s;
      order = omega arith;
      inside = simp length-append (omega arith);
      spliced = λ e d.
          rw (ap (before g.name) d, b, ap (same g.name) d, s, take_at front (entry_line g ++ lines_of list) at f)
          (ap (λ x. front ++ (entry_line e ++ x))
          (sym (drop_at (front ++ entry_line g) (lines_of list) (at + length (entry_line g)) long) ∙ ap (drop (at + length (entry_line g)))
          (whole (lines_of list))));
    }

    spot-after : before g.name name ≡ false → same g.name name ≡ false → entry_for name list ≡ entry_for name [] → Behind (g ∷ list) (place_at at)
    unfolding entry_for lines_of put_in
    spot-after b s n = record {
      revision = rw (s, n);
      m = rw (s, n);
      w = rw (s, n);
      c = rw (s, n);
      order = omega arith;
      inside = simp length-append (omega arith);
      spliced = λ e d.
          rw (
            ap (before g.name) d,
            b,
            ap (same g.name) d,
            s,
            take_at front (entry_line g ++ lines_of list) at f,
            drop_at front
                (entry_line g ++ lines_of list) at f,
          );
    }

spot : (name front : List ℕ) (at : ℕ) → length front ≡ at → (last : List ℕ) (list : List Entry) → T (good_from last list)
    → Spot name list (front ++ lines_of list) (λ l. front ++ lines_of l) (place_from name at (place_at at) list)
unfolding place_from good_from
spot name front at f last [] t = spot-none name front at f
spot name front at f last (g ∷ list) t =
    go (before g.name name) (same g.name name) refl refl
    (spot name (front ++ entry_line g) (at + length (entry_line g)) (long name front at f g list) g.name list more)
  where
    more : T (good_from g.name list)
    more = and_r (good_entry g) (good_from g.name list) (and_r (before last g.name) (good_entry g && good_from g.name list) t)

    next : ℕ
    next = at + length (entry_line g)

    go : (b s : Bool) → before g.name name ≡ b → same g.name name ≡ s
        → Spot name list ((front ++ entry_line g) ++ lines_of list) (λ l. (front ++ entry_line g) ++ lines_of l) (place_from name next (place_at next) list)
        → Spot name (g ∷ list) (front ++ lines_of (g ∷ list)) (λ l. front ++ lines_of l)
        (place_from name next (place_next name at next g (place_at at)) list)
    go true s d h i = rw (next-before name at next g (place_at at) d) (spot-before name front at f g list d _ i)
    go false true d h i =
        let k = place-stays name next (record { from = at; to = next; revision = g.revision; m = g.m; w = g.w; c = g.c }) g.name
        (λ x q. subst (λ y. before y x ≡ true) (same-eq g.name name h) q) list more in
        rw (next-same name at next g (place_at at) d h, k.0) (spot-same name front at f g list d h)
    go false false d h i =
        let b = before-else g.name name d h in
        let k = place-stays name next (place_at at) g.name (λ x q. before-trans name g.name x b q) list more in
        rw (next-after name at next g (place_at at) d h, k.0) (spot-after name front at f g list d h k.1)

-- in a text of the form
pub spot_of : (text name : List ℕ) → T (of_form text)
    → Spot name (catalogue_of text).list text (λ l. first_line (catalogue_of text).version (catalogue_of text).floor ++ lines_of l)
    (place_from name (length (first_line (catalogue_of text).version (catalogue_of text).floor))
    (place_at (length (first_line (catalogue_of text).version (catalogue_of text).floor))) (catalogue_of text).list)
unfolding catalogue_text
spot_of text name t =
    let cat : Catalogue = catalogue_of text in
    let front : List ℕ = first_line cat.version cat.floor in
    subst (λ x. Spot name cat.list x (λ l. front ++ lines_of l) (place_from name (length front) (place_at (length front)) cat.list)) (text-of-read text t)
    (spot name front (length front) refl [] cat.list (cat-list cat (read-good text t)))
