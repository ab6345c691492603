-- Proof: no other name's line changes; and names stand in order, each before all that come later.
use Rattle.std.specs.Prelude.{◌≡◌, refl, ◌⊎◌, Bool, true, false, ◌&&◌, List, [], ◌∷◌, ◌++◌, ℕ, T}
use Rattle.std.proofs.Common.{sym, ap, ap₂, ◌∙◌, inl, inr, append_assoc}
use Rattle.counting.specs.TestLaws.{and_r}
use Rattle.text.specs.Fields.{same}
use Rattle.text.specs.FieldLaws.{same-eq}
use Rattle.catalogue_text.specs.Names.{before}
use Rattle.catalogue_text.specs.Catalogue.{Entry, good_entry, good_from, Catalogue, first_line, entry_line, lines_of, catalogue_text, catalogue_of, of_form}
use Rattle.catalogue_text.specs.CatalogueLaws.{text-of-read}
use Rattle.catalogue_text.specs.Changes.{put_in, next_entry, changed_by}
use Rattle.catalogue_history.specs.History.{LineOf}
use Rattle.catalogue_history.specs.HistoryLaws.{line_after}
use Rattle.catalogue_history.specs.Lines.{OneLine}

-- where an entry is put: between others, or in the place of one of its name
record Put (g : Entry) (list : List Entry) : Type 0 where
  front : List Entry
  line : List ℕ
  back : List Entry
  was : lines_of list ≡ lines_of front ++ (line ++ lines_of back)
  is : lines_of (put_in g list) ≡ lines_of front ++ (entry_line g ++ lines_of back)
  old : (line ≡ []) ⊎ ((e : Entry) × (e.name ≡ g.name) × (line ≡ entry_line e))

put-later : (g f : Entry) (list : List Entry) → before f.name g.name ≡ true → Put g list → Put g (f ∷ list)
unfolding lines_of put_in
put-later g f list b p = record {
  front = f ∷ p.front;
  line = p.line;
  back = p.back;
  was = ap (λ x. entry_line f ++ x) p.was ∙ sym (append_assoc (entry_line f) (lines_of p.front) (p.line ++ lines_of p.back));
  is = rw b (ap (λ x. entry_line f ++ x) p.is ∙ sym (append_assoc (entry_line f) (lines_of p.front) (entry_line g ++ lines_of p.back)));
  old = p.old;
}

put-place : (g : Entry) (list : List Entry) → Put g list
unfolding lines_of put_in
put-place g [] = record { front = []; line = []; back = []; was = refl; is = refl; old = inl refl }
put-place g (f ∷ list) = go (before f.name g.name) (same f.name g.name) refl refl (put-place g list)
  where
    go : (b s : Bool) → before f.name g.name ≡ b → same f.name g.name ≡ s → Put g list → Put g (f ∷ list)
    go true s d h i = put-later g f list d i
    go false true d h i = record {
      front = [];
      line = entry_line f;
      back = list;
      was = refl;
      is = rw (d, h);
      old = inr (f, same-eq f.name g.name h, refl);
    }
    go false false d h i = record { front = []; line = []; back = f ∷ list; was = refl; is = rw (d, h); old = inl refl }

next-name : (name : List ℕ) (m w c : ℕ) (cat : Catalogue) → (next_entry name m w c cat).name ≡ name
unfolding next_entry
next-name name m w c cat = refl

-- "no other name's line changes"
pub one_line : (name : List ℕ) (m w c : ℕ) (cat : Catalogue) → OneLine name m w c cat
unfolding catalogue_text changed_by
one_line name m w c cat =
    let p = put-place (next_entry name m w c cat) cat.list in
    record {
      front = lines_of p.front;
      line = p.line;
      back = lines_of p.back;
      before = ap (λ x. first_line cat.version cat.floor ++ x) p.was;
      after = ap (λ x. first_line 2 cat.floor ++ x) p.is;
      old = named p.old;
    }
  where
    named : {line : List ℕ} → (line ≡ []) ⊎ ((e : Entry) × (e.name ≡ (next_entry name m w c cat).name) × (line ≡ entry_line e))
        → (line ≡ []) ⊎ ((e : Entry) × (e.name ≡ name) × (line ≡ entry_line e))
    named (inl z) = inl z
    named (inr (e, n, l)) = inr (e, n ∙ next-name name m w c cat, l)

-- "sorted by name in byte order": a name stands before all that come later
pub sorted : (last : List ℕ) (front : List Entry) (e f : Entry) (back : List Entry) → T (good_from last (front ++ (e ∷ back))) → LineOf f back
    → before e.name f.name ≡ true
unfolding good_from
sorted last [] e f back t l =
    line_after f e.name back
    (and_r (good_entry e) (good_from e.name back) (and_r (before last e.name) (good_entry e && good_from e.name back) t)) l
sorted last (g ∷ front) e f back t l =
    sorted g.name front e f back
    (and_r (good_entry g) (good_from g.name (front ++ (e ∷ back)))
    (and_r (before last g.name) (good_entry g && good_from g.name (front ++ (e ∷ back))) t)) l

-- "Each list has one text": two texts of the form that are read as the same catalogue are the same
pub one-text : (a b : List ℕ) → T (of_form a) → T (of_form b) → catalogue_of a ≡ catalogue_of b → a ≡ b
one-text a b s t e = sym (text-of-read a s) ∙ ap catalogue_text e ∙ text-of-read b t

-- "a list then has one version 2 text": with its floor
pub one-second-text : (a b : List ℕ) → T (of_form a) → T (of_form b) → (catalogue_of a).version ≡ 2 → (catalogue_of b).version ≡ 2
    → (catalogue_of a).floor ≡ (catalogue_of b).floor → (catalogue_of a).list ≡ (catalogue_of b).list → a ≡ b
one-second-text a b s t v u f l = one-text a b s t (ap (λ n. with-version n (catalogue_of a).floor (catalogue_of a).list) (v ∙ sym u)
    ∙ ap₂ (with-version (catalogue_of b).version) f l)
  where
    with-version : ℕ → ℕ → List Entry → Catalogue
    with-version version floor list = record { version = version; floor = floor; list = list }
