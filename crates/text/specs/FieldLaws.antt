-- A text's parts, one after the other: each is what stands before the next separator. A line's fields are its parts between tabs.
use Rattle.std.specs.Prelude.{◌≡◌, refl, Bool, true, false, not, cond, ◌&&◌, List, [], ◌∷◌, ◌++◌, ℕ, suc, ◌+◌, ◌-◌, ◌≤◌, ◌<◌, T, eqb, length, get_or, take, drop}
use Rattle.std.proofs.Common.{sym, ap, ap₂, ◌∙◌, add-one, arith, length-drop, drop_of_length-le, drop-cons, drop-drop}
use Rattle.std.proofs.lemmas.Bool.{false≢true}
use borrow.Author.Tests.{eqb-true, eq-eqb, ne_eqb}
use lib.Pointwise.{pointwise}
use Rattle.std.proofs.lemmas.List.{length-map}
use Rattle.std.proofs.Math.Seq.{drop-append_seam}
use Rattle.text.specs.Fields.{with_first, parts, same, lost_place, meaning, up_to, later, to_tab, end_of, parts_from, joined_by}
use Rattle.text.specs.Decimal.{digits_after, number_of, without}
use Rattle.text.specs.Records.{values_from}

pub parts-split : (sep : ℕ) (xs : List ℕ) → parts sep xs ≡ up_to sep xs ∷ later sep (drop (length (up_to sep xs)) xs)
unfolding parts up_to later
parts-split sep [] = refl
parts-split sep (x ∷ xs) = go (eqb x sep) (parts-split sep xs)
  where
    go : (b : Bool) → parts sep xs ≡ up_to sep xs ∷ later sep (drop (length (up_to sep xs)) xs)
        → cond b ([] ∷ parts sep xs) (with_first x (parts sep xs))
        ≡ cond b [] (x ∷ up_to sep xs) ∷ later sep (drop (length (cond b [] (x ∷ up_to sep xs))) (x ∷ xs))
    go true i = refl
    go false i = ap (with_first x) i

pub take_part : (sep : ℕ) (xs : List ℕ) → take (length (up_to sep xs)) xs ≡ up_to sep xs
unfolding up_to
take_part sep [] = refl
take_part sep (x ∷ xs) = go (eqb x sep) (take_part sep xs)
  where
    go : (b : Bool) → take (length (up_to sep xs)) xs ≡ up_to sep xs
        → take (length (cond b [] (x ∷ up_to sep xs))) (x ∷ xs) ≡ cond b [] (x ∷ up_to sep xs)
    go true i = refl
    go false i = ap (λ l. x ∷ l) i

parts-few : (sep : ℕ) (xs : List ℕ) → length (parts sep xs) ≤ suc (length xs)
unfolding parts
parts-few sep [] = omega arith
parts-few sep (x ∷ xs) = go (eqb x sep) (parts sep xs) (parts-few sep xs)
  where
    go : (b : Bool) (fs : List (List ℕ)) → length fs ≤ suc (length xs) → length (cond b ([] ∷ fs) (with_first x fs)) ≤ suc (suc (length xs))
    go true fs i = omega arith
    go false [] i = omega arith
    go false (f ∷ fs) i = omega arith

later-few : (sep : ℕ) (xs : List ℕ) → length (later sep xs) ≤ length xs
unfolding later
later-few sep [] = omega arith
later-few sep (x ∷ xs) = parts-few sep xs

pub end-here : (sep : ℕ) (text : List ℕ) (i : ℕ) → length text ≤ i → end_of sep i text ≡ i
unfolding end_of up_to
end-here sep text i l = rw (drop_of_length-le text l) (omega arith)

-- one byte at a time
module _ (sep : ℕ) (text : List ℕ) (i : ℕ) (l : i < length text) where
  pub end-found : get_or text i 0 ≡ sep → end_of sep i text ≡ i
  unfolding end_of up_to
  end-found e = rw (drop-cons text i 0 l, eq-eqb (get_or text i 0) sep e) (omega arith)

  pub end_more : (get_or text i 0 ≡ sep → ⊥) → end_of sep i text ≡ end_of sep (i + 1) text
  unfolding end_of up_to
  end_more e = rw (drop-cons text i 0 l, ne_eqb (get_or text i 0) sep e, add-one) (omega arith)

-- the bytes from a place to the end of its part
pub part-taken : (sep i : ℕ) (text : List ℕ) → take (end_of sep i text - i) (drop i text) ≡ up_to sep (drop i text)
unfolding end_of
part-taken sep i text =
    let e : i + length (up_to sep (drop i text)) - i ≡ length (up_to sep (drop i text)) = omega arith in rw e (take_part sep (drop i text))

pub parts_more : (sep i : ℕ) (text : List ℕ) → i < length text
    → parts_from sep i text ≡ up_to sep (drop (i + 1) text) ∷ parts_from sep (end_of sep (i + 1) text) text
unfolding parts_from later end_of
parts_more sep i text l =
    rw (drop-cons text i 0 l, add-one, parts-split sep (drop (suc i) text))
    (ap (λ d. up_to sep (drop (suc i) text) ∷ later sep d) (drop-drop (length (up_to sep (drop (suc i) text))) (suc i) text))

pub parts-end : (sep i : ℕ) (text : List ℕ) → length text ≤ i → parts_from sep i text ≡ []
unfolding parts_from later
parts-end sep i text l = rw (drop_of_length-le text l)

-- all parts, from the start
pub parts_all : (sep : ℕ) (text : List ℕ) → parts sep text ≡ up_to sep text ∷ parts_from sep (length (up_to sep text)) text
unfolding parts_from
parts_all sep text = parts-split sep text

pub values-more : (i : ℕ) (line : List ℕ) → i < length line
    → values_from i line ≡ meaning (to_tab (drop (i + 1) line)) ∷ values_from (end_of 9 (i + 1) line) line
unfolding values_from
values-more i line l = rw (parts_more 9 i line l)

pub values-end : (i : ℕ) (line : List ℕ) → length line ≤ i → values_from i line ≡ []
unfolding values_from
values-end i line l = rw (parts-end 9 i line l)

pub values-few : (i : ℕ) (line : List ℕ) → length (values_from i line) ≤ length line - i
unfolding values_from parts_from
values-few i line =
    let k = later-few 9 (drop i line) in
    let d = length-drop i line in
    let m = length-map (later 9 (drop i line)) meaning in
    omega arith

-- the library's test of two lists is that of two texts
pub same-is : (xs ys : List ℕ) → pointwise eqb xs ys ≡ same xs ys
unfolding same
same-is [] [] = refl
same-is [] (y ∷ ys) = refl
same-is (x ∷ xs) [] = refl
same-is (x ∷ xs) (y ∷ ys) = ap (λ b. eqb x y && b) (same-is xs ys)

pub same-eq : (xs ys : List ℕ) → same xs ys ≡ true → xs ≡ ys
unfolding same
same-eq [] [] e = refl
same-eq [] (y ∷ ys) e = absurd (false≢true e)
same-eq (x ∷ xs) [] e = absurd (false≢true e)
same-eq (x ∷ xs) (y ∷ ys) e = go (eqb x y) refl e (same-eq xs ys)
  where
    go : (b : Bool) → eqb x y ≡ b → b && same xs ys ≡ true → (same xs ys ≡ true → xs ≡ ys) → x ∷ xs ≡ y ∷ ys
    go true q e i = ap₂ ◌∷◌ (eqb-true x y q) (i e)
    go false q e i = absurd (false≢true e)

pub other_length : (xs ys : List ℕ) → (length xs ≡ length ys → ⊥) → same xs ys ≡ false
other_length xs ys n = go (same xs ys) refl
  where
    go : (b : Bool) → same xs ys ≡ b → b ≡ false
    go true e = absurd (n (ap length (same-eq xs ys e)))
    go false e = refl

-- a meaning by the length of the field and its first byte
pub meaning-lost : (xs : List ℕ) → length xs ≡ 1 → get_or xs 0 0 ≡ 45 → meaning xs ≡ lost_place
unfolding meaning same
meaning-lost [] l e = absurd (omega arith)
meaning-lost (x ∷ []) l e = rw (eq-eqb x 45 e)
meaning-lost (x ∷ y ∷ ys) l e = absurd (omega arith)

pub meaning-number : (xs : List ℕ) → (length xs ≡ 1 → get_or xs 0 0 ≡ 45 → ⊥) → meaning xs ≡ number_of 256 xs
unfolding meaning same
meaning-number [] h = refl
meaning-number (x ∷ []) h = rw (ne_eqb x 45 (h refl))
meaning-number (x ∷ y ∷ ys) h = go (eqb x 45)
  where
    go : (b : Bool) → cond (b && false) lost_place (number_of 256 (x ∷ y ∷ ys)) ≡ number_of 256 (x ∷ y ∷ ys)
    go true = refl
    go false = refl

pub meaning-of-number : (xs : List ℕ) → number_of 256 xs < 256 → meaning xs ≡ number_of 256 xs
unfolding meaning number_of digits_after
meaning-of-number xs l = go (same xs (45 ∷ [])) refl
  where
    go : (b : Bool) → same xs (45 ∷ []) ≡ b → cond b lost_place (number_of 256 xs) ≡ number_of 256 xs
    go true e = let k : number_of 256 xs ≡ 257 = ap (number_of 256) (same-eq xs (45 ∷ []) e) in absurd (omega arith)
    go false e = refl

-- ---- a part put before others

front-part : (sep : ℕ) (f rest : List ℕ) → T (without sep f) → up_to sep rest ≡ [] → up_to sep (f ++ rest) ≡ f
unfolding up_to without
front-part sep [] rest t e = e
front-part sep (x ∷ f) rest t e = go (eqb x sep) t (λ u. front-part sep f rest u e)
  where
    go : (b : Bool) → T (not b && without sep f) → (T (without sep f) → up_to sep (f ++ rest) ≡ f)
        → cond b [] (x ∷ up_to sep (f ++ rest)) ≡ x ∷ f
    go true t i = absurd t
    go false t i = ap (λ l. x ∷ l) (i t)

pub parts-front : (sep : ℕ) (f rest : List ℕ) → T (without sep f) → up_to sep rest ≡ [] → parts sep (f ++ rest) ≡ f ∷ later sep rest
parts-front sep f rest t e = parts-split sep (f ++ rest) ∙ rw (front-part sep f rest t e, drop-append_seam f rest)

join_first : (sep x : ℕ) (p : List ℕ) (ps : List (List ℕ)) → joined_by sep ((x ∷ p) ∷ ps) ≡ x ∷ joined_by sep (p ∷ ps)
unfolding joined_by
join_first sep x p [] = refl
join_first sep x p (q ∷ ps) = refl

pub joined-parts : (sep : ℕ) (xs : List ℕ) → joined_by sep (parts sep xs) ≡ xs
unfolding parts joined_by
joined-parts sep [] = refl
joined-parts sep (x ∷ xs) = go (eqb x sep) refl (parts sep xs) (parts-split sep xs) (joined-parts sep xs)
  where
    go : (b : Bool) → eqb x sep ≡ b → (ps : List (List ℕ)) → ps ≡ up_to sep xs ∷ later sep (drop (length (up_to sep xs)) xs) → joined_by sep ps ≡ xs
        → joined_by sep (cond b ([] ∷ ps) (with_first x ps)) ≡ x ∷ xs
    go b d [] e i = let z : 0 ≡ suc (length (later sep (drop (length (up_to sep xs)) xs))) = ap length e in absurd (omega arith)
    go true d (p ∷ ps) e i = ap₂ ◌∷◌ (sym (eqb-true x sep d)) i
    go false d (p ∷ ps) e i = join_first sep x p ps ∙ ap (λ l. x ∷ l) i
