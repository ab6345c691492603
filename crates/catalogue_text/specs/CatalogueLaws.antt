-- "Reading what was written gives the same list, and each list has one text", of each version; and a text's form, line by line.
use Rattle.std.specs.Prelude.{◌≡◌, ◌↔◌, ◌⊎◌, Bool, cond, ◌&&◌, ℕ, zero, suc, ◌+◌, ◌/◌, ◌≤◌, eqb, leb, length, take, drop}
use Rattle.std.proofs.Math.Path.{refl, ap, ap₂}
use Rattle.std.proofs.Common.{sym, ◌∙◌, subst, inl, inr, arith, le-leb, eqb-true, eqb→eq, leb→le, length-append, take-append-drop, take_at, drop_at}
use Rattle.std.proofs.Math.Bool.{true, false}
use mathlib.Core.List.{List, [], ◌∷◌, ◌++◌, append_assoc, append-nil}
use Rattle.std.proofs.Math.Decide.{dec_lt}
use Rattle.std.proofs.Math.Dec.{T}
use Rattle.std.proofs.Math.ListN.{get_or}
use Rattle.counting.specs.TestLaws.{and_l, and_r, and_intro}
use Rattle.shape.specs.Shapes.{byte_limits}
use Rattle.code.specs.Limits.{GoodIn, shape_refusal_in}
use Rattle.code.specs.LimitsLaws.{good-of-refusal}
use Rattle.text.specs.Decimal.{digits_of, number_of, without}
use Rattle.text.specs.DecimalLaws.{number-of-digits, digits-of-number, digits-some, digits-one, digits-split}
use Rattle.text.specs.Fields.{parts, same, up_to, later, joined_by}
use Rattle.text.specs.FieldLaws.{parts-split, parts-front, joined-parts, same-eq}
use Rattle.text.specs.Records.{line_name}
use Rattle.text.specs.Lines.{cells_of, line_with}
use Rattle.text.specs.ReadBackLaws.{one_line, line-parts}
use Rattle.catalogue_text.specs.Names.{good_name, before}
use Rattle.catalogue_text.specs.NamesLaws.{tests_same, is_true, true-is, same_refl}
use Rattle.catalogue_text.specs.Catalogue.{Entry, is_gone, good_shape, good_entry, good_from, good_list, none_gone, Catalogue, good_version}
use Rattle.catalogue_text.specs.Catalogue.{good_catalogue, shapes_name, first_line, entry_line, lines_of, catalogue_text, numbers_of, says_gone, shaped_of}
use Rattle.catalogue_text.specs.Catalogue.{entry_of}
use Rattle.catalogue_text.specs.Catalogue.{entries_of, list_of_text, is_one, floor_of, catalogue_of, of_form}
use Rattle.catalogue_text.specs.LineLaws.{EntryGood, entry-good, good-entry, shape-numbers, gone_body, shaped_body, body_of, body-line, body-one}
use Rattle.catalogue_text.specs.LineLaws.{body-name, body-read, gone-said, shaped-said, shaped-numbers, shaped-read, shaped-only, gone-only}

-- an entry with a shape
unfoldable pub good_shaped : Entry → Bool
good_shaped e = good_name e.name && (leb 1 e.revision && (leb e.revision 65535 && good_shape e.m e.w e.c))

-- a line of a name and four numbers that is read as one
unfoldable pub shaped_line : List ℕ → Bool
shaped_line line = eqb (length (numbers_of line)) 4 && good_shaped (shaped_of line)

-- such a line, or one with the word gone that is read as a good entry
unfoldable pub line_good : List ℕ → Bool
line_good line = cond (says_gone line) (good_entry (entry_of line)) (shaped_line line)

-- and whose name stands after the last one
unfoldable pub line_right : List ℕ → List ℕ → Bool
line_right last line = before last (line_name line) && line_good line

unfoldable pub is_empty : List ℕ → Bool
is_empty [] = true
is_empty (x ∷ xs) = false

-- the lines after the first one, each ended by a line feed
unfoldable pub rest_right : List ℕ → List (List ℕ) → Bool
rest_right last [] = false
rest_right last (p ∷ []) = is_empty p
rest_right last (p ∷ q ∷ ps) = line_right last p && rest_right (line_name p) (q ∷ ps)

-- a line before others
pub rest_more : (last line xs : List ℕ) → rest_right last (line ∷ parts 10 xs) ≡ (line_right last line && rest_right (line_name line) (parts 10 xs))
unfolding rest_right
rest_more last line xs = rw (parts-split 10 xs)

pub rest_end : (last : List ℕ) → rest_right last (parts 10 []) ≡ true
unfolding rest_right is_empty parts
rest_end last = refl

pub entries-more : (line xs : List ℕ) → entries_of (line ∷ parts 10 xs) ≡ entry_of line ∷ entries_of (parts 10 xs)
unfolding entries_of
entries-more line xs = rw (parts-split 10 xs)

pub entries-end : entries_of (parts 10 []) ≡ []
unfolding entries_of parts
entries-end = refl

-- what is known of an entry with a shape
pub record ShapedGood (e : Entry) : Type 0 where
  pub named : T (good_name e.name)
  pub some : 1 ≤ e.revision
  pub most : e.revision ≤ 65535
  pub shaped : GoodIn byte_limits e.m e.w e.c

shaped-good : (e : Entry) → T (good_shaped e) → ShapedGood e
unfolding good_shaped good_shape
shaped-good e t =
    let r : Bool = eqb (shape_refusal_in byte_limits e.m e.w e.c) 0 in
    let t₁ = and_r (good_name e.name) (leb 1 e.revision && (leb e.revision 65535 && r)) t in
    let t₂ = and_r (leb 1 e.revision) (leb e.revision 65535 && r) t₁ in
    record {
      named = and_l (good_name e.name) (leb 1 e.revision && (leb e.revision 65535 && r)) t;
      some = leb→le 1 e.revision (and_l (leb 1 e.revision) (leb e.revision 65535 && r) t₁);
      most = leb→le e.revision 65535 (and_l (leb e.revision 65535) r t₂);
      shaped = good-of-refusal e.m e.w e.c (eqb→eq (shape_refusal_in byte_limits e.m e.w e.c) 0 (and_r (leb e.revision 65535) r t₂));
    }

body_is : (e : Entry) (b : Bool) → is_gone e ≡ b → body_of e ≡ cond b (gone_body e.name e.revision) (shaped_body e)
unfolding body_of
body_is e b d = rw d

module _ (line : List ℕ) (t : T (line_good line)) where
  abbrev GoodRead : Entry → Type 0
  GoodRead e = T (good_entry e) × (entry_line e ≡ line ++ (10 ∷ []))

  read-shaped : says_gone line ≡ false → T (eqb (length (numbers_of line)) 4 && good_shaped (shaped_of line)) → GoodRead (shaped_of line)
  unfolding body_of
  read-shaped d u =
      let g = shaped-good (shaped_of line) (and_r (eqb (length (numbers_of line)) 4) (good_shaped (shaped_of line)) u) in
      let n = shape-numbers (shaped_of line).m (shaped_of line).w (shaped_of line).c g.shaped in (
        good-entry (shaped_of line) g.named g.some g.most n.0,
        body-line (shaped_of line)
            ∙ ap (λ l. l ++ (10 ∷ []))
            (body_is (shaped_of line) false n.1
            ∙ shaped-only line (eqb→eq (length (numbers_of line)) 4 (and_l (eqb (length (numbers_of line)) 4) (good_shaped (shaped_of line)) u)) g.most
            g.shaped),
      )

  good-both : GoodRead (entry_of line)
  unfolding line_good shaped_line entry_of body_of
  good-both = go (says_gone line) refl t
    where
      gone : Entry
      gone = record { name = line_name line; revision = get_or (numbers_of line) 0 0; m = 0; w = 0; c = 0 }

      go : (b : Bool) → says_gone line ≡ b
          → T (cond b (good_entry (cond b gone (shaped_of line))) (eqb (length (numbers_of line)) 4 && good_shaped (shaped_of line)))
          → GoodRead (cond b gone (shaped_of line))
      go true d u = (
        u,
        body-line gone ∙ ap (λ l. l ++ (10 ∷ [])) (gone-only line d (entry-good gone u).most),
      )
      go false d u = read-shaped d u

  pub good-read : T (good_entry (entry_of line))
  good-read = good-both.0

  pub good-line : entry_line (entry_of line) ≡ line ++ (10 ∷ [])
  good-line = good-both.1

module _ (last line : List ℕ) (t : T (line_right last line)) where
  pub right-after : T (before last (line_name line))
  unfolding line_right
  right-after = and_l (before last (line_name line)) (line_good line) t

  pub right-good : T (line_good line)
  unfolding line_right
  right-good = and_r (before last (line_name line)) (line_good line) t

pub read_name : (line : List ℕ) → (entry_of line).name ≡ line_name line
unfolding entry_of shaped_of
read_name line = go (says_gone line)
  where
    go : (b : Bool)
        → (cond b (record { name = line_name line; revision = get_or (numbers_of line) 0 0; m = 0; w = 0; c = 0 }) (shaped_of line)).name ≡ line_name line
    go true = refl
    go false = refl

-- right lines are the lines of a good list
pub rest-good : (last : List ℕ) (ps : List (List ℕ)) → T (rest_right last ps) → T (good_from last (entries_of ps)) × (lines_of (entries_of ps) ≡ joined_by 10 ps)
unfolding rest_right is_empty good_from entries_of lines_of joined_by
rest-good last [] t = absurd t
rest-good last ([] ∷ []) t = (tt, refl)
rest-good last ((x ∷ xs) ∷ []) t = absurd t
rest-good last (p ∷ q ∷ ps) t = step (rest-good (line_name p) (q ∷ ps) (and_r (line_right last p) (rest_right (line_name p) (q ∷ ps)) t))
  where
    r : T (line_right last p)
    r = and_l (line_right last p) (rest_right (line_name p) (q ∷ ps)) t

    more : List Entry
    more = entries_of (q ∷ ps)

    step : T (good_from (line_name p) more) × (lines_of more ≡ joined_by 10 (q ∷ ps))
        → T (before last (entry_of p).name && (good_entry (entry_of p) && good_from (entry_of p).name more))
        × (entry_line (entry_of p) ++ lines_of more ≡ p ++ (10 ∷ joined_by 10 (q ∷ ps)))
    step i = (
      subst (λ x. T (before last x && (good_entry (entry_of p) && good_from x more))) (sym (read_name p))
          (and_intro (before last (line_name p)) (good_entry (entry_of p) && good_from (line_name p) more) (right-after last p r)
          (and_intro (good_entry (entry_of p)) (good_from (line_name p) more) (good-read p (right-good last p r)) i.0)),
      rw (good-line p (right-good last p r), i.1, append_assoc),
    )

line-split : (e : Entry) → EntryGood e → (xs : List ℕ) → parts 10 (entry_line e ++ xs) ≡ body_of e ∷ parts 10 xs
unfolding up_to later
line-split e g xs = rw (body-line e, append_assoc) (parts-front 10 (body_of e) (10 ∷ xs) (body-one e g) refl)

good-shaped : (e : Entry) → EntryGood e → GoodIn byte_limits e.m e.w e.c → T (good_shaped e)
unfolding good_shaped
good-shaped e g s =
    rw (le-leb 1 e.revision g.some, le-leb e.revision 65535 g.most, (shape-numbers e.m e.w e.c s).2)
    (and_intro (good_name e.name) true g.named tt)

pub body-good : (e : Entry) → EntryGood e → T (good_entry e) → T (line_good (body_of e))
unfolding line_good shaped_line
body-good e g t = go (is_gone e) refl
  where
    go : (b : Bool) → is_gone e ≡ b
        → T (cond (says_gone (body_of e)) (good_entry (entry_of (body_of e))) (eqb (length (numbers_of (body_of e))) 4 && good_shaped (shaped_of (body_of e))))
    go true d =
        let s : says_gone (body_of e) ≡ true = ap says_gone (body_is e true d) ∙ gone-said e.name e.revision g.named g.most in
        rw (s, body-read e g) t
    go false d =
        let s : says_gone (body_of e) ≡ false = ap says_gone (body_is e false d) ∙ shaped-said e g.named g.most (g.shaped d) in
        let n = ap numbers_of (body_is e false d) ∙ shaped-numbers e g.named g.most (g.shaped d) in
        let r = ap shaped_of (body_is e false d) ∙ shaped-read e g.named g.most (g.shaped d) in
        rw (s, n, r) (good-shaped e g (g.shaped d))

line-right : (last : List ℕ) (e : Entry) → EntryGood e → T (before last e.name) → T (good_entry e) → T (line_right last (body_of e))
unfolding line_right
line-right last e g s t = rw (body-name e g) (and_intro (before last e.name) (line_good (body_of e)) s (body-good e g t))

-- the lines of a good list are right, and are read as it
good-rest : (last : List ℕ) (list : List Entry) → T (good_from last list)
    → T (rest_right last (parts 10 (lines_of list))) × (entries_of (parts 10 (lines_of list)) ≡ list)
unfolding good_from lines_of
good-rest last [] t = (rw (rest_end last) tt, entries-end)
good-rest last (e ∷ list) t = step (good-rest e.name list (and_r (good_entry e) (good_from e.name list) more))
  where
    more : T (good_entry e && good_from e.name list)
    more = and_r (before last e.name) (good_entry e && good_from e.name list) t

    g : EntryGood e
    g = entry-good e (and_l (good_entry e) (good_from e.name list) more)

    right : T (line_right last (body_of e))
    right =
        line-right last e g (and_l (before last e.name) (good_entry e && good_from e.name list) t)
        (and_l (good_entry e) (good_from e.name list) more)

    step : T (rest_right e.name (parts 10 (lines_of list))) × (entries_of (parts 10 (lines_of list)) ≡ list)
        → T (rest_right last (parts 10 (entry_line e ++ lines_of list))) × (entries_of (parts 10 (entry_line e ++ lines_of list)) ≡ e ∷ list)
    step i =
        rw (line-split e g (lines_of list), rest_more last (body_of e) (lines_of list), entries-more (body_of e) (lines_of list), body-name e g) (
          and_intro (line_right last (body_of e)) (rest_right e.name (parts 10 (lines_of list))) right i.0,
          ap₂ ◌∷◌ (body-read e g) i.1,
        )

-- ---- the first line

-- shapes and 1, and shapes, 2 and a floor, without their line feeds
abbrev one_body : List ℕ
one_body = shapes_name ++ cells_of 4 (1 ∷ [])

abbrev two_body : ℕ → List ℕ
two_body floor = shapes_name ++ cells_of 4 (2 ∷ floor ∷ [])

-- shapes, 2 and a tab
abbrev pub two_name : List ℕ
two_name = 115 ∷ 104 ∷ 97 ∷ 112 ∷ 101 ∷ 115 ∷ 9 ∷ 50 ∷ 9 ∷ []

-- whether a first line, without its line feed, is one of these
unfoldable pub head_right : List ℕ → Bool
head_right line = cond (is_one line) true (same (take 9 line) two_name && leb (number_of 65536 (drop 9 line)) 65535)

-- the version that it is read as
abbrev pub version_of : List ℕ → ℕ
version_of line = cond (is_one line) 1 2

-- what is known of the first line of a version and a floor
pub record Head (version floor : ℕ) (body : List ℕ) : Type 0 where
  pub one : T (without 10 body)
  pub line : first_line version floor ≡ body ++ (10 ∷ [])
  pub versioned : version_of body ≡ version
  pub floored : floor_of body ≡ floor
  pub right : T (head_right body)

head-one : Head 1 0 one_body
unfolding without cells_of digits_of first_line line_with is_one floor_of head_right same
head-one = record { one = tt; line = refl; versioned = refl; floored = refl; right = tt }

two-not-one : (floor : ℕ) → is_one (two_body floor) ≡ false
unfolding is_one cells_of digits_of same
two-not-one floor = refl

two-split : (floor : ℕ) → two_body floor ≡ two_name ++ digits_of 4 floor
unfolding cells_of digits_of
two-split floor = simp append-nil

head-two : (floor : ℕ) → floor ≤ 65535 → Head 2 floor (two_body floor)
unfolding first_line floor_of head_right without
head-two floor l =
    let n = number-of-digits 4 65536 floor (omega arith) (omega arith) in
    let f : take 9 (two_body floor) ≡ two_name = ap (take 9) (two-split floor) ∙ take_at two_name (digits_of 4 floor) 9 refl in
    let d : drop 9 (two_body floor) ≡ digits_of 4 floor = ap (drop 9) (two-split floor) ∙ drop_at two_name (digits_of 4 floor) 9 refl in
    record {
      one = one_line 4 shapes_name (2 ∷ floor ∷ []) tt;
      line = line-parts 4 shapes_name (2 ∷ floor ∷ []);
      versioned = rw (two-not-one floor);
      floored = rw (two-not-one floor, d) n;
      right = rw (two-not-one floor, f, d, n, same_refl two_name) (true-is _ (le-leb floor 65535 l));
    }

abbrev Version : ℕ → ℕ → List Entry → Type 0
Version version floor list = ((version ≡ 1) × (floor ≡ 0) × T (none_gone list)) ⊎ ((version ≡ 2) × (floor ≤ 65535))

pub versions : (version floor : ℕ) (list : List Entry) → T (good_version version floor list) → Version version floor list
unfolding good_version
versions version floor list = go (eqb version 1) refl
  where
    go : (b : Bool) → eqb version 1 ≡ b → T (cond b (eqb floor 0 && none_gone list) (eqb version 2 && leb floor 65535))
        → Version version floor list
    go true d t = inl (eqb-true version 1 d, eqb→eq floor 0 (and_l (eqb floor 0) (none_gone list) t), and_r (eqb floor 0) (none_gone list) t)
    go false d t =
        inr (eqb→eq version 2 (and_l (eqb version 2) (leb floor 65535) t), leb→le floor 65535 (and_r (eqb version 2) (leb floor 65535) t))

pub version-one : (list : List Entry) → good_version 1 0 list ≡ none_gone list
unfolding good_version
version-one list = refl

pub version-two : (floor : ℕ) (list : List Entry) → good_version 2 floor list ≡ leb floor 65535
unfolding good_version
version-two floor list = refl

unfoldable first_body : ℕ → ℕ → List ℕ
first_body version floor = cond (eqb version 1) one_body (two_body floor)

head : (version floor : ℕ) (list : List Entry) → Version version floor list → Head version floor (first_body version floor)
unfolding first_body
head version floor list (inl (v, f, n)) = rw (v, f) head-one
head version floor list (inr (v, l)) = rw v (head-two floor l)

first-parts : (version floor : ℕ) (body : List ℕ) → Head version floor body → (xs : List ℕ) → parts 10 (first_line version floor ++ xs) ≡ body ∷ parts 10 xs
unfolding up_to later
first-parts version floor body h xs = rw (h.line, append_assoc) (parts-front 10 body (10 ∷ xs) h.one refl)

module _ (cat : Catalogue) (t : T (good_catalogue cat)) where
  pub cat-list : T (good_list cat.list)
  unfolding good_catalogue
  cat-list = and_l (good_list cat.list) (good_version cat.version cat.floor cat.list) t

  pub cat-version : T (good_version cat.version cat.floor cat.list)
  unfolding good_catalogue
  cat-version = and_r (good_list cat.list) (good_version cat.version cat.floor cat.list) t

  cat-head : Head cat.version cat.floor (first_body cat.version cat.floor)
  cat-head = head cat.version cat.floor cat.list (versions cat.version cat.floor cat.list cat-version)

  text-parts : parts 10 (catalogue_text cat) ≡ first_body cat.version cat.floor ∷ parts 10 (lines_of cat.list)
  unfolding catalogue_text
  text-parts = first-parts cat.version cat.floor (first_body cat.version cat.floor) cat-head (lines_of cat.list)

  -- "Reading what was written gives the same list"
  pub read-of-text : catalogue_of (catalogue_text cat) ≡ cat
  unfolding catalogue_of list_of_text
  read-of-text = rw (text-parts, cat-head.versioned, cat-head.floored, (good-rest [] cat.list cat-list).1)

  pub text-formed : T (of_form (catalogue_text cat))
  unfolding of_form
  text-formed = rw (read-of-text, same_refl (catalogue_text cat)) (and_intro (good_catalogue cat) true t tt)

module _ (text : List ℕ) (t : T (of_form text)) where
  pub read-good : T (good_catalogue (catalogue_of text))
  unfolding of_form
  read-good = and_l (good_catalogue (catalogue_of text)) (same (catalogue_text (catalogue_of text)) text) t

  -- A text that is accepted is the text of the list that it is read as.
  pub text-of-read : catalogue_text (catalogue_of text) ≡ text
  unfolding of_form
  text-of-read =
      same-eq (catalogue_text (catalogue_of text)) text (is_true _ (and_r (good_catalogue (catalogue_of text)) (same (catalogue_text (catalogue_of text)) text) t))

-- the texts of this form are those of the good catalogues
pub form-exactly : (text : List ℕ) → T (of_form text) ↔ ((cat : Catalogue) × T (good_catalogue cat) × (catalogue_text cat ≡ text))
form-exactly text = (
  (λ t. (catalogue_of text, read-good text t, text-of-read text t)),
  (λ p. subst (λ x. T (of_form x)) p.2 (text-formed p.0 p.1)),
)

-- "each list has one text", and each text one list
pub one_list : (cat other : Catalogue) → T (good_catalogue cat) → T (good_catalogue other) → catalogue_text cat ≡ catalogue_text other → cat ≡ other
one_list cat other s t e = sym (read-of-text cat s) ∙ ap catalogue_of e ∙ read-of-text other t

-- ---- the form line by line

-- version 1 has no gone lines
abbrev pub allows : List ℕ → List Entry → Bool
allows line list = cond (is_one line) (none_gone list) true

one-is : (line : List ℕ) → is_one line ≡ true → line ≡ one_body
unfolding is_one
one-is line d = same-eq line one_body d

-- a right first line is that of the version and the floor that it is read as
pub right-head : (line : List ℕ) (list : List Entry) → T (head_right line) → T (allows line list)
    → T (good_version (version_of line) (floor_of line) list) × (first_line (version_of line) (floor_of line) ≡ line ++ (10 ∷ []))
unfolding head_right floor_of
right-head line list t a = go (is_one line) refl t a
  where
    two : T (same (take 9 line) two_name && leb (number_of 65536 (drop 9 line)) 65535)
        → (number_of 65536 (drop 9 line) ≤ 65535) × (first_line 2 (number_of 65536 (drop 9 line)) ≡ line ++ (10 ∷ []))
    two u =
        let l = leb→le (number_of 65536 (drop 9 line)) 65535 (and_r (same (take 9 line) two_name) (leb (number_of 65536 (drop 9 line)) 65535) u) in
        let s = same-eq (take 9 line) two_name (is_true _ (and_l (same (take 9 line) two_name) (leb (number_of 65536 (drop 9 line)) 65535) u)) in
        let d = digits-of-number 4 65536 (drop 9 line) (omega arith) (omega arith) in (
          l,
          (head-two (number_of 65536 (drop 9 line)) l).line
              ∙ ap (λ x. x ++ (10 ∷ [])) (two-split (number_of 65536 (drop 9 line)) ∙ ap₂ ◌++◌ (sym s) d ∙ take-append-drop 9 line),
        )

    go : (b : Bool) → is_one line ≡ b → T (cond b true (same (take 9 line) two_name && leb (number_of 65536 (drop 9 line)) 65535))
        → T (cond b (none_gone list) true)
        → T (good_version (cond b 1 2) (cond b 0 (number_of 65536 (drop 9 line))) list)
        × (first_line (cond b 1 2) (cond b 0 (number_of 65536 (drop 9 line))) ≡ line ++ (10 ∷ []))
    go true d u v = (subst T (sym (version-one list)) v, head-one.line ∙ ap (λ x. x ++ (10 ∷ [])) (sym (one-is line d)))
    go false d u v = (
      subst T (sym (version-two (number_of 65536 (drop 9 line)) list)) (true-is _ (le-leb (number_of 65536 (drop 9 line)) 65535 (two u).0)),
      (two u).1,
    )

allowed : (line : List ℕ) (cat : Catalogue) → Version cat.version cat.floor cat.list → version_of line ≡ cat.version → T (allows line cat.list)
allowed line cat v e = go (is_one line) v e
  where
    go : (b : Bool) → Version cat.version cat.floor cat.list → cond b 1 2 ≡ cat.version → T (cond b (none_gone cat.list) true)
    go true (inl (v, f, n)) e = n
    go true (inr (v, l)) e = absurd (omega arith)
    go false w e = tt

module _ (text : List ℕ) where
  abbrev first : List ℕ
  first = up_to 10 text

  abbrev rest : List (List ℕ)
  rest = drop 1 (parts 10 text)

  split : parts 10 text ≡ first ∷ rest
  split = rw (parts-split 10 text)

  catalogue-is : catalogue_of text ≡ record { version = version_of first; floor = floor_of first; list = entries_of rest }
  unfolding catalogue_of list_of_text
  catalogue-is = rw (parts-split 10 text)

  -- the first line, the lines after it, and no gone lines in version 1
  abbrev right_lines : Bool
  right_lines = head_right first && (rest_right [] rest && allows first (entries_of rest))

  by_lines : T (of_form text) → T right_lines
  by_lines t =
      let cat : Catalogue = catalogue_of text in
      let g = read-good text t in
      let p : first ∷ rest ≡ first_body cat.version cat.floor ∷ parts 10 (lines_of cat.list) =
      sym split ∙ ap (parts 10) (sym (text-of-read text t)) ∙ text-parts cat g in
      let f : first ≡ first_body cat.version cat.floor = ap (λ ps. get_or ps 0 []) p in
      let r : rest ≡ parts 10 (lines_of cat.list) = ap (drop 1) p in
      let i = good-rest [] cat.list (cat-list cat g) in
      let h = cat-head cat g in
      rw (f, r, i.1)
      (and_intro (head_right (first_body cat.version cat.floor)) _ h.right
      (and_intro (rest_right [] (parts 10 (lines_of cat.list))) _ i.0
      (allowed (first_body cat.version cat.floor) cat (versions _ _ _ (cat-version cat g)) h.versioned)))

  of-lines : T right_lines → T (of_form text)
  unfolding of_form good_catalogue catalogue_text joined_by rest_right
  of-lines t =
      let h = and_l (head_right first) (rest_right [] rest && allows first (entries_of rest)) t in
      let u = and_r (head_right first) (rest_right [] rest && allows first (entries_of rest)) t in
      let g = rest-good [] rest (and_l (rest_right [] rest) (allows first (entries_of rest)) u) in
      let k = right-head first (entries_of rest) h (and_r (rest_right [] rest) (allows first (entries_of rest)) u) in
      let whole : first_line (version_of first) (floor_of first) ++ lines_of (entries_of rest) ≡ text =
      ap₂ ◌++◌ k.1 g.1 ∙ append_assoc first (10 ∷ []) (joined_by 10 rest)
      ∙ some rest (and_l (rest_right [] rest) (allows first (entries_of rest)) u) ∙ ap (joined_by 10) (sym split) ∙ joined-parts 10 text in
      rw (catalogue-is, whole, same_refl text)
      (and_intro (good_list (entries_of rest) && good_version (version_of first) (floor_of first) (entries_of rest)) true
      (and_intro (good_list (entries_of rest)) (good_version (version_of first) (floor_of first) (entries_of rest)) g.0 k.0) tt)
    where
      some : (ps : List (List ℕ)) → T (rest_right [] ps) → first ++ (10 ∷ joined_by 10 ps) ≡ joined_by 10 (first ∷ ps)
      some [] u = absurd u
      some (p ∷ ps) u = refl

  pub form-lines : of_form text ≡ right_lines
  form-lines = tests_same (of_form text) right_lines by_lines of-lines

  -- and the catalogue of such a text
  pub catalogue-lines : catalogue_of text
      ≡ record { version = version_of (up_to 10 text); floor = floor_of (up_to 10 text); list = entries_of (drop 1 (parts 10 text)) }
  catalogue-lines = catalogue-is

-- ---- how long the first line is

digits-longer : (t a b : ℕ) → a ≤ b → length (digits_of t a) ≤ length (digits_of t b)
unfolding digits_of
digits-longer zero a b l = omega arith
digits-longer (suc t) a b l = elim (dec_lt a 10) [
  | yes h ↦ (let s = digits-some (suc t) b in rw (digits-one (suc t) a h) (omega arith))
  | no h ↦ (
      let i = digits-longer t (a / 10) (b / 10) (omega arith) in
      rw (digits-split t a (omega arith), digits-split t b (omega arith), length-append, length-append) (omega arith)
      )
]

pub first_two : (floor : ℕ) → length (first_line 2 floor) ≡ 10 + length (digits_of 4 floor)
unfolding first_line
first_two floor =
    ap length (line-parts 4 shapes_name (2 ∷ floor ∷ []) ∙ ap (λ x. x ++ (10 ∷ [])) (two-split floor))
    ∙ length-append (two_name ++ digits_of 4 floor) (10 ∷ []) ∙ omega arith

pub first_one : (floor : ℕ) → length (first_line 1 floor) ≡ 9
unfolding first_line line_with cells_of digits_of
first_one floor = refl

-- the line of version 2 is not shorter, nor is that of a higher floor
pub first-grows : (version floor high : ℕ) (list : List Entry) → T (good_version version floor list) → floor ≤ high
    → length (first_line version floor) ≤ length (first_line 2 high)
first-grows version floor high list t l = go (versions version floor list t)
  where
    go : Version version floor list → length (first_line version floor) ≤ length (first_line 2 high)
    go (inl (v, f, n)) = let a = first_one floor in let b = first_two high in rw v (omega arith)
    go (inr (v, m)) = let a = first_two floor in let b = first_two high in let d = digits-longer 4 floor high l in rw v (omega arith)
