-- A line by its fields, one after the other.
use Rattle.std.specs.Prelude.{◌≡◌, ◌⊎◌, Bool, cond, Option, Some, None, ◌&&◌, ℕ, ◌+◌, ◌≤◌, ◌<◌, eqb, leb, get_or, take}
use Rattle.std.proofs.Math.Path.{refl, ap}
use Rattle.std.proofs.Common.{sym, ◌∙◌, subst, inl, inr, zero-add}
use Rattle.std.proofs.Math.Bool.{true, false, false≢true}
use mathlib.Core.List.{List, [], ◌∷◌, map}
use native.Mathlib.Omega.{arith}
use Rattle.std.proofs.Math.Decide.{dec_lt}
use borrow.Author.Tests.{lt-ltb, le-ltb, le-leb, lt-leb, ne_eqb, eqb-true}
use Rattle.std.proofs.Math.Dec.{T}
use Rattle.std.proofs.Math.ListN.{length, drop}
use Rattle.shape.specs.Shapes.{byte_limits}
use Rattle.code.specs.Limits.{shape_refusal_in}
use Rattle.code.specs.LimitsLaws.{good-of-refusal}
use Rattle.text.specs.Decimal.{number_of}
use Rattle.text.specs.Fields.{fields, same, up_to, to_tab, end_of, parts_from, joined_by}
use Rattle.text.specs.FieldLaws.{take_part, parts_more, parts-end, parts_all}
use Rattle.text.specs.Records.{line_name}
use Rattle.text.specs.RecordLaws.{name-first}
use Rattle.catalogue_text.specs.Names.{good_name}
use Rattle.catalogue_text.specs.NamesLaws.{and_none, and-all}
use Rattle.catalogue_text.specs.Catalogue.{Entry, good_shape, good_entry, gone_name, numbers_of, says_gone, shaped_of, entry_of}
use Rattle.catalogue_text.specs.LineLaws.{gone-numbers}
use Rattle.catalogue_text.specs.CatalogueLaws.{good_shaped, shaped_line, line_good, read_name}
use Rattle.catalogue_lines.specs.declared.Field.{Field}
use Rattle.catalogue_lines.specs.declared.Line.{Line}
use Rattle.catalogue_lines.specs.Reading.{as_line, read_line, field_after, numbers_good, line_if, gone_after, gone_if}

-- the numbers of the fields after a place
unfoldable pub numbers_from : ℕ → List ℕ → List ℕ
numbers_from i line = map (number_of 65536) (parts_from 9 i line)

pub first-end : (line : List ℕ) → end_of 9 0 line ≡ length (to_tab line)
unfolding end_of
first-end line = zero-add (length (to_tab line))

numbers-first : (line : List ℕ) → numbers_of line ≡ numbers_from (end_of 9 0 line) line
unfolding numbers_of numbers_from
numbers-first line = rw (parts_all 9 line, first-end line)

pub name-taken : (line : List ℕ) → take (end_of 9 0 line) line ≡ line_name line
name-taken line = ap (λ i. take i line) (first-end line) ∙ take_part 9 line ∙ sym (name-first line)

module _ (line : List ℕ) (i : ℕ) where
  pub field-some : i < length line → field_after i line ≡ record { value = number_of 65536 (up_to 9 (drop (i + 1) line)); end = end_of 9 (i + 1) line }
  unfolding field_after
  field-some l = rw (lt-ltb i (length line) l)

  pub field-none : length line ≤ i → field_after i line ≡ record { value = 65537; end = i }
  unfolding field_after
  field-none l = rw (le-ltb i (length line) l)

  numbers_more : i < length line → numbers_from i line ≡ (field_after i line).value ∷ numbers_from (field_after i line).end line
  unfolding numbers_from
  numbers_more l = rw (field-some l, parts_more 9 i line l)

  numbers-end : length line ≤ i → numbers_from i line ≡ []
  unfolding numbers_from
  numbers-end l = rw (parts-end 9 i line l)

-- numbers of which one is too large
revision-large : (m w c : ℕ) → numbers_good 65537 m w c ≡ false
unfolding numbers_good
revision-large m w c = refl

shape-large : (r m w c : ℕ) → (16 < m) ⊎ (16 < w) ⊎ (16 < c) → numbers_good r m w c ≡ false
unfolding numbers_good
shape-large r m w c h = rw (none (eqb (shape_refusal_in byte_limits m w c) 0) refl, and_none (leb r 65535), and_none (leb 1 r))
  where
    large : shape_refusal_in byte_limits m w c ≡ 0 → (16 < m) ⊎ (16 < w) ⊎ (16 < c) → ⊥
    large e (inl l) = let g = (good-of-refusal m w c e).few in omega arith
    large e (inr (inl l)) = let g = (good-of-refusal m w c e).narrow in omega arith
    large e (inr (inr l)) = let g = (good-of-refusal m w c e).few-checks in omega arith

    none : (b : Bool) → eqb (shape_refusal_in byte_limits m w c) 0 ≡ b → b ≡ false
    none true e = absurd (large (eqb-true (shape_refusal_in byte_limits m w c) 0 e) h)
    none false e = refl

entry_read : (line : List ℕ) (r m w c : ℕ) → numbers_of line ≡ r ∷ m ∷ w ∷ c ∷ []
    → shaped_of line ≡ record { name = line_name line; revision = r; m = m; w = w; c = c }
unfolding shaped_of
entry_read line r m w c e = rw e

good-numbers : (e : Entry) → good_shaped e ≡ (good_name e.name && numbers_good e.revision e.m e.w e.c)
unfolding good_shaped good_shape numbers_good
good-numbers e = refl

-- four fields, one after the other, from the end of the name on
module _ (line : List ℕ) where
  abbrev first : Field
  first = field_after (end_of 9 0 line) line

  abbrev second : Field
  second = field_after first.end line

  abbrev third : Field
  third = field_after second.end line

  abbrev fourth : Field
  fourth = field_after third.end line

  abbrev as_read : Entry
  as_read = record { name = line_name line; revision = first.value; m = second.value; w = third.value; c = fourth.value }

  -- the line is good by its name, its end and its numbers
  abbrev ReadAs : Bool → Type 0
  ReadAs g = (shaped_line line ≡ (leb (length line) fourth.end && g)) × (T (leb (length line) fourth.end && g) → shaped_of line ≡ as_read)

  not-four : (g : Bool) → (length (numbers_of line) ≡ 4 → ⊥) → (leb (length line) fourth.end && g) ≡ false → ReadAs g
  unfolding shaped_line
  not-four g n e = (rw (ne_eqb (length (numbers_of line)) 4 n) (sym e), λ t. absurd (subst T e t))

  abbrev good : Bool
  good = good_name (line_name line) && numbers_good first.value second.value third.value fourth.value

  -- where a number is missing it counts as too large
  missing : (length (numbers_of line) ≡ 4 → ⊥) → numbers_good first.value second.value third.value fourth.value ≡ false → ReadAs good
  missing n e =
      not-four good n
      (ap (λ g. (leb (length line) fourth.end && (good_name (line_name line) && g))) e
      ∙ rw (and_none (good_name (line_name line)), and_none (leb (length line) fourth.end)))

  counted : {xs : List ℕ} → numbers_of line ≡ xs → (length xs ≡ 4 → ⊥) → length (numbers_of line) ≡ 4 → ⊥
  counted e n k = n (sym (ap length e) ∙ k)

  gone : (f : Field) (i : ℕ) → f ≡ field_after i line → length line ≤ i → f.value ≡ 65537
  gone f i e l = ap (λ (g : Field). g.value) (e ∙ field-none line i l)

  exact : numbers_of line ≡ first.value ∷ second.value ∷ third.value ∷ fourth.value ∷ [] → length line ≤ fourth.end → ReadAs good
  unfolding shaped_line
  exact e l =
      let whole = le-leb (length line) fourth.end l in
      let read : shaped_of line ≡ as_read = entry e in (
        rw (ap length e, read, whole) refl-good,
        λ t. read,
      )
    where
      entry : numbers_of line ≡ first.value ∷ second.value ∷ third.value ∷ fourth.value ∷ [] → shaped_of line ≡ as_read
      entry e = entry_read line first.value second.value third.value fourth.value e

      refl-good : good_shaped as_read ≡ good
      refl-good = good-numbers as_read

  pub fields_read : ReadAs good
  fields_read = elim (dec_lt e₀ n) [
    | yes l₀ ↦ elim (dec_lt first.end n) [
      | yes l₁ ↦ elim (dec_lt second.end n) [
        | yes l₂ ↦ elim (dec_lt third.end n) [
          | yes l₃ ↦ elim (dec_lt fourth.end n) [
            | yes l₄ ↦ (
                let e = four l₀ l₁ l₂ l₃ in
                not-four good (counted (e ∙ ap after-four (numbers_more line fourth.end l₄)) (λ k. omega arith))
                (ap (λ b. (b && good)) (lt-leb n fourth.end l₄))
                )
            | no l₄ ↦ exact (four l₀ l₁ l₂ l₃ ∙ ap after-four (numbers-end line fourth.end (omega arith))) (omega arith)
          ]
          | no l₃ ↦ (
              let e = numbers-first line ∙ numbers_more line e₀ l₀ ∙ ap (λ x. first.value ∷ x) (numbers_more line first.end l₁)
              ∙ ap (λ x. first.value ∷ second.value ∷ x) (numbers_more line second.end l₂)
              ∙ ap (λ x. first.value ∷ second.value ∷ third.value ∷ x) (numbers-end line third.end (omega arith)) in
              let v = gone fourth third.end refl (omega arith) in
              missing (counted e (λ k. omega arith)) (shape-large first.value second.value third.value fourth.value (inr (inr (omega arith))))
              )
        ]
        | no l₂ ↦ (
            let e = numbers-first line ∙ numbers_more line e₀ l₀ ∙ ap (λ x. first.value ∷ x) (numbers_more line first.end l₁)
            ∙ ap (λ x. first.value ∷ second.value ∷ x) (numbers-end line second.end (omega arith)) in
            let v = gone third second.end refl (omega arith) in
            missing (counted e (λ k. omega arith)) (shape-large first.value second.value third.value fourth.value (inr (inl (omega arith))))
            )
      ]
      | no l₁ ↦ (
          let e = numbers-first line ∙ numbers_more line e₀ l₀ ∙ ap (λ x. first.value ∷ x) (numbers-end line first.end (omega arith)) in
          let v = gone second first.end refl (omega arith) in
          missing (counted e (λ k. omega arith)) (shape-large first.value second.value third.value fourth.value (inl (omega arith)))
          )
    ]
    | no l₀ ↦ (
        let e = numbers-first line ∙ numbers-end line e₀ (omega arith) in
        let v = gone first e₀ refl (omega arith) in
        missing (counted e (λ k. omega arith)) (rw v (revision-large second.value third.value fourth.value))
        )
  ]
    where
      n : ℕ
      n = length line

      e₀ : ℕ
      e₀ = end_of 9 0 line

      after-four : List ℕ → List ℕ
      after-four x = first.value ∷ second.value ∷ third.value ∷ fourth.value ∷ x

      four : e₀ < n → first.end < n → second.end < n → third.end < n → numbers_of line ≡ after-four (numbers_from fourth.end line)
      four l₀ l₁ l₂ l₃ =
          numbers-first line ∙ numbers_more line e₀ l₀ ∙ ap (λ x. first.value ∷ x) (numbers_more line first.end l₁)
          ∙ ap (λ x. first.value ∷ second.value ∷ x) (numbers_more line second.end l₂)
          ∙ ap (λ x. first.value ∷ second.value ∷ third.value ∷ x) (numbers_more line third.end l₃)

  pub name-size : length (line_name line) ≡ end_of 9 0 line
  name-size = ap length (name-first line) ∙ sym (first-end line)

  abbrev numbers : Bool
  numbers = numbers_good first.value second.value third.value fourth.value

  -- the word gone behind the second tab, by places
  pub gone_at : gone_after first.end line ≡ says_gone line
  unfolding gone_after says_gone
  gone_at = ap (λ ps. same (joined_by 9 ps) gone_name) (sym behind)
    where
      behind : drop 2 (fields line) ≡ parts_from 9 first.end line
      behind = ap (drop 2) (parts_all 9 line) ∙ ap (λ i. drop 1 (parts_from 9 i line)) (sym (first-end line)) ∙ elim (dec_lt (end_of 9 0 line) (length line)) [
        | yes l ↦ rw (parts_more 9 (end_of 9 0 line) line l, field-some line (end_of 9 0 line) l)
        | no l ↦ (
            let h : length line ≤ end_of 9 0 line = omega arith in
            rw (parts-end 9 (end_of 9 0 line) line h, field-none line (end_of 9 0 line) h, parts-end 9 (end_of 9 0 line) line h)
            )
      ]

  -- the number of a line that says gone
  gone-revision : says_gone line ≡ true → get_or (numbers_of line) 0 0 ≡ first.value
  unfolding says_gone joined_by same
  gone-revision s = elim (dec_lt (end_of 9 0 line) (length line)) [
    | yes l ↦ rw (numbers-first line, numbers_more line (end_of 9 0 line) l)
    | no l ↦ (
        let h : length line ≤ end_of 9 0 line = omega arith in
        absurd (none (ap (λ ps. same (joined_by 9 (drop 2 ps)) gone_name) (parts_all 9 line ∙ ap (λ i. to_tab line ∷ parts_from 9 i line) (sym (first-end line))
        ∙ ap (λ ps. to_tab line ∷ ps) (parts-end 9 (end_of 9 0 line) line h))) s)
        )
  ]
    where
      none : same (joined_by 9 (drop 2 (fields line))) gone_name ≡ same (joined_by 9 []) gone_name → same (joined_by 9 (drop 2 (fields line))) gone_name ≡ true → ⊥
      none e t = false≢true (sym e ∙ t)

  entry_gone : says_gone line ≡ true → entry_of line ≡ record { name = line_name line; revision = first.value; m = 0; w = 0; c = 0 }
  unfolding entry_of
  entry_gone s = rw (s, gone-revision s)

  entry-shaped : says_gone line ≡ false → (line_good line ≡ shaped_line line) × (entry_of line ≡ shaped_of line)
  unfolding line_good entry_of
  entry-shaped s = rw s (refl, refl)

  -- a line that says gone, by the length of its name and its revision
  pub gone-read : good_name (line_name line) ≡ true → says_gone line ≡ true → read_line line ≡ gone_if (end_of 9 0 line) first.value
  unfolding read_line gone_if line_good good_entry
  gone-read t s = rw (s, entry_gone s, t, gone-numbers, and-all (leb first.value 65535), name-size)

  -- a line by the length of its name and its numbers
  pub line_read : good_name (line_name line) ≡ true → says_gone line ≡ false → length line ≤ fourth.end
      → read_line line ≡ line_if (end_of 9 0 line) first.value second.value third.value fourth.value
  unfolding read_line line_if
  line_read t s l = go numbers refl ((entry-shaped s).0 ∙ fields_read.0 ∙ tests) (λ u. (entry-shaped s).1 ∙ fields_read.1 (subst T (sym tests) u))
    where
      tests : (leb (length line) fourth.end && good) ≡ numbers
      tests = rw (le-leb (length line) fourth.end l, t)

      go : (b : Bool) → numbers ≡ b → line_good line ≡ numbers → (T numbers → entry_of line ≡ as_read)
          → cond (line_good line) (Some (as_line (entry_of line))) None
          ≡ cond {A = Option Line} numbers
          (Some (record { size = end_of 9 0 line; revision = first.value; m = second.value; w = third.value; c = fourth.value })) None
      go true e g r = rw (g, r (subst T (sym e) tt), e, name-size)
      go false e g r = rw (g, e)

  pub line-unnamed : good_name (line_name line) ≡ false → read_line line ≡ None
  unfolding read_line line_good good_entry
  line-unnamed e = go (says_gone line)
    where
      shaped : shaped_line line ≡ false
      shaped = fields_read.0 ∙ rw (e, and_none (leb (length line) fourth.end))

      go : (b : Bool) → cond (cond b (good_entry (entry_of line)) (shaped_line line)) (Some (as_line (entry_of line))) None ≡ None
      go true = rw (read_name line, e)
      go false = rw shaped

  pub line-longer : says_gone line ≡ false → fourth.end < length line → read_line line ≡ None
  unfolding read_line
  line-longer s l =
      let n : line_good line ≡ false = (entry-shaped s).0 ∙ fields_read.0 ∙ rw (lt-leb (length line) fourth.end l) in
      rw n

-- with the fields as they were read one after the other
module _ (line : List ℕ) (size : ℕ) (f₁ : Field) (s : size ≡ end_of 9 0 line) (e₁ : f₁ ≡ field_after size line) where
  one : f₁ ≡ first line
  one = e₁ ∙ ap (λ i. field_after i line) s

  says : gone_after f₁.end line ≡ says_gone line
  says = ap (λ (f : Field). gone_after f.end line) one ∙ gone_at line

  pub read-gone : good_name (line_name line) ≡ true → gone_after f₁.end line ≡ true → read_line line ≡ gone_if size f₁.value
  read-gone g t = let e = gone-read line g (sym says ∙ t) in rw (s, one) e

  module _ (shaped : gone_after f₁.end line ≡ false) (f₂ f₃ f₄ : Field) (e₂ : f₂ ≡ field_after f₁.end line) (e₃ : f₃ ≡ field_after f₂.end line)
      (e₄ : f₄ ≡ field_after f₃.end line) where
    two : f₂ ≡ second line
    two = e₂ ∙ ap (λ (f : Field). field_after f.end line) one

    three : f₃ ≡ third line
    three = e₃ ∙ ap (λ (f : Field). field_after f.end line) two

    four_is : f₄ ≡ fourth line
    four_is = e₄ ∙ ap (λ (f : Field). field_after f.end line) three

    pub read-rest : good_name (line_name line) ≡ true
        → (f₄.end < length line → read_line line ≡ None)
        × (length line ≤ f₄.end → read_line line ≡ line_if size f₁.value f₂.value f₃.value f₄.value)
    read-rest g = (
      (λ l. line-longer line (sym says ∙ shaped) (subst (λ (f : Field). f.end < length line) four_is l)),
      λ l. rw (s, one, two, three, four_is) (line_read line g (sym says ∙ shaped) (subst (λ (f : Field). length line ≤ f.end) four_is l)),
    )
