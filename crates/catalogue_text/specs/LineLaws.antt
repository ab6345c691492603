-- A line and its entry: the line of a good entry is read as it, and only that line is.
use Rattle.std.specs.Prelude.{◌≡◌, Bool, cond, ◌&&◌, ℕ, ◌≤◌, ◌<◌, T, eqb, leb, drop}
use Rattle.std.proofs.Math.Path.{refl, sym, ap, subst}
use Rattle.std.proofs.Common.{◌∙◌, arith, ne_eqb, le-leb, eqb-true, eqb→eq, leb→le}
use Rattle.std.proofs.Math.Bool.{true, false}
use mathlib.Core.List.{List, [], ◌∷◌, ◌++◌, map, append_assoc, append-nil}
use Rattle.std.proofs.Math.ListN.{length, get_or, length-append}
use Rattle.std.proofs.lemmas.List.{length-map}
use Rattle.counting.specs.TestLaws.{and_l, and_r, and_intro}
use Rattle.shape.specs.Shapes.{byte_limits}
use Rattle.code.specs.Limits.{GoodIn, shape_refusal_in}
use Rattle.code.specs.LimitsLaws.{good-of-refusal, refusal-of-good}
use Rattle.text.specs.Decimal.{digits_of, number_of, without}
use Rattle.text.specs.DecimalLaws.{without-append, number-of-digits, digits-of-number, digits-without, digits-some}
use Rattle.text.specs.Fields.{parts, fields, up_to, later, joined_by}
use Rattle.text.specs.FieldLaws.{parts-split, parts-front, joined-parts, same-eq, other_length}
use Rattle.text.specs.Records.{line_name}
use Rattle.text.specs.Lines.{cells_of, line_with}
use Rattle.text.specs.ReadBackLaws.{fields_back, line-parts, one_line}
use Rattle.catalogue_text.specs.Names.{good_name}
use Rattle.catalogue_text.specs.NamesLaws.{same_refl, name-without}
use Rattle.catalogue_text.specs.Catalogue.{Entry, is_gone, good_shape, shape_or_gone, good_entry, gone_name, gone_line, entry_line, numbers_of, says_gone}
use Rattle.catalogue_text.specs.Catalogue.{shaped_of, entry_of}

-- what is known of a good entry
pub record EntryGood (e : Entry) : Type 0 where
  pub named : T (good_name e.name)
  pub some : 1 ≤ e.revision
  pub most : e.revision ≤ 65535
  pub shaped : is_gone e ≡ false → GoodIn byte_limits e.m e.w e.c
  pub gone : is_gone e ≡ true → (e.m ≡ 0) × (e.w ≡ 0) × (e.c ≡ 0)

-- a good shape or zeros
numbers-shaped : (m w c : ℕ) → T (shape_or_gone m w c) → eqb m 0 ≡ false → GoodIn byte_limits m w c
unfolding shape_or_gone good_shape
numbers-shaped m w c t e =
    good-of-refusal m w c (eqb→eq (shape_refusal_in byte_limits m w c) 0
    (subst (λ b. T (cond b (eqb w 0 && eqb c 0) (eqb (shape_refusal_in byte_limits m w c) 0))) e t))

numbers-gone : (m w c : ℕ) → T (shape_or_gone m w c) → eqb m 0 ≡ true → (m ≡ 0) × (w ≡ 0) × (c ≡ 0)
unfolding shape_or_gone
numbers-gone m w c t e =
    let u : T (eqb w 0 && eqb c 0) = subst (λ b. T (cond b (eqb w 0 && eqb c 0) (good_shape m w c))) e t in
    (eqb-true m 0 e, eqb→eq w 0 (and_l (eqb w 0) (eqb c 0) u), eqb→eq c 0 (and_r (eqb w 0) (eqb c 0) u))

pub shape-numbers : (m w c : ℕ) → GoodIn byte_limits m w c → (shape_or_gone m w c ≡ true) × (eqb m 0 ≡ false) × (good_shape m w c ≡ true)
unfolding shape_or_gone good_shape
shape-numbers m w c g =
    let s = g.some in
    rw (ne_eqb m 0 (λ z. omega arith), refusal-of-good m w c g) (refl, refl, refl)

pub gone-numbers : shape_or_gone 0 0 0 ≡ true
unfolding shape_or_gone
gone-numbers = refl

pub entry-good : (e : Entry) → T (good_entry e) → EntryGood e
unfolding good_entry
entry-good e t =
    let r : Bool = shape_or_gone e.m e.w e.c in
    let t₁ = and_r (good_name e.name) (leb 1 e.revision && (leb e.revision 65535 && r)) t in
    let t₂ = and_r (leb 1 e.revision) (leb e.revision 65535 && r) t₁ in
    let t₃ = and_r (leb e.revision 65535) r t₂ in
    record {
      named = and_l (good_name e.name) (leb 1 e.revision && (leb e.revision 65535 && r)) t;
      some = leb→le 1 e.revision (and_l (leb 1 e.revision) (leb e.revision 65535 && r) t₁);
      most = leb→le e.revision 65535 (and_l (leb e.revision 65535) r t₂);
      shaped = numbers-shaped e.m e.w e.c t₃;
      gone = numbers-gone e.m e.w e.c t₃;
    }

-- an entry is good by its name, its revision and its shape
pub good-entry : (e : Entry) → T (good_name e.name) → 1 ≤ e.revision → e.revision ≤ 65535 → shape_or_gone e.m e.w e.c ≡ true → T (good_entry e)
unfolding good_entry
good-entry e n s m h =
    rw (le-leb 1 e.revision s, le-leb e.revision 65535 m, h)
    (and_intro (good_name e.name) true n tt)

-- ---- the lines without their line feeds
unfoldable pub gone_body : List ℕ → ℕ → List ℕ
gone_body name revision = name ++ (9 ∷ (digits_of 4 revision ++ (9 ∷ gone_name)))

unfoldable pub shaped_body : Entry → List ℕ
shaped_body e = e.name ++ cells_of 4 (e.revision ∷ e.m ∷ e.w ∷ e.c ∷ [])

unfoldable pub body_of : Entry → List ℕ
body_of e = cond (is_gone e) (gone_body e.name e.revision) (shaped_body e)

gone-line : (name : List ℕ) (revision : ℕ) → gone_line name revision ≡ gone_body name revision ++ (10 ∷ [])
unfolding gone_line gone_body cells_of
gone-line name revision = simp (append_assoc, append-nil)

shaped-line : (e : Entry) → line_with 4 e.name (e.revision ∷ e.m ∷ e.w ∷ e.c ∷ []) ≡ shaped_body e ++ (10 ∷ [])
unfolding shaped_body
shaped-line e = line-parts 4 e.name (e.revision ∷ e.m ∷ e.w ∷ e.c ∷ [])

pub body-line : (e : Entry) → entry_line e ≡ body_of e ++ (10 ∷ [])
unfolding entry_line body_of
body-line e = go (is_gone e)
  where
    go : (b : Bool) → cond b (gone_line e.name e.revision) (line_with 4 e.name (e.revision ∷ e.m ∷ e.w ∷ e.c ∷ []))
        ≡ cond b (gone_body e.name e.revision) (shaped_body e) ++ (10 ∷ [])
    go true = gone-line e.name e.revision
    go false = shaped-line e

-- what is known of a line's body: it has no line feed, and is read as the entry
abbrev Reads : Entry → List ℕ → Type 0
Reads e body = T (without 10 body) × (line_name body ≡ e.name) × (entry_of body ≡ e)

module _ (name : List ℕ) (revision : ℕ) (named : T (good_name name)) (most : revision ≤ 65535) where
  gone_one : T (without 10 (gone_body name revision))
  unfolding gone_body without
  gone_one =
      without-append 10 name (9 ∷ (digits_of 4 revision ++ (9 ∷ gone_name))) (name-without 10 refl name named)
      (without-append 10 (digits_of 4 revision) (9 ∷ gone_name) (digits-without 10 4 revision (omega arith)) tt)

  gone-fields : fields (gone_body name revision) ≡ name ∷ digits_of 4 revision ∷ gone_name ∷ []
  unfolding gone_body up_to later parts
  gone-fields =
      parts-front 9 name (9 ∷ (digits_of 4 revision ++ (9 ∷ gone_name))) (name-without 9 refl name named) refl
      ∙ ap (λ fs. name ∷ fs) (parts-front 9 (digits_of 4 revision) (9 ∷ gone_name) (digits-without 9 4 revision (omega arith)) refl)

  pub gone-said : says_gone (gone_body name revision) ≡ true
  unfolding says_gone joined_by
  gone-said = rw gone-fields (same_refl gone_name)

  gone-reads : Reads (record { name = name; revision = revision; m = 0; w = 0; c = 0 }) (gone_body name revision)
  unfolding entry_of line_name numbers_of
  gone-reads = (
    gone_one,
    rw gone-fields,
    rw (gone-said, gone-fields, number-of-digits 4 65536 revision (omega arith) (omega arith)),
  )

module _ (e : Entry) (named : T (good_name e.name)) (most : e.revision ≤ 65535) (g : GoodIn byte_limits e.m e.w e.c) where
  shaped-fields : fields (shaped_body e) ≡ e.name ∷ map (digits_of 4) (e.revision ∷ e.m ∷ e.w ∷ e.c ∷ [])
  unfolding shaped_body
  shaped-fields = fields_back 4 e.name (e.revision ∷ e.m ∷ e.w ∷ e.c ∷ []) (name-without 9 refl e.name named)

  pub shaped-numbers : numbers_of (shaped_body e) ≡ e.revision ∷ e.m ∷ e.w ∷ e.c ∷ []
  unfolding numbers_of
  shaped-numbers =
      let h = g.few in
      let i = g.few-checks in
      let j = g.narrow in
      rw (shaped-fields, number-of-digits 4 65536 e.revision (omega arith) (omega arith), number-of-digits 4 65536 e.m (omega arith) (omega arith))
      (rw (number-of-digits 4 65536 e.w (omega arith) (omega arith), number-of-digits 4 65536 e.c (omega arith) (omega arith)))

  -- three numbers are longer than the word gone
  pub shaped-said : says_gone (shaped_body e) ≡ false
  unfolding says_gone joined_by
  shaped-said =
      let a = digits-some 4 e.m in
      let b = digits-some 4 e.w in
      let d = digits-some 4 e.c in
      rw shaped-fields
      (other_length (digits_of 4 e.m ++ (9 ∷ (digits_of 4 e.w ++ (9 ∷ digits_of 4 e.c)))) gone_name
      (let k = length-append (digits_of 4 e.m) (9 ∷ (digits_of 4 e.w ++ (9 ∷ digits_of 4 e.c))) in
      let l = length-append (digits_of 4 e.w) (9 ∷ digits_of 4 e.c) in
      λ z. omega arith))

  pub shaped-read : shaped_of (shaped_body e) ≡ e
  unfolding shaped_of line_name
  shaped-read = rw (shaped-fields, shaped-numbers)

  shaped-reads : Reads e (shaped_body e)
  unfolding entry_of shaped_body line_name
  shaped-reads = (
    one_line 4 e.name (e.revision ∷ e.m ∷ e.w ∷ e.c ∷ []) (name-without 10 refl e.name named),
    ap (λ fs. get_or fs 0 []) shaped-fields,
    rw shaped-said shaped-read,
  )

gone-entry : (name : List ℕ) (r m w c : ℕ) → m ≡ 0 → w ≡ 0 → c ≡ 0
    → ◌≡◌ {A = Entry} (record { name = name; revision = r; m = 0; w = 0; c = 0 }) (record { name = name; revision = r; m = m; w = w; c = c })
gone-entry name r m w c p q s = rw (p, q, s)

module _ (e : Entry) (g : EntryGood e) where
  reads : Reads e (body_of e)
  unfolding body_of
  reads = go (is_gone e) refl
    where
      go : (b : Bool) → is_gone e ≡ b → Reads e (cond b (gone_body e.name e.revision) (shaped_body e))
      go true d =
          let z = g.gone d in
          subst (λ x. Reads x (gone_body e.name e.revision)) (gone-entry e.name e.revision e.m e.w e.c z.0 z.1 z.2)
          (gone-reads e.name e.revision g.named g.most)
      go false d = shaped-reads e g.named g.most (g.shaped d)

  -- a line feed stands at its end alone
  pub body-one : T (without 10 (body_of e))
  body-one = reads.0

  pub body-name : line_name (body_of e) ≡ e.name
  body-name = reads.1

  -- it is read as the entry
  pub body-read : entry_of (body_of e) ≡ e
  body-read = reads.2

-- ---- a line that is read as a good entry, with no field besides, is that entry's line

named : (line : List ℕ) → fields line ≡ line_name line ∷ drop 1 (fields line)
unfolding line_name
named line = rw (parts-split 9 line)

module _ (line : List ℕ) (n : length (numbers_of line) ≡ 4) (most : (shaped_of line).revision ≤ 65535)
    (g : GoodIn byte_limits (shaped_of line).m (shaped_of line).w (shaped_of line).c) where
  four : (fs : List (List ℕ)) (r m w c : ℕ) → length fs ≡ 4 → get_or (map (number_of 65536) fs) 0 0 ≡ r → get_or (map (number_of 65536) fs) 1 0 ≡ m
      → get_or (map (number_of 65536) fs) 2 0 ≡ w → get_or (map (number_of 65536) fs) 3 0 ≡ c → r < 65536 → m < 65536 → w < 65536 → c < 65536
      → joined_by 9 (line_name line ∷ fs) ≡ line_name line ++ cells_of 4 (r ∷ m ∷ w ∷ c ∷ [])
  unfolding joined_by cells_of
  four [] r m w c e p q s t i j k l = absurd (omega arith)
  four (f₁ ∷ []) r m w c e p q s t i j k l = absurd (omega arith)
  four (f₁ ∷ f₂ ∷ []) r m w c e p q s t i j k l = absurd (omega arith)
  four (f₁ ∷ f₂ ∷ f₃ ∷ []) r m w c e p q s t i j k l = absurd (omega arith)
  four (f₁ ∷ f₂ ∷ f₃ ∷ f₄ ∷ []) r m w c e p q s t i j k l =
      let d₁ : digits_of 4 r ≡ f₁ = rw p at (digits-of-number 4 65536 f₁ (omega arith) (rw p i)) in
      let d₂ : digits_of 4 m ≡ f₂ = rw q at (digits-of-number 4 65536 f₂ (omega arith) (rw q j)) in
      let d₃ : digits_of 4 w ≡ f₃ = rw s at (digits-of-number 4 65536 f₃ (omega arith) (rw s k)) in
      let d₄ : digits_of 4 c ≡ f₄ = rw t at (digits-of-number 4 65536 f₄ (omega arith) (rw t l)) in
      rw (d₁, d₂, d₃, d₄, append-nil)
  four (f₁ ∷ f₂ ∷ f₃ ∷ f₄ ∷ f₅ ∷ fs) r m w c e p q s t i j k l = absurd (omega arith)

  pub shaped-only : shaped_body (shaped_of line) ≡ line
  unfolding shaped_body shaped_of numbers_of
  shaped-only =
      let h = g.few in
      let i = g.few-checks in
      let j = g.narrow in
      let z : length (drop 1 (fields line)) ≡ 4 = sym (length-map (drop 1 (fields line)) (number_of 65536)) ∙ n in
      sym (four (drop 1 (fields line)) _ _ _ _ z refl refl refl refl (omega arith) (omega arith) (omega arith) (omega arith))
      ∙ ap (joined_by 9) (sym (named line)) ∙ joined-parts 9 line

module _ (line : List ℕ) (s : says_gone line ≡ true) (most : get_or (numbers_of line) 0 0 ≤ 65535) where
  three : (fs : List (List ℕ)) (r : ℕ) → joined_by 9 (drop 1 fs) ≡ gone_name → get_or (map (number_of 65536) fs) 0 0 ≡ r → r < 65536
      → joined_by 9 (line_name line ∷ fs) ≡ gone_body (line_name line) r
  unfolding joined_by gone_body
  three [] r e p l = let z = ap length e in absurd (omega arith)
  three (f ∷ []) r e p l = let z = ap length e in absurd (omega arith)
  three (f ∷ q ∷ fs) r e p l =
      let d : digits_of 4 r ≡ f = rw p at (digits-of-number 4 65536 f (omega arith) (rw p l)) in
      rw (d, e)

  drops : (fs : List (List ℕ)) → drop 2 fs ≡ drop 1 (drop 1 fs)
  drops [] = refl
  drops (f ∷ []) = refl
  drops (f ∷ g ∷ fs) = refl

  pub gone-only : gone_body (line_name line) (get_or (numbers_of line) 0 0) ≡ line
  unfolding says_gone numbers_of
  gone-only =
      let e : joined_by 9 (drop 1 (drop 1 (fields line))) ≡ gone_name = ap (joined_by 9) (sym (drops (fields line))) ∙ same-eq _ gone_name s in
      sym (three (drop 1 (fields line)) _ e refl (omega arith)) ∙ ap (joined_by 9) (sym (named line)) ∙ joined-parts 9 line
