-- The laws by which each turn is met.
use Rattle.std.specs.Prelude.{◌≡◌, refl, cond, List, ℕ, zero, suc, ◌≤◌, eqb, length, Result, Ok, Err}
use Rattle.std.proofs.Common.{sym, ap, ◌∙◌, subst, ne_eqb}
use native.Mathlib.Omega.{arith}
use Rattle.code.specs.Outcome.{Outcome}
use Rattle.encode.specs.ShapesLaws.{encode-unshaped}
use Rattle.answers.specs.declared.Refusal.{Refusal}
use Rattle.answers.specs.declared.Figures.{Figures}
use Rattle.answers.specs.Answers.{refusal_number, refusal_group, refused_number, mending_at, mending_number, mending_group}
use Rattle.answers.specs.AnswersLaws.{refusal-some, refusal-nine, mending-number, given-number}
use Rattle.answers.specs.PlainLaws.{shape-plain}
use Rattle.code_services.specs.PlainLaws.{encode-plain, recover-listed}
use Rattle.code.specs.RefusalsLaws.{or_else-zero}
use Rattle.shape.specs.Shapes.{byte_limits}
use Rattle.code.specs.Limits.{place_count, data_count, sure_count, shape_refusal_in}
use Rattle.code.specs.LimitsLaws.{good-of-refusal, places-most, data-and-checks, good-of-word}
use Rattle.byte_edition.specs.Edition.{byte_edition}
use Rattle.code_services.specs.Recover.{recover_in, recover_refusal_in, unless_before}
use Rattle.code_services.specs.Encode.{encode_in, encoded_buffer_in, encoded_in, encode_refusal_in}
use Rattle.code_services.specs.EncodeLaws.{good-of-encode}
use Rattle.text.specs.Lines.{ok_line, word_line}
use Rattle.answers.specs.Figures.{described_at, described_in}
use Rattle.text_session.specs.declared.Reply.{Reply}
use Rattle.text_session.specs.Turn.{Turn, turn, turn_unless, refused_turn, contradictory_turn, shape_turn, data_turn, word_turn}
use Rattle.text_session.specs.Replies.{Replies}

-- the answer of a service
done : (x group : ℕ) → mending_at x group ≡ Ok tt → x ≡ 0
done zero group e = refl
done (suc x) group e = let z : ◌≡◌ {A = ℕ} 0 1 = cc in absurd (omega arith)

turn-refused : (x : ℕ) (e : Refusal) (t : Turn) (m w c : ℕ) → refusal_number e ≡ x → turn_unless x t m w c ≡ refused_turn (refusal_number e) m w c
turn-refused zero e t m w c is = absurd (refusal-some e is)
turn-refused (suc x) e t m w c is = ap (λ n. refused_turn n m w c) (sym is)

-- the figures of a shape, or its refusal
unshaped : (a b d : ℕ) (e : Refusal) → described_in byte_limits a b d ≡ Err e → refusal_number e ≡ shape_refusal_in byte_limits a b d
unfolding described_in
unshaped a b d e h = sym (ap refused_number h) ∙ given-number _ _ (shape-plain byte_limits a b d).0

pub figures : (a b d : ℕ) (f : Figures) → described_in byte_limits a b d ≡ Ok f
    → (shape_refusal_in byte_limits a b d ≡ 0) × (f.n ≡ place_count a b) × (f.k ≡ data_count a b d)
unfolding described_in
figures a b d f = go (shape_refusal_in byte_limits a b d) refl
  where
    go : (p : ℕ) → shape_refusal_in byte_limits a b d ≡ p → described_at p (place_count a b) (data_count a b d) (sure_count b d) ≡ Ok f
        → (shape_refusal_in byte_limits a b d ≡ 0) × (f.n ≡ place_count a b) × (f.k ≡ data_count a b d)
    go zero e h =
        let q : f ≡ record { n = place_count a b; k = data_count a b d; sure = sure_count b d } = cc in
        (e, ap (λ (x : Figures). x.n) q, ap (λ (x : Figures). x.k) q)
    go (suc p) e h = let z : ◌≡◌ {A = ℕ} 0 1 = cc in absurd (omega arith)

pub figures-most : (a b d : ℕ) (f : Figures) → described_in byte_limits a b d ≡ Ok f → (f.n ≤ 240) × (f.k ≤ 240)
figures-most a b d f e =
    let F = figures a b d f e in
    let g = good-of-refusal a b d F.0 in
    let p = places-most g in
    let q = data-and-checks g in
    (omega arith, omega arith)

-- shapes
module _ (a b d m w c : ℕ) (reply : Reply) where
  pub shape-refused : (e : Refusal) → described_in byte_limits a b d ≡ Err e → Replies reply (refused_turn (refusal_number e) m w c)
      → Replies reply (shape_turn a b d m w c)
  unfolding shape_turn
  shape-refused e is h = subst (Replies reply) (sym (turn-refused _ e _ m w c (unshaped a b d e is))) h

  pub shape-done : (f : Figures) → described_in byte_limits a b d ≡ Ok f → Replies reply (turn (ok_line f.n f.k) a b d)
      → Replies reply (shape_turn a b d m w c)
  unfolding shape_turn
  shape-done f e h = let F = figures a b d f e in rw (F.0, ← F.1, ← F.2) h

-- data
pub data-most : (bytes word : List ℕ) (m w c : ℕ) → encode_in byte_limits m w c bytes word ≡ Ok tt → length word ≤ 240
unfolding encode_in
data-most bytes word m w c e =
    let g = good-of-encode m w c (length word) (length bytes) (done _ 0 e) in
    let p = places-most g.0 in
    omega arith

module _ (bytes : List ℕ) (m w c : ℕ) (reply : Reply) where
  pub data-unshaped : (e : Refusal) → described_in byte_limits m w c ≡ Err e → Replies reply (refused_turn (refusal_number e) m w c)
      → Replies reply (data_turn bytes m w c)
  unfolding data_turn
  data-unshaped e is h =
      subst (Replies reply) (sym (turn-refused _ e _ m w c (encode-unshaped m w c (place_count m w) (length bytes) e (unshaped m w c e is)))) h

  module _ (word : List ℕ) (l : length word ≡ place_count m w) where
    pub data-refused : (e : Refusal) → encode_in byte_limits m w c bytes word ≡ Err e → Replies reply (refused_turn (refusal_number e) m w c)
        → Replies reply (data_turn bytes m w c)
    unfolding data_turn encode_in
    data-refused e is h =
        let q : refusal_number e ≡ encode_refusal_in byte_limits m w c (length word) (length bytes)
        = sym (ap refused_number is) ∙ (encode-plain byte_limits m w c (length word) (length bytes)).0 in
        subst (Replies reply) (sym (turn-refused _ e _ m w c (q ∙ ap (λ n. encode_refusal_in byte_limits m w c n (length bytes)) l))) h

    pub data-done : (after : List ℕ) → encode_in byte_limits m w c bytes word ≡ Ok tt → after ≡ encoded_buffer_in byte_edition m w c bytes word
        → Replies reply (turn (word_line after) m w c)
        → Replies reply (data_turn bytes m w c)
    unfolding data_turn encode_in encoded_buffer_in
    data-done after e q h =
        let z : encode_refusal_in byte_limits m w c (length word) (length bytes) ≡ 0 = done _ 0 e in
        let z₂ : encode_refusal_in byte_limits m w c (place_count m w) (length bytes) ≡ 0 = rw l at z in
        let q₂ : after ≡ encoded_in byte_edition m w c bytes = rw z at q in
        rw (z₂, ← q₂) h

-- words
none_before : (r : ℕ) (o : Outcome) (word marks : List ℕ) → (unless_before r o word marks).number ≡ 0 → r ≡ 0
none_before zero o word marks e = refl
none_before (suc r) o word marks e = e

mended : (x group : ℕ) → mending_at x group ≡ Ok tt → x ≡ 0
mended x group e = done x group e

-- the turn of a number and a group, by what a service that mends answers
module _ (x group : ℕ) (t : Turn) (m w c : ℕ) where
  turn-contradictory : (g : ℕ) → 9 ≡ x → g ≡ group
      → cond (eqb x 9) (contradictory_turn group m w c) (turn_unless x t m w c) ≡ contradictory_turn g m w c
  turn-contradictory g n h = rw (sym n) (ap (λ k. contradictory_turn k m w c) (sym h))

  turn-unmended : (e : Refusal) → refusal_number e ≡ x → (refusal_number e ≡ 9 → ⊥)
      → cond (eqb x 9) (contradictory_turn group m w c) (turn_unless x t m w c) ≡ refused_turn (refusal_number e) m w c
  turn-unmended e is n =
      ap (λ b. cond b (contradictory_turn group m w c) (turn_unless x t m w c)) (ne_eqb x 9 (λ z. n (is ∙ z))) ∙ turn-refused x e t m w c is

-- a refusal that is no 9
pub no-nine : (e : Refusal) → ((g : ℕ) → e ≡ Refusal.Contradictory g → ⊥) → refusal_number e ≡ 9 → ⊥
no-nine e h z = h (refusal_group e) (refusal-nine e z)

module _ (word marks : List ℕ) (m w c : ℕ) where
  abbrev out : Outcome
  out = recover_in byte_edition m w c word marks

  number : {a : Result Unit Refusal} → mending_at out.number out.group ≡ a → mending_number a ≡ out.number
  number e = sym (ap mending_number e) ∙ mending-number _ _ (recover-listed byte_edition m w c word marks)

  pub word-most : mending_at out.number out.group ≡ Ok tt → length word ≤ 240
  unfolding recover_in recover_refusal_in
  word-most e =
      let z = none_before (recover_refusal_in byte_limits m w c word marks) _ word marks (mended _ _ e) in
      let g = good-of-word m w c (length word) (or_else-zero _ _ z).0 in
      let p = places-most g.0 in
      omega arith

  module _ (reply : Reply) where
    pub word-refused : (e : Refusal) → mending_at out.number out.group ≡ Err e → (refusal_number e ≡ 9 → ⊥) → Replies reply (refused_turn (refusal_number e) m w c)
        → Replies reply (word_turn word marks m w c)
    unfolding word_turn
    word-refused e is n h = rw (turn-unmended _ _ _ m w c e (number is) n) h

    pub word-contradictory : (g : ℕ) → mending_at out.number out.group ≡ Err (Refusal.Contradictory g)
        → Replies reply (contradictory_turn g m w c) → Replies reply (word_turn word marks m w c)
    unfolding word_turn
    word-contradictory g is h =
        let nine : 9 ≡ out.number = number is in
        let same : g ≡ out.group = sym (ap mending_group is) ∙ ap (λ k. mending_group (mending_at k out.group)) (sym nine) in
        rw (turn-contradictory _ _ _ m w c g nine same) h

    pub word-done : (after : List ℕ) → mending_at out.number out.group ≡ Ok tt → after ≡ out.word
        → Replies reply (turn (word_line after) m w c) → Replies reply (word_turn word marks m w c)
    unfolding word_turn
    word-done after e q h = let z : (recover_in byte_edition m w c word marks).number ≡ 0 = mended _ _ e in rw (z, ← q) h
