-- Blocks of length 1 are one word, and a rebuild of them is its recovery.
use Rattle.std.specs.Prelude.{◌≡◌, refl, List, ℕ, zero, suc, ◌*◌, ◌<◌, length, get_or}
use Rattle.std.proofs.Math.Path.{sym, ap}
use Rattle.std.proofs.Common.{ap₂, ◌∙◌, subst, mul-one, add-zero, arith, eq-eqb}
use Rattle.std.proofs.Math.Logic.{⊎_elim}
use Rattle.std.proofs.Math.Decide.{ℕ_discrete}
use Rattle.code.specs.Refusals.{◌or_else◌}
use Rattle.code.specs.RefusalsLaws.{or_else-first}
use Rattle.shape.specs.Shapes.{byte_limits}
use Rattle.code.specs.Limits.{place_count, shape_refusal_in, word_refusal_in}
use Rattle.code.specs.LimitsLaws.{places-most}
use Rattle.code_services.specs.Marks.{marks_refusal_in}
use Rattle.code_services.specs.MarksLaws.{good-of-marks}
use Rattle.code.specs.Outcome.{Outcome, refused}
use Rattle.byte_edition.specs.Edition.{byte_edition}
use Rattle.byte_edition.specs.EditionLaws.{bytes-sound}
use Rattle.code_services.specs.JudgeLaws.{eight-excess}
use Rattle.code_services.specs.Judge.{judged_number_in}
use Rattle.code_services.specs.Recover.{recover_refusal_in, recover_in}
use Rattle.code_services.specs.AttemptLaws.{accepted, service-refused, service-eight}
use Rattle.code_services.specs.Attempt.{AcceptedIn}
use Rattle.block_rebuild.specs.Columns.{block_word}
use Rattle.block_rebuild.specs.ColumnsLaws.{word-is}
use Rattle.block_rebuild.specs.Rebuild.{blocks_refusal, rebuild_refusal, done_rebuild, word_outcome, rebuilt_blocks, rebuild_of}
use Rattle.block_rebuild.proofs.RebuildLaws.{blocks-fit}
use Rattle.block_rebuild.specs.Meaning.{as_rebuild}
use Rattle.block_rebuild.proofs.CasesLaws.{before, nine, done, ends, recovers, recovers-zero, judged-two, parts, rebuilt-at, rebuilt-size}
use Rattle.block_rebuild.proofs.CasesLaws as Cases

-- a word of n bytes is refused only by its shape and marks
same-refusal : (m w c : ℕ) (word marks : List ℕ) → length word ≡ m * w
    → recover_refusal_in byte_limits m w c word marks ≡ marks_refusal_in byte_limits m w c marks
unfolding recover_refusal_in marks_refusal_in word_refusal_in
same-refusal m w c word marks e = rw (eq-eqb (length word) (m * w) e) (go (shape_refusal_in byte_limits m w c) _ _)
  where
    go : (s a b : ℕ) → ((s or_else 0) or_else ((s or_else a) or_else b)) ≡ ((s or_else a) or_else b)
    go zero a b = refl
    go (suc s) a b = refl

-- the one word
single : (n : ℕ) (blocks : List ℕ) → length blocks ≡ n → block_word n 1 blocks 0 ≡ blocks
single n blocks e = sym (word-is n 1 blocks 0 blocks e (λ p l. ap (λ i. get_or blocks i 0) (sym (add-zero (p * 1) ∙ mul-one p))))

module _ (m w c : ℕ) (blocks marks : List ℕ) (long : length blocks ≡ place_count m w) (small : (i : ℕ) → get_or blocks i 0 < 256) where
  the_word : word_outcome m w c 1 blocks marks 0 ≡ recover_in byte_edition m w c blocks marks
  unfolding word_outcome
  the_word = ap (λ v. recover_in byte_edition m w c v marks) (single (place_count m w) blocks long)

  module _ (marked : marks_refusal_in byte_limits m w c marks ≡ 0) where
    accepts : AcceptedIn byte_limits m w c blocks marks
    accepts = accepted m w c blocks marks 0 (sym (same-refusal m w c blocks marks long ∙ marked)) refl

    fits : blocks_refusal (place_count m w) 1 (length blocks) ≡ 0
    fits =
        let p = places-most (good-of-marks m w c marks marked).good in
        let o = mul-one (place_count m w) in
        sym (blocks-fit (place_count m w) 1 (length blocks) (omega arith) (λ z. omega arith) (omega arith))

    refused-by-judge : (r : ℕ) → r ≡ rebuild_refusal m w c 1 (length blocks) marks → (r ≡ 0 → ⊥)
        → recover_in byte_edition m w c blocks marks ≡ refused r blocks marks
    unfolding rebuild_refusal
    refused-by-judge r e n =
        let j : r ≡ judged_number_in byte_limits m w c marks = e ∙ rw (marked, fits) in
        let h : r ≡ 8 = eight-of r j n in
        service-eight bytes-sound m w c blocks marks accepts small ((eight-excess byte_limits m w c marks marked).0 (sym j ∙ h))
        ∙ ap (λ k. refused k blocks marks) (sym h)
      where
        eight-of : (r : ℕ) → r ≡ judged_number_in byte_limits m w c marks → (r ≡ 0 → ⊥) → r ≡ 8
        eight-of r j n = ⊎_elim (λ z. absurd (n (j ∙ z))) (λ z. j ∙ z) (judged-two m w c marks marked)

  refused-alike : (r : ℕ) → r ≡ rebuild_refusal m w c 1 (length blocks) marks → (r ≡ 0 → ⊥)
      → recover_in byte_edition m w c blocks marks ≡ refused r blocks marks
  unfolding rebuild_refusal
  refused-alike r e n = elim (ℕ_discrete (marks_refusal_in byte_limits m w c marks) 0) [
    | yes z ↦ refused-by-judge z r e n
    | no k ↦
        service-refused byte_edition m w c blocks marks r
        (e ∙ or_else-first (marks_refusal_in byte_limits m w c marks) _ k ∙ sym (same-refusal m w c blocks marks long)) n
  ]

  -- A rebuild with L = 1 is a recovery of n bytes.
  pub one_word : rebuild_of m w c 1 blocks marks ≡ as_rebuild (recover_in byte_edition m w c blocks marks)
  one_word = elim (ends m w c 1 blocks marks) [
    | before r e n d ↦ d ∙ ap as_rebuild (sym (refused-alike r e n))
    | nine z x l k b d ↦
        (let q : x ≡ 0 = omega arith in
        let k₀ : (recover_in byte_edition m w c blocks marks).number ≡ 9 = ap (λ (o : Outcome). o.number) (sym the_word)
        ∙ subst (λ y. (word_outcome m w c 1 blocks marks y).number ≡ 9) q k in
        let g : (word_outcome m w c 1 blocks marks x).group ≡ (recover_in byte_edition m w c blocks marks).group =
        ap (λ y. (word_outcome m w c 1 blocks marks y).group) q ∙ ap (λ (o : Outcome). o.group) the_word in
        d ∙ contradicts (parts m w c 1 blocks marks z).0 x q _ g k₀)
    | done z h d ↦ d ∙ mended z (λ e. h 0 (omega arith) (ap (λ (o : Outcome). o.number) the_word ∙ e))
  ]
    where
      contradicts : marks_refusal_in byte_limits m w c marks ≡ 0 → (x : ℕ) → x ≡ 0 → (g : ℕ) → g ≡ (recover_in byte_edition m w c blocks marks).group
          → (recover_in byte_edition m w c blocks marks).number ≡ 9
          → record { number = 9; word = x; group = g; blocks = blocks; marks = marks } ≡ as_rebuild (recover_in byte_edition m w c blocks marks)
      contradicts q x e g f k = elim (recovers m w c blocks marks (accepts q)) [
        | Cases.eight d ↦ absurd (let v : ◌≡◌ {A = ℕ} 8 9 = sym (ap (λ (o : Outcome). o.number) d) ∙ k in omega arith)
        | Cases.nine g' d ↦
            (ap₂ (λ y i. record { number = 9; word = y; group = i; blocks = blocks; marks = marks }) e (f ∙ ap (λ (o : Outcome). o.group) d)
            ∙ ap as_rebuild (sym d))
        | Cases.done y _ d ↦ absurd (let v : ◌≡◌ {A = ℕ} 0 9 = sym (ap (λ (o : Outcome). o.number) d) ∙ k in omega arith)
      ]

      rebuilt : (z : rebuild_refusal m w c 1 (length blocks) marks ≡ 0)
          → rebuilt_blocks m w c 1 blocks marks ≡ (recover_in byte_edition m w c blocks marks).word
      rebuilt z =
          sym (single (place_count m w) (rebuilt_blocks m w c 1 blocks marks) (rebuilt-size m w c 1 blocks marks z ∙ long))
          ∙ rebuilt-at m w c 1 blocks marks z 0 (omega arith) ∙ ap (λ (o : Outcome). o.word) the_word

      mended : (z : rebuild_refusal m w c 1 (length blocks) marks ≡ 0) → ((recover_in byte_edition m w c blocks marks).number ≡ 9 → ⊥)
          → done_rebuild (rebuilt_blocks m w c 1 blocks marks) marks ≡ as_rebuild (recover_in byte_edition m w c blocks marks)
      mended z n =
          let q = parts m w c 1 blocks marks z in
          let zero_is = recovers-zero m w c blocks marks (accepts q.0) small q.2 q.0 n in
          elim (recovers m w c blocks marks (accepts q.0)) [
            | Cases.eight d ↦ absurd (let v : ◌≡◌ {A = ℕ} 8 0 = sym (ap (λ (o : Outcome). o.number) d) ∙ zero_is in omega arith)
            | Cases.nine g d ↦ absurd (let v : ◌≡◌ {A = ℕ} 9 0 = sym (ap (λ (o : Outcome). o.number) d) ∙ zero_is in omega arith)
            | Cases.done y _ d ↦ ap (λ b. done_rebuild b marks) (rebuilt z ∙ ap (λ (o : Outcome). o.word) d) ∙ ap as_rebuild (sym d)
          ]
