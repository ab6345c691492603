-- How a block rebuild ends, and how a recovery of one of its words does.
use Rattle.std.specs.Prelude.{◌≡◌, Bool, ◌⊎◌, List, ℕ, zero, suc, ◌*◌, ◌^◌, ◌<◌, ◌≤◌, eqb, get_or}
use Rattle.std.proofs.Math.Path.{refl, sym, ap}
use Rattle.std.proofs.Common.{◌∙◌, subst, inl, inr, arith}
use Rattle.std.proofs.Math.Bool.{true, false}
use Rattle.std.proofs.Math.Decide.{dec_lt, dec_le}
use borrow.Author.Tests.{eqb-true, eqb-false, ltb-true, ltb-false}
use Rattle.std.proofs.Math.Dec.{ltb}
use Rattle.std.proofs.Math.ListN.{length, get_or-eq_default}
use Rattle.counting.specs.First.{first_below}
use Rattle.counting.specs.FirstLaws.{first_holds, first-before}
use Rattle.shape.specs.Shapes.{byte_limits}
use Rattle.code.specs.RefusalsLaws.{or_else-zero}
use Rattle.code.specs.Limits.{place_count}
use Rattle.code_services.specs.MarksLaws.{good-of-marks}
use Rattle.byte_edition.specs.Edition.{byte_edition}
use Rattle.byte_edition.specs.EditionLaws.{bytes-sound}
use Rattle.code.specs.Word.{is_codeword}
use Rattle.code.specs.Marks.{excess}
use Rattle.code.specs.Outcome.{refused, contradictory, done_with}
use Rattle.code.specs.Outcome as Outcome
use Rattle.code.specs.OutcomeLaws as OutcomeLaws
use Rattle.code.specs.DeterminedLaws.{list_length}
use Rattle.code.specs.Contradiction.{contradicting_group}
use Rattle.code.specs.Recovery.{recovered}
use Rattle.code_services.specs.Marks.{marks_refusal_in}
use Rattle.code_services.specs.JudgeLaws.{zero-excess, eight-excess}
use Rattle.code_services.specs.Judge.{judged_number_in}
use Rattle.code_services.specs.Recover.{unless_before, recover_in}
use Rattle.code_services.specs.AttemptLaws.{accepted, eight-exactly}
use Rattle.code_services.specs.RecoverDemandLaws.{good_start}
use Rattle.code_services.specs.Attempt.{AcceptedIn}
use Rattle.block_rebuild.specs.Columns.{block_word, blocks_of}
use Rattle.block_rebuild.specs.ColumnsLaws.{word-length, word_at, word-of-blocks}
use Rattle.block_rebuild.specs.Rebuild.{blocks_refusal, rebuild_refusal, refused_rebuild, contradictory_rebuild}
use Rattle.block_rebuild.specs.Rebuild.{done_rebuild, word_outcome, contradicting_word, rebuilt_blocks, rebuild_of}
use Rattle.block_rebuild.proofs.RebuildLaws.{lent_of}

module _ (m w c size : ℕ) (blocks marks : List ℕ) where
  abbrev number : ℕ → ℕ
  number x = (word_outcome m w c size blocks marks x).number

  abbrev test : ℕ → Bool
  test x = eqb (number x) 9

  abbrev refusal : ℕ
  refusal = rebuild_refusal m w c size (length blocks) marks

  -- the three ways in which a call ends
  pub data Ends : Type 0 where
    before : (r : ℕ) → r ≡ refusal → (r ≡ 0 → ⊥) → rebuild_of m w c size blocks marks ≡ refused_rebuild r blocks marks → Ends
    nine : refusal ≡ 0 → (x : ℕ) → x < size → number x ≡ 9 → ((y : ℕ) → y < x → number y ≡ 9 → ⊥)
        → rebuild_of m w c size blocks marks ≡ contradictory_rebuild x (word_outcome m w c size blocks marks x).group blocks marks → Ends
    done : refusal ≡ 0 → ((y : ℕ) → y < size → number y ≡ 9 → ⊥)
        → rebuild_of m w c size blocks marks ≡ done_rebuild (rebuilt_blocks m w c size blocks marks) marks → Ends

  pub ends : Ends
  unfolding rebuild_of contradicting_word
  ends = go refusal refl
    where
      words : refusal ≡ 0 → (b : Bool) → ltb (first_below size test) size ≡ b → Ends
      words z true e =
          let l = ltb-true (first_below size test) size e in
          nine z (first_below size test) l (eqb-true _ 9 (first_holds size test l)) (λ y h. eqb-false _ 9 (first-before size test y h)) (rw (z, e))
      words z false e =
          let l = ltb-false (first_below size test) size e in
          done z (λ y h. eqb-false _ 9 (first-before size test y (omega arith))) (rw (z, e))

      go : (r : ℕ) → r ≡ refusal → Ends
      go zero e = words (sym e) (ltb (first_below size test) size) refl
      go (suc r) e = before (suc r) e (λ z. omega arith) (rw (← e))

-- Judge gives 0 or 8 where shape and marks are good
pub judged-two : (m w c : ℕ) (marks : List ℕ) → marks_refusal_in byte_limits m w c marks ≡ 0
    → (judged_number_in byte_limits m w c marks ≡ 0) ⊎ (judged_number_in byte_limits m w c marks ≡ 8)
judged-two m w c marks q = elim (dec_le (excess m w c marks) 2) [
  | yes h ↦ inl ((zero-excess byte_limits m w c marks q).1 h)
  | no h ↦ inr ((eight-excess byte_limits m w c marks q).1 (omega arith))
]

-- ---- one word of a call that is not refused
module _ (m w c : ℕ) (word marks : List ℕ) (A : AcceptedIn byte_limits m w c word marks) where
  -- the numbers that a recovery can give
  pub data Recovers : Type 0 where
    eight : recover_in byte_edition m w c word marks ≡ refused 8 word marks → Recovers
    nine : (g : ℕ) → recover_in byte_edition m w c word marks ≡ contradictory g word marks → Recovers
    done : (x : List ℕ) → length x ≡ length word → recover_in byte_edition m w c word marks ≡ done_with x marks → Recovers

  same : recover_in byte_edition m w c word marks ≡ recovered byte_edition m w c word marks
  unfolding recover_in
  same = ap (λ r. unless_before r (recovered byte_edition m w c word marks) word marks) A.refusal

  pub recovers : Recovers
  recovers = elim (OutcomeLaws.cases (2 ^ byte_edition.bits) (is_codeword byte_edition m w c) (ltb 2 (excess m w c marks))
      (contradicting_group byte_edition m w c word marks) word marks) [
        | Outcome.eight _ e ↦ eight (same ∙ e)
        | Outcome.nine _ _ e ↦ nine _ (same ∙ e)
        | Outcome.done _ x P e ↦ done x P.fills.size (same ∙ e)
      ]

  -- neither 8, by Judge, nor 9
  pub recovers-zero : ((p : ℕ) → get_or word p 0 < 256) → judged_number_in byte_limits m w c marks ≡ 0 → marks_refusal_in byte_limits m w c marks ≡ 0
      → ((recover_in byte_edition m w c word marks).number ≡ 9 → ⊥) → (recover_in byte_edition m w c word marks).number ≡ 0
  recovers-zero small z q n = elim recovers [
    | eight e ↦
        (let h = (eight-exactly bytes-sound m w c word marks A small).0 (ap (λ o. o.number) e) in
        let k = (zero-excess byte_limits m w c marks q).0 z in absurd (omega arith))
    | nine g e ↦ absurd (n (ap (λ o. o.number) e))
    | done x _ e ↦ ap (λ o. o.number) e
  ]

module _ (m w c size : ℕ) (blocks marks : List ℕ) (none : rebuild_refusal m w c size (length blocks) marks ≡ 0) where
  pub parts : (marks_refusal_in byte_limits m w c marks ≡ 0) × (blocks_refusal (place_count m w) size (length blocks) ≡ 0)
      × (judged_number_in byte_limits m w c marks ≡ 0)
  unfolding rebuild_refusal
  parts =
      let a = or_else-zero (marks_refusal_in byte_limits m w c marks) _ none in
      let b = or_else-zero (blocks_refusal (place_count m w) size (length blocks)) _ a.1 in
      (a.0, b.0, b.1)

  pub word-accepted : (x : ℕ) → AcceptedIn byte_limits m w c (block_word (place_count m w) size blocks x) marks
  word-accepted x =
      let M = good-of-marks m w c marks parts.0 in
      accepted m w c (block_word (place_count m w) size blocks x) marks 0
      (sym (good_start m w c (block_word (place_count m w) size blocks x) marks M (word-length (place_count m w) size blocks x))) refl

  -- the bytes of a word are bytes of the blocks
  pub word_small : ((i : ℕ) → get_or blocks i 0 < 256) → (x p : ℕ) → get_or (block_word (place_count m w) size blocks x) p 0 < 256
  word_small small x p = elim (dec_lt p (place_count m w)) [
    | yes h ↦ subst (λ v. v < 256) (sym (word_at (place_count m w) size blocks x p h)) (small _)
    | no h ↦
        (let n = word-length (place_count m w) size blocks x in
        let k : length (block_word (place_count m w) size blocks x) ≤ p = omega arith in
        subst (λ v. v < 256) (sym (get_or-eq_default (block_word (place_count m w) size blocks x) 0 k)) (omega arith))
  ]

  pub word-zero : ((i : ℕ) → get_or blocks i 0 < 256) → (x : ℕ) → ((word_outcome m w c size blocks marks x).number ≡ 9 → ⊥)
      → (word_outcome m w c size blocks marks x).number ≡ 0
  unfolding word_outcome
  word-zero small x n =
      recovers-zero m w c (block_word (place_count m w) size blocks x) marks (word-accepted x) (word_small small x) parts.2 parts.0 n

  -- and what stands in a word has its length
  pub outcome-long : (x : ℕ) → length (word_outcome m w c size blocks marks x).word ≡ place_count m w
  unfolding word_outcome
  outcome-long x =
      let l = word-length (place_count m w) size blocks x in
      elim (recovers m w c (block_word (place_count m w) size blocks x) marks (word-accepted x)) [
        | eight e ↦ ap (λ o. length o.word) e ∙ l
        | nine g e ↦ ap (λ o. length o.word) e ∙ l
        | done y k e ↦ ap (λ o. length o.word) e ∙ k ∙ l
      ]

  -- the words of the rebuilt blocks
  pub rebuilt-at : (x : ℕ) → x < size → block_word (place_count m w) size (rebuilt_blocks m w c size blocks marks) x
      ≡ (word_outcome m w c size blocks marks x).word
  unfolding rebuilt_blocks
  rebuilt-at x l = word-of-blocks (place_count m w) size _ x l (outcome-long x)

  pub rebuilt-size : length (rebuilt_blocks m w c size blocks marks) ≡ length blocks
  unfolding rebuilt_blocks blocks_of
  rebuilt-size = list_length (place_count m w * size) _ ∙ sym (lent_of m w c size blocks marks none).0.blocks-size
