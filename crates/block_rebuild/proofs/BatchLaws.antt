-- Encoding a batch is a rebuild with the check places marked.
use Rattle.std.specs.Prelude.{◌≡◌, refl, List, ℕ, ◌*◌, ◌<◌, ◌≤◌, length}
use Rattle.std.proofs.Math.Path.{sym}
use Rattle.std.proofs.Common.{ap, ◌∙◌, arith}
use Rattle.std.proofs.Math.Decide.{dec_le}
use Rattle.shape.specs.Shapes.{byte_limits}
use Rattle.code.specs.Limits.{place_count}
use Rattle.byte_edition.specs.Edition.{byte_edition}
use Rattle.code_services.specs.Places.{placed_of, check_marks}
use Rattle.code_services.specs.PlacesLaws.{marks-length, marks-small, placed-length, placed_below}
use Rattle.code_services.specs.MarksLaws.{good-of-marks, marks-of-good}
use Rattle.byte_edition.specs.EditionLaws.{bytes-sound}
use Rattle.code.specs.Marks.{excess}
use Rattle.code_services.specs.Marks.{marks_refusal_in}
use Rattle.code_services.specs.JudgeLaws.{zero-excess}
use Rattle.code_services.specs.Judge.{judged_number_in}
use Rattle.code_services.specs.AttemptLaws.{accepted, eight-exactly}
use Rattle.code_services.specs.RecoverDemandLaws.{good_start}
use Rattle.code_services.specs.EncodeLaws.{checks-recovered, recovered-checks}
use Rattle.code_services.specs.Encode.{encoded_in}
use Rattle.block_rebuild.specs.Columns.{block_word}
use Rattle.block_rebuild.specs.Rebuild.{rebuild_refusal, blocks_refusal, word_outcome}
use Rattle.block_rebuild.proofs.RebuildLaws.{blocks-fit}
use Rattle.block_rebuild.specs.Meaning.{Batch, BatchEncoded}
use Rattle.block_rebuild.proofs.CasesLaws.{before, nine, done, ends, rebuilt-at}

module _ (m w c size : ℕ) (blocks : List ℕ) (carried : ℕ → List ℕ) (B : Batch m w c size blocks carried) (most : place_count m w * size ≤ 65536) where
  abbrev marks : List ℕ
  marks = check_marks m w c

  -- every word is recovered, and is the encoded one
  recovered-word : (x : ℕ) → x < size
      → ((word_outcome m w c size blocks marks x).number ≡ 0) × ((word_outcome m w c size blocks marks x).word ≡ encoded_in byte_edition m w c (carried x))
  unfolding word_outcome
  recovered-word x l = rw (B.placed x l) (
    checks-recovered bytes-sound B.good (carried x) (B.sizes x l) (λ i. B.small x i l),
    recovered-checks bytes-sound B.good (carried x)
        (B.sizes x l) (λ i. B.small x i l),
  )

  marked : marks_refusal_in byte_limits m w c marks ≡ 0
  marked = marks-of-good m w c marks (record { good = B.good; size = marks-length m w c; each = λ p. let h = marks-small m w c p in omega arith })

  abbrev word : List ℕ
  word = placed_of m w c (carried 0)

  -- so Judge doesn't refuse the marks
  judged : judged_number_in byte_limits m w c marks ≡ 0
  judged = (zero-excess byte_limits m w c marks marked).1 few
    where
      few : excess m w c marks ≤ 2
      few = elim (dec_le (excess m w c marks) 2) [
        | yes h ↦ h
        | no h ↦
            (let M = good-of-marks m w c marks marked in
            let A = accepted m w c word marks 0 (sym (good_start m w c word marks M (placed-length m w c (carried 0)))) refl in
            let e = (eight-exactly bytes-sound m w c word marks A (placed_below m w c 256 (omega arith) (carried 0) (λ i. B.small 0 i B.some))).1
            (omega arith) in
            let z = checks-recovered bytes-sound B.good (carried 0) (B.sizes 0 B.some) (λ i. B.small 0 i B.some) in
            absurd (let v : ◌≡◌ {A = ℕ} 8 0 = sym e ∙ z in omega arith))
      ]

  none : rebuild_refusal m w c size (length blocks) marks ≡ 0
  unfolding rebuild_refusal
  none =
      let f : blocks_refusal (place_count m w) size (length blocks) ≡ 0 =
      sym (blocks-fit (place_count m w) size (length blocks) B.long (λ z. let s = B.some in omega arith) most) in
      rw (marked, f, judged)

  -- Encoding a batch is a rebuild with the check places marked.
  pub batch-encoded : BatchEncoded m w c size blocks carried
  batch-encoded = elim (ends m w c size blocks marks) [
    | before r e n d ↦ absurd (n (e ∙ none))
    | nine z x l k b d ↦ absurd (let v : ◌≡◌ {A = ℕ} 9 0 = sym k ∙ (recovered-word x l).0 in omega arith)
    | done z h d ↦ record {
      done = ap (λ o. o.number) d;
      each = λ x l. ap (λ o. block_word (place_count m w) size o.blocks x) d ∙ rebuilt-at m w c size blocks marks z x l ∙ (recovered-word x l).1;
    }
  ]
