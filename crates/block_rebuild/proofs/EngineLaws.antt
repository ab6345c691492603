-- Laws: the engine finds and writes what Recover gives for every word.
use Rattle.std.specs.Prelude.{◌≡◌, List, ℕ, ◌*◌, ◌≤◌, ◌<◌, get_or}
use Rattle.std.proofs.Math.Path.{sym, ap, subst}
use Rattle.std.proofs.Common.{◌∙◌, arith, lit<}
use Rattle.std.proofs.Math.Decide.{dec_lt}
use Rattle.std.proofs.Math.ListN.{length, get_or-eq_default}
use Rattle.shape.specs.Shapes.{byte_limits}
use Rattle.code.specs.RefusalsLaws.{or_else-zero}
use Rattle.code.specs.Marks.{excess}
use Rattle.code.specs.Outcome.{done_with}
use Rattle.code.specs.LimitsLaws.{word-of-good}
use Rattle.byte_edition.specs.EditionLaws.{bytes-sound}
use Rattle.code_services.specs.Marks.{marks_refusal_in}
use Rattle.code_services.specs.JudgeLaws.{zero-excess}
use Rattle.code_services.specs.Recover.{recover_refusal_in}
use Rattle.code_services.specs.AttemptLaws.{service-nine, service-done}
use Rattle.code_services.specs.Attempt.{AcceptedIn}
use Rattle.block_laws.specs.Steps.{Limit}
use Rattle.block_laws.specs.Ready.{Ready, Recoverable, Restored}
use Rattle.block_rebuild.specs.Columns.{block_word}
use Rattle.block_rebuild.specs.ColumnsLaws.{blocks-are, word-length, word_at, word-is}
use Rattle.block_rebuild.specs.Rebuild.{rebuild_refusal, word_outcome, rebuilt_blocks, rebuild_of, contradictory_rebuild, done_rebuild}
use Rattle.block_rebuild.specs.Steps.{Lent, Room}
use Rattle.block_rebuild.proofs.RebuildLaws.{lent_of, NoneBelow, rebuild-contradictory, rebuild-done}

module _ (m w c size : ℕ) (blocks marks : List ℕ) (none : rebuild_refusal m w c size (length blocks) marks ≡ 0)
    (small : (i : ℕ) → get_or blocks i 0 < 256) where
  L : Lent m w c size blocks marks
  L = (lent_of m w c size blocks marks none).0

  pub engine-room : (x : ℕ) → x < size → Room m w c size x blocks marks
  engine-room x l = record { lent = L; inside = l }

  marks-none : marks_refusal_in byte_limits m w c marks ≡ 0
  unfolding rebuild_refusal
  marks-none = (or_else-zero (marks_refusal_in byte_limits m w c marks) _ none).0

  low : excess m w c marks ≤ 2
  low = (zero-excess byte_limits m w c marks marks-none).0 (lent_of m w c size blocks marks none).1

  pub engine-ready : Ready m w c size (length blocks) marks
  engine-ready = record { good = L.good; marks-size = L.marks-size; some = L.some; blocks-size = L.blocks-size; most = L.most; low = low }

  word : ℕ → List ℕ
  word x = block_word (m * w) size blocks x

  taken : (x : ℕ) → AcceptedIn byte_limits m w c (word x) marks
  unfolding recover_refusal_in word
  taken x = record {
    refusal = rw (word-of-good m w c (length (word x)) L.good (word-length (m * w) size blocks x), marks-none);
    good = L.good;
    word_size = word-length (m * w) size blocks x;
    marks-size = L.marks-size;
  }

  word_small : (x p : ℕ) → get_or (word x) p 0 < 256
  unfolding word
  word_small x p = elim (dec_lt p (m * w)) [
    | yes l ↦ subst (λ b. b < 256) (sym (word_at (m * w) size blocks x p l)) (small _)
    | no l ↦
        (let k : length (word x) ≤ p = (let e = word-length (m * w) size blocks x in omega arith) in
        subst (λ b. b < 256) (sym (get_or-eq_default (word x) 0 k)) (lit< tt))
  ]

  done_at : (x : ℕ) (R : Recoverable m w c size blocks marks x) → word_outcome m w c size blocks marks x ≡ done_with R.0 marks
  unfolding word_outcome word block_word
  done_at x R = service-done bytes-sound m w c (word x) marks (taken x) (word_small x) R.0 low R.1

  pub nine-at : (x : ℕ) → (Recoverable m w c size blocks marks x → ⊥) → (word_outcome m w c size blocks marks x).number ≡ 9
  unfolding word_outcome word block_word
  nine-at x n = ap (λ o. o.number) (service-nine bytes-sound m w c (word x) marks (taken x) (word_small x) low (λ y Y. n (y, Y)))

  below : (x : ℕ) → Limit size x (Recoverable m w c size blocks marks) → NoneBelow m w c size blocks marks x
  below x F y l e =
      let z : ◌≡◌ {A = ℕ} 0 9 = sym (ap (λ o. o.number) (done_at y (F.holds y l))) ∙ e in
      omega arith

  pub engine-contradictory : (x : ℕ) → Limit size x (Recoverable m w c size blocks marks) → x < size
      → rebuild_of m w c size blocks marks ≡ contradictory_rebuild x (word_outcome m w c size blocks marks x).group blocks marks
  engine-contradictory x F l = rebuild-contradictory m w c size blocks marks none x l (below x F) (nine-at x (F.stops l))

  pub engine-done : (x : ℕ) → Limit size x (Recoverable m w c size blocks marks) → size ≤ x
      → rebuild_of m w c size blocks marks ≡ done_rebuild (rebuilt_blocks m w c size blocks marks) marks
  engine-done x F l = rebuild-done m w c size blocks marks none (λ y b. below x F y (omega arith))

  pub engine-written : (x : ℕ) → Limit size x (Recoverable m w c size blocks marks) → size ≤ x → (after : List ℕ) → Restored m w c size marks blocks after
      → after ≡ rebuilt_blocks m w c size blocks marks
  unfolding rebuilt_blocks
  engine-written x F l after R =
      blocks-are (m * w) size after _ L.some (R.long ∙ L.blocks-size) (λ y b. each y b (F.holds y (omega arith)))
    where
      each : (y : ℕ) → y < size → Recoverable m w c size blocks marks y → block_word (m * w) size after y ≡ (word_outcome m w c size blocks marks y).word
      each y b Q =
          sym (word-is (m * w) size after y Q.0 Q.1.codeword.symbols.size (λ p h. sym (R.here y b Q.0 Q.1 p h)))
          ∙ ap (λ o. o.word) (sym (done_at y Q))
