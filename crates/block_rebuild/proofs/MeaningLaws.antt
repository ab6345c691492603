-- Laws: What block rebuild means, in the words of Recover.
use Rattle.std.specs.Prelude.{◌≡◌, refl, List, ℕ, ◌<◌, length, get_or}
use Rattle.std.proofs.Common.{sym, ap, ◌∙◌, arith}
use Rattle.shape.specs.Shapes.{byte_limits}
use Rattle.code.specs.Limits.{place_count}
use Rattle.code_services.specs.Marks.{marks_refusal_in}
use Rattle.code_services.specs.Judge.{judged_number_in}
use Rattle.block_rebuild.specs.Columns.{block_word}
use Rattle.block_rebuild.specs.Rebuild.{blocks_refusal, rebuild_refusal, word_outcome, rebuilt_blocks}
use Rattle.block_rebuild.proofs.RebuildLaws.{refusal-never-nine}
use Rattle.block_rebuild.specs.Meaning.{Rebuilds}
use Rattle.block_rebuild.proofs.CasesLaws.{before, nine, done, ends, word-zero, rebuilt-at, rebuilt-size}

-- the call is not refused 1 to 6 or 27
module _ (m w c size : ℕ) (blocks marks : List ℕ) (marked : marks_refusal_in byte_limits m w c marks ≡ 0)
    (fit : blocks_refusal (place_count m w) size (length blocks) ≡ 0)
    (small : (i : ℕ) → get_or blocks i 0 < 256) where
  -- then Judge alone can refuse it
  judge-refuses : rebuild_refusal m w c size (length blocks) marks ≡ judged_number_in byte_limits m w c marks
  unfolding rebuild_refusal
  judge-refuses = rw (marked, fit)

  clash : {A : Type 0} {n : ℕ} → n ≡ 0 → n ≡ 8 → A
  clash p q = absurd (let z : ◌≡◌ {A = ℕ} 0 8 = sym p ∙ q in omega arith)

  -- "One call with a shape and one set of marks recovers all words and clears the marks, or changes nothing."
  pub rebuilds : Rebuilds m w c size blocks marks
  rebuilds = elim (ends m w c size blocks marks) [
    | before r e n d ↦ record {
      eight = (λ z. sym (e ∙ judge-refuses) ∙ sym (ap (λ o. o.number) d) ∙ z, λ z. ap (λ o. o.number) d ∙ e ∙ judge-refuses ∙ z);
      nine = λ z. absurd (refusal-never-nine m w c size (length blocks) marks (sym e ∙ sym (ap (λ o. o.number) d) ∙ z));
      nine-of = λ z _ _ _. absurd (n (e ∙ judge-refuses ∙ z));
      done-of = λ z _. absurd (n (e ∙ judge-refuses ∙ z));
      each = λ z. absurd (n (sym (ap (λ o. o.number) d) ∙ z));
      long = ap (λ o. length o.blocks) d;
      clear = λ z. absurd (n (sym (ap (λ o. o.number) d) ∙ z));
      kept = λ _. (ap (λ o. o.blocks) d, ap (λ o. o.marks) d);
    }
    | nine z x l k b d ↦ record {
      eight = (λ q. absurd (let v : ◌≡◌ {A = ℕ} 9 8 = sym (ap (λ o. o.number) d) ∙ q in omega arith), λ q. clash (sym judge-refuses ∙ z) q);
      nine = λ _. rw d (record { inside = l; nine = k; group = refl; below = λ y h. word-zero m w c size blocks marks z small y (b y h) });
      nine-of = λ _ _ _ _. ap (λ o. o.number) d;
      done-of = λ _ h. absurd (let v : ◌≡◌ {A = ℕ} 9 0 = sym k ∙ h x l in omega arith);
      each = λ q. absurd (let v : ◌≡◌ {A = ℕ} 9 0 = sym (ap (λ o. o.number) d) ∙ q in omega arith);
      long = ap (λ o. length o.blocks) d;
      clear = λ q. absurd (let v : ◌≡◌ {A = ℕ} 9 0 = sym (ap (λ o. o.number) d) ∙ q in omega arith);
      kept = λ _. (ap (λ o. o.blocks) d, ap (λ o. o.marks) d);
    }
    | done z h d ↦ record {
      eight = (λ q. absurd (let v : ◌≡◌ {A = ℕ} 0 8 = sym (ap (λ o. o.number) d) ∙ q in omega arith), λ q. clash (sym judge-refuses ∙ z) q);
      nine = λ q. absurd (let v : ◌≡◌ {A = ℕ} 0 9 = sym (ap (λ o. o.number) d) ∙ q in omega arith);
      nine-of = λ _ x l k. absurd (h x l k);
      done-of = λ _ _. ap (λ o. o.number) d;
      each = λ _ x l. (word-zero m w c size blocks marks z small x (h x l), ap (λ o. block_word (place_count m w) size o.blocks x) d ∙ rebuilt-word z x l);
      long = ap (λ o. length o.blocks) d ∙ rebuilt-long z;
      clear = λ _. ap (λ o. o.marks) d;
      kept = λ q. absurd (q (ap (λ o. o.number) d));
    }
  ]
    where
      rebuilt-word : rebuild_refusal m w c size (length blocks) marks ≡ 0 → (x : ℕ) → x < size
          → block_word (place_count m w) size (rebuilt_blocks m w c size blocks marks) x ≡ (word_outcome m w c size blocks marks x).word
      rebuilt-word z x l = rebuilt-at m w c size blocks marks z x l

      rebuilt-long : rebuild_refusal m w c size (length blocks) marks ≡ 0 → length (rebuilt_blocks m w c size blocks marks) ≡ length blocks
      rebuilt-long z = rebuilt-size m w c size blocks marks z
