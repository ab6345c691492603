-- What the answer of Check says.
use Rattle.std.specs.Prelude.{◌≡◌, ◌↔◌, Bool, cond, Option, Some, None, Result, Ok, Err, T, length}
use Rattle.std.proofs.Math.Path.{refl}
use Rattle.std.proofs.Common.{sym, ◌∙◌, arith}
use Rattle.std.proofs.Math.Bool.{true, false}
use mathlib.Core.List.{List, [], ◌∷◌}
use Prim.Native.Nat.{ℕ, zero, suc, ◌*◌}
use Rattle.std.specs.Float.Ieee.Bits.{is_true}
use Rattle.code.specs.Refusals.{unless_refused}
use Rattle.code.specs.Edition.{Edition}
use Rattle.code.specs.Word.{is_codeword, Symbols, Codeword}
use Rattle.code.specs.Limits.{GoodIn, word_refusal_in}
use Rattle.code.specs.LimitsLaws.{word-of-good}
use Rattle.answers.specs.declared.Refusal.{Refusal}
use Rattle.answers.specs.Answers.{refusal_number, Listed, Plain}
use Rattle.answers.specs.AnswersLaws.{answer-refused}
use Rattle.answers.specs.PlainLaws.{word-plain}
use Rattle.answers.specs.Figures.{checked_at, checked_number, checked_figures}
use Rattle.code_services.specs.Check.{whole_group_in, checked_in, check_figures_in}

pub checked_refused : {e : Refusal} (r : ℕ) (b : Bool) (g : ℕ) → refusal_number e ≡ r → (r ≡ 0 → ⊥) → Plain r → checked_at r b g ≡ Err e
checked_refused zero b g is h n = absurd (h refl)
checked_refused {e} (suc r) b g is h n = go (answer-refused is n)
  where
    go : {f : Refusal} → ◌≡◌ {A = Result Unit Refusal} (Err f) (Err e) → ◌≡◌ {A = Result (Option ℕ) Refusal} (Err f) (Err e)
    go q = cc

module _ (E : Edition) (m w c : ℕ) (word : List ℕ) where
  pub checked-number : checked_number (checked_in E m w c word) ≡ word_refusal_in E.limits m w c (length word)
  unfolding checked_in
  checked-number = go (word_refusal_in E.limits m w c (length word)) (is_codeword E m w c word) (word-plain E.limits m w c (length word)).0
    where
      go : (r : ℕ) (b : Bool) → Listed r → checked_number (checked_at r b (whole_group_in E m w c word)) ≡ r
      go zero true l = refl
      go zero false l = refl
      go (suc r) b l = l

  pub checked-figures : checked_figures (checked_in E m w c word) ≡ check_figures_in E m w c word
  unfolding checked_in check_figures_in
  checked-figures = go (word_refusal_in E.limits m w c (length word)) (is_codeword E m w c word)
    where
      go : (r : ℕ) (b : Bool) → checked_figures (checked_at r b (whole_group_in E m w c word))
          ≡ unless_refused r (cond b (1 ∷ []) (0 ∷ whole_group_in E m w c word ∷ [])) []
      go zero true = refl
      go zero false = refl
      go (suc r) b = refl

  -- for a good shape and a word of its length the answer is yes exactly if the word is a codeword
  module _ (good : GoodIn E.limits m w c) (s : Symbols E (m * w) word) where
    answered : checked_in E m w c word ≡ checked_at 0 (is_codeword E m w c word) (whole_group_in E m w c word)
    unfolding checked_in
    answered = rw (word-of-good m w c (length word) good s.size)

    yes-codeword : checked_in E m w c word ≡ Ok None → Codeword E m w c word
    yes-codeword e = record { symbols = s; zero = go (is_codeword E m w c word) (sym answered ∙ e) }
      where
        go : (b : Bool) → checked_at 0 b (whole_group_in E m w c word) ≡ Ok None → T b
        go true e = tt
        go false e = let z : ◌≡◌ {A = ℕ} 0 1 = cc in absurd (omega arith)

    codeword-yes : Codeword E m w c word → checked_in E m w c word ≡ Ok None
    codeword-yes C = let t = is_true (is_codeword E m w c word) C.zero in rw (answered, t)

    pub yes-exactly : (checked_in E m w c word ≡ Ok None) ↔ Codeword E m w c word
    yes-exactly = (yes-codeword, codeword-yes)
