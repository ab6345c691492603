-- Laws: How a call ends: its answer and what it leaves.
use Rattle.std.specs.Prelude.{◌≡◌, refl, List, ℕ, Result, Ok, Err, length, replicate}
use Rattle.std.proofs.Common.{sym, ap, ◌∙◌, subst}
use Rattle.code.specs.Refusals.{unless_refused}
use Rattle.code.specs.RefusalsLaws.{unless-refused}
use Rattle.code.specs.Outcome.{Outcome, refused, contradictory, done_with}
use Rattle.answers.specs.declared.Refusal.{Refusal}
use Rattle.answers.specs.Answers.{refusal_number, answer_at, answer_number, Plain}
use Rattle.answers.specs.AnswersLaws.{refusal-some, answer-refused}
use Rattle.code_services.specs.Answered.{AnswersBy}
use Rattle.code_services.specs.AnsweredLaws.{answers-refused, answers-nine, answers-done}

-- a service that mends: answer, word and marks are those of an outcome
abbrev pub Ends : Result Unit Refusal → List ℕ → List ℕ → Outcome → Type 0
Ends r word marks x = AnswersBy r x × ((word ≡ x.word) × (marks ≡ x.marks))

module _ {x : Outcome} {word marks : List ℕ} where
  pub ends-refused : {e : Refusal} → x ≡ refused (refusal_number e) word marks → (refusal_number e ≡ 9 → ⊥) → Ends (Err e) word marks x
  ends-refused is other = (answers-refused is other, (ap (λ o. o.word) (sym is), ap (λ o. o.marks) (sym is)))

  -- where word and marks are left as they were
  pub ends-nine : {group : ℕ} {after held : List ℕ} → x ≡ contradictory group word marks → after ≡ word → held ≡ marks
      → Ends (Err (Refusal.Contradictory group)) after held x
  ends-nine e p q = (answers-nine e, (p ∙ ap (λ o. o.word) (sym e), q ∙ ap (λ o. o.marks) (sym e)))

-- the marks are cleared
pub ends-done : {x : Outcome} {word held : List ℕ} (marks : List ℕ) → x ≡ done_with word marks → held ≡ replicate (length marks) 0 → Ends (Ok tt) word held x
ends-done marks e q = (answers-done marks e, (ap (λ o. o.word) (sym e), q ∙ ap (λ o. o.marks) (sym e)))

-- a service that has no figures and writes one buffer, n being its refusal
abbrev pub Leaves : {A : Type 0} → Result Unit Refusal → List A → ℕ → List A → List A → Type 0
Leaves r after n written lent = (r ≡ answer_at n) × ((answer_number r ≡ n) × (after ≡ unless_refused n written lent))

pub leaves-refused : {A : Type 0} {e : Refusal} {n : ℕ} (written lent : List A) → refusal_number e ≡ n → Plain n → Leaves (Err e) lent n written lent
leaves-refused {A} {e} {n} written lent is plain =
    (sym (answer-refused is plain), (is, sym (unless-refused n written lent (λ z. refusal-some e (is ∙ z)))))

pub leaves-done : {A : Type 0} {after written : List A} {n : ℕ} (lent : List A) → n ≡ 0 → after ≡ written → Leaves (Ok tt) after n written lent
leaves-done {A} {after} {written} {n} lent z e = subst (λ k. Leaves (Ok tt) after k written lent) (sym z) (refl, (refl, e))

-- where the buffer's end is known whole
pub leaves_by : {A : Type 0} {after end : List A} {n : ℕ} → n ≡ 0 → after ≡ end → (Ok tt ≡ answer_at n) × ((answer_number (Ok tt) ≡ n) × (after ≡ end))
leaves_by z e = (sym (ap answer_at z), (sym z, e))
