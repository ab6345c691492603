-- Laws: What a service that mends answers, by this paper's number and group.
use Rattle.std.specs.Prelude.{◌≡◌, List, ℕ, Result, Ok, Err}
use Rattle.std.proofs.Common.{sym, ap, ap₂, ◌∙◌, subst}
use Rattle.code.specs.Outcome.{Outcome, SameEnd, refused, contradictory, done_with}
use Rattle.answers.specs.declared.Refusal.{Refusal}
use Rattle.answers.specs.Answers.{refusal_number, mending_at}
use Rattle.answers.specs.AnswersLaws.{refusal-no-group, mending-at}
use Rattle.code_services.specs.Answered.{AnswersBy}

-- the number and the group leave one answer
pub answers_at : {r : Result Unit Refusal} {x : Outcome} → AnswersBy r x → r ≡ mending_at x.number x.group
answers_at {r} {x} A = sym (mending-at r) ∙ ap₂ mending_at A.number A.group

pub answers_of : {r : Result Unit Refusal} {x y : Outcome} → x ≡ y → AnswersBy r x → AnswersBy r y
answers_of {r} e A = subst (AnswersBy r) e A

pub answers-same : {r : Result Unit Refusal} {x y : Outcome} → SameEnd x y → AnswersBy r x → AnswersBy r y
answers-same S A = record { number = A.number ∙ S.number; group = A.group ∙ S.group }

-- the three ends
pub answers-refused : {x : Outcome} {e : Refusal} {word marks : List ℕ} → x ≡ refused (refusal_number e) word marks → (refusal_number e ≡ 9 → ⊥)
    → AnswersBy (Err e) x
answers-refused {x} {e} is other = record {
  number = sym (ap (λ (o : Outcome). o.number) is);
  group = refusal-no-group e other ∙ sym (ap (λ (o : Outcome). o.group) is);
}

pub answers-nine : {x : Outcome} {group : ℕ} {word marks : List ℕ} → x ≡ contradictory group word marks → AnswersBy (Err (Refusal.Contradictory group)) x
answers-nine e = record {
  number = sym (ap (λ (o : Outcome). o.number) e);
  group = sym (ap (λ (o : Outcome). o.group) e);
}

pub answers-done : {x : Outcome} {word : List ℕ} (marks : List ℕ) → x ≡ done_with word marks → AnswersBy (Ok tt) x
answers-done marks e = record {
  number = sym (ap (λ (o : Outcome). o.number) e);
  group = sym (ap (λ (o : Outcome). o.group) e);
}
