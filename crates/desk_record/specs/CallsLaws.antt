-- Laws of a call that changes a desk: "On every refusal all lent buffers and the desk stay as they were."
use Rattle.std.specs.Prelude.{◌≡◌, refl, ℕ, zero, suc, Ok, Err}
use Rattle.std.proofs.Common.{sym, ap, ◌∙◌, subst}
use Rattle.answers.specs.declared.Refusal.{Refusal}
use Rattle.answers.specs.Answers.{refusal_number}
use Rattle.answers.specs.AnswersLaws.{refusal-some}
use Rattle.desk_record.specs.declared.Desk.{Desk}
use Rattle.desk_record.specs.Calls.{changing_by, ChangeGives}

pub changing-refused : (r : ℕ) → (r ≡ 0 → ⊥) → (new old : Desk) → changing_by r new old ≡ record { number = r; desk = old }
changing-refused zero some new old = absurd (some refl)
changing-refused (suc r) some new old = refl

pub call-refused : (n : ℕ) (e : Refusal) → refusal_number e ≡ n → (new old : Desk) → ChangeGives (changing_by n new old) old (Err e)
call-refused n e is new old =
    subst (λ o. ChangeGives o old (Err e)) (sym (changing-refused n (λ z. refusal-some e (is ∙ z)) new old)) (record { desk-is = refl; number_is = is })

pub call-done : (n : ℕ) → n ≡ 0 → (new old : Desk) → ChangeGives (changing_by n new old) new (Ok tt)
call-done n e new old = subst (λ x. ChangeGives (changing_by x new old) new (Ok tt)) (sym e) (record { desk-is = refl; number_is = refl })
