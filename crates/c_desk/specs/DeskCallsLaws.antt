-- Laws: what a lent handle and a lent served count hold at the end, by the answer and by what the call gives.
use Rattle.std.specs.Prelude.{◌≡◌, refl, ℕ, zero, suc, Result, Ok, Err}
use Rattle.std.proofs.Common.{sym, ap, ◌∙◌, subst}
use Rattle.desk_record.specs.declared.Desk.{Desk}
use Rattle.answers.specs.declared.Refusal.{Refusal}
use Rattle.answers.specs.Answers.{refusal_number}
use Rattle.answers.specs.AnswersLaws.{refusal-some}
use Rattle.desk_open.specs.Open.{Opening, OpenGives, opened_number}
use Rattle.desk_close.specs.Read.{Reading, ReadGives, counted_number}
use Rattle.c_desk.specs.DeskCalls.{kept_unless_done, OpensNumber, ReadsNumber, handle_or, served_or}

kept-refused : (r : ℕ) → (r ≡ 0 → ⊥) → (written lent : ℕ) → lent ≡ kept_unless_done r written lent
kept-refused zero some written lent = absurd (some refl)
kept-refused (suc r) some written lent = refl

-- done with a value, or refused
by-done : (n value lent : ℕ) → 0 ≡ n → value ≡ kept_unless_done n value lent
by-done n value lent e = subst (λ x. value ≡ kept_unless_done x value lent) e refl

by-refusal : (n r written lent : ℕ) → r ≡ n → (r ≡ 0 → ⊥) → lent ≡ kept_unless_done n written lent
by-refusal n r written lent e some = subst (λ x. lent ≡ kept_unless_done x written lent) e (kept-refused r some written lent)

handle-or : (o : Opening) (lent : ℕ) (desk : Desk) (answer : Result ℕ Refusal) → OpenGives o desk answer
    → handle_or answer lent ≡ kept_unless_done o.number o.handle lent
handle-or o lent desk (Ok handle) e = by-done o.number handle lent e.number_is ∙ ap (λ h. kept_unless_done o.number h lent) e.handle-is
handle-or o lent desk (Err r) e = by-refusal o.number (refusal_number r) o.handle lent e.number_is (refusal-some r)

pub opens-number : (o : Opening) (lent : ℕ) (desk : Desk) (answer : Result ℕ Refusal) (handle number : ℕ)
    → (number ≡ opened_number answer) × (handle ≡ handle_or answer lent) → OpenGives o desk answer → OpensNumber o lent desk handle number
opens-number o lent desk answer handle number k e = record {
  number_is = k.0 ∙ e.number_is;
  desk-is = e.desk-is;
  handle-is = k.1 ∙ handle-or o lent desk answer e;
}

served-or : (o : Reading) (lent : ℕ) (answer : Result ℕ Refusal) → ReadGives o answer → served_or answer lent ≡ kept_unless_done o.number o.served lent
served-or o lent (Ok served) e = by-done o.number served lent e.number_is ∙ ap (λ n. kept_unless_done o.number n lent) e.served-is
served-or o lent (Err r) e = by-refusal o.number (refusal_number r) o.served lent e.number_is (refusal-some r)

pub reads-number : (o : Reading) (lent : ℕ) (answer : Result ℕ Refusal) (served number : ℕ)
    → (number ≡ counted_number answer) × (served ≡ served_or answer lent) → ReadGives o answer → ReadsNumber o lent served number
reads-number o lent answer served number k e = record { number_is = k.0 ∙ e.number_is; served-is = k.1 ∙ served-or o lent answer e }
