-- Laws of Read: what is answered by a refusal, and by none.
use Rattle.std.specs.Prelude.{◌≡◌, refl, ℕ, zero, suc, Ok, Err}
use Rattle.std.proofs.Common.{sym, ◌∙◌, subst}
use Rattle.answers.specs.declared.Refusal.{Refusal}
use Rattle.answers.specs.Answers.{refusal_number}
use Rattle.answers.specs.AnswersLaws.{refusal-some}
use Rattle.desk_record.specs.declared.Desk.{Desk}
use Rattle.desk_record.specs.Desks.{job_at, slot_of}
use Rattle.desk_close.specs.Read.{read_by, ReadGives}

read-refused : (r : ℕ) → (r ≡ 0 → ⊥) → (handle : ℕ) (desk : Desk) → read_by r handle desk ≡ record { number = r; served = 0 }
read-refused zero some handle desk = absurd (some refl)
read-refused (suc r) some handle desk = refl

module _ (n : ℕ) (handle : ℕ) (desk : Desk) where
  pub reads-refused : (e : Refusal) → refusal_number e ≡ n → ReadGives (read_by n handle desk) (Err e)
  reads-refused e is =
      subst (λ o. ReadGives o (Err e)) (sym (read-refused n (λ z. refusal-some e (is ∙ z)) handle desk)) (record { number_is = is; served-is = refl })

  pub reads-done : n ≡ 0 → ReadGives (read_by n handle desk) (Ok (job_at desk (slot_of handle)).served)
  reads-done e =
      subst (λ x. ReadGives (read_by x handle desk) (Ok (job_at desk (slot_of handle)).served)) (sym e) (record { number_is = refl; served-is = refl })
