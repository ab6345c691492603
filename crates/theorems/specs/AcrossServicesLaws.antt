-- Laws: What holds between services: Recover and Judge, Check and Recover, and a word that the desk serves.
use Rattle.std.specs.Prelude.{◌≡◌, ◌↔◌, Bool, true, false, not, List, T, eqb, length, get_or, Option, Some, None, Result, Ok, Err}
use Rattle.std.proofs.Math.Path.{refl, ap₂}
use Rattle.std.proofs.Common.{sym, ap, ◌∙◌, subst, arith}
use Prim.Native.Nat.{ℕ, zero, suc, ◌*◌, ◌^◌, ◌<◌}
use Rattle.code.specs.Refusals.{refuse, ◌or_else◌}
use Rattle.code.specs.RefusalsLaws.{or_else-zero}
use Rattle.shape.specs.Shapes.{byte_limits}
use Rattle.code.specs.Limits.{place_count, GoodIn}
use Rattle.code.specs.LimitsLaws.{word-of-good}
use Rattle.byte_edition.specs.Edition.{byte_edition}
use Rattle.byte_edition.specs.EditionLaws.{bytes-sound}
use Rattle.code.specs.Edition.{Edition, Sound}
use Rattle.code.specs.Word.{is_codeword, Symbols, Codeword}
use Rattle.code.specs.Marks.{Agree}
use Rattle.code.specs.Outcome.{SameEnd}
use Rattle.code_services.specs.Marks.{MarkedIn}
use Rattle.code_services.specs.MarksLaws.{marks-of-good}
use Rattle.code_services.specs.Judge.{judged_number_in}
use Rattle.code_services.specs.JudgeLaws.{eight-excess}
use Rattle.code_services.specs.Recover.{recover_in}
use Rattle.code_services.specs.AttemptLaws.{accepted, eight-exactly}
use Rattle.code_services.specs.RecoverDemand.{Named}
use Rattle.code_services.specs.RecoverDemandLaws.{good_start, recover-demand-two, lost-bytes}
use Rattle.answers.specs.declared.Refusal.{Refusal}
use Rattle.code_services.specs.Check.{whole_group_in, checked_in}
use Rattle.code_services.specs.CheckLaws.{yes-exactly}
use Rattle.text_stream.specs.NoneLost.{none_lost}
use Rattle.text_stream.specs.NoneLostLaws.{none-marked, codeword-stays, other-nine}
use Rattle.desk_job.specs.declared.Job.{Job}
use Rattle.desk_record.specs.declared.Desk.{Desk}
use Rattle.desk_record.specs.Desks.{job_at, slot_of}
use Rattle.desk_job.specs.Jobs.{job_marks}
use Rattle.desk_record.specs.Refusal.{handle_refusal}
use Rattle.desk_serve.specs.Serve.{job_recovery, job_number, serve_number, group_of_nine, serve_by, serve_of}
use Rattle.theorems.specs.AcrossServices.{CheckedAsRecovered, SameServing}

-- "Recover: 8 exactly if judge says 8", in every sound edition, for a good shape, n symbols and n marks of 0 or 1
pub recover-as-judge-in : {E : Edition} (S : Sound E) (m w c : ℕ) (word marks : List ℕ) → GoodIn E.limits m w c → length word ≡ m * w
    → ((p : ℕ) → get_or word p 0 < 2 ^ E.bits) → length marks ≡ m * w → ((p : ℕ) → get_or marks p 0 < 2)
    → ((recover_in E m w c word marks).number ≡ 8) ↔ (judged_number_in E.limits m w c marks ≡ 8)
recover-as-judge-in {E} S m w c word marks good size small marks-size each =
    let M : MarkedIn E.limits m w c marks = record { good = good; size = marks-size; each = each } in
    let R = eight-exactly S m w c word marks (accepted m w c word marks 0 (sym (good_start m w c word marks M size)) refl) small in
    let J = eight-excess E.limits m w c marks (marks-of-good m w c marks M) in
    ((λ e. J.1 (R.0 e)), (λ e. R.1 (J.0 e)))

-- of bytes
pub recover-as-judge : (m w c : ℕ) (word marks : List ℕ) → GoodIn byte_limits m w c → length word ≡ m * w → ((p : ℕ) → get_or word p 0 < 256)
    → length marks ≡ m * w → ((p : ℕ) → get_or marks p 0 < 2) → ((recover_in byte_edition m w c word marks).number ≡ 8)
    ↔ (judged_number_in byte_limits m w c marks ≡ 8)
recover-as-judge m w c word marks good size small marks-size each = recover-as-judge-in bytes-sound m w c word marks good size small marks-size each

module _ {E : Edition} (S : Sound E) (m w c : ℕ) (word : List ℕ) (good : GoodIn E.limits m w c) (s : Symbols E (m * w) word) where
  -- of a codeword
  checked-yes : Codeword E m w c word → CheckedAsRecovered E m w c word
  checked-yes C =
      let k = (yes-exactly E m w c word good s).1 C in
      let r : (recover_in E m w c word (none_lost word)).number ≡ 0 = ap (λ o. o.number) (codeword-stays S good word s C) in
      record {
        yes = ((λ _. r), (λ _. k));
        no = λ g. ((λ q. absurd (let z : ◌≡◌ {A = ℕ} 0 1 = cc in omega arith)), (λ q. absurd (let z = q.0 in omega arith)));
        named = λ g q. absurd (let z : ◌≡◌ {A = ℕ} 0 1 = cc in omega arith);
      }

  -- of another word
  checked-other : is_codeword E m w c word ≡ false → checked_in E m w c word ≡ Ok (Some (whole_group_in E m w c word))
  unfolding checked_in
  checked-other e = rw (word-of-good m w c (length word) good s.size, e)

  checked-no : is_codeword E m w c word ≡ false → CheckedAsRecovered E m w c word
  checked-no e =
      let k = checked-other e in
      let r = other-nine S good word s e in
      let n : (recover_in E m w c word (none_lost word)).number ≡ 9 = ap (λ o. o.number) r in
      let h : (recover_in E m w c word (none_lost word)).group ≡ whole_group_in E m w c word = ap (λ o. o.group) r in
      let M = none-marked S good word s in
      let D = recover-demand-two S m w c word (none_lost word) good s.size s.each M.size M.each in
      let same : (g : ℕ) → checked_in E m w c word ≡ Ok (Some g) → whole_group_in E m w c word ≡ g = λ g q. ap other_group (sym k ∙ q) in
      record {
        yes = ((λ q. absurd (let z : ◌≡◌ {A = ℕ} 0 1 = cc in omega arith)), (λ q. absurd (omega arith)));
        no = λ g. ((λ q. (n, h ∙ same g q)), (λ q. k ∙ ap (λ i. Ok (Some i)) (sym h ∙ q.1)));
        named = λ g q. subst (Named E m w c word (none_lost word)) (h ∙ same g q) (D.group n);
      }
    where
      other_group : Result (Option ℕ) Refusal → ℕ
      other_group (Ok None) = 0
      other_group (Ok (Some g)) = g
      other_group (Err e) = 0

-- in every sound edition, for a good shape and n symbols
pub check-as-recover-in : {E : Edition} (S : Sound E) (m w c : ℕ) (word : List ℕ) → GoodIn E.limits m w c → length word ≡ m * w
    → ((p : ℕ) → get_or word p 0 < 2 ^ E.bits) → CheckedAsRecovered E m w c word
check-as-recover-in {E} S m w c word good size small = go (is_codeword E m w c word) refl
  where
    s : Symbols E (m * w) word
    s = record { size = size; each = small }

    go : (b : Bool) → is_codeword E m w c word ≡ b → CheckedAsRecovered E m w c word
    go true e = checked-yes S m w c word good s (record { symbols = s; zero = subst T (sym e) tt })
    go false e = checked-no S m w c word good s e

-- of bytes
pub check-as-recover : (m w c : ℕ) (word : List ℕ) → GoodIn byte_limits m w c → length word ≡ m * w → ((p : ℕ) → get_or word p 0 < 256)
    → CheckedAsRecovered byte_edition m w c word
check-as-recover m w c word good size small = check-as-recover-in bytes-sound m w c word good size small

-- "The byte standing in a lost place has no effect on any answer": of Serve, where two words of one length agree at the places that the job's
-- marks give as present.
module _ (handle : ℕ) (word₁ word₂ : List ℕ) (desk : Desk) (size : length word₁ ≡ length word₂)
    (same : Agree (length word₁) (job_marks (job_at desk (slot_of handle))) word₁ word₂) where
  job : Job
  job = job_at desk (slot_of handle)

  recovery : SameEnd (job_recovery job word₁) (job_recovery job word₂)
  unfolding job
  recovery = lost-bytes byte_edition job.m job.w job.c word₁ word₂ (job_marks job) size same

  number_same : serve_number handle word₁ desk ≡ serve_number handle word₂ desk
  unfolding serve_number job_number job
  number_same =
      ap₂
      (λ n r. handle_refusal handle desk or_else refuse 5 (not (eqb n (place_count job.m job.w))) or_else refuse 13 (eqb job.served 4294967295) or_else r)
      size recovery.number

  -- where it is 0 the recovery's is
  recovered : serve_number handle word₁ desk ≡ 0 → (job_recovery job word₁).number ≡ 0
  unfolding serve_number job_number job
  recovered e =
      let after-handle = (or_else-zero (handle_refusal handle desk) (job_number job word₁) e).1 in
      let after-size = (or_else-zero (refuse 5 (not (eqb (length word₁) (place_count job.m job.w)))) _ after-handle).1 in
      (or_else-zero (refuse 13 (eqb job.served 4294967295)) (job_recovery job word₁).number after-size).1

  pub serve-lost-bytes : SameServing (serve_of handle word₁ desk) (serve_of handle word₂ desk)
  unfolding serve_of job
  serve-lost-bytes = go (serve_number handle word₁ desk) (serve_number handle word₂ desk) number_same recovered
    where
      go : (r s : ℕ) → r ≡ s → (r ≡ 0 → (job_recovery job word₁).number ≡ 0) → SameServing (serve_by r handle word₁ desk) (serve_by s handle word₂ desk)
      go zero zero e h = record { number = refl; group = refl; word = λ _. recovery.word (h refl); desk = refl }
      go zero (suc s) e h = absurd (omega arith)
      go (suc r) zero e h = absurd (omega arith)
      go (suc r) (suc s) e h = record {
        number = e;
        group = ap₂ group_of_nine e recovery.group;
        word = λ z. absurd (omega arith);
        desk = refl;
      }
