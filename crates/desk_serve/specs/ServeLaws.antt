-- Laws of Serve.
use Rattle.std.specs.Prelude.{◌≡◌, Bool, true, false, not, cond, List, ℕ, zero, suc, ◌*◌, ◌^◌, eqb, ltb, length, Result, Ok, Err}
use Rattle.std.proofs.Math.Path.{refl, sym, ap, subst}
use Rattle.std.proofs.Common.{◌∙◌, arith}
use Rattle.std.proofs.Math.Decide.{ℕ_discrete}
use borrow.Author.Tests.{eq-eqb, ne_eqb, eqb-false}
use Rattle.answers.specs.declared.Refusal.{Refusal}
use Rattle.answers.specs.Answers.{refusal_number, mending_at, mending_number, mending_group, Listed, Plain}
use Rattle.answers.specs.AnswersLaws.{
  refusal-some,
  mending-number,
  mending-is as answer-is,
  mending-some as answer-some,
  mending-other,
  mending-no-group,
  mending-refused,
  else-first,
  refused-listed,
  listed-refuse,
  listed-else,
  plain-refuse,
  plain-else,
}
use Rattle.code_services.specs.PlainLaws.{recover-listed}
use Rattle.code.specs.Refusals.{refuse, ◌or_else◌, unless_refused}
use Rattle.code.specs.RefusalsLaws.{unless-refused, refuse-zero, or_else-zero}
use Rattle.shape.specs.Shapes.{byte_limits}
use Rattle.code.specs.Limits.{place_count}
use Rattle.byte_edition.specs.Edition.{byte_edition}
use Rattle.code.specs.Word.{is_codeword}
use Rattle.code.specs.Marks.{excess}
use Rattle.code.specs.OutcomeLaws.{refused-unchanged}
use Rattle.code.specs.Contradiction.{contradicting_group}
use Rattle.code.specs.Recovery.{recovered}
use Rattle.code_services.specs.Recover.{recover_in, unless_before, recover_refusal_in}
use Rattle.desk_job.specs.declared.Job.{Job}
use Rattle.desk_job.specs.Jobs.{job_marks}
use Rattle.desk_record.specs.declared.Desk.{Desk}
use Rattle.desk_record.specs.Desks.{job_at, slot_of, is_sound, is_open}
use Rattle.desk_record.specs.Refusal.{handle_refusal}
use Rattle.desk_serve.specs.Serve.{job_recovery, job_number, serve_number, group_of_nine, serve_by, serve_of, ServeGives}

-- "On every refusal all lent buffers and the desk stay as they were."
pub serve-refused : (r : ℕ) → (r ≡ 0 → ⊥) → (handle : ℕ) (word : List ℕ) (desk : Desk)
    → serve_by r handle word desk
    ≡ record { number = r; group = group_of_nine r (job_recovery (job_at desk (slot_of handle)) word).group; word = word; desk = desk }
serve-refused zero some handle word desk = absurd (some refl)
serve-refused (suc r) some handle word desk = refl

-- ---- an answer's number and group

pub mending-is : (n g : ℕ) {a : Result Unit Refusal} → Listed n → a ≡ mending_at n g → n ≡ mending_number a
mending-is n g l e = answer-is n g l e

pub mending-some : (n g : ℕ) {f : Refusal} → Err f ≡ mending_at n g → n ≡ 0 → ⊥
mending-some n g e h = answer-some n g e h

-- with a number that is not 9 the group is not looked at
pub mending-of-nine : (n g : ℕ) → mending_at n g ≡ mending_at n (group_of_nine n g)
mending-of-nine n g = elim (ℕ_discrete n 9) [
  | yes q ↦ rw q refl
  | no q ↦ mending-other n g (group_of_nine n g) q
]

pub mending-group : (n g : ℕ) → mending_group (mending_at n g) ≡ group_of_nine n g
mending-group n g = elim (ℕ_discrete n 9) [
  | yes q ↦ rw q refl
  | no q ↦ mending-no-group n g q ∙ sym (ap (λ b. cond b g 0) (ne_eqb n 9 q))
]

-- ---- the job of an open handle

-- 31 and 12 are not 9
handle-plain : (handle : ℕ) (desk : Desk) → Plain (handle_refusal handle desk)
unfolding handle_refusal
handle-plain handle desk =
    plain-else (refuse 31 (not (is_sound desk))) _ (plain-refuse 31 (not (is_sound desk)) (refl, λ z. omega arith))
    (plain-refuse 12 (not (is_open desk handle)) (refl, λ z. omega arith))

handle-not-nine : (handle : ℕ) (desk : Desk) → handle_refusal handle desk ≡ 9 → ⊥
handle-not-nine handle desk = (handle-plain handle desk).1

-- ---- the recovery of a word

-- on a refusal the word is as it was
pub recover-unchanged : (m w c : ℕ) (word marks : List ℕ) → ((recover_in byte_edition m w c word marks).number ≡ 0 → ⊥)
    → (recover_in byte_edition m w c word marks).word ≡ word
unfolding recover_in
recover-unchanged m w c word marks = go (recover_refusal_in byte_limits m w c word marks)
  where
    go : (r : ℕ) → ((unless_before r (recovered byte_edition m w c word marks) word marks).number ≡ 0 → ⊥)
        → (unless_before r (recovered byte_edition m w c word marks) word marks).word ≡ word
    go zero h =
        (refused-unchanged (2 ^ byte_edition.bits) (is_codeword byte_edition m w c) (ltb 2 (excess m w c marks)) (contradicting_group byte_edition m w c word marks)
        word marks h).0
    go (suc r) h = refl

pub unless-same : (r : ℕ) (written lent : List ℕ) → ((r ≡ 0 → ⊥) → written ≡ lent) → written ≡ unless_refused r written lent
unless-same zero written lent h = refl
unless-same (suc r) written lent h = h (λ z. omega arith)

module _ (job : Job) (word : List ℕ) where
  -- what a job says is 0 or the number of a refusal
  job-listed : Listed (job_number job word)
  unfolding job_number
  job-listed =
      listed-else (refuse 5 (not (eqb (length word) (place_count job.m job.w)))) _ (listed-refuse 5 (not (eqb (length word) (place_count job.m job.w))) refl)
      (listed-else (refuse 13 (eqb job.served 4294967295)) _ (listed-refuse 13 (eqb job.served 4294967295) refl)
      (recover-listed byte_edition job.m job.w job.c word (job_marks job)))

  pub job-length : (length word ≡ job.m * job.w → ⊥) → job_number job word ≡ 5
  unfolding job_number
  job-length h = simp (ne_eqb (length word) (job.m * job.w) h)

  module _ (size : length word ≡ job.m * job.w) where
    pub job-end : job.served ≡ 4294967295 → job_number job word ≡ 13
    unfolding job_number
    job-end h = simp (eq-eqb (length word) (job.m * job.w) size, eq-eqb job.served 4294967295 h)

    pub job-recovery : (job.served ≡ 4294967295 → ⊥) → job_number job word ≡ (job_recovery job word).number
    unfolding job_number
    job-recovery h = simp (eq-eqb (length word) (job.m * job.w) size, ne_eqb job.served 4294967295 h)

  -- a serve that is done had room in the served count
  pub job-room : job_number job word ≡ 0 → job.served ≡ 4294967295 → ⊥
  unfolding job_number
  job-room e =
      let n = (job_recovery job word).number in
      let end = refuse 13 (eqb job.served 4294967295) in
      let z = or_else-zero (refuse 5 (not (eqb (length word) (place_count job.m job.w)))) (end or_else n) e in
      let y = or_else-zero end n z.1 in
      eqb-false job.served 4294967295 (refuse-zero 12 _ y.0)

-- ---- what Serve gives

module _ (handle : ℕ) (word : List ℕ) (desk : Desk) where
  group : ℕ
  group = (job_recovery (job_at desk (slot_of handle)) word).group

  -- of an answer that is not done
  gives-by : (n : ℕ) → (n ≡ 0 → ⊥) → Listed n → (word' : List ℕ) → word' ≡ word → (a : Result Unit Refusal) → a ≡ mending_at n group
      → ServeGives (serve_by n handle word desk) word' desk a
  unfolding group
  gives-by n some l word' d a e =
      subst (λ o. ServeGives o word' desk a) (sym (serve-refused n some handle word desk)) (record {
        word-is = d;
        desk-is = refl;
        answer-is = e ∙ mending-of-nine n group;
        number_is = sym (mending-is n group l e);
        group-is = ap mending_group e ∙ mending-group n group;
      })

  -- 31 or 12
  pub gives-handle : (e : Refusal) → refusal_number e ≡ handle_refusal handle desk → ServeGives (serve_of handle word desk) word desk (Err e)
  unfolding serve_of serve_number
  gives-handle e is =
      subst (λ n. ServeGives (serve_by n handle word desk) word desk (Err e)) (else-first e is (job_number (job_at desk (slot_of handle)) word))
      (gives-by (refusal_number e) (refusal-some e) (refused-listed {X = Unit} (Err e)) word refl (Err e)
      (sym (mending-refused (refusal_number e) group refl (λ z. handle-not-nine handle desk (sym is ∙ z)))))

  pub serve-job : handle_refusal handle desk ≡ 0 → serve_of handle word desk ≡ serve_by (job_number (job_at desk (slot_of handle)) word) handle word desk
  unfolding serve_of serve_number
  serve-job e = ap (λ n. serve_by (n or_else job_number (job_at desk (slot_of handle)) word) handle word desk) e

  -- 5, 13, or 9 with the group of the recovery
  pub gives-job : handle_refusal handle desk ≡ 0 → (job_number (job_at desk (slot_of handle)) word ≡ 0 → ⊥) → (word' : List ℕ)
      → word' ≡ unless_refused (job_number (job_at desk (slot_of handle)) word) (job_recovery (job_at desk (slot_of handle)) word).word word
      → (a : Result Unit Refusal) → a ≡ mending_at (job_number (job_at desk (slot_of handle)) word) (job_recovery (job_at desk (slot_of handle)) word).group
      → ServeGives (serve_of handle word desk) word' desk a
  unfolding group
  gives-job e some word' d a q =
      subst (λ o. ServeGives o word' desk a) (sym (serve-job e))
      (gives-by (job_number (job_at desk (slot_of handle)) word) some (job-listed (job_at desk (slot_of handle)) word) word'
      (d ∙ unless-refused _ _ _ some) a q)
