-- Which number each call on a desk gives, and exactly when, and what Serve and Close leave: the proofs of what Meaning says of them.
use Rattle.std.specs.Prelude.{◌≡◌, ◌⊎◌, Bool, not, cond, List, ltb, length, get_or}
use Rattle.std.proofs.Math.Path.{refl, sym, ap, subst}
use Rattle.std.proofs.Common.{◌∙◌, arith}
use Rattle.std.proofs.Math.Logic.{inl, inr}
use Rattle.std.proofs.Math.Bool.{true, false, false≢true}
use Prim.Native.Nat.{ℕ, zero, suc, ◌*◌, ◌≤◌, ◌<◌}
use Rattle.std.proofs.Math.Decide.{ℕ_discrete}
use borrow.Author.Tests.{ltb-true, eqb-true, eqb-false, ne_eqb}
use Rattle.std.proofs.Math.Dec.{eqb}
use Rattle.code.specs.Refusals.{refuse, ◌or_else◌}
use Rattle.code.specs.RefusalsLaws.{or_else-zero}
use Rattle.shape.specs.Shapes.{byte_limits}
use Rattle.code.specs.LimitsLaws.{word-of-good}
use Rattle.marks.specs.NumbersLaws.{marks-most}
use Rattle.code_services.specs.MarksLaws.{marks-of-good}
use Rattle.code_services.specs.Marks.{marks_refusal_in}
use Rattle.code_services.specs.Judge.{judged_number_in}
use Rattle.byte_edition.specs.Edition.{byte_edition}
use Rattle.byte_edition.specs.EditionLaws.{bytes-sound}
use Rattle.code.specs.Word.{is_codeword}
use Rattle.code.specs.Marks.{excess}
use Rattle.code.specs.Outcome.{Outcome, eight, nine, done}
use Rattle.code.specs.OutcomeLaws as OutcomeLaws
use Rattle.code.specs.Recovery.{recovered}
use Rattle.code.specs.RecoveryLaws.{agrees-passing, passing-agrees}
use Rattle.code_services.specs.Recover.{recover_refusal_in, recover_in, unless_before}
use Rattle.code_services.specs.RecoverDemand.{Named, RecoverDemandTwo}
use Rattle.code_services.specs.RecoverDemandLaws.{recover-demand-two}
use Rattle.desk_job.specs.declared.Job.{Job}
use Rattle.desk_record.specs.declared.Desk.{Desk}
use Rattle.desk_record.specs.Calls.{Changing}
use Rattle.desk_job.specs.Jobs.{empty_job, is_good, job_marks}
use Rattle.desk_record.specs.Desks.{job_at, slot_of, is_sound, is_open}
use Rattle.desk_record.specs.Refusal.{handle_refusal}
use Rattle.desk_open.specs.Open.{free_slot, open_number, open_by, open_of, Opening}
use Rattle.desk_close.specs.Read.{read_by, read_of}
use Rattle.desk_close.specs.Close.{close_by, close_of}
use Rattle.desk_serve.specs.Serve.{job_recovery, job_number, Serving, served_once, serve_number, serve_by, serve_of}
use Rattle.desk_change.specs.Change.{change_number, change_by, change_of}
use Rattle.desk_open.specs.OpenLaws.{open-refused}
use Rattle.desk_record.specs.CallsLaws.{changing-refused}
use Rattle.desk_serve.specs.ServeLaws.{serve-refused, job-length, job-end, job-recovery}
use Rattle.desk_job.specs.JobLaws.{good-iff}
use Rattle.desk_record.specs.RefusalLaws.{open-good}
use Rattle.desk_history.specs.PutLaws.{put_same, put_other}
use Rattle.desk_history.specs.EffectsLaws.{slot-below, open-held, handle-parts}
use Rattle.desk_history.specs.Meaning.{SoundDesk, IsHeld, AllTaken, OpenNumbers, HandleNumbers, AgreesBy, group_by, JobNumbers, ServeNumbers}
use Rattle.desk_history.specs.Meaning.{Closes, Serves, KeptIfRefused}
use Rattle.desk_history.specs.MeaningLaws.{sound-iff, held-slot, open-iff, full-iff}

-- ---- Read and Close

-- the three cases of a call with a handle
pub data HandleCase (handle : ℕ) (desk : Desk) (number : ℕ) : Type 0 where
  not_sound : ¬ SoundDesk desk → number ≡ 31 → HandleCase handle desk number
  not-open : SoundDesk desk → ¬ IsHeld desk handle → number ≡ 12 → HandleCase handle desk number
  is_open_case : SoundDesk desk → IsHeld desk handle → number ≡ 0 → HandleCase handle desk number

module _ (handle : ℕ) (desk : Desk) where
  pub handle-case : HandleCase handle desk (handle_refusal handle desk)
  unfolding handle_refusal
  handle-case = go (is_sound desk) (is_open desk handle) refl refl
    where
      go : (a b : Bool) → is_sound desk ≡ a → is_open desk handle ≡ b → HandleCase handle desk (refuse 31 (not a) or_else refuse 12 (not b))
      go false b e f = not_sound (λ D. false≢true (sym e ∙ (sound-iff desk).1 D)) refl
      go true false e f = let D = (sound-iff desk).0 e in not-open D (λ p. false≢true (sym f ∙ (open-iff desk D handle).1 p)) refl
      go true true e f = let D = (sound-iff desk).0 e in is_open_case D ((open-iff desk D handle).0 f) refl

  numbers : (number : ℕ) → HandleCase handle desk number → HandleNumbers handle desk number
  numbers number (not_sound n e) = record {
    one_of = inr (inl e);
    unsound = (λ _. n, λ _. e);
    shut = (λ k. absurd (omega arith), λ p. absurd (n p.0));
    done = (λ k. absurd (omega arith), λ p. absurd (n p.0));
  }
  numbers number (not-open D n e) = record {
    one_of = inr (inr e);
    unsound = (λ k. absurd (omega arith), λ p. absurd (p D));
    shut = (λ _. (D, n), λ _. e);
    done = (λ k. absurd (omega arith), λ p. absurd (n p.1));
  }
  numbers number (is_open_case D o e) = record {
    one_of = inl e;
    unsound = (λ k. absurd (omega arith), λ p. absurd (p D));
    shut = (λ k. absurd (omega arith), λ p. absurd (p.1 o));
    done = (λ _. (D, o), λ _. e);
  }

  read_number : (r : ℕ) → (read_by r handle desk).number ≡ r
  read_number zero = refl
  read_number (suc r) = refl

  close-number : (r : ℕ) → (close_by r handle desk).number ≡ r
  close-number zero = refl
  close-number (suc r) = refl

  pub read-numbers : HandleNumbers handle desk (read_of handle desk).number
  unfolding read_of
  read-numbers = subst (HandleNumbers handle desk) (sym (read_number (handle_refusal handle desk))) (numbers (handle_refusal handle desk) handle-case)

  pub close-numbers : HandleNumbers handle desk (close_of handle desk).number
  unfolding close_of
  close-numbers = subst (HandleNumbers handle desk) (sym (close-number (handle_refusal handle desk))) (numbers (handle_refusal handle desk) handle-case)

  -- what an accepted Close does
  pub closes : length desk.jobs ≡ 8 → (close_of handle desk).number ≡ 0 → Closes handle desk (close_of handle desk)
  unfolding close_of
  closes size e =
      let z : handle_refusal handle desk ≡ 0 = sym (close-number (handle_refusal handle desk)) ∙ e in
      subst (λ r. Closes handle desk (close_by r handle desk)) (sym z) (record {
        slot = slot_of handle;
        held = open-held desk handle (handle-parts handle desk z).1;
        count = refl;
        job = put_same desk size desk.t (slot_of handle) (slot-below handle) empty_job;
        others = λ r n. put_other desk size desk.t (slot_of handle) (slot-below handle) empty_job r n;
      })

-- ---- Serve

module _ (job : Job) (word : List ℕ) (good : is_good job ≡ true) (size : length word ≡ job.m * job.w) where
  -- a good job and a word of its n bytes are refused by none of 1 to 6
  not-before : recover_refusal_in byte_limits job.m job.w job.c word (job_marks job) ≡ 0
  unfolding recover_refusal_in
  not-before =
      let M = ((good-iff job).0 good).0 in
      simp (word-of-good job.m job.w job.c (length word) M.good size, marks-of-good job.m job.w job.c (job_marks job) M)

  pub good-recovery : job_recovery job word ≡ recovered byte_edition job.m job.w job.c word (job_marks job)
  unfolding recover_in
  good-recovery = ap (λ r. unless_before r (recovered byte_edition job.m job.w job.c word (job_marks job)) word (job_marks job)) not-before

  -- demand 2 of the recovery by the job's marks
  pub job-demand : ((p : ℕ) → get_or word p 0 < 256) → RecoverDemandTwo byte_edition job.m job.w job.c word (job_marks job)
  job-demand b =
      let M = ((good-iff job).0 good).0 in
      recover-demand-two bytes-sound job.m job.w job.c word (job_marks job) M.good size b M.size M.each

-- what a good job answers; of the words that agree only if it is lent bytes
data JobCase (job : Job) (word : List ℕ) (number : ℕ) : Type 0 where
  other_length : ¬ (length word ≡ job.m * job.w) → number ≡ 5 → JobCase job word number
  at-end : length word ≡ job.m * job.w → job.served ≡ 4294967295 → number ≡ 13 → JobCase job word number
  none-agrees : length word ≡ job.m * job.w → ¬ (job.served ≡ 4294967295) → ((y : List ℕ) → ¬ AgreesBy job word y)
      → (job_recovery job word).group ≡ group_by job word
      → (((p : ℕ) → get_or word p 0 < 256) → Named byte_edition job.m job.w job.c word (job_marks job) (job_recovery job word).group)
      → number ≡ 9 → JobCase job word number
  one-agrees : length word ≡ job.m * job.w → ¬ (job.served ≡ 4294967295) → (((p : ℕ) → get_or word p 0 < 256) → (y : List ℕ) × AgreesBy job word y)
      → number ≡ 0 → JobCase job word number

module _ (job : Job) (word : List ℕ) (good : is_good job ≡ true) where
  recovery-case : length word ≡ job.m * job.w → ¬ (job.served ≡ 4294967295) → JobCase job word (job_number job word)
  recovery-case h k =
      elim
      (OutcomeLaws.cases 256 (is_codeword byte_edition job.m job.w job.c) (ltb 2 (excess job.m job.w job.c (job_marks job)))
      (group_by job word) word
      (job_marks job)) [
        | eight l e ↦ (
            let a = ltb-true 2 (excess job.m job.w job.c (job_marks job)) l in
            let b = ((good-iff job).0 good).1 in
            absurd (omega arith))
        | nine _ never e ↦
            none-agrees h k (λ y A. never y (agrees-passing byte_edition job.m job.w job.c (job_marks job) word y h A))
            (ap (λ (o : Outcome). o.group) (good-recovery job word good h ∙ e))
            (λ b. (job-demand job word good h b).group (ap (λ (o : Outcome). o.number) (good-recovery job word good h ∙ e)))
            (number ∙ ap (λ (o : Outcome). o.number) e)
        | done _ x P e ↦
            one-agrees h k (λ b. (x, passing-agrees byte_edition job.m job.w job.c (job_marks job) word x (record { size = h; each = b }) P))
            (number ∙ ap (λ (o : Outcome). o.number) e)
      ]
    where
      number : job_number job word ≡ (recovered byte_edition job.m job.w job.c word (job_marks job)).number
      number = job-recovery job word h k ∙ ap (λ (o : Outcome). o.number) (good-recovery job word good h)

  job-case : JobCase job word (job_number job word)
  job-case = elim (ℕ_discrete (length word) (job.m * job.w)) [
    | no h ↦ other_length h (job-length job word h)
    | yes h ↦ elim (ℕ_discrete job.served 4294967295) [
      | yes k ↦ at-end h k (job-end job word h k)
      | no k ↦ recovery-case h k
    ]
  ]

job-numbers : (job : Job) (word : List ℕ) (number group : ℕ) → (number ≡ 9 → group ≡ (job_recovery job word).group) → ((p : ℕ) → get_or word p 0 < 256)
    → JobCase job word number → JobNumbers job word number group
job-numbers job word number group g b (other_length h e) = record {
  group-is = λ k. absurd (omega arith);
  named = λ k. absurd (omega arith);
  long = (λ _. h, λ _. e);
  ended = (λ k. absurd (omega arith), λ p. absurd (h p.0));
  contradictory = (λ k. absurd (omega arith), λ p. absurd (h p.0));
  done = (λ k. absurd (omega arith), λ p. absurd (h p.0));
}
job-numbers job word number group g b (at-end h k e) = record {
  group-is = λ z. absurd (omega arith);
  named = λ z. absurd (omega arith);
  long = (λ z. absurd (omega arith), λ p. absurd (p h));
  ended = (λ _. (h, k), λ _. e);
  contradictory = (λ z. absurd (omega arith), λ p. absurd (p.1 k));
  done = (λ z. absurd (omega arith), λ p. absurd (p.1 k));
}
job-numbers job word number group g b (none-agrees h k never q named e) = record {
  group-is = λ z. g z ∙ q;
  named = λ z. subst (Named byte_edition job.m job.w job.c word (job_marks job)) (sym (g z)) (named b);
  long = (λ z. absurd (omega arith), λ p. absurd (p h));
  ended = (λ z. absurd (omega arith), λ p. absurd (k p.1));
  contradictory = (λ _. (h, k, never), λ _. e);
  done = (λ z. absurd (omega arith), λ p. absurd (never p.2.0 p.2.1));
}
job-numbers job word number group g b (one-agrees h k some e) = record {
  group-is = λ z. absurd (omega arith);
  named = λ z. absurd (omega arith);
  long = (λ z. absurd (omega arith), λ p. absurd (p h));
  ended = (λ z. absurd (omega arith), λ p. absurd (k p.1));
  contradictory = (λ z. absurd (omega arith), λ p. absurd (p.2 (some b).0 (some b).1));
  done = (λ _. (h, k, some b), λ _. e);
}

module _ (handle : ℕ) (word : List ℕ) (desk : Desk) where
  abbrev job : Job
  job = job_at desk (slot_of handle)

  serve-number : (r : ℕ) → (serve_by r handle word desk).number ≡ r
  serve-number zero = refl
  serve-number (suc r) = refl

  -- a 9 carries the group of the recovery, another number none
  nine-group : (r : ℕ) → r ≡ 9 → (serve_by r handle word desk).group ≡ (job_recovery job word).group
  nine-group r e = ap (λ n. (serve_by n handle word desk).group) e

  other-group : (r : ℕ) → ¬ (r ≡ 9) → (serve_by r handle word desk).group ≡ 0
  other-group zero h = refl
  other-group (suc r) h = ap (λ b. cond b (job_recovery job word).group 0) (ne_eqb (suc r) 9 h)

  job-one-of : (number : ℕ) → JobCase job word number → (number ≡ 0) ⊎ (number ≡ 31) ⊎ (number ≡ 12) ⊎ (number ≡ 5) ⊎ (number ≡ 13) ⊎ (number ≡ 9)
  job-one-of number (other_length _ e) = inr (inr (inr (inl e)))
  job-one-of number (at-end _ _ e) = inr (inr (inr (inr (inl e))))
  job-one-of number (none-agrees _ _ _ _ _ e) = inr (inr (inr (inr (inr e))))
  job-one-of number (one-agrees _ _ _ e) = inl e

  -- a job answers no number of the desk or the handle
  of-desk : (number : ℕ) → JobCase job word number → ¬ (number ≡ 31) × ¬ (number ≡ 12)
  of-desk number (other_length _ e) = (λ k. omega arith, λ k. omega arith)
  of-desk number (at-end _ _ e) = (λ k. omega arith, λ k. omega arith)
  of-desk number (none-agrees _ _ _ _ _ e) = (λ k. omega arith, λ k. omega arith)
  of-desk number (one-agrees _ _ _ e) = (λ k. omega arith, λ k. omega arith)

  -- a refusal by the handle comes first
  abbrev Numbers : ℕ → Type 0
  Numbers r = ServeNumbers handle word desk r (serve_by r handle word desk).group

  by-handle : (r : ℕ) → handle_refusal handle desk ≡ r → HandleCase handle desk r → Numbers (r or_else job_number job word)
  by-handle r q (not_sound n e) = subst (λ x. Numbers (x or_else job_number job word)) (sym e) (record {
    no-group = other-group 31;
    one_of = inr (inl refl);
    unsound = (λ _. n, λ _. refl);
    shut = (λ k. absurd (omega arith), λ p. absurd (n p.0));
    of-job = λ s D H b. absurd (n D);
  })
  by-handle r q (not-open D n e) = subst (λ x. Numbers (x or_else job_number job word)) (sym e) (record {
    no-group = other-group 12;
    one_of = inr (inr (inl refl));
    unsound = (λ k. absurd (omega arith), λ p. absurd (p D));
    shut = (λ _. (D, n), λ _. refl);
    of-job = λ s D H b. absurd (n (s, H));
  })
  by-handle r q (is_open_case D o e) =
      let J = job-case job word (open-good handle desk (q ∙ e)) in
      subst (λ x. Numbers (x or_else job_number job word)) (sym e) (record {
        no-group = other-group (job_number job word);
        one_of = job-one-of (job_number job word) J;
        unsound = (λ k. absurd ((of-desk (job_number job word) J).0 k), λ p. absurd (p D));
        shut = (λ k. absurd ((of-desk (job_number job word) J).1 k), λ p. absurd (p.1 o));
        of-job = λ s _ H b.
            subst (λ r. JobNumbers (job_at desk r) word (job_number job word) (serve_by (job_number job word) handle word desk).group)
            (sym (held-slot desk D H))
            (job-numbers job word (job_number job word) (serve_by (job_number job word) handle word desk).group (nine-group (job_number job word)) b J);
      })

  pub serve-numbers : ServeNumbers handle word desk (serve_of handle word desk).number (serve_of handle word desk).group
  unfolding serve_of serve_number
  serve-numbers =
      subst (λ n. ServeNumbers handle word desk n (serve_by (handle_refusal handle desk or_else job_number job word) handle word desk).group)
      (sym (serve-number (handle_refusal handle desk or_else job_number job word)))
      (by-handle (handle_refusal handle desk) refl (handle-case handle desk))

  -- what an accepted Serve does with a word of bytes
  pub serves : length desk.jobs ≡ 8 → ((p : ℕ) → get_or word p 0 < 256) → (serve_of handle word desk).number ≡ 0
      → Serves handle word desk (serve_of handle word desk)
  unfolding serve_of serve_number
  serves size b e =
      let z : (handle_refusal handle desk or_else job_number job word) ≡ 0 = sym (serve-number (handle_refusal handle desk or_else job_number job word)) ∙ e in
      let p = or_else-zero (handle_refusal handle desk) (job_number job word) z in
      let good = open-good handle desk p.0 in
      let S = served (job_number job word) (job-case job word good) p.1 in
      let T = job-demand job word good S.0 b in
      let r = sym (job-recovery job word S.0 S.1) ∙ p.1 in
      subst (λ n. Serves handle word desk (serve_by n handle word desk)) (sym z) (record {
        slot = slot_of handle;
        held = open-held desk handle (handle-parts handle desk p.0).1;
        agrees = T.agrees r;
        only = T.only r;
        count = refl;
        job = put_same desk size desk.t (slot_of handle) (slot-below handle) (served_once job);
        others = λ s n. put_other desk size desk.t (slot_of handle) (slot-below handle) (served_once job) s n;
      })
    where
      served : (number : ℕ) → JobCase job word number → number ≡ 0 → (length word ≡ job.m * job.w) × ¬ (job.served ≡ 4294967295)
      served number (other_length _ q) k = absurd (omega arith)
      served number (at-end _ _ q) k = absurd (omega arith)
      served number (none-agrees _ _ _ _ _ q) k = absurd (omega arith)
      served number (one-agrees h n _ q) k = (h, n)

-- "a serve can't meet 8, since open refused it"
pub never-eight : (handle : ℕ) (word : List ℕ) (desk : Desk) → ¬ ((serve_of handle word desk).number ≡ 8)
never-eight handle word desk k = go (serve-numbers handle word desk).one_of
  where
    n : ℕ
    n = (serve_of handle word desk).number

    go : (n ≡ 0) ⊎ (n ≡ 31) ⊎ (n ≡ 12) ⊎ (n ≡ 5) ⊎ (n ≡ 13) ⊎ (n ≡ 9) → ⊥
    go (inl e) = omega arith
    go (inr (inl e)) = omega arith
    go (inr (inr (inl e))) = omega arith
    go (inr (inr (inr (inl e)))) = omega arith
    go (inr (inr (inr (inr (inl e))))) = omega arith
    go (inr (inr (inr (inr (inr e))))) = omega arith

-- ---- Open

-- Judge gives one of 0 to 6, or 8
module _ (m w c : ℕ) (marks : List ℕ) where
  judged-range : (judged_number_in byte_limits m w c marks ≤ 6) ⊎ (judged_number_in byte_limits m w c marks ≡ 8)
  unfolding judged_number_in
  judged-range = go (marks_refusal_in byte_limits m w c marks) (marks-most m w c marks) (ltb 2 (excess m w c marks))
    where
      go : (r : ℕ) → r ≤ 6 → (b : Bool) → ((r or_else refuse 8 b) ≤ 6) ⊎ ((r or_else refuse 8 b) ≡ 8)
      go zero h true = inr refl
      go zero h false = inl (omega arith)
      go (suc r) h b = inl h

-- the five cases of Open
data OpenCase (m w c : ℕ) (marks : List ℕ) (desk : Desk) (number : ℕ) : Type 0 where
  on-unsound : ¬ SoundDesk desk → number ≡ 31 → OpenCase m w c marks desk number
  by-judge : SoundDesk desk → ¬ (judged_number_in byte_limits m w c marks ≡ 0) → number ≡ judged_number_in byte_limits m w c marks → OpenCase m w c marks desk number
  all-issued : SoundDesk desk → judged_number_in byte_limits m w c marks ≡ 0 → desk.t ≡ 65535 → number ≡ 10 → OpenCase m w c marks desk number
  all-taken : SoundDesk desk → judged_number_in byte_limits m w c marks ≡ 0 → desk.t < 65535 → AllTaken desk → number ≡ 11 → OpenCase m w c marks desk number
  some-free : SoundDesk desk → judged_number_in byte_limits m w c marks ≡ 0 → desk.t < 65535 → ¬ AllTaken desk → number ≡ 0 → OpenCase m w c marks desk number

module _ (m w c : ℕ) (marks : List ℕ) (desk : Desk) where
  open-case : length desk.jobs ≡ 8 → OpenCase m w c marks desk (open_number m w c marks desk)
  unfolding open_number
  open-case size = go (is_sound desk) refl (judged_number_in byte_limits m w c marks) refl (eqb desk.t 65535) refl (eqb (free_slot desk) 8) refl
    where
      go : (a : Bool) → is_sound desk ≡ a → (j : ℕ) → judged_number_in byte_limits m w c marks ≡ j → (x : Bool) → eqb desk.t 65535 ≡ x → (y : Bool)
          → eqb (free_slot desk) 8 ≡ y → OpenCase m w c marks desk (refuse 31 (not a) or_else j or_else refuse 10 x or_else refuse 11 y)
      go false e j f x p y q = on-unsound (λ D. false≢true (sym e ∙ (sound-iff desk).1 D)) refl
      go true e (suc j) f x p y q = by-judge ((sound-iff desk).0 e) (λ z. omega arith) (sym f)
      go true e zero f true p y q = all-issued ((sound-iff desk).0 e) f (eqb-true desk.t 65535 p) refl
      go true e zero f false p true q =
          let D = (sound-iff desk).0 e in
          let l = D.few in
          let n = eqb-false desk.t 65535 p in
          all-taken D f (omega arith) ((full-iff desk size).0 (eqb-true (free_slot desk) 8 q)) refl
      go true e zero f false p false q =
          let D = (sound-iff desk).0 e in
          let l = D.few in
          let n = eqb-false desk.t 65535 p in
          some-free D f (omega arith) (λ A. eqb-false (free_slot desk) 8 q ((full-iff desk size).1 A)) refl

  case-numbers : (number : ℕ) → OpenCase m w c marks desk number → OpenNumbers m w c marks desk number
  case-numbers number (on-unsound n e) = record {
    one_of = inr (inr (inr (inr e)));
    unsound = (λ _. n, λ _. e);
    judged = λ r a b. (λ k. absurd (omega arith), λ p. absurd (n p.0));
    ended = (λ k. absurd (omega arith), λ p. absurd (n p.0));
    full = (λ k. absurd (omega arith), λ p. absurd (n p.0));
    done = (λ k. absurd (omega arith), λ p. absurd (n p.0));
  }
  case-numbers number (by-judge D n e) = record {
    one_of = range (judged-range m w c marks);
    unsound = (λ k. absurd (high (judged-range m w c marks) (omega arith)), λ p. absurd (p D));
    judged = λ r a b. (λ k. (D, sym e ∙ k), λ p. e ∙ p.1);
    ended = (λ k. absurd (high (judged-range m w c marks) (omega arith)), λ p. absurd (n p.1));
    full = (λ k. absurd (high (judged-range m w c marks) (omega arith)), λ p. absurd (n p.1));
    done = (λ k. absurd (n (sym e ∙ k)), λ p. absurd (n p.1));
  }
    where
      range : (judged_number_in byte_limits m w c marks ≤ 6) ⊎ (judged_number_in byte_limits m w c marks ≡ 8)
          → (number ≤ 6) ⊎ (number ≡ 8) ⊎ (number ≡ 10) ⊎ (number ≡ 11) ⊎ (number ≡ 31)
      range (inl h) = inl (omega arith)
      range (inr h) = inr (inl (e ∙ h))

      high : (judged_number_in byte_limits m w c marks ≤ 6) ⊎ (judged_number_in byte_limits m w c marks ≡ 8) → 8 < judged_number_in byte_limits m w c marks → ⊥
      high (inl h) k = omega arith
      high (inr h) k = omega arith
  case-numbers number (all-issued D f t e) = record {
    one_of = inr (inr (inl e));
    unsound = (λ k. absurd (omega arith), λ p. absurd (p D));
    judged = λ r a b. (λ k. absurd (omega arith), λ p. let z = p.1 in absurd (omega arith));
    ended = (λ _. (D, f, t), λ _. e);
    full = (λ k. absurd (omega arith), λ p. let z = p.2 in absurd (omega arith));
    done = (λ k. absurd (omega arith), λ p. let z = p.2 in absurd (omega arith));
  }
  case-numbers number (all-taken D f t A e) = record {
    one_of = inr (inr (inr (inl e)));
    unsound = (λ k. absurd (omega arith), λ p. absurd (p D));
    judged = λ r a b. (λ k. absurd (omega arith), λ p. let z = p.1 in absurd (omega arith));
    ended = (λ k. absurd (omega arith), λ p. let z = p.2 in absurd (omega arith));
    full = (λ _. (D, f, t, A), λ _. e);
    done = (λ k. absurd (omega arith), λ p. absurd (p.3 A));
  }
  case-numbers number (some-free D f t n e) = record {
    one_of = inl (omega arith);
    unsound = (λ k. absurd (omega arith), λ p. absurd (p D));
    judged = λ r a b. (λ k. absurd (omega arith), λ p. let z = p.1 in absurd (omega arith));
    ended = (λ k. absurd (omega arith), λ p. let z = p.2 in absurd (omega arith));
    full = (λ k. absurd (omega arith), λ p. absurd (n p.3));
    done = (λ _. (D, f, t, n), λ _. e);
  }

  open-number : (r : ℕ) → (open_by r m w c marks desk).number ≡ r
  open-number zero = refl
  open-number (suc r) = refl

  -- of a desk with its eight slots
  pub open-numbers : length desk.jobs ≡ 8 → OpenNumbers m w c marks desk (open_of m w c marks desk).number
  unfolding open_of
  open-numbers size =
      subst (OpenNumbers m w c marks desk) (sym (open-number (open_number m w c marks desk))) (case-numbers (open_number m w c marks desk) (open-case size))

-- ---- refusals

pub change-number : (mark handle place : ℕ) (desk : Desk) (r : ℕ) → (change_by r mark handle place desk).number ≡ r
change-number mark handle place desk zero = refl
change-number mark handle place desk (suc r) = refl

module _ (desk : Desk) where
  -- a refusal leaves the desk, and Serve's word, as they were
  pub kept-if-refused : KeptIfRefused desk
  unfolding open_of serve_of close_of change_of
  kept-if-refused = record {
    by-open = λ m w c marks n.
        let r = open_number m w c marks desk in
        ap (λ (o : Opening). o.desk) (open-refused r (λ z. n (open-number m w c marks desk r ∙ z)) m w c marks desk);
    by-serve = λ handle word n.
        let r = serve_number handle word desk in
        ap (λ (o : Serving). o.desk) (serve-refused r (λ z. n (serve-number handle word desk r ∙ z)) handle word desk);
    word-by-serve = λ handle word n.
        let r = serve_number handle word desk in
        ap (λ (o : Serving). o.word) (serve-refused r (λ z. n (serve-number handle word desk r ∙ z)) handle word desk);
    by-close = λ handle n.
        let r = handle_refusal handle desk in
        ap (λ (o : Changing). o.desk) (changing-refused r (λ z. n (close-number handle desk r ∙ z)) _ desk);
    by-lose = λ handle place n.
        let r = change_number 1 handle place desk in
        ap (λ (o : Changing). o.desk) (changing-refused r (λ z. n (change-number 1 handle place desk r ∙ z)) _ desk);
    by-find = λ handle place n.
        let r = change_number 0 handle place desk in
        ap (λ (o : Changing). o.desk) (changing-refused r (λ z. n (change-number 0 handle place desk r ∙ z)) _ desk);
  }
