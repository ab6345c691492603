-- Which number Lose and Find give, and exactly when, and what they leave: the proofs of what Meaning says of them.
use Rattle.std.specs.Prelude.{◌≡◌, refl, ◌⊎◌, true, ℕ, ◌*◌, ◌≤◌, ◌<◌, length, set}
use Rattle.std.proofs.Math.Path.{sym, ap, subst}
use Rattle.std.proofs.Common.{◌∙◌, inl, inr, arith, le_trans, length-set, length-take, get_or-set_same, get_or-set_other}
use Rattle.std.proofs.Math.Decide.{dec_lt, dec_le}
use Rattle.std.proofs.Math.ListN.{get_or}
use Rattle.std.proofs.lemmas.List.{set-get_or}
use Rattle.code.specs.Refusals.{◌or_else◌}
use Rattle.code.specs.RefusalsLaws.{or_else-first}
use Rattle.code.specs.Marks.{excess}
use Rattle.desk_job.specs.declared.Job.{Job}
use Rattle.desk_record.specs.declared.Desk.{Desk}
use Rattle.desk_job.specs.Jobs.{no_job, job_marks, is_good}
use Rattle.desk_job.specs.JobLaws.{good-iff}
use Rattle.desk_record.specs.Desks.{job_at, slot_of, with_job}
use Rattle.desk_record.specs.Refusal.{handle_refusal}
use Rattle.desk_record.specs.RefusalLaws.{open-good}
use Rattle.desk_record.specs.Laws.{sound-of}
use Rattle.desk_change.specs.Change.{changed, place_number, change_number, change_by, change_of, find_of}
use Rattle.desk_change.proofs.ChangeLaws.{same-job, few, found-few, place-past, place-eight, place-done, place-parts, changed-marks, open-sound, change-place}
use Rattle.desk_history.specs.PutLaws.{put_same, put_other}
use Rattle.desk_history.specs.EffectsLaws.{slot-below, open-held, handle-parts, handle-done}
use Rattle.desk_history.specs.Sound.{Fit}
use Rattle.desk_history.specs.SoundLaws.{change-parts, change-handle, change-fit}
use Rattle.desk_history.specs.Meaning.{PlaceNumbers, ChangeNumbers, OneMark, Changes, Already}
use Rattle.desk_history.specs.MeaningLaws.{sound-iff, held-slot, open-iff}
use Rattle.desk_history.specs.NumberLaws.{HandleCase, not_sound, not-open, is_open_case, handle-case, change-number}

-- what a job says of a place
data PlaceCase (mark place : ℕ) (job : Job) (number : ℕ) : Type 0 where
  place-is-past : job.m * job.w ≤ place → number ≡ 25 → PlaceCase mark place job number
  too_many : place < job.m * job.w → 2 < excess job.m job.w job.c (set (job_marks job) place mark) → number ≡ 8 → PlaceCase mark place job number
  taken_in : place < job.m * job.w → excess job.m job.w job.c (set (job_marks job) place mark) ≤ 2 → number ≡ 0 → PlaceCase mark place job number

module _ (mark place : ℕ) (job : Job) where
  excess-then : place < job.m * job.w → (changed mark place job).excess ≡ excess job.m job.w job.c (set (job_marks job) place mark)
  excess-then l = ap (excess job.m job.w job.c) (changed-marks mark place job l)

  place-case : PlaceCase mark place job (place_number mark place job)
  place-case = elim (dec_lt place (job.m * job.w)) [
    | no h ↦ (let k : job.m * job.w ≤ place = omega arith in place-is-past k (place-past mark place job k))
    | yes l ↦ elim (dec_le (changed mark place job).excess 2) [
      | yes h ↦ taken_in l (subst (λ n. n ≤ 2) (excess-then l) h) (place-done mark place job l h)
      | no h ↦ (
          let k : 2 < (changed mark place job).excess = omega arith in
          too_many l (subst (λ n. 2 < n) (excess-then l) k) (place-eight mark place job l k))
    ]
  ]

  place-numbers : (number : ℕ) → PlaceCase mark place job number → PlaceNumbers mark place job number
  place-numbers number (place-is-past h e) = record {
    past = (λ _. h, λ _. e);
    eight = (λ k. absurd (omega arith), λ p. let l = p.0 in absurd (omega arith));
    done = (λ k. absurd (omega arith), λ p. let l = p.0 in absurd (omega arith));
  }
  place-numbers number (too_many l h e) = record {
    past = (λ k. absurd (omega arith), λ p. absurd (omega arith));
    eight = (λ _. (l, h), λ _. e);
    done = (λ k. absurd (omega arith), λ p. let k = p.1 in absurd (omega arith));
  }
  place-numbers number (taken_in l h e) = record {
    past = (λ k. absurd (omega arith), λ p. absurd (omega arith));
    eight = (λ k. absurd (omega arith), λ p. let k = p.1 in absurd (omega arith));
    done = (λ _. (l, h), λ _. e);
  }

  abbrev OneOf : ℕ → Type 0
  OneOf number = (number ≡ 0) ⊎ (number ≡ 31) ⊎ (number ≡ 12) ⊎ (number ≡ 25) ⊎ (number ≡ 8)

  place-one-of : (number : ℕ) → PlaceCase mark place job number → OneOf number
  place-one-of number (place-is-past _ e) = inr (inr (inr (inl e)))
  place-one-of number (too_many _ _ e) = inr (inr (inr (inr e)))
  place-one-of number (taken_in _ _ e) = inl e

  -- a job answers no number of the desk or the handle
  of-desk : (number : ℕ) → PlaceCase mark place job number → ¬ (number ≡ 31) × ¬ (number ≡ 12)
  of-desk number (place-is-past _ e) = (λ k. omega arith, λ k. omega arith)
  of-desk number (too_many _ _ e) = (λ k. omega arith, λ k. omega arith)
  of-desk number (taken_in _ _ e) = (λ k. omega arith, λ k. omega arith)

module _ (mark handle place : ℕ) (desk : Desk) where
  abbrev job : Job
  job = job_at desk (slot_of handle)

  by-handle : (r : ℕ) → HandleCase handle desk r → ChangeNumbers mark handle place desk (r or_else place_number mark place job)
  by-handle r (not_sound n e) = subst (λ x. ChangeNumbers mark handle place desk (x or_else place_number mark place job)) (sym e) (record {
    one_of = inr (inl refl);
    unsound = (λ _. n, λ _. refl);
    shut = (λ k. absurd (omega arith), λ p. absurd (n p.0));
    of-job = λ s D H. absurd (n D);
  })
  by-handle r (not-open D n e) = subst (λ x. ChangeNumbers mark handle place desk (x or_else place_number mark place job)) (sym e) (record {
    one_of = inr (inr (inl refl));
    unsound = (λ k. absurd (omega arith), λ p. absurd (p D));
    shut = (λ _. (D, n), λ _. refl);
    of-job = λ s D H. absurd (n (s, H));
  })
  by-handle r (is_open_case D o e) =
      let n = place_number mark place job in
      let J = place-case mark place job in
      subst (λ x. ChangeNumbers mark handle place desk (x or_else n)) (sym e) (record {
        one_of = place-one-of mark place job n J;
        unsound = (λ k. absurd ((of-desk mark place job n J).0 k), λ p. absurd (p D));
        shut = (λ k. absurd ((of-desk mark place job n J).1 k), λ p. absurd (p.1 o));
        of-job = λ s _ H. subst (λ r. PlaceNumbers mark place (job_at desk r) n) (sym (held-slot desk D H)) (place-numbers mark place job n J);
      })

  -- of Lose by mark 1, of Find by mark 0
  pub change-numbers : ChangeNumbers mark handle place desk (change_of mark handle place desk).number
  unfolding change_of change_number
  change-numbers =
      subst (ChangeNumbers mark handle place desk) (sym (change-number mark handle place desk (handle_refusal handle desk or_else place_number mark place job)))
      (by-handle (handle_refusal handle desk) (handle-case handle desk))

  -- what an accepted Lose or Find does
  pub changes : length desk.jobs ≡ 8 → mark < 2 → (change_of mark handle place desk).number ≡ 0
      → Changes mark handle place desk (change_of mark handle place desk)
  unfolding change_of
  changes size b e =
      let z : change_number mark handle place desk ≡ 0 = sym (change-number mark handle place desk (change_number mark handle place desk)) ∙ e in
      let P = change-parts mark handle place desk z in
      let q : job_at (with_job desk (slot_of handle) (changed mark place job)) (slot_of handle) ≡ changed mark place job
      = put_same desk size desk.t (slot_of handle) (slot-below handle) (changed mark place job) in
      subst (λ r. Changes mark handle place desk (change_by r mark handle place desk)) (sym z) (record {
        slot = slot_of handle;
        held = open-held desk handle P.0;
        count = refl;
        others = λ r n. put_other desk size desk.t (slot_of handle) (slot-below handle) (changed mark place job) r n;
        job = q;
        one-mark = subst (OneMark mark place job) (sym q)
            (one-mark (place-parts mark place job P.1).0 (open-good handle desk (change-handle mark handle place desk z)));
        sound = (sound-iff (change_by 0 mark handle place desk).desk).0 (sound-of (change_by 0 mark handle place desk).desk (fit z).sound);
      })
    where
      fit : change_number mark handle place desk ≡ 0 → Fit (change_by 0 mark handle place desk).desk
      fit z = change-fit desk (record { size = size; sound = (handle-parts handle desk (change-handle mark handle place desk z)).0 }) mark handle place b 0 z

      one-mark : place < job.m * job.w → is_good job ≡ true → OneMark mark place job (changed mark place job)
      one-mark l good = record {
        taken = refl;
        groups = refl;
        width = refl;
        checks = refl;
        served = refl;
        handle = refl;
        size = length-set job.marks place mark;
        mark-is = get_or-set_same job.marks place mark 0 (let M = ((good-iff job).0 good).0.size in omega (arith, length-take (job.m * job.w) job.marks));
        marks = λ p n. get_or-set_other job.marks place p mark 0 n;
      }

  -- "one already in the wanted state is done and changes nothing"
  pub already : Already mark handle place desk → change_of mark handle place desk ≡ record { number = 0; desk = desk }
  unfolding change_of
  already A =
      let D = A.sound in
      let q = held-slot desk D A.held in
      let h : handle_refusal handle desk ≡ 0 = handle-done handle desk ((sound-iff desk).1 D) ((open-iff desk D handle).1 (A.slot, A.held)) in
      let l : place < job.m * job.w = subst (λ s. place < (job_at desk s).m * (job_at desk s).w) q A.below in
      let s = open-sound mark handle place desk h in
      let k : changed mark place job ≡ job = same-job job s mark place (subst (λ s. get_or (job_at desk s).marks place 0 ≡ mark) q A.wanted) in
      let z : change_number mark handle place desk ≡ 0
      = change-place mark handle place desk h ∙ place-done mark place job l (subst (λ (j : Job). j.excess ≤ 2) (sym k) (few job s place l)) in
      ap (λ r. change_by r mark handle place desk) z
      ∙ ap (λ j. record { number = 0; desk = with_job desk (slot_of handle) j }) k
      ∙ ap (λ js. record { number = 0; desk = record { t = desk.t; jobs = js } }) (set-get_or desk.jobs (slot_of handle) no_job)

-- a find can't meet 8, since it doesn't raise the excess
pub find-never-eight : (handle place : ℕ) (desk : Desk) → ¬ ((find_of handle place desk).number ≡ 8)
unfolding change_of change_number
find-never-eight handle place desk e = go (handle_refusal handle desk) refl (handle-case handle desk)
  where
    number : change_number 0 handle place desk ≡ 8
    number = sym (change-number 0 handle place desk (change_number 0 handle place desk)) ∙ e

    first : (r : ℕ) → (r ≡ 0 → ⊥) → handle_refusal handle desk ≡ r → r ≡ 8
    first r some q =
        let n = place_number 0 place (job_at desk (slot_of handle)) in
        sym (ap (λ x. x or_else n) q ∙ or_else-first r n some) ∙ number

    go : (r : ℕ) → handle_refusal handle desk ≡ r → HandleCase handle desk r → ⊥
    go r q (not_sound _ k) = let z = first r (λ z. omega arith) q in omega arith
    go r q (not-open _ _ k) = let z = first r (λ z. omega arith) q in omega arith
    go r q (is_open_case _ _ k) =
        let j = job_at desk (slot_of handle) in
        let s = open-sound 0 handle place desk (q ∙ k) in
        let n = sym (change-place 0 handle place desk (q ∙ k)) ∙ number in
        elim (dec_lt place (j.m * j.w)) [
          | yes l ↦ (let z = place-done 0 place j l (le_trans (found-few j s place l) (few j s place l)) in omega arith)
          | no h ↦ (let b : j.m * j.w ≤ place = omega arith in let z = place-past 0 place j b in omega arith)
        ]
