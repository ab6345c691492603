-- The tests on a desk say what Meaning says: soundness, open handles, the lowest free slot.
use Rattle.std.specs.Prelude.{◌≡◌, refl, ◌↔◌, ◌⊎◌, true, false, List, ℕ, ◌+◌, ◌*◌, ◌≤◌, ◌<◌, length, get_or}
use Rattle.std.proofs.Common.{sym, ap, ◌∙◌, inl, inr, true≢false, le_trans, arith, eqb-true, eq-eqb, get_or-take, ext_get_or}
use Rattle.std.proofs.Math.Path.{subst}
use Rattle.std.proofs.Math.Decide.{ℕ_discrete, dec_lt}
use Rattle.std.proofs.Math.ListN.{get_or-eq_default}
use Rattle.code.specs.Marks.{excess}
use Rattle.code.specs.DeterminedLaws.{list_length, list_at}
use Rattle.desk_job.specs.declared.Job.{Job}
use Rattle.desk_record.specs.declared.Desk.{Desk}
use Rattle.desk_record.specs.Desks.{job_at, issue_of, slot_of, is_sound_slot, is_sound, is_open, SoundRecord}
use Rattle.desk_job.specs.Figures.{lost_count, lost_counts}
use Rattle.desk_job.specs.FiguresLaws.{count-group, count_past}
use Rattle.desk_job.specs.Jobs.{is_free, is_taken, job_marks}
use Rattle.desk_open.specs.Open.{free_slot, new_handle, new_job, open_number, open_by, open_of}
use Rattle.desk_job.specs.JobLaws.{good-iff, figures-iff}
use Rattle.desk_record.specs.Laws.{sound-parts, sound-of, Taken, taken_of}
use Rattle.desk_open.specs.OpenLaws.{free-most, open-parts}
use Rattle.desk_history.specs.Put.{Unique}
use Rattle.desk_history.specs.PutLaws.{unique-of, once-of, issued-of, issued-to, slot-of-free, slot-of-taken, free-or-taken, put_same, put_other}
use Rattle.desk_history.specs.EffectsLaws.{open-held, open-by-slot, spot_of, free-slot}
use Rattle.desk_history.specs.PutLaws.{and-to}
use Rattle.desk_history.specs.Meaning.{TakenAt, HoldsJob, SoundDesk, HeldIn, IsHeld, LowestFree, Opens, AllTaken}

-- ---- soundness

module _ (t s : ℕ) (l : s < 8) (job : Job) where
  taken-holds : Taken t s job → HoldsJob t s job
  taken-holds T =
      let G = (good-iff job).0 T.good in
      let i = issued-of t (issue_of job.handle) T.issue in
      let q = T.place in
      record {
        shape = G.0.good;
        size = G.0.size;
        each = λ p k. let h = G.0.each p in let e = get_or-take (job.m * job.w) job.marks p 0 k in omega arith;
        losses = G.1;
        fifteen = ap length C.0 ∙ list_length 15 (lost_count job.m job.w (job_marks job));
        counts = λ g h. count_at g (le_trans h G.0.good.few) ∙ count-group job.m job.w (job_marks job) g h;
        past = λ g h k. count_at g k ∙ count_past job.m job.w (job_marks job) g h;
        excess-is = C.1;
        issue = issue_of job.handle;
        handle-is = omega arith;
        first = i.0;
        last = i.1;
      }
    where
      C : (job.lost ≡ lost_counts job.m job.w (job_marks job)) × (job.excess ≡ excess job.m job.w job.c (job_marks job))
      C = (figures-iff job).0 T.figures

      count_at : (g : ℕ) → g < 15 → get_or job.lost g 0 ≡ lost_count job.m job.w (job_marks job) g
      count_at g k = ap (λ x. get_or x g 0) C.0 ∙ list_at 15 (lost_count job.m job.w (job_marks job)) g k

  each-mark : HoldsJob t s job → (p : ℕ) → get_or (job_marks job) p 0 < 2
  each-mark H p = elim (dec_lt p (job.m * job.w)) [
    | yes k ↦ (let h = H.each p k in let e = get_or-take (job.m * job.w) job.marks p 0 k in omega arith)
    | no k ↦ (let z = H.size in let n : length (job_marks job) ≤ p = omega arith in let e = get_or-eq_default (job_marks job) 0 n in omega arith)
  ]

  counts-are : HoldsJob t s job → job.lost ≡ lost_counts job.m job.w (job_marks job)
  counts-are H =
      ext_get_or 0 job.lost (lost_counts job.m job.w (job_marks job))
      (H.fifteen ∙ sym (list_length 15 (lost_count job.m job.w (job_marks job)))) λ g k.
      let f = H.fifteen in
      let b : g < 15 = omega arith in
      elim (dec_lt g job.m) [
        | yes h ↦ H.counts g h ∙ sym (count-group job.m job.w (job_marks job) g h) ∙ sym (list_at 15 (lost_count job.m job.w (job_marks job)) g b)
        | no h ↦ (
            let p : job.m ≤ g = omega arith in
            H.past g p b ∙ sym (count_past job.m job.w (job_marks job) g p) ∙ sym (list_at 15 (lost_count job.m job.w (job_marks job)) g b))
      ]

  holds-taken : HoldsJob t s job → Taken t s job
  holds-taken H =
      let e = H.handle-is in
      let i : issue_of job.handle ≡ H.issue = omega arith in
      let a = H.first in
      let b = H.last in
      record {
        good = (good-iff job).1 (record { good = H.shape; size = H.size; each = each-mark H }, H.losses);
        figures = (figures-iff job).1 (counts-are H, H.excess-is);
        place = omega arith;
        issue = issued-to t (issue_of job.handle) (omega arith) (omega arith);
      }

module _ (desk : Desk) where
  sound-desk : SoundRecord desk → SoundDesk desk
  sound-desk S = record {
    few = S.few;
    byte = λ s l. go s (free-or-taken desk.t s (job_at desk s) (S.slots s l));
    holds = λ s l k. taken-holds desk.t s l (job_at desk s) (taken_of desk.t s (job_at desk s) (S.slots s l) k);
    once = once;
  }
    where
      go : (s : ℕ) → (is_free (job_at desk s) ≡ true) ⊎ (is_taken (job_at desk s) ≡ true) → (job_at desk s).taken ≤ 1
      go s (inl f) = let e = eqb-true (job_at desk s).taken 0 f in omega arith
      go s (inr k) = let e = eqb-true (job_at desk s).taken 1 k in omega arith

      once : (r s u : ℕ) → r < 8 → s < 8 → TakenAt desk r → TakenAt desk s → (job_at desk r).handle ≡ 8 * u + r → (job_at desk s).handle ≡ 8 * u + s → r ≡ s
      once r s u a b j k e f = elim (dec_lt r s) [
        | yes l ↦ absurd (unique-of desk S r s l b j k (omega arith))
        | no l ↦ elim (dec_lt s r) [
          | yes g ↦ absurd (unique-of desk S s r g a k j (omega arith))
          | no g ↦ omega arith
        ]
      ]

  desk-sound : SoundDesk desk → SoundRecord desk
  desk-sound D = record { few = D.few; slots = slots; once = once-of desk unique }
    where
      slots : (s : ℕ) → s < 8 → is_sound_slot desk.t s (job_at desk s) ≡ true
      slots s l = elim (ℕ_discrete (job_at desk s).taken 1) [
        | yes e ↦ (
            let k : TakenAt desk s = eq-eqb (job_at desk s).taken 1 e in
            slot-of-taken desk.t s (job_at desk s) k (holds-taken desk.t s l (job_at desk s) (D.holds s l k)))
        | no n ↦ (let b = D.byte s l in slot-of-free desk.t s (job_at desk s) (eq-eqb (job_at desk s).taken 0 (omega arith)))
      ]

      unique : Unique desk
      unique r s l h j k e =
          let R = D.holds r (omega arith) j in
          let S = D.holds s h k in
          let a = R.handle-is in
          let b = S.handle-is in
          let q = D.once r s R.issue (omega arith) h j k a (omega arith) in
          omega arith

  -- a desk is sound, as the code tests it, exactly if it is sound in the paper's words
  pub sound-iff : (is_sound desk ≡ true) ↔ SoundDesk desk
  sound-iff = (λ e. sound-desk (sound-parts desk e), λ D. sound-of desk (desk-sound D))

  -- the slot that holds a handle is the one that the handle names
  pub held-slot : SoundDesk desk → {handle s : ℕ} → HeldIn desk handle s → s ≡ slot_of handle
  held-slot D {handle} {s} H = let l = H.below in let h = H.held in let e = (D.holds s l H.taken).handle-is in omega arith

  -- "A handle is open exactly if a taken slot holds it"
  pub open-iff : SoundDesk desk → (handle : ℕ) → (is_open desk handle ≡ true) ↔ IsHeld desk handle
  open-iff D handle = (λ e. (slot_of handle, open-held desk handle e), λ p. held-open p.0 p.1)
    where
      held-open : (s : ℕ) → HeldIn desk handle s → is_open desk handle ≡ true
      held-open s H =
          let q = held-slot D H in
          let h : (job_at desk (slot_of handle)).handle ≡ handle = subst (λ r. (job_at desk r).handle ≡ handle) q H.held in
          open-by-slot desk (desk-sound D) handle
          ∙ and-to (is_taken (job_at desk (slot_of handle))) _ (subst (TakenAt desk) q H.taken) (eq-eqb _ handle h)

-- ---- the slot that Open uses

module _ (desk : Desk) (size : length desk.jobs ≡ 8) where
  pub lowest-free : SoundDesk desk → free_slot desk < 8 → LowestFree desk (free_slot desk)
  lowest-free D l =
      let P = spot_of desk.jobs 0 in
      let f = P.found in
      let n = free-slot desk size l in
      record { below = l; free = free (free_slot desk) l n; lower = λ r h. P.lower r (omega arith) }
    where
      free : (s : ℕ) → s < 8 → is_taken (job_at desk s) ≡ false → is_free (job_at desk s) ≡ true
      free s l n = go (free-or-taken desk.t s (job_at desk s) ((desk-sound desk D).slots s l))
        where
          go : (is_free (job_at desk s) ≡ true) ⊎ (is_taken (job_at desk s) ≡ true) → is_free (job_at desk s) ≡ true
          go (inl f) = f
          go (inr k) = absurd (true≢false (sym k ∙ n))

  -- no slot is free exactly if all eight are taken
  pub full-iff : (free_slot desk ≡ 8) ↔ AllTaken desk
  full-iff = (to, from)
    where
      to : free_slot desk ≡ 8 → AllTaken desk
      to e s l = let P = spot_of desk.jobs 0 in let f = P.found in P.lower s (omega arith)

      from : AllTaken desk → free_slot desk ≡ 8
      from A = elim (dec_lt (free_slot desk) 8) [
        | yes l ↦ absurd (true≢false (sym (A (free_slot desk) l) ∙ free-slot desk size l))
        | no l ↦ (let k = free-most desk.jobs 0 in omega arith)
      ]

  -- what an accepted Open does
  pub opens : (m w c : ℕ) (marks : List ℕ) → open_number m w c marks desk ≡ 0 → Opens m w c marks desk (open_of m w c marks desk)
  unfolding open_of
  opens m w c marks e =
      let P = open-parts m w c marks desk size e in
      let job = new_job m w c marks (new_handle desk) in
      subst (λ r. Opens m w c marks desk (open_by r m w c marks desk)) (sym e) (record {
        slot = free_slot desk;
        lowest = lowest-free (sound-desk desk P.sound) P.room;
        count = refl;
        handle-is = refl;
        job = put_same desk size (desk.t + 1) (free_slot desk) P.room job;
        others = λ r n. put_other desk size (desk.t + 1) (free_slot desk) P.room job r n;
      })
