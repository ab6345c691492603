-- Laws: Soundness is kept: a job put into a slot.
use Rattle.std.specs.Prelude.{◌≡◌, Bool, ◌&&◌, ◌||◌, ◌⊎◌, ℕ, ◌<◌, ◌≤◌, leb, length}
use Rattle.std.proofs.Math.Path.{refl, ap}
use Rattle.std.proofs.Common.{sym, ◌∙◌, subst, le_trans, arith, eqb-true, eq-eqb, le-leb, leb-true, length-set, get_or-set_same, get_or-set_other}
use Rattle.std.proofs.Math.Bool.{true, false, and-eq-true_iff, or-true, true≢false}
use Rattle.std.proofs.Math.Logic.{inl, inr}
use Rattle.std.proofs.Math.Decide.{ℕ_discrete}
use Rattle.std.proofs.Math.Dec.{eqb}
use Rattle.std.specs.Float.Ieee.Bits.{is_true}
use Rattle.counting.specs.Test.{any_below}
use Rattle.counting.specs.TestLaws.{any_at}
use Rattle.desk_job.specs.declared.Job.{Job}
use Rattle.desk_record.specs.declared.Desk.{Desk}
use Rattle.desk_job.specs.Jobs.{no_job, is_free, is_taken, is_sound_job}
use Rattle.desk_job.specs.JobLaws.{sound-job-iff}
use Rattle.desk_record.specs.Desks.{job_at, issue_of, slot_of, is_issued, is_sound_slot, has_issue, is_twice, SoundRecord}
use Rattle.desk_record.specs.Laws.{holds, false_of, any-true, Taken, is_fit, taken_of}
use Rattle.desk_history.specs.Put.{Unique, put, Apart}

pub and-of : (a b : Bool) → a && b ≡ true → (a ≡ true) × (b ≡ true)
and-of a b e = (and-eq-true_iff a b).0 e

pub and-to : (a b : Bool) → a ≡ true → b ≡ true → a && b ≡ true
and-to a b e f = (and-eq-true_iff a b).1 (e, f)

module _ (t s : ℕ) (job : Job) where
  pub slot-of-free : is_free job ≡ true → is_sound_slot t s job ≡ true
  unfolding is_sound_slot
  slot-of-free f = ap (λ b. b || is_fit t s job) f

  pub slot-of-taken : is_taken job ≡ true → Taken t s job → is_sound_slot t s job ≡ true
  unfolding is_sound_slot
  slot-of-taken k T =
      let e : is_fit t s job ≡ true = and-to (is_taken job && is_sound_job job && eqb (slot_of job.handle) s) (is_issued t (issue_of job.handle))
      (and-to (is_taken job && is_sound_job job) (eqb (slot_of job.handle) s)
      (and-to (is_taken job) (is_sound_job job) k ((sound-job-iff job).1 (T.good, T.figures))) (eq-eqb _ _ T.place)) T.issue in
      ap (λ b. is_free job || b) e ∙ or-true (is_free job)

  pub free-or-taken : is_sound_slot t s job ≡ true → (is_free job ≡ true) ⊎ (is_taken job ≡ true)
  unfolding is_sound_slot
  free-or-taken e = go (is_free job) refl e
    where
      go : (b : Bool) → is_free job ≡ b → b || is_fit t s job ≡ true → (is_free job ≡ true) ⊎ (is_taken job ≡ true)
      go true f e = inl f
      go false f e = inr (and-of (is_taken job) (is_sound_job job) (and-of (is_taken job && is_sound_job job) (eqb (slot_of job.handle) s)
          (and-of (is_taken job && is_sound_job job && eqb (slot_of job.handle) s) (is_issued t (issue_of job.handle)) e).0).0).0

-- an issue number from 1 to t
pub issued-of : (t u : ℕ) → is_issued t u ≡ true → (1 ≤ u) × (u ≤ t)
unfolding is_issued
issued-of t u e = let p = and-of (leb 1 u) (leb u t) e in (leb-true 1 u p.0, leb-true u t p.1)

pub issued-to : (t u : ℕ) → 1 ≤ u → u ≤ t → is_issued t u ≡ true
unfolding is_issued
issued-to t u a b = and-to (leb 1 u) (leb u t) (le-leb 1 u a) (le-leb u t b)

-- a larger t
pub slot-later : (t t' s : ℕ) (job : Job) → t ≤ t' → is_sound_slot t s job ≡ true → is_sound_slot t' s job ≡ true
slot-later t t' s job h e = go (free-or-taken t s job e)
  where
    go : (is_free job ≡ true) ⊎ (is_taken job ≡ true) → is_sound_slot t' s job ≡ true
    go (inl f) = slot-of-free t' s job f
    go (inr k) =
        let T = taken_of t s job e k in
        let i = issued-of t (issue_of job.handle) T.issue in
        slot-of-taken t' s job k (record { good = T.good; figures = T.figures; place = T.place; issue = issued-to t' _ i.0 (le_trans i.1 h) })

module _ (desk : Desk) where
  pub unique-of : SoundRecord desk → Unique desk
  unfolding is_twice has_issue
  unique-of S r s l h a b e =
      let u = issue_of (job_at desk s).handle in
      let k = any-true s (λ r. has_issue u (job_at desk r)) r l (and-to (is_taken (job_at desk r)) (eqb (issue_of (job_at desk r).handle) u) a (eq-eqb _ u e)) in
      true≢false (sym (and-to (is_taken (job_at desk s)) (any_below s (λ r. has_issue u (job_at desk r))) b k) ∙ S.once s h)

  pub once-of : Unique desk → (s : ℕ) → s < 8 → is_twice desk s ≡ false
  unfolding is_twice has_issue
  once-of U s h = false_of (is_twice desk s) (λ e.
      let u = issue_of (job_at desk s).handle in
      let p = and-of (is_taken (job_at desk s)) (any_below s (λ r. has_issue u (job_at desk r))) e in
      let w = any_at s (λ r. has_issue u (job_at desk r)) (holds p.1) in
      let q = and-of (is_taken (job_at desk w.0)) (eqb (issue_of (job_at desk w.0).handle) u) (is_true _ w.2) in
      U w.0 s w.1 h q.0 p.0 (eqb-true _ u q.1))

module _ (desk : Desk) (size : length desk.jobs ≡ 8) (t s : ℕ) (l : s < 8) (job : Job) where
  pub put-size : length (put desk t s job).jobs ≡ 8
  put-size = length-set desk.jobs s job ∙ size

  pub put_same : job_at (put desk t s job) s ≡ job
  put_same = get_or-set_same desk.jobs s job no_job (subst (λ n. s < n) (sym size) l)

  pub put_other : (r : ℕ) → (r ≡ s → ⊥) → job_at (put desk t s job) r ≡ job_at desk r
  put_other r n = get_or-set_other desk.jobs s r job no_job n

  pub sound-put : SoundRecord desk → desk.t ≤ t → t ≤ 65535 → is_sound_slot t s job ≡ true → Apart desk size t s l job → SoundRecord (put desk t s job)
  sound-put S a b e apart = record { few = b; slots = slots; once = once-of (put desk t s job) unique }
    where
      slots : (r : ℕ) → r < 8 → is_sound_slot t r (job_at (put desk t s job) r) ≡ true
      slots r k = elim (ℕ_discrete r s) [
        | yes q ↦ subst (λ r. is_sound_slot t r (job_at (put desk t s job) r) ≡ true) (sym q) (ap (is_sound_slot t s) put_same ∙ e)
        | no q ↦ ap (is_sound_slot t r) (put_other r q) ∙ slot-later desk.t t r (job_at desk r) a (S.slots r k)
      ]

      unique : Unique (put desk t s job)
      unique x y h k p q i = elim (ℕ_discrete x s) [
        | yes u ↦ elim (ℕ_discrete y s) [
          | yes v ↦ absurd (omega arith)
          | no v ↦ (
              let f : job_at (put desk t s job) x ≡ job = ap (job_at (put desk t s job)) u ∙ put_same in
              let g = put_other y v in
              apart y k v (ap is_taken (sym f) ∙ p) (ap is_taken (sym g) ∙ q)
              (ap (λ j. issue_of j.handle) (sym g) ∙ sym i ∙ ap (λ j. issue_of j.handle) f))
        ]
        | no u ↦ elim (ℕ_discrete y s) [
          | yes v ↦ (
              let f : job_at (put desk t s job) y ≡ job = ap (job_at (put desk t s job)) v ∙ put_same in
              let g = put_other x u in
              apart x (le_trans h (omega arith)) u (ap is_taken (sym f) ∙ q) (ap is_taken (sym g) ∙ p)
              (ap (λ j. issue_of j.handle) (sym g) ∙ i ∙ ap (λ j. issue_of j.handle) f))
          | no v ↦ (
              let f = put_other x u in
              let g = put_other y v in
              unique-of desk S x y h k (ap is_taken (sym f) ∙ p) (ap is_taken (sym g) ∙ q)
              (ap (λ j. issue_of j.handle) (sym f) ∙ i ∙ ap (λ j. issue_of j.handle) g))
        ]
      ]
