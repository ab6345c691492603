-- Laws of the tests on a desk.
use Rattle.std.specs.Prelude.{◌≡◌, Bool, ◌&&◌, ◌||◌, ℕ, ◌+◌, ◌<◌, T, eqb}
use Rattle.std.proofs.Math.Path.{refl}
use Rattle.std.proofs.Common.{sym, ap, subst, add-one, arith}
use Rattle.std.proofs.Math.Bool.{true, false, not, and-eq-true_iff}
use borrow.Author.Tests.{not-true, eqb-true, leb-true, le-leb}
use Rattle.std.proofs.Math.Dec.{not_T}
use Rattle.std.specs.Float.Ieee.Bits.{is_true}
use Rattle.counting.specs.Test.{any_below}
use Rattle.counting.specs.TestLaws.{all-at, all-intro, any-intro}
use Rattle.desk_job.specs.declared.Job.{Job}
use Rattle.desk_record.specs.declared.Desk.{Desk}
use Rattle.desk_job.specs.Jobs.{is_free, is_taken, is_good, has_figures, is_sound_job}
use Rattle.desk_job.specs.JobLaws.{sound-job-iff}
use Rattle.desk_record.specs.Desks.{issue_of, slot_of, is_issued, job_at, is_sound_slot, is_twice, is_sound, is_open, SoundRecord}

pub holds : {b : Bool} → b ≡ true → T b
holds e = subst T (sym e) tt

pub false_of : (b : Bool) → (b ≡ true → ⊥) → b ≡ false
false_of b h = not-true b (is_true _ (not_T b (λ t. h (is_true b t))))

-- a number of which a test holds
pub any-true : (n : ℕ) (f : ℕ → Bool) (i : ℕ) → i < n → f i ≡ true → any_below n f ≡ true
any-true n f i l e = is_true _ (any-intro n f i l (holds e))

-- one turn of a test over the numbers below n
pub any-turn : (n : ℕ) (f : ℕ → Bool) → any_below n f ≡ false → f n ≡ false → any_below (n + 1) f ≡ false
any-turn n f h e = rw (add-one, e, h)

module _ (desk : Desk) where
  pub sound-parts : is_sound desk ≡ true → SoundRecord desk
  unfolding is_sound
  sound-parts e =
      let p = (and-eq-true_iff _ _).0 e in
      let q = (and-eq-true_iff _ _).0 p.0 in
      record {
        few = leb-true _ _ q.0;
        slots = λ s l. is_true _ (all-at 8 (λ s. is_sound_slot desk.t s (job_at desk s)) (holds q.1) s l);
        once = λ s l. not-true _ (is_true _ (all-at 8 (λ s. not (is_twice desk s)) (holds p.1) s l));
      }

  pub sound-of : SoundRecord desk → is_sound desk ≡ true
  unfolding is_sound
  sound-of S =
      (and-eq-true_iff _ _).1 (
        (and-eq-true_iff _ _).1
            (le-leb desk.t 65535 S.few, is_true _ (all-intro 8 (λ s. is_sound_slot desk.t s (job_at desk s)) (λ s l. holds (S.slots s l)))),
        is_true _ (all-intro 8 (λ s. not (is_twice desk s)) (λ s l. holds (ap not (S.once s l)))),
      )

  pub unsound : (SoundRecord desk → ⊥) → is_sound desk ≡ false
  unsound h = false_of (is_sound desk) (λ e. h (sound-parts e))

-- a taken slot of a sound desk
pub record Taken (t s : ℕ) (job : Job) : Type 0 where
  pub good : is_good job ≡ true
  pub figures : has_figures job ≡ true
  pub place : slot_of job.handle ≡ s
  pub issue : is_issued t (issue_of job.handle) ≡ true

module _ (t s : ℕ) (job : Job) where
  -- what soundness asks of a taken slot
  abbrev pub is_fit : Bool
  is_fit = is_taken job && is_sound_job job && eqb (slot_of job.handle) s && is_issued t (issue_of job.handle)

  fit-taken : is_fit ≡ true → Taken t s job
  fit-taken e =
      let p = (and-eq-true_iff (is_taken job && is_sound_job job && eqb (slot_of job.handle) s) (is_issued t (issue_of job.handle))).0 e in
      let q = (and-eq-true_iff (is_taken job && is_sound_job job) (eqb (slot_of job.handle) s)).0 p.0 in
      let g = (sound-job-iff job).0 ((and-eq-true_iff (is_taken job) (is_sound_job job)).0 q.0).1 in
      record { good = g.0; figures = g.1; place = eqb-true (slot_of job.handle) s q.1; issue = p.1 }

  pub taken_of : is_sound_slot t s job ≡ true → is_taken job ≡ true → Taken t s job
  unfolding is_sound_slot
  taken_of e k = go (is_free job) refl e
    where
      go : (b : Bool) → is_free job ≡ b → b || is_fit ≡ true → Taken t s job
      go true f e = let a = eqb-true job.taken 0 f in let b = eqb-true job.taken 1 k in absurd (omega arith)
      go false f e = fit-taken e

-- the slot of an open handle is taken, and holds it
pub open-slot : (desk : Desk) (handle : ℕ) → is_open desk handle ≡ true
    → (is_taken (job_at desk (slot_of handle)) ≡ true) × ((job_at desk (slot_of handle)).handle ≡ handle)
unfolding is_open
open-slot desk handle e =
    let j = job_at desk (slot_of handle) in
    let p = (and-eq-true_iff (is_issued desk.t (issue_of handle) && is_taken j) (eqb j.handle handle)).0 e in
    (((and-eq-true_iff (is_issued desk.t (issue_of handle)) (is_taken j)).0 p.0).1, eqb-true j.handle handle p.1)
