-- Laws of a good job, and of its figures.
use Rattle.std.specs.Prelude.{◌≡◌, ◌↔◌, false, ◌&&◌, List, ℕ, ◌*◌, ◌<◌, ◌≤◌, length, get_or}
use Rattle.std.proofs.Math.Path.{sym, ap}
use Rattle.std.proofs.Common.{◌∙◌, subst}
use Rattle.std.proofs.Math.Bool.{true, and-eq-true_iff, and-true, and-false}
use native.Mathlib.Omega.{arith}
use borrow.Author.Tests.{eqb-true, eq-eqb, ne_eqb}
use Rattle.std.proofs.Math.Dec.{T, eqb}
use Rattle.std.specs.Float.Ieee.Bits.{is_true}
use Rattle.std.proofs.Math.Seq.{ext_get_or}
use Rattle.counting.specs.Test.{all_below}
use Rattle.counting.specs.TestLaws.{all-at, all-intro}
use Rattle.code.specs.Marks.{excess}
use Rattle.code.specs.DeterminedLaws.{list_length, list_at}
use Rattle.shape.specs.Shapes.{byte_limits}
use Rattle.code.specs.RefusalsLaws.{or_else-zero}
use Rattle.code.specs.LimitsLaws.{places-most}
use Rattle.code_services.specs.MarksLaws.{good-of-marks, marks-of-good}
use Rattle.code_services.specs.Marks.{MarkedIn}
use Rattle.code_services.specs.Judge.{judged_number_in}
use Rattle.code_services.specs.JudgeLaws.{zero-excess}
use Rattle.desk_job.specs.declared.Job.{Job}
use Rattle.desk_job.specs.Figures.{lost_count, lost_counts}
use Rattle.desk_job.specs.FiguresLaws.{all-ext}
use Rattle.desk_job.specs.Jobs.{is_good, job_marks, has_figures, is_sound_job}

-- what Judge answers 0 has a good shape and n marks of 0 or 1
pub judged-marked : (m w c : ℕ) (marks : List ℕ) → judged_number_in byte_limits m w c marks ≡ 0 → MarkedIn byte_limits m w c marks
unfolding judged_number_in
judged-marked m w c marks e = good-of-marks m w c marks (or_else-zero _ _ e).0

-- no good job has more than 240 places
pub large-job : (job : Job) → 240 < job.m * job.w → is_good job ≡ false
unfolding is_good
large-job job h =
    ne_eqb (judged_number_in byte_limits job.m job.w job.c (job_marks job)) 0
    (λ e. let k = places-most (judged-marked job.m job.w job.c (job_marks job) e).good in omega arith)

pub good-places : (job : Job) → is_good job ≡ true → job.m * job.w ≤ 240
unfolding is_good
good-places job e =
    let z = eqb-true (judged_number_in byte_limits job.m job.w job.c (job_marks job)) 0 e in
    places-most (judged-marked job.m job.w job.c (job_marks job) z).good

-- "a good shape, its n marks of 0 or 1 with excess at most 2"
pub good-iff : (job : Job) → (is_good job ≡ true) ↔ (MarkedIn byte_limits job.m job.w job.c (job_marks job)
    × (excess job.m job.w job.c (job_marks job) ≤ 2))
unfolding is_good
good-iff job = (
  λ e.
      let z = eqb-true (judged_number_in byte_limits job.m job.w job.c (job_marks job)) 0 e in
      let M = judged-marked job.m job.w job.c (job_marks job) z in
      (M, (zero-excess byte_limits job.m job.w job.c (job_marks job) (marks-of-good job.m job.w job.c (job_marks job) M)).0 z),
  λ p. eq-eqb (judged_number_in byte_limits job.m job.w job.c (job_marks job)) 0
      ((zero-excess byte_limits job.m job.w job.c (job_marks job) (marks-of-good job.m job.w job.c (job_marks job) p.0)).1 p.1),
)

-- ---- the figures

module _ (job : Job) where
  -- the count of each group
  abbrev counts : ℕ → ℕ
  counts = lost_count job.m job.w (job_marks job)

  abbrev worked : ℕ
  worked = excess job.m job.w job.c (job_marks job)

  -- "Stored figures always equal those worked from the marks"
  pub figures-iff : (has_figures job ≡ true)
      ↔ ((job.lost ≡ lost_counts job.m job.w (job_marks job)) × (job.excess ≡ excess job.m job.w job.c (job_marks job)))
  unfolding has_figures
  figures-iff = (to, from)
    where
      to : (eqb (length job.lost) 15 && all_below 15 (λ g. eqb (get_or job.lost g 0) (counts g)) && eqb job.excess worked) ≡ true
          → (job.lost ≡ lost_counts job.m job.w (job_marks job)) × (job.excess ≡ worked)
      to e =
          let p = (and-eq-true_iff (eqb (length job.lost) 15 && all_below 15 (λ g. eqb (get_or job.lost g 0) (counts g))) (eqb job.excess worked)).0 e in
          let q = (and-eq-true_iff (eqb (length job.lost) 15) (all_below 15 (λ g. eqb (get_or job.lost g 0) (counts g)))).0 p.0 in
          let l = eqb-true (length job.lost) 15 q.0 in (
            ext_get_or 0 job.lost (lost_counts job.m job.w (job_marks job)) (l ∙ sym (list_length 15 counts)) (λ g h.
                let k : g < 15 = omega arith in
                eqb-true _ _ (is_true _ (all-at 15 (λ g. eqb (get_or job.lost g 0) (counts g)) (subst T (sym q.1) tt) g k)) ∙ sym (list_at 15 counts g k)),
            eqb-true job.excess worked p.1,
          )

      from : (job.lost ≡ lost_counts job.m job.w (job_marks job)) × (job.excess ≡ worked)
          → (eqb (length job.lost) 15 && all_below 15 (λ g. eqb (get_or job.lost g 0) (counts g)) && eqb job.excess worked) ≡ true
      from p =
          (and-eq-true_iff (eqb (length job.lost) 15 && all_below 15 (λ g. eqb (get_or job.lost g 0) (counts g))) (eqb job.excess worked)).1 (
            (and-eq-true_iff (eqb (length job.lost) 15) (all_below 15 (λ g. eqb (get_or job.lost g 0) (counts g)))).1 (
              eq-eqb (length job.lost) 15 (ap length p.0 ∙ list_length 15 counts),
              is_true _ (all-intro 15 (λ g. eqb (get_or job.lost g 0) (counts g)) (λ g k.
                  subst T (sym (eq-eqb (get_or job.lost g 0) (counts g) (ap (λ x. get_or x g 0) p.0 ∙ list_at 15 counts g k))) tt)),
            ),
            eq-eqb job.excess worked p.1,
          )

  -- another excess, and the counts where the excess is the same
  pub other-excess : ¬ (excess job.m job.w job.c (job_marks job) ≡ job.excess) → has_figures job ≡ false
  unfolding has_figures
  other-excess n =
      ap (λ b. eqb (length job.lost) 15 && all_below 15 (λ g. eqb (get_or job.lost g 0) (counts g)) && b) (ne_eqb job.excess worked (λ e. n (sym e)))
      ∙ and-false (eqb (length job.lost) 15 && all_below 15 (λ g. eqb (get_or job.lost g 0) (counts g)))

  pub counts-decide : length job.lost ≡ 15 → excess job.m job.w job.c (job_marks job) ≡ job.excess
      → all_below 15 (λ g. eqb (get_or job.lost g 0) (get_or (lost_counts job.m job.w (job_marks job)) g 0)) ≡ has_figures job
  unfolding has_figures
  counts-decide l e =
      all-ext 15 (λ g. eqb (get_or job.lost g 0) (get_or (lost_counts job.m job.w (job_marks job)) g 0)) (λ g. eqb (get_or job.lost g 0) (counts g))
      (λ g k. ap (eqb (get_or job.lost g 0)) (list_at 15 counts g k))
      ∙ sym (ap (λ b. b && all_below 15 (λ g. eqb (get_or job.lost g 0) (counts g)) && eqb job.excess worked) (eq-eqb (length job.lost) 15 l)
      ∙ ap (λ b. all_below 15 (λ g. eqb (get_or job.lost g 0) (counts g)) && b) (eq-eqb job.excess worked (sym e))
      ∙ and-true (all_below 15 (λ g. eqb (get_or job.lost g 0) (counts g))))

  pub sound-job-iff : (is_sound_job job ≡ true) ↔ ((is_good job ≡ true) × (has_figures job ≡ true))
  unfolding is_sound_job
  sound-job-iff = and-eq-true_iff (is_good job) (has_figures job)
