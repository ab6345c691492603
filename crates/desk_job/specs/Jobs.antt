-- A job of a desk: one recovery session, with a shape, a pattern of losses and a count of the words served.
use Rattle.std.specs.Prelude.{Bool, ◌&&◌, List, [], ℕ, eqb, length, get_or, take, replicate}
use Rattle.counting.specs.Test.{all_below}
use Rattle.shape.specs.Shapes.{byte_limits}
use Rattle.code.specs.Marks.{excess}
use Rattle.code.specs.Limits.{place_count}
use Rattle.code_services.specs.Judge.{judged_number_in}
use Rattle.desk_job.specs.declared.Job.{Job}
use Rattle.desk_job.specs.Figures.{lost_count, loss_figures}

-- a slot with "all its fields" zero
unfoldable pub empty_job : Job
empty_job = record { taken = 0; m = 0; w = 0; c = 0; served = 0; handle = 0; marks = replicate 240 0; lost = replicate 15 0; excess = 0 }

-- what an index past the row gives; no slot is read there
abbrev pub no_job : Job
no_job = record { taken = 0; m = 0; w = 0; c = 0; served = 0; handle = 0; marks = []; lost = []; excess = 0 }

-- the byte of a free slot is 0
abbrev pub is_free : Job → Bool
is_free job = eqb job.taken 0

-- the byte of a taken slot is 1
abbrev pub is_taken : Job → Bool
is_taken job = eqb job.taken 1

-- a job's n marks; what stands past them doesn't matter
abbrev pub job_marks : Job → List ℕ
job_marks job = take (place_count job.m job.w) job.marks

-- "a good shape, its n marks of 0 or 1 with excess at most 2": what Judge answers 0
unfoldable pub is_good : Job → Bool
is_good job = eqb (judged_number_in byte_limits job.m job.w job.c (job_marks job)) 0

-- the job with other marks, its figures worked from the first n of them; every other field stays
abbrev pub with_marks : Job → List ℕ → Job
with_marks job marks = record {
  taken = job.taken;
  m = job.m;
  w = job.w;
  c = job.c;
  served = job.served;
  handle = job.handle;
  marks = marks;
  lost = (loss_figures job.m job.w job.c (take (place_count job.m job.w) marks)).lost;
  excess = (loss_figures job.m job.w job.c (take (place_count job.m job.w) marks)).excess;
}

-- "Stored figures always equal those worked from the marks [..], counts past group m−1 being 0 in a taken slot": fifteen counts, and the excess
unfoldable pub has_figures : Job → Bool
has_figures job =
    eqb (length job.lost) 15
    && all_below 15 (λ g. eqb (get_or job.lost g 0) (lost_count job.m job.w (job_marks job) g))
    && eqb job.excess (excess job.m job.w job.c (job_marks job))

-- a good job whose figures are those worked from its marks
unfoldable pub is_sound_job : Job → Bool
is_sound_job job = is_good job && has_figures job
