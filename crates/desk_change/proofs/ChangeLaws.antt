-- Laws of Lose and Find: the job with a place lost or found, by the figures it had.
use Rattle.std.specs.Prelude.{◌≡◌, refl, true, List, ℕ, zero, suc, ◌+◌, ◌-◌, ◌*◌, ◌/◌, ◌<◌, ◌≤◌, leb, ltb, length, get_or, set}
use Rattle.std.proofs.Common.{sym, ap₂, ◌∙◌, le_trans, div-lt_iff_lt-mul, arith, le-leb, leb-false, le-ltb, lt-ltb, ltb-false, length-set, get_or-take, get_or-set_other}
use Rattle.std.proofs.Math.Path.{ap, subst}
use Rattle.std.proofs.Math.Decide.{ℕ_discrete, dec_lt}
use Rattle.std.proofs.lemmas.Bool.{lt-leb}
use Rattle.std.proofs.Math.Seq.{get_or-set_same, set-get_or, set-set, set_out, take-set-lt}
use Rattle.counting.specs.Count.{one}
use Rattle.std.specs.Prelude.{Ok, Err}
use Rattle.answers.specs.declared.Refusal.{Refusal}
use Rattle.answers.specs.Answers.{refusal_number}
use Rattle.answers.specs.AnswersLaws.{else-first}
use Rattle.code.specs.Refusals.{refuse, ◌or_else◌}
use Rattle.code.specs.RefusalsLaws.{refuse-zero, or_else-zero}
use Rattle.shape.specs.Shapes.{byte_limits}
use Rattle.code.specs.Marks.{lost_in, excess}
use Rattle.code.specs.DeterminedLaws.{list_at}
use Rattle.code_engine.specs.GroupsLaws.{lost-most}
use Rattle.code_services.specs.Marks.{MarkedIn}
use Rattle.desk_job.specs.declared.Job.{Job}
use Rattle.desk_record.specs.declared.Desk.{Desk}
use Rattle.desk_job.specs.Figures.{lost_count, lost_counts}
use Rattle.desk_job.specs.FiguresLaws.{count-group}
use Rattle.desk_job.specs.Jobs.{job_marks, with_marks, is_sound_job}
use Rattle.desk_job.specs.JobLaws.{good-iff, figures-iff, sound-job-iff}
use Rattle.desk_record.specs.Desks.{job_at, with_job, slot_of}
use Rattle.desk_record.specs.Refusal.{handle_refusal}
use Rattle.desk_record.specs.RefusalLaws.{open-taken}
use Rattle.desk_record.specs.Calls.{ChangeGives}
use Rattle.desk_record.specs.CallsLaws.{call-refused, call-done}
use Rattle.desk_change.specs.Change.{changed, past, place_number, change_number, place_refusal, change_of}
use Rattle.desk_change.specs.CountsLaws.{count-raised, excess-raised, counts-set}

-- a job with other marks and figures
abbrev pub figured : Job → List ℕ → List ℕ → ℕ → Job
figured job marks lost excess = record {
  taken = job.taken;
  m = job.m;
  w = job.w;
  c = job.c;
  served = job.served;
  handle = job.handle;
  marks = marks;
  lost = lost;
  excess = excess;
}

-- a job whose figures are those worked from its marks is the job with its own marks
pub own-marks : (job : Job) → is_sound_job job ≡ true → with_marks job job.marks ≡ job
own-marks job s = let F = (figures-iff job).0 ((sound-job-iff job).0 s).1 in ap₂ (figured job job.marks) (sym F.0) (sym F.1)

-- "one already in the wanted state is done and changes nothing"
pub same-job : (job : Job) → is_sound_job job ≡ true → (mark p : ℕ) → get_or job.marks p 0 ≡ mark → changed mark p job ≡ job
same-job job s mark p e =
    ap (λ x. with_marks job (set job.marks p x)) (sym e) ∙ ap (with_marks job) (set-get_or job.marks p 0) ∙ own-marks job s

module _ (job : Job) (s : is_sound_job job ≡ true) (p : ℕ) (l : p < job.m * job.w) where
  -- its group
  abbrev g : ℕ
  g = p / job.w

  -- its group's count
  abbrev count : ℕ
  count = get_or job.lost (p / job.w) 0

  marked : MarkedIn byte_limits job.m job.w job.c (job_marks job)
  marked = ((good-iff job).0 ((sound-job-iff job).0 s).0).0

  pub few : job.excess ≤ 2
  few = subst (λ x. x ≤ 2) (sym ((figures-iff job).0 ((sound-job-iff job).0 s).1).1) ((good-iff job).0 ((sound-job-iff job).0 s).0).1

  counts-are : job.lost ≡ lost_counts job.m job.w (job_marks job)
  counts-are = ((figures-iff job).0 ((sound-job-iff job).0 s).1).0

  excess-is : job.excess ≡ excess job.m job.w job.c (job_marks job)
  excess-is = ((figures-iff job).0 ((sound-job-iff job).0 s).1).1

  pub wide : 0 < job.w
  wide = let M = marked.good.wide in omega arith

  pub group-below : p / job.w < job.m
  group-below = (div-lt_iff_lt-mul wide).1 l

  pub group-fits : p / job.w < 15
  group-fits = le_trans group-below marked.good.few

  pub place-fits : p < 240
  place-fits = le_trans l marked.good.fits

  in-range : p < length (job_marks job)
  in-range = subst (λ n. p < n) (sym marked.size) l

  mark-is : get_or (job_marks job) p 0 ≡ get_or job.marks p 0
  mark-is = get_or-take (job.m * job.w) job.marks p 0 l

  -- a mark is 0 or 1
  pub mark-most : get_or job.marks p 0 < 2
  mark-most = subst (λ x. x < 2) mark-is (marked.each p)

  count-is : count ≡ lost_in job.w (job_marks job) g
  count-is = ap (λ x. get_or x g 0) counts-are ∙ list_at 15 (lost_count job.m job.w (job_marks job)) g group-fits
      ∙ count-group job.m job.w (job_marks job) g group-below

  pub count_most : get_or job.lost (p / job.w) 0 ≤ 16
  count_most = subst (λ x. x ≤ 16) (sym count-is) (le_trans (lost-most job.w (job_marks job) g) marked.good.narrow)

  -- the figures of the marks with that one set
  figures-set : (v x : ℕ) → lost_in job.w (set (job_marks job) p v) g ≡ x → (y : ℕ) → excess job.m job.w job.c (set (job_marks job) p v) ≡ y
      → changed v p job ≡ figured job (set job.marks p v) (set job.lost g x) y
  figures-set v x e y f =
      ap (λ z. figured job (set job.marks p v) (lost_counts job.m job.w z) (excess job.m job.w job.c z))
      (take-set-lt (job.m * job.w) job.marks p v l)
      ∙ ap₂ (figured job (set job.marks p v))
      (sym (ap (λ z. set z g x) counts-are ∙ counts-set job.w wide (job_marks job) p job.m v x marked.good.few group-below e)) f

  module _ (present : get_or job.marks p 0 ≡ 0) where
    -- a place lost: one more in its group, and the excess one more if that is above c
    pub lost-job : changed 1 p job
        ≡ figured job (set job.marks p 1) (set job.lost (p / job.w) (get_or job.lost (p / job.w) 0 + 1))
        (job.excess + one (ltb job.c (get_or job.lost (p / job.w) 0 + 1)))
    lost-job =
        let r = count-raised job.w wide (job_marks job) p in-range (mark-is ∙ present) in
        let q : suc (lost_in job.w (job_marks job) g) ≡ count + 1 = (let k = count-is in omega arith) in
        figures-set 1 (count + 1) (r ∙ q) (job.excess + one (ltb job.c (count + 1)))
        (excess-raised job.w wide (job_marks job) p in-range (mark-is ∙ present) job.m job.c group-below
        ∙ ap₂ (λ a b. a + one (ltb job.c b)) (sym excess-is) q)

  module _ (gone : get_or job.marks p 0 ≡ 1) where
    -- the marks with the place found, and lost again
    found : List ℕ
    found = set (job_marks job) p 0

    again : set found p 1 ≡ job_marks job
    unfolding found
    again = set-set (job_marks job) p 0 1 ∙ ap (set (job_marks job) p) (sym (mark-is ∙ gone)) ∙ set-get_or (job_marks job) p 0

    found-range : p < length found
    unfolding found
    found-range = subst (λ n. p < n) (sym (length-set (job_marks job) p 0)) in-range

    found-present : get_or found p 0 ≡ 0
    unfolding found
    found-present = get_or-set_same (job_marks job) p 0 0 in-range

    count-again : lost_in job.w (job_marks job) g ≡ suc (lost_in job.w found g)
    count-again = ap (λ x. lost_in job.w x g) (sym again) ∙ count-raised job.w wide found p found-range found-present

    excess-again : job.excess ≡ excess job.m job.w job.c found + one (ltb job.c count)
    excess-again =
        excess-is ∙ ap (excess job.m job.w job.c) (sym again)
        ∙ excess-raised job.w wide found p found-range found-present job.m job.c group-below
        ∙ ap (λ b. excess job.m job.w job.c found + one (ltb job.c b)) (sym count-again ∙ sym count-is)

    pub count-some : 1 ≤ get_or job.lost (p / job.w) 0
    count-some = let a = count-is in let b = count-again in omega arith

    pub excess-some : one (ltb job.c (get_or job.lost (p / job.w) 0)) ≤ job.excess
    excess-some = let a = excess-again in omega arith

    -- a place found: one less in its group, and the excess one less if the count was above c
    pub found-job : changed 0 p job
        ≡ figured job (set job.marks p 0) (set job.lost (p / job.w) (get_or job.lost (p / job.w) 0 - 1))
        (job.excess - one (ltb job.c (get_or job.lost (p / job.w) 0)))
    unfolding found
    found-job =
        figures-set 0 (count - 1) (let a = count-is in let b = count-again in omega arith) (job.excess - one (ltb job.c count))
        (let a = excess-again in omega arith)

  -- the mark set to 1 or to 0, by the count with the place lost
  module _ (mark : ℕ) (other : ¬ (get_or job.marks p 0 ≡ mark)) where
    pub set-lost : mark ≡ 1 → changed mark p job
        ≡ figured job (set job.marks p mark) (set job.lost (p / job.w) (get_or job.lost (p / job.w) 0 + mark))
        (job.excess + one (ltb job.c (get_or job.lost (p / job.w) 0 + mark)))
    set-lost e =
        let k = mark-most in
        let z : get_or job.marks p 0 ≡ 0 = omega arith in
        subst (λ v. changed v p job ≡ figured job (set job.marks p v) (set job.lost g (count + v)) (job.excess + one (ltb job.c (count + v))))
        (sym e) (lost-job z)

    module _ (e : mark ≡ 0) where
      was-lost : get_or job.marks p 0 ≡ 1
      was-lost = let k = mark-most in omega arith

      with_it : count ≡ count + mark
      with_it = omega arith

      pub count-found : 1 ≤ get_or job.lost (p / job.w) 0 + mark
      count-found = subst (λ x. 1 ≤ x) with_it (count-some was-lost)

      pub excess-found : one (ltb job.c (get_or job.lost (p / job.w) 0 + mark)) ≤ job.excess
      excess-found = subst (λ x. one (ltb job.c x) ≤ job.excess) with_it (excess-some was-lost)

      pub set_found : changed mark p job
          ≡ figured job (set job.marks p mark) (set job.lost (p / job.w) (get_or job.lost (p / job.w) 0 + mark - 1))
          (job.excess - one (ltb job.c (get_or job.lost (p / job.w) 0 + mark)))
      set_found =
          subst (λ x. changed mark p job ≡ figured job (set job.marks p mark) (set job.lost g (x - 1)) (job.excess - one (ltb job.c x))) with_it
          (subst (λ v. changed v p job ≡ figured job (set job.marks p v) (set job.lost g (count - 1)) (job.excess - one (ltb job.c count)))
          (sym e) (found-job was-lost))

  -- a find doesn't raise the excess
  pub found-few : (changed 0 p job).excess ≤ job.excess
  found-few = elim (ℕ_discrete (get_or job.marks p 0) 0) [
    | yes e ↦ (let z = ap (λ (j : Job). j.excess) (same-job job s 0 p e) in omega arith)
    | no n ↦ (
        let k = mark-most in
        let e : get_or job.marks p 0 ≡ 1 = omega arith in
        let z = ap (λ (j : Job). j.excess) (found-job e) in omega arith)
  ]

-- ---- the number

module _ (mark place : ℕ) (job : Job) where
  pub place-past : job.m * job.w ≤ place → place_number mark place job ≡ 25
  unfolding place_number
  place-past h = ap (λ b. refuse 25 b or_else refuse 8 (ltb 2 (changed mark place job).excess)) (le-leb (job.m * job.w) place h)

  module _ (l : place < job.m * job.w) where
    place_in : place_number mark place job ≡ refuse 8 (ltb 2 (changed mark place job).excess)
    unfolding place_number
    place_in = ap (λ b. refuse 25 b or_else refuse 8 (ltb 2 (changed mark place job).excess)) (lt-leb (job.m * job.w) place l)

    pub place-eight : 2 < (changed mark place job).excess → place_number mark place job ≡ 8
    place-eight h = place_in ∙ ap (refuse 8) (lt-ltb 2 (changed mark place job).excess h)

    pub place-done : (changed mark place job).excess ≤ 2 → place_number mark place job ≡ 0
    place-done h = place_in ∙ ap (refuse 8) (le-ltb 2 (changed mark place job).excess h)

-- a change answered 0 is of a place below n, and leaves the excess at most 2
pub place-parts : (mark place : ℕ) (job : Job) → place_number mark place job ≡ 0 → (place < job.m * job.w) × ((changed mark place job).excess ≤ 2)
unfolding place_number
place-parts mark place job e =
    let z = or_else-zero (refuse 25 (leb (job.m * job.w) place)) (refuse 8 (ltb 2 (changed mark place job).excess)) e in
    (leb-false (job.m * job.w) place (refuse-zero 24 _ z.0), ltb-false 2 (changed mark place job).excess (refuse-zero 7 _ z.1))

-- the n marks then
pub changed-marks : (mark place : ℕ) (job : Job) → place < job.m * job.w → job_marks (changed mark place job) ≡ set (job_marks job) place mark
changed-marks mark place job l = take-set-lt (job.m * job.w) job.marks place mark l

-- the job that it leaves is sound again
pub changed-sound : (mark place : ℕ) (job : Job) → mark < 2 → is_sound_job job ≡ true → place_number mark place job ≡ 0
    → is_sound_job (changed mark place job) ≡ true
changed-sound mark place job b s e =
    let P = place-parts mark place job e in
    let M = ((good-iff job).0 ((sound-job-iff job).0 s).0).0 in
    let q = changed-marks mark place job P.0 in
    (sound-job-iff (changed mark place job)).1 (
      (good-iff (changed mark place job)).1 (
        record {
          good = M.good;
          size = ap length q ∙ length-set (job_marks job) place mark ∙ M.size;
          each = λ p. subst (λ x. get_or x p 0 < 2) (sym q) (set-each (job_marks job) place mark b M.each p);
        },
        P.1,
      ),
      (figures-iff (changed mark place job)).1 (refl, refl),
    )
  where
    set-each : (marks : List ℕ) (place mark : ℕ) → mark < 2 → ((p : ℕ) → get_or marks p 0 < 2) → (p : ℕ) → get_or (set marks place mark) p 0 < 2
    set-each marks place mark b each p = elim (ℕ_discrete p place) [
      | yes e ↦ elim (dec_lt place (length marks)) [
        | yes l ↦ subst (λ x. x < 2) (sym (ap (λ q. get_or (set marks place mark) q 0) e ∙ get_or-set_same marks place mark 0 l)) b
        | no l ↦ (let k : length marks ≤ place = omega arith in subst (λ x. get_or x p 0 < 2) (sym (set_out marks place mark k)) (each p))
      ]
      | no n ↦ subst (λ x. x < 2) (sym (get_or-set_other marks place p mark 0 n)) (each p)
    ]

-- no refusal before the excess is looked at: the handle is open, and the place is below n
pub refusal-parts : (handle place : ℕ) (desk : Desk) → place_refusal handle place desk ≡ 0
    → (handle_refusal handle desk ≡ 0) × (place < (job_at desk (slot_of handle)).m * (job_at desk (slot_of handle)).w)
unfolding place_refusal
refusal-parts handle place desk e =
    let job = job_at desk (slot_of handle) in
    let z = or_else-zero (handle_refusal handle desk) (past place job) e in
    (z.0, leb-false (job.m * job.w) place (refuse-zero 24 _ z.1))

-- ---- what Lose and Find give

module _ (mark handle place : ℕ) (desk : Desk) where
  gives-by : (e : Refusal) → refusal_number e ≡ change_number mark handle place desk → ChangeGives (change_of mark handle place desk) desk (Err e)
  unfolding change_of
  gives-by e is = call-refused (change_number mark handle place desk) e is _ desk

  -- 31, 12 or 25
  pub gives-refused : (e : Refusal) → refusal_number e ≡ place_refusal handle place desk → ChangeGives (change_of mark handle place desk) desk (Err e)
  unfolding place_refusal change_number place_number
  gives-refused e is = gives-by e (first (handle_refusal handle desk) (past place job) is)
    where
      job : Job
      job = job_at desk (slot_of handle)

      first : (h p : ℕ) → refusal_number e ≡ h or_else p → refusal_number e ≡ (h or_else p or_else refuse 8 (ltb 2 (changed mark place job).excess))
      first zero p is = else-first e is _
      first (suc h) p is = is

  module _ (held : handle_refusal handle desk ≡ 0) where
    pub change-place : change_number mark handle place desk ≡ place_number mark place (job_at desk (slot_of handle))
    unfolding change_number
    change-place = ap (λ x. x or_else place_number mark place (job_at desk (slot_of handle))) held

    -- the job of an open handle
    pub open-sound : is_sound_job (job_at desk (slot_of handle)) ≡ true
    open-sound = let T = open-taken handle desk held in (sound-job-iff (job_at desk (slot_of handle))).1 (T.good, T.figures)

    -- 8
    pub gives-place : (e : Refusal) → refusal_number e ≡ place_number mark place (job_at desk (slot_of handle))
        → ChangeGives (change_of mark handle place desk) desk (Err e)
    gives-place e is = gives-by e (is ∙ sym change-place)

    pub gives-done : place_number mark place (job_at desk (slot_of handle)) ≡ 0
        → ChangeGives (change_of mark handle place desk) (with_job desk (slot_of handle) (changed mark place (job_at desk (slot_of handle)))) (Ok tt)
    unfolding change_of
    gives-done e = call-done (change_number mark handle place desk) (change-place ∙ e) _ desk
