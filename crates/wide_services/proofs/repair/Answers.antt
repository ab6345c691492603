use Rattle.std.proofs.Common.{refl, ◌≡◌, List, ℕ, ◌≤◌, ◌<◌, ◌+◌, ◌*◌, arith, length}
use Rattle.wide_shape.specs.Edition.{wide_limits}
use Rattle.wide_shape.specs.Edition.{wide_edition}
use Rattle.code_services.specs.Attempt.{AcceptedIn}
use Rattle.code_services.specs.AttemptLaws.{accepted}
use Rattle.code_services.specs.RepairLaws.{service-lent}
use Rattle.code_loops.specs.RepairLaws.{repair-refused, repair-seven, stretches-within, stretches-given}
use Rattle.answers.specs.AnswersLaws.{passed}
use Rattle.code_services.specs.Recover.{recover_refusal_in}
use Rattle.wide_services.proofs.repair.Goals as goal

-- past the first test, the stretch of group g is within the word and the marks
within : (m w c g : ℕ) (word marks : List ℕ) {r : ℕ} → r ≡ recover_refusal_in wide_limits m w c word marks → r ≡ 0 → g < m
    → (g * w + w ≤ length word) × (g * w + w ≤ length marks) × (g * w + w ≤ wide_limits.places)
within m w c g word marks e z l =
    let A = accepted _ _ _ _ _ _ e z in
    let f = stretches-within A l in
    (f.0, f.1, omega (arith, f.0, A.word_size, A.good.fits))

pub returns-in_err-refusal : goal.returns-in_err-refusal
returns-in_err-refusal c =
    let q = repair-refused wide_edition _ _ _ _ _ _ c.in_err-refusal.ensures in
    rw (passed c.from_residual.ensures) record { answer = q.0; word = q.1.0; marks = q.1.1 }

pub returns-then-m-g : goal.returns-then-m-g
returns-then-m-g c =
    let fair : let a = c.args in AcceptedIn wide_limits a.m a.w a.c a.word.now a.marks.now =
    accepted _ _ _ _ _ 0 c.in_ok-refusal.ensures refl in
    let q = repair-seven wide_edition _ _ _ _ _ _ fair c.if-m-g.true in
    record { answer = q.0; word = q.1.0; marks = q.1.1 }

pub overflow_mul-a : goal.overflow_mul-a
overflow_mul-a c =
    let a = c.args in
    omega (arith, (within a.m a.w a.c a.g a.word.now a.marks.now c.in_ok-refusal.ensures refl (omega arith)).2)

pub overflow_add-e : goal.overflow_add-e
overflow_add-e c =
    let a = c.args in
    omega (arith, (within a.m a.w a.c a.g a.word.now a.marks.now c.in_ok-refusal.ensures refl (omega arith)).2)

pub offset_bounds-word-a : goal.offset_bounds-word-a
offset_bounds-word-a c =
    let a = c.args in
    omega (arith, (within a.m a.w a.c a.g a.word.now a.marks.now c.in_ok-refusal.ensures refl (omega arith)).2)

pub slice_bounds-repair_part-end : goal.slice_bounds-repair_part-end
slice_bounds-repair_part-end c =
    let a = c.args in
    omega (arith, (within a.m a.w a.c a.g a.word.now a.marks.now c.in_ok-refusal.ensures refl (omega arith)).0)

pub slice_bounds-repair_part-end-2 : goal.slice_bounds-repair_part-end-2
slice_bounds-repair_part-end-2 c =
    let a = c.args in
    omega (arith, (within a.m a.w a.c a.g a.word.now a.marks.now c.in_ok-refusal.ensures refl (omega arith)).1)

pub repair_part-requires : goal.repair_part-requires
repair_part-requires c =
    let fair : let a = c.args in AcceptedIn wide_limits a.m a.w a.c a.word.now a.marks.now =
    accepted _ _ _ _ _ 0 c.in_ok-refusal.ensures refl in
    let a = c.args in
    let l : a.g < a.m = omega arith in
    let q = stretches-given fair l (omega arith) in
    record { part_nonzero = q.0; part_len_bound = q.1.0; c_bound = q.1.1.0; marks_len = q.1.1.1.0; g_bound = q.1.1.1.1 }

pub returns : goal.returns
returns c =
    let fair : let a = c.args in AcceptedIn wide_limits a.m a.w a.c a.word.now a.marks.now =
    accepted _ _ _ _ _ 0 c.in_ok-refusal.ensures refl in
    let e = c.repair_part.ensures in
    let q = service-lent wide_edition _ _ _ _ _ _ fair (omega arith) _ _ _ e.answers_by e.part_after e.marks_after in
    record { answer = q.0; word = q.1.0; marks = q.1.1 }
