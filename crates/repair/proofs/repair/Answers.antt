use Rattle.std.proofs.Common.{refl, ◌≡◌, List, ℕ, ◌≤◌, ◌<◌, ◌+◌, ◌*◌, arith, length}
use Rattle.shape.specs.Shapes.{byte_limits}
use Rattle.byte_edition.specs.Edition.{byte_edition}
use Rattle.code_services.specs.Attempt.{AcceptedIn}
use Rattle.code_services.specs.AttemptLaws.{accepted}
use Rattle.code_services.specs.Recover.{recover_refusal_in}
use Rattle.code_services.specs.RepairLaws.{service-lent}
use Rattle.code_loops.specs.RepairLaws.{repair-refused, repair-seven, stretches-within, stretches-given}
use Rattle.answers.specs.AnswersLaws.{passed}
use Rattle.repair.proofs.repair.Goals as goal

-- a call that is not refused
fair : {m w c r : ℕ} {word marks : List ℕ} → r ≡ recover_refusal_in byte_limits m w c word marks → r ≡ 0 → AcceptedIn byte_limits m w c word marks
fair e z = accepted _ _ _ _ _ _ e z

-- its group's stretches lie within the word and the marks
fits : (g : ℕ) {m w c : ℕ} {word marks : List ℕ} → AcceptedIn byte_limits m w c word marks → g < m
    → (g * w + w ≤ length word) × (g * w + w ≤ length marks) × (g * w + w ≤ byte_limits.places)
fits g A l = let s = stretches-within A l in (s.0, s.1, omega (arith, s.0, A.word_size, A.good.fits))

pub returns-in_err-refusal : goal.returns-in_err-refusal
returns-in_err-refusal c =
    let q = repair-refused byte_edition _ _ _ _ _ _ c.in_err-refusal.ensures in
    rw (passed c.from_residual.ensures) record { answer = q.0; word = q.1.0; marks = q.1.1 }

pub returns-then-m-g : goal.returns-then-m-g
returns-then-m-g c =
    let q = repair-seven byte_edition _ _ _ _ _ _ (fair c.in_ok-refusal.ensures refl) c.if-m-g.true in
    record { answer = q.0; word = q.1.0; marks = q.1.1 }

pub overflow_mul-a : goal.overflow_mul-a
overflow_mul-a c = let f = fits c.args.g (fair c.in_ok-refusal.ensures refl) (omega arith) in omega (arith, f.2)

pub overflow_add-e : goal.overflow_add-e
overflow_add-e c = let f = fits c.args.g (fair c.in_ok-refusal.ensures refl) (omega arith) in omega (arith, f.2)

pub slice_bounds-repair_part-end : goal.slice_bounds-repair_part-end
slice_bounds-repair_part-end c = let f = fits c.args.g (fair c.in_ok-refusal.ensures refl) (omega arith) in omega (arith, f.0)

pub slice_bounds-repair_part-end-2 : goal.slice_bounds-repair_part-end-2
slice_bounds-repair_part-end-2 c = let f = fits c.args.g (fair c.in_ok-refusal.ensures refl) (omega arith) in omega (arith, f.1)

pub repair_part-requires : goal.repair_part-requires
repair_part-requires c =
    let q = stretches-given (fair c.in_ok-refusal.ensures refl) (omega arith) (omega arith) in
    record { part_nonzero = q.0; part_len_bound = q.1.0; c_bound = q.1.1.0; marks_len = q.1.1.1.0; g_bound = q.1.1.1.1 }

pub returns : goal.returns
returns c =
    let e = c.repair_part.ensures in
    let q = service-lent byte_edition _ _ _ _ _ _ (fair c.in_ok-refusal.ensures refl) (omega arith) _ _ _ e.answers_by e.part_after e.marks_after in
    record { answer = q.0; word = q.1.0; marks = q.1.1 }
