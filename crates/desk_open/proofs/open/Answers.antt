use Rattle.std.proofs.Common.{◌≡◌, refl, sym, ap, ◌∙◌, subst, ℕ, arith, rules, List, length, Result, Ok, IfOk}
use Rattle.answers.specs.declared.Refusal.{Refusal}
use Rattle.shape.specs.Shapes.{byte_limits}
use Rattle.code.specs.LimitsLaws.{places-most}
use Rattle.code_services.specs.MarksLaws.{marks-of-good}
use Rattle.code_services.specs.JudgeLaws.{zero-excess}
use Rattle.answers.specs.Answers.{refusal_number, refused_number}
use Rattle.answers.specs.AnswersLaws.{refusal-some}
use Rattle.desk_job.specs.declared.Figures.{Figures}
use Rattle.desk_open.specs.Open.{free_slot, open_number, open_of, open_by, new_handle}
use Rattle.desk_job.specs.JobLaws.{judged-marked}
use Rattle.desk_open.specs.OpenLaws.{Openable, open-refused, open-parts, new-job}
use Rattle.desk_record.specs.declared.Desk.{Desk}
use Rattle.desk_open.proofs.open.Goals as goal

-- what is known once a slot is found
opened : {m w c : ℕ} {marks : List ℕ} {r : Result ℕ Refusal} {s : ℕ} (desk : Desk) → length desk.jobs ≡ 8 → r ≡ Ok s
    → refused_number r ≡ open_number m w c marks desk → Openable m w c marks desk
opened {m} {w} {c} {marks} desk long is e = open-parts m w c marks desk long (sym e ∙ ap refused_number is)

-- the slot that is taken
slot : (desk : Desk) (r : Result ℕ Refusal) (s : ℕ) → r ≡ Ok s → IfOk r (λ s. s ≡ free_slot desk) → s ≡ free_slot desk
slot desk r s e h = subst (λ r. IfOk r (λ s. s ≡ free_slot desk)) e h

pub returns-in-Err : goal.returns-in-Err
unfolding open_of
returns-in-Err c =
    let a = c.args in
    let n = sym (ap refused_number c.in-Err.is) ∙ c.open_slot.ensures.number in
    let e : open_of a.m a.w a.c a.marks.now a.desk ≡ record { number = refusal_number c.in-Err.e; handle = 0; desk = a.desk }
    = ap (λ n. open_by n a.m a.w a.c a.marks.now a.desk) (sym n) ∙ open-refused (refusal_number c.in-Err.e) (refusal-some _) a.m a.w a.c a.marks.now a.desk in
    rw e (record { desk-is = refl; number_is = refl; handle-is = refl })

pub overflow_add-t : goal.overflow_add-t
overflow_add-t c =
    let a = c.args in
    let P = opened a.desk (search rules) c.in-Ok.is c.open_slot.ensures.number in
    let k = P.early in
    omega arith

pub overflow_mul-handle : goal.overflow_mul-handle
overflow_mul-handle c =
    let a = c.args in
    let P = opened a.desk (search rules) c.in-Ok.is c.open_slot.ensures.number in
    let k = P.early in
    omega arith

pub overflow_add-handle : goal.overflow_add-handle
overflow_add-handle c =
    let a = c.args in
    let P = opened a.desk (search rules) c.in-Ok.is c.open_slot.ensures.number in
    let k = P.early in
    let l = slot a.desk _ _ c.in-Ok.is c.open_slot.ensures.slot in
    let r = P.room in
    omega arith

pub kept-marks_kept-requires : goal.kept-marks_kept-requires
kept-marks_kept-requires c =
    let a = c.args in
    let P = opened a.desk (search rules) c.in-Ok.is c.open_slot.ensures.number in
    let M = judged-marked a.m a.w a.c a.marks.now P.judged in
    let l = places-most M.good in
    let z = M.size in
    omega arith

pub overflow_cast-desk : goal.overflow_cast-desk
overflow_cast-desk c =
    let a = c.args in
    let P = opened a.desk (search rules) c.in-Ok.is c.open_slot.ensures.number in
    let g = (judged-marked a.m a.w a.c a.marks.now P.judged).good in
    omega arith

pub overflow_cast-desk-2 : goal.overflow_cast-desk-2
overflow_cast-desk-2 c =
    let a = c.args in
    let P = opened a.desk (search rules) c.in-Ok.is c.open_slot.ensures.number in
    let g = (judged-marked a.m a.w a.c a.marks.now P.judged).good in
    omega arith

pub overflow_cast-desk-3 : goal.overflow_cast-desk-3
overflow_cast-desk-3 c =
    let a = c.args in
    let P = opened a.desk (search rules) c.in-Ok.is c.open_slot.ensures.number in
    let g = (judged-marked a.m a.w a.c a.marks.now P.judged).good in
    omega arith

pub overflow_cast-desk-4 : goal.overflow_cast-desk-4
overflow_cast-desk-4 c =
    let a = c.args in
    let P = opened a.desk (search rules) c.in-Ok.is c.open_slot.ensures.number in
    let M = judged-marked a.m a.w a.c a.marks.now P.judged in
    let l = (zero-excess byte_limits a.m a.w a.c a.marks.now (marks-of-good a.m a.w a.c a.marks.now M)).0 P.judged in
    let e = ap (λ (x : Figures). x.excess) (c.figures_of-worked.ensures.value M.good M.size) in
    omega arith

pub offset_bounds-desk-s : goal.offset_bounds-desk-s
offset_bounds-desk-s c =
    let a = c.args in
    let P = opened a.desk (search rules) c.in-Ok.is c.open_slot.ensures.number in
    let l = slot a.desk _ _ c.in-Ok.is c.open_slot.ensures.slot in
    let r = P.room in
    omega arith

pub bounds-desk-s : goal.bounds-desk-s
bounds-desk-s c =
    let a = c.args in
    let P = opened a.desk (search rules) c.in-Ok.is c.open_slot.ensures.number in
    let l = slot a.desk _ _ c.in-Ok.is c.open_slot.ensures.slot in
    let r = P.room in
    omega arith

pub returns : goal.returns
unfolding open_of
returns c =
    let a = c.args in
    let P = opened a.desk (search rules) c.in-Ok.is c.open_slot.ensures.number in
    let M = judged-marked a.m a.w a.c a.marks.now P.judged in
    let e : open_of a.m a.w a.c a.marks.now a.desk ≡ open_by 0 a.m a.w a.c a.marks.now a.desk
    = ap (λ n. open_by n a.m a.w a.c a.marks.now a.desk) (sym c.open_slot.ensures.number ∙ ap refused_number c.in-Ok.is) in
    let s = slot a.desk _ _ c.in-Ok.is c.open_slot.ensures.slot in
    let j = new-job a.m a.w a.c a.marks.now (new_handle a.desk) M.size in
    rw (e, s, c.kept-marks_kept.ensures, c.figures_of-worked.ensures.value M.good M.size, j)
    (record { desk-is = refl; number_is = refl; handle-is = refl })
