use Rattle.std.proofs.Common.{◌≡◌, sym, ap, ◌∙◌, subst, ◌+◌, ◌-◌, ◌/◌, ◌≤◌, arith, ltb, get_or, set}
use Rattle.desk_change.specs.CountsLaws.{one-most}
use Rattle.desk_change.proofs.ChangeLaws.{figured, same-job, few, wide, group-fits, place-fits, count_most, set-lost, count-found, excess-found, set_found}
use Rattle.desk_change.proofs.with_mark.Goals as goal

pub bounds-marks-place : goal.bounds-marks-place
bounds-marks-place c =
    place-fits c.args.job c.requires.0 c.args.place c.requires.1

pub returns-then-marks-place : goal.returns-then-marks-place
returns-then-marks-place c =
    sym (same-job c.args.job c.requires.0 c.args.mark c.args.place c.if-marks-place.true)

pub bounds-marks-place-2 : goal.bounds-marks-place-2
bounds-marks-place-2 c =
    place-fits c.args.job c.requires.0 c.args.place c.requires.1

pub nonzero_div-g : goal.nonzero_div-g
nonzero_div-g c =
    wide c.args.job c.requires.0 c.args.place c.requires.1

pub bounds-lost-g : goal.bounds-lost-g
bounds-lost-g c =
    group-fits c.args.job c.requires.0 c.args.place c.requires.1

pub overflow_add-count : goal.overflow_add-count
overflow_add-count c =
    let k = count_most c.args.job c.requires.0 c.args.place c.requires.1 in
    let m = c.requires.2 in
    omega arith

pub bounds-lost-g-then-mark-eq1 : goal.bounds-lost-g-then-mark-eq1
bounds-lost-g-then-mark-eq1 c =
    group-fits c.args.job c.requires.0 c.args.place c.requires.1

pub overflow_add-excess : goal.overflow_add-excess
overflow_add-excess c =
    let k = few c.args.job c.requires.0 c.args.place c.requires.1 in
    let h = subst (λ x. x ≤ 1) (sym c.from-more.ensures) (one-most
    (ltb c.args.job.c (get_or c.args.job.lost (c.args.place / c.args.job.w) 0 + c.args.mark))) in
    omega arith

-- the place is found
cleared : (c : goal.Else-mark-eq1) → c.args.mark ≡ 0
cleared c = let m = c.requires.2 in let n = c.if-mark-eq1.false in omega arith

pub overflow_sub-lost : goal.overflow_sub-lost
overflow_sub-lost c =
    count-found c.args.job c.requires.0 c.args.place c.requires.1 c.args.mark c.if-marks-place.false (cleared c)

pub bounds-lost-g-else-mark-eq1 : goal.bounds-lost-g-else-mark-eq1
bounds-lost-g-else-mark-eq1 c =
    group-fits c.args.job c.requires.0 c.args.place c.requires.1

pub overflow_sub-excess : goal.overflow_sub-excess
overflow_sub-excess c =
    subst (λ x. x ≤ c.args.job.excess) (sym c.from-more.ensures)
    (excess-found c.args.job c.requires.0 c.args.place c.requires.1 c.args.mark c.if-marks-place.false (cleared c))

pub returns-then-mark-eq1 : goal.returns-then-mark-eq1
returns-then-mark-eq1 c =
    let j = c.args.job in
    let p = c.args.place in
    let v = c.args.mark in
    ap (λ x. figured j (set j.marks p v) (set j.lost (p / j.w) (get_or j.lost (p / j.w) 0 + v)) (j.excess + x)) c.from-more.ensures
    ∙ sym (set-lost j c.requires.0 p c.requires.1 v c.if-marks-place.false c.if-mark-eq1.true)

pub returns-else-mark-eq1 : goal.returns-else-mark-eq1
returns-else-mark-eq1 c =
    let j = c.args.job in
    let p = c.args.place in
    let v = c.args.mark in
    ap (λ x. figured j (set j.marks p v) (set j.lost (p / j.w) (get_or j.lost (p / j.w) 0 + v - 1)) (j.excess - x)) c.from-more.ensures
    ∙ sym (set_found j c.requires.0 p c.requires.1 v c.if-marks-place.false (cleared c))
