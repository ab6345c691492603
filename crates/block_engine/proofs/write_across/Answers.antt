use Rattle.std.proofs.Common.{◌≡◌, arith, rules, ℕ, length}
use Rattle.code.specs.LimitsLaws.{places-most}
use Rattle.block_laws.specs.RestLaws.{one_written, two-written, aimed-one, aimed-two}
use Rattle.block_laws.specs.AcrossLaws.{none_free, one-free-at, two-free-at, free-as}
use Rattle.block_laws.specs.ReadyLaws.{ready-all, ready-named}
use Rattle.block_engine.proofs.write_across.Goals as goal

pub returns-then-f-eq0 : goal.returns-then-f-eq0
returns-then-f-eq0 c =
    let a = c.args in
    let R = c.requires.ready in
    let F = free-as c.if-f-eq0.true c.free_places-f.ensures.free_places in
    none_free a.m a.w a.c R.good a.marks.now a.bound.now c.requires.bound_all R.marks-size R.low _ _ a.size a.blocks.now F

pub returns-then-f-eq1 : goal.returns-then-f-eq1
returns-then-f-eq1 c =
    let a = c.args in
    let R = c.requires.ready in
    let n = places-most R.good in
    let e = R.marks-size in
    let z = ready-all a.m a.w a.c a.size (length a.blocks.now) a.marks.now R in
    let F = free-as c.if-f-eq1.true c.free_places-f.ensures.free_places in
    let l = F.less 0 (omega arith) in
    one-free-at a.m a.w a.c R.good a.marks.now a.bound.now c.requires.bound_all R.marks-size R.low a.across c.requires.across_rows a.size
    a.blocks.now (λ i. (c.slice_known-1.given i).fits) _ _ _ F
    (one_written a.size a.blocks.now (length a.marks.now) _ _ _ _ _ (c.value_row-row.ensures.one_row (omega arith) l).here
    (c.write_sums.ensures.sums_written (ready-named a.m a.w a.c a.size a.blocks.now a.marks.now 1 _ R (search rules) (omega arith))
    (aimed-one a.size a.blocks.now (length a.marks.now) _ l (omega arith))))

pub returns : goal.returns
returns c =
    let a = c.args in
    let R = c.requires.ready in
    let n = places-most R.good in
    let e = R.marks-size in
    let z = ready-all a.m a.w a.c a.size (length a.blocks.now) a.marks.now R in
    let o = c.free_places-f.ensures.free_places in
    let l = o.most in
    let g = c.if-f-eq1.false in
    let h = c.if-f-eq0.false in
    let t : c.free_places-f.result.count ≡ 2 = omega arith in
    let F = free-as t c.free_places-f.ensures.free_places in
    let l = F.less 0 (omega arith) in
    let k = F.less 1 (omega arith) in
    let W = c.value_rows-rows.ensures.two_rows (omega arith) l k in
    two-free-at a.m a.w a.c R.good a.marks.now a.bound.now c.requires.bound_all R.marks-size R.low a.across c.requires.across_rows a.size
    a.blocks.now (λ i. (c.slice_known-1.given i).fits) _ _ _ F
    (two-written a.size a.blocks.now (length a.marks.now) _ _ _ _ _ _
    (λ h. let k : ◌≡◌ {A = ℕ} 1 0 = F.apart 1 0 (omega arith) (omega arith) h in omega arith) W.first W.second
    (c.write_sums-2.ensures.sums_written (ready-named a.m a.w a.c a.size a.blocks.now a.marks.now 2 _ R (search rules) (omega arith))
    (aimed-two a.size a.blocks.now (length a.marks.now) _ _ l k (omega arith))))
