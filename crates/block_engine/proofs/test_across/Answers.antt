use Rattle.std.proofs.Common.{◌≡◌, arith, rules, length}
use Rattle.code.specs.LimitsLaws.{places-most}
use Rattle.block_laws.specs.RestLaws.{rows-limit, row-limit}
use Rattle.block_laws.specs.AcrossLaws.{none-limit, one-limit, two-limit, free-as}
use Rattle.block_laws.specs.ReadyLaws.{ready-named}
use Rattle.block_engine.proofs.test_across.Goals as goal

pub returns-then-f-eq0 : goal.returns-then-f-eq0
returns-then-f-eq0 c =
    let a = c.args in
    let R = c.requires.ready in
    let A = c.requires.across_rows in
    let F = free-as c.if-f-eq0.true c.free_places-f.ensures.free_places in
    none-limit a.m a.w a.c R.good a.marks.now a.bound.now c.requires.bound_all R.marks-size R.low a.across A a.size
    a.blocks.now (λ i. (c.shared_slice_known-1.given i).fits) _ _ a.limit _ F
    (rows-limit a.size a.blocks.now (length a.marks.now) a.across a.limit _
    (c.zero_until.ensures.zero_until (ready-named a.m a.w a.c a.size a.blocks.now a.marks.now 2 a.across R A.long (omega arith))
    c.requires.limit_le_size))

pub returns-then-f-eq1 : goal.returns-then-f-eq1
returns-then-f-eq1 c =
    let a = c.args in
    let R = c.requires.ready in
    let A = c.requires.across_rows in
    let F = free-as c.if-f-eq1.true c.free_places-f.ensures.free_places in
    let n = places-most R.good in
    let e = R.marks-size in
    one-limit a.m a.w a.c R.good a.marks.now a.bound.now c.requires.bound_all R.marks-size R.low a.across A a.size
    a.blocks.now (λ i. (c.shared_slice_known-1.given i).fits) _ _
    a.limit _ F
    (row-limit a.size a.blocks.now (length a.marks.now) _ _ (c.test_row-row.ensures.one_row (omega arith) (F.less 0 (omega arith))).here a.limit _
    (c.zero_until-then-f-eq1.ensures.zero_until (ready-named a.m a.w a.c a.size a.blocks.now a.marks.now 1 _ R (search rules) (omega arith))
    c.requires.limit_le_size))

pub returns : goal.returns
returns c =
    let a = c.args in
    let R = c.requires.ready in
    let A = c.requires.across_rows in
    let o = c.free_places-f.ensures.free_places in
    let t : c.free_places-f.result.count ≡ 2 = (let l = o.most in let x = c.if-f-eq1.false in let y = c.if-f-eq0.false in omega arith) in
    let F = free-as t c.free_places-f.ensures.free_places in
    two-limit a.m a.w a.c R.good a.marks.now a.bound.now c.requires.bound_all R.marks-size R.low a.across A a.size
    a.blocks.now (λ i. (c.shared_slice_known-1.given i).fits) _ _
    a.limit F
