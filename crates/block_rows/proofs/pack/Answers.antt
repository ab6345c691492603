use Rattle.std.proofs.Common.{◌≡◌, ap, ◌∙◌, List, ℕ, suc, ◌≤◌, ◌*◌, suc-mul, arith, length}
use Rattle.code.specs.StretchLaws.{with-length, stretch-length}
use Rattle.code.specs.LentLaws.{stretch-lent, with-lent}
use Rattle.code_engine.specs.Elimination.{entry}
use Rattle.block_laws.specs.Group.{masked}
use Rattle.block_laws.specs.StepsLaws.{row_inside, each-stretch}
use Rattle.block_rows.proofs.pack.Goals as goal

pub loop-r-init : goal.loop-r-init
loop-r-init c = (omega arith, λ k l. absurd (omega arith))

pub overflow_mul-a : goal.overflow_mul-a
overflow_mul-a c =
    let i = row_inside c.loop-r.r 4 (length c.args.bound.now) (omega arith) in
    omega arith

pub overflow_add-a : goal.overflow_add-a
overflow_add-a c =
    let i = row_inside c.loop-r.r 4 (length c.args.bound.now) (omega arith) in
    omega arith

pub slice_bounds-pack_row-end : goal.slice_bounds-pack_row-end
slice_bounds-pack_row-end c =
    let i = row_inside c.loop-r.r 4 (length c.args.bound.now) (omega arith) in
    omega arith

pub pack_row-requires : goal.pack_row-requires
pack_row-requires c =
    let w : ℕ = length c.args.bound.now in
    let i = row_inside c.loop-r.r 4 w (omega arith) in
    let e = suc-mul c.loop-r.r w in
    (omega arith, ap length (stretch-lent w c.loop-r.r c.loop-r.out) ∙ stretch-length w c.loop-r.r c.loop-r.out (omega arith))

pub loop-r-preserved : goal.loop-r-preserved
loop-r-preserved c =
    let k : List ℕ = c.args.bound.now in
    let w : ℕ = length k in
    let r : ℕ = c.loop-r.r in
    let x : List ℕ = c.loop-r.out in
    let y : List ℕ = c.pack_row.new.out in
    let i = row_inside r 4 w (omega arith) in
    let e = suc-mul r w in
    let fits : suc r * w ≤ length x = omega arith in
    let long : length y ≡ w = c.pack_row.ensures.out_len_unchanged ∙ ap length (stretch-lent w r x) ∙ stretch-length w r x fits in (
      rw (with-lent w r x y) (with-length w r x fits y long ∙ c.loop-r.invariant.0),
      rw (with-lent w r x y)
          (each-stretch w r x y fits long (λ n j b. b ≡ masked k (entry c.args.rows n) j) c.loop-r.invariant.1 c.pack_row.ensures.by_index),
    )

pub returns : goal.returns
returns c = let l = c.loop-r in record { out_len = l.invariant.0; by_index = λ k h. l.invariant.1 k (omega arith) }
