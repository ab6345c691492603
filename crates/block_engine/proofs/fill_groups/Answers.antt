use Rattle.std.proofs.Common.{List, ℕ, ◌*◌, arith}
use Rattle.code.specs.StretchLaws.{stretch-length}
use Rattle.code.specs.LentLaws.{stretch-lent}
use Rattle.block_laws.specs.PassLaws.{given-end, given-few, groups-more}
use Rattle.block_engine.proofs.fill_groups.Goals as goal

pub fill_group-requires : goal.fill_group-requires
fill_group-requires c =
    let a = c.args in
    let k : List ℕ = a.bound.now in
    let g : ℕ = c.loop-g.g in
    let G = c.requires.given in
    let E = given-end a.m a.w a.c a.size g a.blocks.now k G (omega arith) in
    let q = G.good in
    let f = given-few a.m a.w a.c a.size g a.blocks.now k G (omega arith) in
    let l = c.loop-g.invariant.long in
    let e = E.1 in
    let n = G.most in
    record {
      in_bounds = rw (stretch-lent a.w g k, stretch-length a.w g k E.0) (omega arith, omega arith, omega arith, f);
      g_bound = rw (stretch-lent a.w g k, stretch-length a.w g k E.0) (omega arith, omega arith, omega arith);
      group_kept =
          rw (stretch-lent a.w g k, stretch-lent (4 * a.w) g a.kept.now, stretch-length a.w g k E.0)
          (c.requires.kept_up_to.here g (omega arith));
    }

pub loop-g-preserved : goal.loop-g-preserved
loop-g-preserved c =
    let a = c.args in
    let k : List ℕ = a.bound.now in
    let g : ℕ = c.loop-g.g in
    let E = given-end a.m a.w a.c a.size g a.blocks.now k c.requires.given (omega arith) in
    groups-more a.w a.c a.size g k a.blocks.now c.loop-g.blocks _ c.loop-g.invariant
    (rw (stretch-lent a.w g k, stretch-length a.w g k E.0) at c.fill_group.ensures)
