use Rattle.std.proofs.Common.{◌≡◌, List, ℕ, ◌*◌, arith}
use Rattle.code.specs.StretchLaws.{stretch-length}
use Rattle.code.specs.LentLaws.{stretch-lent}
use Rattle.block_laws.specs.StepsLaws.{limit-next}
use Rattle.block_laws.specs.PassLaws.{given-end, given-few}
use Rattle.block_engine.proofs.test_groups.Goals as goal

pub test_group-limit-requires : goal.test_group-limit-requires
test_group-limit-requires c =
    let a = c.args in
    let k : List ℕ = a.bound.now in
    let g : ℕ = c.loop-g.g in
    let G = c.requires.given in
    let E = given-end a.m a.w a.c a.size g a.blocks.now k G (omega arith) in
    let q = G.good in
    let f = given-few a.m a.w a.c a.size g a.blocks.now k G (omega arith) in
    record {
      in_bounds = rw (stretch-lent a.w g k, stretch-length a.w g k E.0) (omega arith, omega arith, omega arith, f);
      g_bound = rw (stretch-lent a.w g k, stretch-length a.w g k E.0) (omega arith, E.1, G.most, c.loop-g.invariant.most);
      group_kept =
          rw (stretch-lent a.w g k, stretch-lent (4 * a.w) g a.kept.now, stretch-length a.w g k E.0)
          (c.requires.kept_up_to.here g (omega arith));
    }

pub loop-g-preserved : goal.loop-g-preserved
loop-g-preserved c =
    let a = c.args in
    let k : List ℕ = a.bound.now in
    let g : ℕ = c.loop-g.g in
    let E = given-end a.m a.w a.c a.size g a.blocks.now k c.requires.given (omega arith) in
    limit-next g _ c.loop-g.invariant (rw (stretch-lent a.w g k, stretch-length a.w g k E.0) at c.test_group-limit.ensures)

pub returns : goal.returns
returns c =
    let e : c.loop-g.g ≡ c.args.m = omega arith in
    rw e at c.loop-g.invariant
