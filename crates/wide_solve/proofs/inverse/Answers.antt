use Rattle.std.proofs.Common.{ℕ, arith}
use Rattle.wide_solve.specs.NormLaws.{inverse-by-norm}
use Rattle.wide_solve.proofs.inverse.Goals as goal

pub returns : goal.returns
returns c =
    let a : ℕ = c.args.a in
    cc (inverse-by-norm a (omega arith))
