use Rattle.std.proofs.Common.{sym, List, ℕ, add-one, get_or}
use Rattle.binary_field.specs.XorLaws.{⊕-bits}
use Rattle.binary_field.specs.SumLaws.{sum-none, sum-suc}
use Rattle.gf256.proofs.sum.Goals as goal

pub loop-x-init : goal.loop-x-init
loop-x-init c = sym (sum-none _)

pub loop-x-preserved : goal.loop-x-preserved
loop-x-preserved c =
    let u : List ℕ = c.args.u.now in
    let i : ℕ = c.loop-x.x-index in cc (⊕-bits c.loop-x.r (get_or u i 0), sum-suc i (λ j. get_or u j 0), add-one i)
