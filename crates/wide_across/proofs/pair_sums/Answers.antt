use Rattle.std.proofs.Common.{sym, List, ℕ, ◌+◌, ◌*◌, add-one, get_or}
use Rattle.binary_field.specs.XorLaws.{⊕-bits}
use Rattle.binary_field.specs.SumLaws.{sum-none, sum-suc}
use Rattle.wide_across.proofs.pair_sums.Goals as goal

pub loop-i-init : goal.loop-i-init
loop-i-init c = (sym (sum-none _), sym (sum-none _))

pub loop-i-preserved : goal.loop-i-preserved
loop-i-preserved c =
    let z : List ℕ = c.args.z.now in
    let i : ℕ = c.loop-i.i in (
      cc (⊕-bits c.loop-i.first (get_or z (2 * i) 0), sum-suc i (λ j. get_or z (2 * j) 0), add-one i),
      cc (⊕-bits c.loop-i.second (get_or z (2 * i + 1) 0), sum-suc i (λ j. get_or z (2 * j + 1) 0), add-one i),
    )
