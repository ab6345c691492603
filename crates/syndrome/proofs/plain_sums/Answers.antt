use Rattle.std.proofs.Common.{ap₂, ◌∙◌, arith}
use Rattle.syndrome.specs.PartsLaws.{first_group, second_group}
use Rattle.syndrome.proofs.plain_sums.Goals as goal

pub returns : goal.returns
returns c =
    let a = c.args in
    let p = a.part.now in
    ap₂ (λ x y. record { first = x; second = y }) (c.first_sum-first.ensures ∙ first_group p (omega arith) a.c (omega arith) (omega arith))
    (c.second_sum-second.ensures ∙ second_group p (omega arith) a.c (omega arith) (omega arith))
