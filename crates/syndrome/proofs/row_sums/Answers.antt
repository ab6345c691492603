use Rattle.std.proofs.Common.{ap₂, ◌∙◌, arith}
use Rattle.syndrome.specs.PartsLaws.{first_group, second_group, front-group}
use Rattle.syndrome.proofs.row_sums.Goals as goal

pub returns : goal.returns
returns c =
    let a = c.args in
    let P = c.padded-p.ensures in
    let Q = c.padded-q.ensures in
    let n = P.size in
    let o = Q.size in
    ap₂ (λ v u. record { first = v; second = u })
    (c.first_sum-first.ensures ∙ first_group c.padded-p.result (omega arith) a.c (omega arith) (omega arith)
    ∙ front-group a.x _ a.w P (omega arith) (omega arith) _)
    (c.second_sum-second.ensures ∙ second_group c.padded-q.result (omega arith) a.c (omega arith) (omega arith)
    ∙ front-group a.y _ a.w Q (omega arith) (omega arith) _)
