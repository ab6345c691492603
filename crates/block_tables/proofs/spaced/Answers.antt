use Rattle.std.proofs.Common.{ap₂, ◌∙◌, ℕ, ◌+◌, ◌*◌, ◌/◌, ◌%◌, ◌≤◌, arith, get_or}
use Rattle.block_tables.specs.Table.{halves}
use Rattle.block_tables.specs.SelectorLaws.{spaced-halves, spaced-8}
use Rattle.block_tables.proofs.spaced.Goals as goal

pub overflow_mul-result : goal.overflow_mul-result
overflow_mul-result c =
    let k : ℕ = c.args.k in
    let e = spaced-halves k (omega arith) in
    let m = spaced-8 k in
    let h = c.half.ensures in
    let l : c.half.result * 65536 ≤ get_or halves (k % 16) 0 * 65536 + get_or halves (k / 16) 0 = omega arith in
    omega arith

pub overflow_add-result : goal.overflow_add-result
overflow_add-result c =
    let k : ℕ = c.args.k in
    let e = spaced-halves k (omega arith) in
    let m = spaced-8 k in
    let h = c.half.ensures in
    let i = c.half-2.ensures in
    omega arith

pub returns : goal.returns
returns c =
    let k : ℕ = c.args.k in
    let e = ap₂ (λ a b. a * 65536 + b) c.half.ensures c.half-2.ensures ∙ spaced-halves k (omega arith) in
    (e, rw e (spaced-8 k))
