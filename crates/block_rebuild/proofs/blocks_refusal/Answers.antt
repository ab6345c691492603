use Rattle.std.proofs.Common.{◌*◌, ◌≤◌, mul-le-mul_right, one-mul, arith}
use Rattle.block_rebuild.proofs.RebuildLaws.{blocks-empty, blocks-many, blocks-other, blocks-fit}
use Rattle.block_rebuild.proofs.blocks_refusal.Goals as goal

pub returns-then-size-eq0 : goal.returns-then-size-eq0
returns-then-size-eq0 c = let a = c.args in blocks-empty a.n a.size a.lent (omega arith)

pub returns-then-size-gt65536 : goal.returns-then-size-gt65536
returns-then-size-gt65536 c =
    let k : 1 * c.args.size ≤ c.args.n * c.args.size = mul-le-mul_right c.args.size c.requires.0 in
    let o = one-mul c.args.size in
    blocks-many c.args.n c.args.size c.args.lent (omega arith)

pub overflow_mul-all : goal.overflow_mul-all
overflow_mul-all c =
    let k : c.args.n * c.args.size ≤ 240 * c.args.size = mul-le-mul_right c.args.size c.requires.1 in
    omega arith

pub returns-then-all-gt65536 : goal.returns-then-all-gt65536
returns-then-all-gt65536 c = let a = c.args in blocks-many a.n a.size a.lent (omega arith)

pub returns-then-lent-all : goal.returns-then-lent-all
returns-then-lent-all c = let a = c.args in blocks-fit a.n a.size a.lent (omega arith) (λ z. omega arith) (omega arith)

pub returns-else-lent-all : goal.returns-else-lent-all
returns-else-lent-all c = let a = c.args in blocks-other a.n a.size a.lent (λ z. omega arith)
