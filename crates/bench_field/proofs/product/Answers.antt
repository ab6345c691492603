use Rattle.std.proofs.Common.{arith}
use Rattle.bench_field.specs.TablesLaws.{tables-product}
use Rattle.bench_field.proofs.product.Goals as goal

pub returns : goal.returns
returns c =
    cc (tables-product c.args.a c.args.b (omega arith) (omega arith))
