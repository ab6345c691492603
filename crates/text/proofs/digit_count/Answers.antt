use Rattle.std.proofs.Common.{ap, length, arith}
use Rattle.text.proofs.CellSteps.{count-step}
use Rattle.text.specs.DecimalLaws.{digits-one, digits-most, digits-some}
use Rattle.text.proofs.digit_count.Goals as goal

pub overflow_add-n : goal.overflow_add-n
overflow_add-n c = let s = digits-some 9 c.loop-rest.rest in let m = digits-most 9 c.args.x in omega arith

pub loop-rest-preserved : goal.loop-rest-preserved
loop-rest-preserved c = let s = count-step c.loop-rest.rest (omega arith) (omega arith) in omega arith

pub returns : goal.returns
returns c = let n = ap length (digits-one 9 c.loop-rest.rest (omega arith)) in let m = digits-most 9 c.args.x in omega arith
