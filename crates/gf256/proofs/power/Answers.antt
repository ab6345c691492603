use Rattle.std.proofs.Common.{sym, add-one}
use Rattle.binary_field.specs.PowerLaws.{power_zero, power-suc}
use Rattle.gf256.proofs.power.Goals as goal

pub loop-init : goal.loop-init
loop-init c = sym (power_zero 8 285 _)

pub loop-preserved : goal.loop-preserved
loop-preserved c = cc (power-suc 8 285 c.args.a c.loop.counter, add-one c.loop.counter)
