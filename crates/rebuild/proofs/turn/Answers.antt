use Rattle.std.proofs.Common.{take}
use Rattle.rebuild.proofs.Parts.{came_on}
use Rattle.rebuild.proofs.turn.Goals as goal

pub returns-in-Ok-clause-read : goal.returns-in-Ok-clause-read
returns-in-Ok-clause-read g c = (
  take c.in-Ok.count c.read_some.new.buffer,
  c.in-Ok.ensures.bytes.0,
  came_on c.args.used c.in-Ok.count _ c.args.input.now c.read_some.new.buffer _ c.settle.ensures.used c.requires c.in-Ok.ensures.bound.0,
)
