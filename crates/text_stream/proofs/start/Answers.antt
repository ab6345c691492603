use Rattle.std.proofs.Common.{refl, arith}
use Rattle.text_stream.specs.States.{point_of}
use Rattle.text_stream.proofs.start.Goals as goal

pub returns : goal.returns
unfolding point_of
returns c = record { state = refl; fits = omega arith }
