-- A write that failed wrote nothing.
use Rattle.std.specs.Io.KnownBytes.{Keeps}
use Rattle.program_io.proofs.write_some.Given as goal

abbrev pub invariant-loop : goal.invariant-loop
invariant-loop g l = Keeps (g.O.Write.contents l.initial.output) (g.O.Write.contents l.output)
