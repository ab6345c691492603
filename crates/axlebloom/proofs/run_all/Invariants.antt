-- A run that goes on has read and written bytes in parts, and at any time the front is written.
use Rattle.std.proofs.Common.{IfSome}
use Rattle.text_stream.specs.Points.{clear}
use Rattle.text_stream.specs.States.{point_of}
use Rattle.text_stream.specs.Whole.{at_once}
use Rattle.axlebloom.specs.Runs.{WritesFront}
use Rattle.axlebloom.proofs.Runs.{Went}
use Rattle.axlebloom.proofs.run_all.Given as goal

abbrev pub invariant-loop : goal.invariant-loop
invariant-loop g l =
    let r0 = g.I.Read.remaining l.initial.input in
    let r1 = g.I.Read.remaining l.input in
    let o0 = g.O.Write.contents l.initial.to.output in
    let o1 = g.O.Write.contents l.to.output in
    Went r0 r1 o0 o1 (clear 0 0 0) (point_of l.state) × IfSome r0 (λ xs. WritesFront o0 o1 (at_once (clear 0 0 0) xs))
