use Rattle.std.proofs.Common.{◌≡◌, length}
use Rattle.text_stream.specs.Places.{point_at}
use Rattle.text_stream.specs.Steps.{Midway}
use Rattle.text_stream.proofs.take_all.Given as goal

abbrev pub invariant-loop-byte : goal.invariant-loop-byte
invariant-loop-byte l =
    (length l.line ≡ 1025) × (length l.out ≡ length l.initial.out) × Midway l.bytes (point_at l.initial.line l.initial.at) l.initial.at.length l.initial.out l.line l.at l.out l.byte-index
