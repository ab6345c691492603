-- What a state of the code stands for.
use Rattle.std.specs.Prelude.{take}
use Rattle.text_stream.specs.declared.State.{State}
use Rattle.text_stream.specs.Points.{Point}

-- the line so far is the front of the row of bytes, or the whole row where the length is past its end, as in no state that start or take gives
unfoldable pub point_of : State → Point
point_of s = record { line = take s.length s.line; m = s.m; w = s.w; c = s.c }
