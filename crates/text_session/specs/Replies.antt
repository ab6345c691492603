-- What a reply that is ready for output is.
use Rattle.std.specs.Prelude.{◌≡◌, ◌≤◌, length}
use Rattle.text.specs.Padded.{padded}
use Rattle.text_session.specs.declared.Reply.{Reply}
use Rattle.text_session.specs.Turn.{Turn}

-- the output line stands at the start of the row of bytes, with zeros after it; the shape in force stands beside it
pub record Replies (reply : Reply) (turn : Turn) : Type 0 where
  pub size : reply.length ≡ length turn.output
  pub most : reply.length ≤ 1024
  pub contents : reply.bytes ≡ padded 1024 turn.output
  pub groups : reply.m ≡ turn.m
  pub width : reply.w ≡ turn.w
  pub checks : reply.c ≡ turn.c
