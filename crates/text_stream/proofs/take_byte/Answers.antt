use Rattle.std.proofs.Common.{arith}
use Rattle.text_stream.specs.StepsLaws.{taken-feed, taken-kept, taken-past}
use Rattle.text_stream.proofs.take_byte.Goals as goal

pub returns-then-byte-eq10 : goal.returns-then-byte-eq10
returns-then-byte-eq10 c =
    let e = c.end_line.ensures in
    taken-feed _ c.args.line.now c.args.at _ c.requires.line_len.0 c.requires.line_len.1 (omega arith) _ _ e.place e.output

pub returns-then-length-lt1025 : goal.returns-then-length-lt1025
returns-then-length-lt1025 c =
    taken-kept _ c.args.line.now c.args.at _ c.requires.line_len.0 c.requires.line_len.1 (λ z. omega arith) (omega arith)

pub returns : goal.returns
returns c =
    taken-past _ c.args.line.now c.args.at _ c.requires.line_len.0 c.requires.line_len.1 (λ z. omega arith) (omega arith)
