use Rattle.std.proofs.Common.{refl, arith, length, ◌≤◌, take_all}
use Rattle.text_stream.specs.StepsLaws.{midway-first, midway-room, midway-more}
use Rattle.text_stream.proofs.take_all.Goals as goal

pub loop-byte-init : goal.loop-byte-init
loop-byte-init c =
    (c.requires.line_len.0, refl, midway-first _ c.args.line.now c.args.first _ c.requires.line_len.0 c.requires.line_len.1 c.requires.line_len.2)

pub take_byte-at-requires : goal.take_byte-at-requires
take_byte-at-requires c =
    let l = c.loop-byte in
    let k = midway-room c.args.bytes.now _ _ c.args.out.now l.line l.at l.out l.byte-index l.invariant.2 (omega arith) (omega arith) in
    record { line_len = (omega arith, k.0); length_in_bounds = k.1 }

pub loop-byte-preserved : goal.loop-byte-preserved
loop-byte-preserved c =
    let l = c.loop-byte in
    let t = c.take_byte-at in (
      omega arith,
      omega arith,
      midway-more c.args.bytes.now _ _ c.args.out.now l.line l.at l.out l.byte-index l.invariant.2 (omega arith) (omega arith) _ _ _ t.ensures,
    )

pub returns : goal.returns
returns c =
    let l = c.loop-byte in
    let b = c.args.bytes.now in
    let h : length b ≤ l.byte-index = omega arith in
    rw (take_all l.byte-index b h) at l.invariant.2.passed
