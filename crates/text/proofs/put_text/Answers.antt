use Rattle.std.proofs.Common.{arith, sym, ◌∙◌}
use Rattle.text.specs.WrittenLaws.{put-room, put-none}
use Rattle.text.proofs.put_text.Goals as goal

pub returns-then-out-at : goal.returns-then-out-at
returns-then-out-at c =
    let a = c.args in
    let p = put-none a.out.now a.at a.text.now (omega arith) in
    record { next = sym p.0; out = sym p.1 }

pub returns-then-out-at-2 : goal.returns-then-out-at-2
returns-then-out-at-2 c =
    let a = c.args in
    let p = put-none a.out.now a.at a.text.now (omega arith) in
    record { next = sym p.0; out = sym p.1 }

pub returns : goal.returns
returns c =
    let a = c.args in
    let p = put-room a.out.now a.at a.text.now (omega arith) in
    record { next = sym p.0; out = c.write.ensures ∙ sym p.1 }
