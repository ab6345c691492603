use Rattle.std.proofs.Common.{arith}
use Rattle.catalogue_lines.specs.SpliceLaws.{four-put}
use Rattle.catalogue_lines.proofs.put_four.Goals as goal

pub returns : goal.returns
returns c =
    let a = c.args in
    let f = c.ranges in
    let n₁ = c.put_number-b in
    let n₂ = c.put_number-c in
    let n₃ = c.put_number-d in
    let n₄ = c.put_number in
    let t =
    four-put a.out.now n₁.new.out n₂.new.out n₃.new.out n₄.new.out a.at n₁.result n₂.result n₃.result n₄.result a.first
    a.second a.third a.fourth
    c.requires
    (omega arith) (omega arith) (omega arith) (omega arith) n₁.ensures.next n₁.ensures.out n₂.ensures.next n₂.ensures.out n₃.ensures.next
    n₃.ensures.out
    n₄.ensures.next n₄.ensures.out in
    record { next = t.0; out = t.1 }
