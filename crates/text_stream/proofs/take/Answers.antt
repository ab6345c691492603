use Rattle.std.proofs.Common.{refl, arith}
use Rattle.text_stream.specs.declared.Place.{Place}
use Rattle.text_stream.specs.StepsLaws.{took}
use Rattle.text_stream.proofs.take.Goals as goal

pub take_all-last-requires : goal.take_all-last-requires
take_all-last-requires c =
    record { line_len = (omega arith, omega arith, refl); room = omega arith }

pub returns : goal.returns
returns c =
    let s = c.args in
    let l = c.min in
    let n = c.min-n in
    let f : Place = record { length = l.result; used = 0; m = s.state.m; w = s.state.w; c = s.state.c } in
    let t = took s.state f l.ensures refl refl refl (omega arith)
    s.input.now s.count n.result (omega arith) n.ensures _ _ _ _ c.take_all-last.ensures in
    record { state = t.0; size = t.1; output = t.2; fits = t.3 }
