use Rattle.std.proofs.Common.{refl, sym, ap, ◌∙◌, zero-add, arith}
use Rattle.text.specs.WrittenLaws.{written-nothing}
use Rattle.text_stream.specs.declared.Place.{Place}
use Rattle.text_stream.specs.StepsLaws.{closing-none, closing-some}
use Rattle.text_stream.proofs.finish.Goals as goal

pub returns-then-length-eq0 : goal.returns-then-length-eq0
returns-then-length-eq0 c =
    let e = closing-none c.args.state c.min-length.result c.min-length.ensures (omega arith) in
    record { size = rw e refl; output = rw e (sym (written-nothing _ 0)) }

pub end_line-end-requires : goal.end_line-end-requires
end_line-end-requires c =
    let l = c.min-length.ensures in
    record { length_in_bounds = omega arith; length_in_bounds_2 = omega arith }

pub returns : goal.returns
returns c =
    let s = c.args.state in
    let l = c.min-length in
    let e = c.end_line-end.ensures in
    let a : Place = record { length = l.result; used = 0; m = s.m; w = s.w; c = s.c } in
    let k = closing-some s a l.ensures refl refl refl (omega arith) (λ z. omega arith) in
    record { size = rw k (ap (λ (p : Place). p.used) e.place ∙ zero-add _); output = rw k e.output }
