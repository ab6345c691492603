use Rattle.std.proofs.Common.{sym, ap, ◌∙◌, arith}
use Rattle.code.specs.Limits.{GoodIn}
use Rattle.code.specs.LimitsLaws.{good-of-refusal}
use Rattle.answers.specs.AnswersLaws.{passed, given-refused}
use Rattle.answers.specs.PlainLaws.{shape-plain}
use Rattle.shape.specs.declared.Shape.{Shape}
use Rattle.shape.specs.Shapes.{byte_limits, made_at, made_of}
use Rattle.shape.proofs.Shape.new.Goals as goal

pub returns-in_err-shape_refusal : goal.returns-in_err-shape_refusal
unfolding made_of
returns-in_err-shape_refusal c =
    passed c.from_residual.ensures ∙ sym (given-refused _ c.in_err-shape_refusal.ensures (shape-plain byte_limits _ _ _))

-- past the test the shape is good
fair : (t : goal.In_ok-shape_refusal) → let a = t.args in GoodIn byte_limits a.m a.w a.c
fair t = let a = t.args in good-of-refusal a.m a.w a.c (sym t.in_ok-shape_refusal.ensures)

pub overflow_cast-s : goal.overflow_cast-s
overflow_cast-s c = let g = fair c in omega arith

pub overflow_cast-s-2 : goal.overflow_cast-s-2
overflow_cast-s-2 c = let g = fair c in omega arith

pub overflow_cast-s-3 : goal.overflow_cast-s-3
overflow_cast-s-3 c = let g = fair c in omega arith

pub returns : goal.returns
unfolding made_of
returns c =
    let a = c.args in
    let s : Shape = record { m = a.m; w = a.w; c = a.c } in
    ap (λ r. made_at r s) c.in_ok-shape_refusal.ensures
