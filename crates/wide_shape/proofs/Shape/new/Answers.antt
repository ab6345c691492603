use Rattle.std.proofs.Common.{sym, ap, ◌∙◌, arith}
use Rattle.code.specs.Limits.{GoodIn}
use Rattle.code.specs.LimitsLaws.{good-of-refusal}
use Rattle.answers.specs.AnswersLaws.{passed}
use Rattle.wide_shape.specs.Edition.{wide_limits}
use Rattle.wide_shape.specs.declared.Shape.{Shape}
use Rattle.wide_shape.specs.Shapes.{wide_made_at, wide_made_of}
use Rattle.wide_shape.specs.ShapesLaws.{refused-shape}
use Rattle.wide_shape.proofs.Shape.new.Goals as goal

pub returns-in_err-shape_refusal : goal.returns-in_err-shape_refusal
returns-in_err-shape_refusal c = passed c.from_residual.ensures ∙ refused-shape _ _ _ _ c.in_err-shape_refusal.ensures

-- past the test the shape is good
fair : (t : goal.In_ok-shape_refusal) → let a = t.args in GoodIn wide_limits a.m a.w a.c
fair t = let a = t.args in good-of-refusal a.m a.w a.c (sym t.in_ok-shape_refusal.ensures)

pub overflow_cast-s : goal.overflow_cast-s
overflow_cast-s c = let g = fair c in omega arith

pub overflow_cast-s-2 : goal.overflow_cast-s-2
overflow_cast-s-2 c = let g = fair c in omega arith

pub overflow_cast-s-3 : goal.overflow_cast-s-3
overflow_cast-s-3 c = let g = fair c in omega arith

pub returns : goal.returns
unfolding wide_made_of
returns c =
    let a = c.args in
    let s : Shape = record { m = a.m; w = a.w; c = a.c } in
    ap (λ r. wide_made_at r s) c.in_ok-shape_refusal.ensures
