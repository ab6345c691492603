use Rattle.std.proofs.Common.{◌≡◌, sym, ap, ◌∙◌, ◌*◌, ◌-◌, ◌≤◌, mul-le-mul, arith, le-leb, leb}
use borrow.Author.Tests.{lt-leb}
use Rattle.code.specs.Refusals.{refuse}
use Rattle.shape.specs.Shapes.{byte_limits}
use Rattle.code.specs.Limits.{data_count, GoodIn}
use Rattle.code.specs.LimitsLaws.{good-of-word}
use Rattle.answers.specs.Answers.{refused_number}
use Rattle.answers.specs.AnswersLaws.{passed}
use Rattle.edit.specs.Edit.{number_refusal_in}
use Rattle.edit.proofs.Laws.{refused-sale, refused-length, refused-number}
use Rattle.edit.proofs.refusal.Goals as goal

pub returns-in_err-sale_refusal : goal.returns-in_err-sale_refusal
returns-in_err-sale_refusal c =
    let a = c.args in
    ap refused_number (passed c.from_residual.ensures) ∙ refused-sale a.m a.w a.c a.lent a.number _ c.in_err-sale_refusal.ensures

pub returns-in_err-word_refusal : goal.returns-in_err-word_refusal
returns-in_err-word_refusal c =
    let a = c.args in
    ap refused_number (passed c.from_residual-in_err-word_refusal.ensures)
    ∙ refused-length a.m a.w a.c a.lent a.number _ (sym c.in_ok-sale_refusal.ensures) c.in_err-word_refusal.ensures

pub overflow_sub-w : goal.overflow_sub-w
overflow_sub-w c =
    let fair : let a = c.args in GoodIn byte_limits a.m a.w a.c =
    let a = c.args in (good-of-word a.m a.w a.c a.lent (sym c.in_ok-word_refusal.ensures)).0 in
    let g = fair in omega (arith, g.wide)

pub overflow_mul-m : goal.overflow_mul-m
overflow_mul-m c =
    let fair : let a = c.args in GoodIn byte_limits a.m a.w a.c =
    let a = c.args in (good-of-word a.m a.w a.c a.lent (sym c.in_ok-word_refusal.ensures)).0 in
    let g = fair in
    let a = c.args in
    let h : a.w - a.c ≤ 16 = omega (arith, g.narrow) in
    let k : a.m * (a.w - a.c) ≤ 15 * 16 = mul-le-mul g.few h in
    omega arith

pub overflow_sub-m : goal.overflow_sub-m
overflow_sub-m c =
    let fair : let a = c.args in GoodIn byte_limits a.m a.w a.c =
    let a = c.args in (good-of-word a.m a.w a.c a.lent (sym c.in_ok-word_refusal.ensures)).0 in
    let g = fair in omega (arith, g.room)

pub returns-then-m-w : goal.returns-then-m-w
returns-then-m-w c =
    let numbered : let a = c.args in number_refusal_in byte_limits a.m a.w a.c a.lent a.number ≡ refuse 30 (leb (data_count a.m a.w a.c) a.number) =
    let a = c.args in refused-number a.m a.w a.c a.lent a.number (sym c.in_ok-sale_refusal.ensures) (sym c.in_ok-word_refusal.ensures) in
    let a = c.args in
    sym (numbered ∙ ap (refuse 30) (le-leb (data_count a.m a.w a.c) a.number c.if-m-w.true))

pub returns : goal.returns
returns c =
    let numbered : let a = c.args in number_refusal_in byte_limits a.m a.w a.c a.lent a.number ≡ refuse 30 (leb (data_count a.m a.w a.c) a.number) =
    let a = c.args in refused-number a.m a.w a.c a.lent a.number (sym c.in_ok-sale_refusal.ensures) (sym c.in_ok-word_refusal.ensures) in
    let a = c.args in
    sym (numbered ∙ ap (refuse 30) (lt-leb (data_count a.m a.w a.c) a.number c.if-m-w.false))
