use Rattle.std.proofs.Common.{sym, ap, ◌∙◌, ◌*◌, ◌≤◌, mul-le-mul_left, le_of_lt, arith, rules}
use Rattle.code.specs.Refusals.{◌or_else◌}
use Rattle.answers.specs.Answers.{refused_number}
use Rattle.answers.specs.AnswersLaws.{passed, else-first}
use Rattle.gather_finish.specs.Finish.{finish_refusal}
use Rattle.gather_finish.specs.FinishLaws.{finish-other, finish-same}
use Rattle.gather_finish.proofs.finish_refusal.Goals as goal

pub overflow_mul-n : goal.overflow_mul-n
overflow_mul-n c =
    let g = c.args.gather in
    let l : g.m * g.w ≤ g.m * 256 = mul-le-mul_left g.m (le_of_lt (search rules)) in
    omega arith

pub returns-in_err-refusal : goal.returns-in_err-refusal
unfolding finish_refusal
returns-in_err-refusal c = ap refused_number (passed c.from_residual.ensures) ∙ else-first _ c.in_err-refusal.ensures _

pub returns-then-size-n : goal.returns-then-size-n
returns-then-size-n c = c.in_ok-refusal.ensures ∙ sym (finish-same c.args.size c.args.gather c.if-size-n.true)

pub returns-else-size-n : goal.returns-else-size-n
returns-else-size-n c =
    let a = c.args in
    ap (λ n. n or_else 5) c.in_ok-refusal.ensures ∙ sym (finish-other a.size a.gather c.if-size-n.false)
