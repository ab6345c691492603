use Rattle.std.proofs.Common.{ap, ◌∙◌}
use Rattle.answers.specs.Answers.{refused_number}
use Rattle.answers.specs.AnswersLaws.{passed, else-first, else-second}
use Rattle.code_services.specs.Places.{check_marks_refusal_in}
use Rattle.places.proofs.check_marks_refusal.Goals as goal

pub returns-in_err-sale_refusal : goal.returns-in_err-sale_refusal
unfolding check_marks_refusal_in
returns-in_err-sale_refusal g c = ap refused_number (passed c.from_residual.ensures) ∙ else-first _ c.in_err-sale_refusal.ensures _

pub returns : goal.returns
unfolding check_marks_refusal_in
returns g c = else-second c.in_ok-sale_refusal.ensures c.word_refusal.ensures
