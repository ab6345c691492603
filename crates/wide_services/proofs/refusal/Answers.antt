use Rattle.std.proofs.Common.{ap, ◌∙◌}
use Rattle.answers.specs.Answers.{refused_number}
use Rattle.answers.specs.AnswersLaws.{passed, else-first, else-second}
use Rattle.code_services.specs.Encode.{encode_refusal_in}
use Rattle.wide_services.proofs.refusal.Goals as goal

pub returns-in_err-sale_refusal : goal.returns-in_err-sale_refusal
unfolding encode_refusal_in
returns-in_err-sale_refusal c = ap refused_number (passed c.from_residual.ensures) ∙ else-first _ c.in_err-sale_refusal.ensures _

pub returns : goal.returns
unfolding encode_refusal_in
returns c = else-second c.in_ok-sale_refusal.ensures c.buffer_refusal.ensures
