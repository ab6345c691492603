use Rattle.std.proofs.Common.{ap, ◌∙◌}
use Rattle.shape.specs.Shapes.{byte_limits}
use Rattle.code_loops.specs.RecoverLaws.{refused-by-word, refused-by-marks}
use Rattle.answers.specs.Answers.{refused_number}
use Rattle.answers.specs.AnswersLaws.{passed}
use Rattle.recover.proofs.refusal.Goals as goal

pub returns-in_err-word_refusal : goal.returns-in_err-word_refusal
returns-in_err-word_refusal c =
    ap refused_number (passed c.from_residual.ensures) ∙ refused-by-word byte_limits _ _ _ _ _ _ c.in_err-word_refusal.ensures

pub returns : goal.returns
returns c = refused-by-marks byte_limits _ _ _ _ _ c.in_ok-word_refusal.ensures c.beside_refusal.ensures
