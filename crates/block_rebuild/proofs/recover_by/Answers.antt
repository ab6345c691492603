use Rattle.std.proofs.Common.{ap, ◌∙◌}
use Rattle.answers.specs.Answers.{mending_at}
use Rattle.byte_edition.specs.Edition.{byte_edition}
use Rattle.code_services.specs.AnsweredLaws.{answers_at}
use Rattle.code_services.specs.Recover.{recover_in}
use Rattle.block_rebuild.proofs.recover_by.Goals as goal

pub returns : goal.returns
returns c =
    let a = c.args in
    let e = c.copy_from_slice.ensures.after in
    let E = c.recover.ensures in record {
      value = answers_at E.answer ∙ ap (λ x. mending_at (recover_in byte_edition a.m a.w a.c a.word.now x).number
          (recover_in byte_edition a.m a.w a.c a.word.now x).group) e;
      word_after = E.word ∙ ap (λ x. (recover_in byte_edition a.m a.w a.c a.word.now x).word) e;
    }
