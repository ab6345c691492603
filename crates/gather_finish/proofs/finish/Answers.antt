use Rattle.std.proofs.Common.{refl, sym, ap, ◌∙◌}
use Rattle.answers.specs.Answers.{refused_number}
use Rattle.gather_finish.specs.FinishLaws.{finish-refused, finish-recovered}
use Rattle.gather_finish.proofs.finish.Goals as goal

pub returns-in-Err : goal.returns-in-Err
returns-in-Err c = finish-refused c.args.word.now c.args.gather _ (sym (ap refused_number c.in-Err.is) ∙ c.finish_refusal.ensures) _ refl

pub recover_copy-answer-requires : goal.recover_copy-answer-requires
recover_copy-answer-requires c = sym c.finish_refusal.ensures ∙ ap refused_number c.in_default.is

pub returns : goal.returns
returns c =
    let e = c.recover_copy-answer.ensures in
    finish-recovered c.args.word.now c.args.gather (sym c.finish_refusal.ensures ∙ ap refused_number c.in_default.is) _ _ _ e.word refl e.answer
