use Rattle.std.proofs.Common.{◌≡◌, refl, sym, ap, ◌∙◌, subst, Err}
use Rattle.std.specs.Result.{IsErr}
use Rattle.answers.specs.declared.Refusal.{Refusal}
use Rattle.answers.specs.Answers.{mending_at, mending_group}
use Rattle.code.specs.Outcome.{Outcome}
use Rattle.block_rebuild.specs.Rebuild.{word_outcome}
use Rattle.block_rebuild.proofs.group_at.Goals as goal

pub unwrap_err-requires : goal.unwrap_err-requires
unwrap_err-requires c =
    let a = c.args in
    let o : Outcome = word_outcome a.m a.w a.c a.size a.blocks.now a.marks.now a.x in
    let e = c.recover_word.ensures.value ∙ ap (λ k. mending_at k o.group) c.requires.x_value in
    subst IsErr (sym e) refl

pub returns : goal.returns
returns c =
    let a = c.args in
    let o : Outcome = word_outcome a.m a.w a.c a.size a.blocks.now a.marks.now a.x in
    let e = c.recover_word.ensures.value ∙ ap (λ k. mending_at k o.group) c.requires.x_value in
    sym (ap mending_group (sym e ∙ c.unwrap_err.ensures ∙ ap Err c.in-Contradictory.is))

pub unreachable-requires : goal.unreachable-requires
unreachable-requires c =
    let a = c.args in
    let o : Outcome = word_outcome a.m a.w a.c a.size a.blocks.now a.marks.now a.x in
    let e = c.recover_word.ensures.value ∙ ap (λ k. mending_at k o.group) c.requires.x_value in
    let i : Err c.unwrap_err.result ≡ Err (Refusal.Contradictory o.group) = sym c.unwrap_err.ensures ∙ e in
    absurd (c.in_default.not-Contradictory o.group cc)
