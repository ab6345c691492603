use Rattle.std.proofs.Common.{◌≡◌, sym, ap, ◌∙◌, true, false, not}
use Rattle.code.specs.Refusals.{refuse}
use Rattle.answers.specs.Answers.{refused_number}
use Rattle.answers.specs.AnswersLaws.{passed, else-first, else-second}
use Rattle.desk_record.specs.Desks.{is_open}
use Rattle.desk_record.specs.Refusal.{handle_refusal}
use Rattle.desk_record.proofs.handle_refusal.Goals as goal

pub returns-in_err-sound_refusal : goal.returns-in_err-sound_refusal
unfolding handle_refusal
returns-in_err-sound_refusal c = ap refused_number (passed c.from_residual.ensures) ∙ else-first _ c.in_err-sound_refusal.ensures _

pub returns-then-open : goal.returns-then-open
unfolding handle_refusal
returns-then-open c =
    let a = c.args in
    let e : is_open a.desk.now a.handle ≡ true = sym c.is_open-open.ensures ∙ c.if-open.true in
    else-second c.in_ok-sound_refusal.ensures (sym (ap (λ b. refuse 12 (not b)) e))

pub returns-else-open : goal.returns-else-open
unfolding handle_refusal
returns-else-open c =
    let a = c.args in
    let e : is_open a.desk.now a.handle ≡ false = sym c.is_open-open.ensures ∙ c.if-open.false in
    else-second c.in_ok-sound_refusal.ensures (sym (ap (λ b. refuse 12 (not b)) e))
