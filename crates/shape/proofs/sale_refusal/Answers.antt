use Rattle.std.specs.Prelude.{◌≡◌, ℕ, Result, Ok, Err}
use Rattle.std.proofs.Common.{ap, ◌∙◌}
use Rattle.std.specs.Result.{result_and}
use Rattle.code.specs.Limits.{sale_refusal_in}
use Rattle.code.specs.Refusals.{◌or_else◌}
use Rattle.answers.specs.declared.Refusal.{Refusal}
use Rattle.answers.specs.Answers.{refused_number}
use Rattle.answers.specs.AnswersLaws.{else-first, else-second}
use Rattle.shape.proofs.sale_refusal.Goals as goal

-- the first refusal of two
both : (r s : Result Unit Refusal) {a b : ℕ} → refused_number r ≡ a → refused_number s ≡ b → refused_number (result_and r s) ≡ (a or_else b)
both (Ok tt) s e f = else-second e f
both (Err x) s e f = else-first x e _

pub returns : goal.returns
unfolding sale_refusal_in
returns g c = ap refused_number c.and.ensures ∙ both _ _ c.shape_refusal.ensures c.retired_refusal.ensures
