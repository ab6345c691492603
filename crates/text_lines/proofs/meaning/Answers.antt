use Rattle.std.proofs.Common.{sym, ◌∙◌}
use Rattle.text.specs.Fields.{meaning}
use Rattle.text_lines.proofs.meaning.Goals as goal

pub returns-then-is_same : goal.returns-then-is_same
unfolding meaning
returns-then-is_same c = simp (sym c.is_same.ensures ∙ c.if-is_same.true)

pub returns : goal.returns
unfolding meaning
returns c = simp (sym c.is_same.ensures ∙ c.if-is_same.false) c.number.ensures.value
