use Rattle.std.proofs.Common.{sym, ◌∙◌}
use Rattle.text.specs.Records.{name_kind}
use Rattle.text_lines.proofs.name_kind.Goals as goal

pub returns-then-is_same : goal.returns-then-is_same
unfolding name_kind
returns-then-is_same c = simp (sym c.is_same.ensures ∙ c.if-is_same.true)

pub returns-then-is_same-2 : goal.returns-then-is_same-2
unfolding name_kind
returns-then-is_same-2 c =
    simp (sym c.is_same.ensures ∙ c.if-is_same.false, sym c.is_same-2.ensures ∙ c.if-is_same-2.true)

pub returns-then-is_same-3 : goal.returns-then-is_same-3
unfolding name_kind
returns-then-is_same-3 c =
    simp (
      sym c.is_same.ensures ∙ c.if-is_same.false,
      sym c.is_same-2.ensures ∙ c.if-is_same-2.false,
      sym c.is_same-3.ensures ∙ c.if-is_same-3.true,
    )

pub returns : goal.returns
unfolding name_kind
returns c =
    simp (
      sym c.is_same.ensures ∙ c.if-is_same.false,
      sym c.is_same-2.ensures ∙ c.if-is_same-2.false,
      sym c.is_same-3.ensures ∙ c.if-is_same-3.false,
    )
