use Rattle.std.proofs.Common.{sym, ◌∙◌, eq-eqb, ne_eqb}
use Rattle.marks.proofs.beside_refusal.Goals as goal

pub returns-then-marks-n : goal.returns-then-marks-n
returns-then-marks-n c = simp (ne_eqb _ _ c.if-marks-n.true)

pub returns-then-are_marks : goal.returns-then-are_marks
returns-then-are_marks c = simp (eq-eqb _ _ c.if-marks-n.false, sym c.are_marks.ensures ∙ c.if-are_marks.true)

pub returns-else-are_marks : goal.returns-else-are_marks
returns-else-are_marks c = simp (eq-eqb _ _ c.if-marks-n.false, sym c.are_marks.ensures ∙ c.if-are_marks.false)
