use Rattle.text.specs.Lines.{contradictory_line}
use Rattle.text_lines.proofs.contradictory.Goals as goal

pub returns : goal.returns
unfolding contradictory_line
returns c = c.line_of.ensures
