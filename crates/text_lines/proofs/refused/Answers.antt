use Rattle.text.specs.Lines.{refused_line}
use Rattle.text_lines.proofs.refused.Goals as goal

pub returns : goal.returns
unfolding refused_line
returns c = c.line_of.ensures
