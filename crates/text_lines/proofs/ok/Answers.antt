use Rattle.text.specs.Lines.{ok_line}
use Rattle.text_lines.proofs.ok.Goals as goal

pub returns : goal.returns
unfolding ok_line
returns c = c.line_of.ensures
