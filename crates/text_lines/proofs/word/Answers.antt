use Rattle.std.proofs.Common.{arith}
use Rattle.text.specs.Lines.{word_line}
use Rattle.text_lines.proofs.word.Goals as goal

pub returns : goal.returns
unfolding word_line
returns c = record { whole = λ h. c.line_of.ensures; none = λ h. absurd (omega arith) }
