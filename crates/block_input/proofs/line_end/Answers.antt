use Rattle.std.proofs.Common.{◌∙◌, zero-add}
use Rattle.text.specs.Fields.{end_of}
use Rattle.block_input.proofs.line_end.Goals as goal

pub returns : goal.returns
unfolding end_of
returns c = c.part_end.ensures.end ∙ zero-add _
