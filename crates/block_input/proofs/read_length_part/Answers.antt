use Rattle.block_input.specs.LinesLaws.{line-lent}
use Rattle.block_input.specs.HeadLaws.{length-read}
use Rattle.block_input.proofs.read_length_part.Goals as goal

pub slice_bounds-read_length-end : goal.slice_bounds-read_length-end
slice_bounds-read_length-end c =
    line-lent c.args.rest.now c.line_end-end.result c.line_end-end.ensures

pub returns : goal.returns
returns c =
    let a = c.args in
    length-read a.rest.now c.line_end-end.result c.line_end-end.ensures c.next_start-start.result c.next_start-start.ensures
    a.ended c.is_settled-settled.result c.is_settled-settled.ensures c.read_length-size.result c.refusal_if-refusal.result c.refusal_if.result
    c.read_length-size.ensures c.refusal_if-refusal.ensures c.refusal_if.ensures
