use Rattle.block_input.proofs.refusal_so_far.Goals as goal

pub returns : goal.returns
returns c = c.read_head-head.ensures.refusal
