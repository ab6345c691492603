use Rattle.code_engine.specs.BoundGroupsLaws.{bound-copy}
use Rattle.block_engine.proofs.bind.Goals as goal

pub returns : goal.returns
returns c = bound-copy c.requires.good_in c.requires.marks_len.0 c.copy_from_slice.ensures.after c.clear_free.ensures
