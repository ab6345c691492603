use Rattle.block_laws.specs.ReadyLaws.{restored-is}
use Rattle.block_engine.proofs.restore_by.Goals as goal

pub returns : goal.returns
returns c =
    let a = c.args in
    restored-is a.m a.w a.c a.size a.blocks.now a.marks.now _ c.requires.ready c.requires.bound_all _ _ c.write_across.ensures
    c.fill_groups.ensures
