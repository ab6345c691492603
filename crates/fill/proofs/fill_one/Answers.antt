use Rattle.fill.proofs.fill_one.Goals as goal

-- src/lib.rt:88:1
pub returns : goal.returns
returns c = cc c.sum.ensures
