use Rattle.std.proofs.Common.{sym}
use Rattle.code.specs.LimitsLaws.{sure-narrow, sure-wide}
use Rattle.shape.proofs.sure_count.Goals as goal

pub returns-then-w-c : goal.returns-then-w-c
returns-then-w-c c = sym (sure-narrow _ _ c.if-w-c.true)

pub returns-else-w-c : goal.returns-else-w-c
returns-else-w-c c = sym (sure-wide _ _ c.if-w-c.false)
