use Rattle.std.proofs.Common.{sym}
use Rattle.code.specs.RefusalsLaws.{or_else-first}
use Rattle.answers.proofs.or_else.Goals as goal

pub returns-then-first-ne0 : goal.returns-then-first-ne0
returns-then-first-ne0 c = sym (or_else-first _ _ c.if-first-ne0.true)
