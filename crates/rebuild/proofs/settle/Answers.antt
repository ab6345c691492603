use mathlib.Core.Logic.{inr}
use Rattle.rebuild.proofs.Parts.{told, told_front}
use Rattle.rebuild.proofs.settle.Goals as goal

pub returns-then-r-ne0-clause-told : goal.returns-then-r-ne0-clause-told
returns-then-r-ne0-clause-told g c = λ t. told _ _ _ _ c.refusal_so_far-r.ensures c.if-r-ne0.true (c.refuse-told.ensures.all t _ c.refused.ensures)

pub returns-then-r-ne0-clause-front : goal.returns-then-r-ne0-clause-front
returns-then-r-ne0-clause-front g c = inr (told_front _ _ _ _ c.refusal_so_far-r.ensures c.if-r-ne0.true (c.refuse-told.ensures.front _ c.refused.ensures))
