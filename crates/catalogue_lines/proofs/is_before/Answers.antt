use Rattle.std.proofs.Common.{arith, refl, sym, ◌∙◌}
use Rattle.catalogue_lines.proofs.Steps.{before_more, before-differ, before-end}
use Rattle.catalogue_lines.proofs.is_before.Goals as goal

pub returns-then-name-i : goal.returns-then-name-i
returns-then-name-i c =
    let l = c.loop-i in
    let a = c.args in
    sym (before-differ a.name.now a.other.now l.i (omega arith) (omega arith) c.if-name-i.true) ∙ l.invariant.2

pub loop-i-preserved : goal.loop-i-preserved
loop-i-preserved c =
    let l = c.loop-i in
    let a = c.args in
    (omega arith, omega arith, before_more a.name.now a.other.now l.i (omega arith) (omega arith) c.if-name-i.false ∙ l.invariant.2)

pub returns : goal.returns
returns c =
    let l = c.loop-i in
    let a = c.args in
    sym (before-end a.name.now a.other.now l.i (omega arith) (omega arith) (λ k. omega arith)) ∙ l.invariant.2
