use Rattle.std.proofs.Common.{◌≡◌, sym, ap, ◌∙◌, arith, length}
use Rattle.counting.specs.Count.{count_below}
use Rattle.counting.specs.CountLaws.{total-none}
use Rattle.code.specs.Marks.{lost}
use Rattle.code_engine.specs.GroupsLaws.{lost-whole}
use Rattle.marks.proofs.Laws.{more_lost}
use Rattle.marks.proofs.few_lost.Goals as goal

pub loop-mark-init : goal.loop-mark-init
loop-mark-init c = (omega arith, sym (total-none _))

pub loop-mark-preserved : goal.loop-mark-preserved
loop-mark-preserved c =
    let l = c.loop-mark in
    more_lost c.args.part.now l.mark-index l.n c.from-n.result l.invariant.0 l.invariant.1 c.from-n.ensures

pub returns : goal.returns
returns c =
    let p = c.args.part.now in
    let e : c.loop-mark.mark-index ≡ length p = omega arith in
    c.loop-mark.invariant.1 ∙ ap (λ n. count_below n (lost p)) e ∙ lost-whole p
