use Rattle.std.proofs.Common.{rules, ◌∙◌, ◌≤◌, subst}
use Rattle.rebuild.proofs.Parts.{comes, told_from, front_from, all_from, fronts_from, full, full_room}
use Rattle.rebuild.proofs.run_all.Goals as goal

pub loop-preserved : goal.loop-preserved
loop-preserved g c =
    let (long, within, came, more, whole, told, front) = c.loop.invariant in
    let e = c.turn-run.ensures in
    let still = more (search rules) in
    let comes₂ = comes _ _ _ _ _ came e.read in (
      e.same_length ∙ long,
      subst (λ n. c.turn-run.result.used ≤ n) long e.within,
      comes₂,
      (λ t. e.more t ∙ still),
      (λ t. ((e.whole t).0 ∙ still, full _ _ _ long (e.whole t).1)),
      (λ t. told_from g.O.Write.contents _ _ _ still _ _ _ comes₂ (e.told t)),
      front_from g.O.Write.contents _ _ _ still _ _ _ comes₂ e.front,
    )

pub returns-then-run-clause-whole : goal.returns-then-run-clause-whole
returns-then-run-clause-whole g c = λ t.
    let (long, within, came, more, whole, told, front) = c.loop.invariant in
    let w = whole (search rules) in
    all_from g.O.Write.contents _ _ _ w.0 _ _ _ came (full_room _ _ long w.1) (c.finish.ensures.all t)

pub returns-then-run-clause-front : goal.returns-then-run-clause-front
returns-then-run-clause-front g c =
    let (long, within, came, more, whole, told, front) = c.loop.invariant in
    let w = whole (search rules) in
    fronts_from g.O.Write.contents _ _ _ w.0 _ _ _ came (full_room _ _ long w.1) c.finish.ensures.front
