use Rattle.std.proofs.Common.{ap, ◌∙◌}
use Rattle.std.proofs.KnownBytes.{Appends-nil}
use Rattle.axlebloom.specs.declared.Run.TheVariants.{On, Over}
use Rattle.axlebloom.proofs.Turns.{front_none}
use Rattle.axlebloom.proofs.Runs.{went_none, went_on, ended, fronts, session_whole, session_front}
use Rattle.axlebloom.proofs.run_all.Goals as goal

pub loop-init : goal.loop-init
loop-init g c = (went_none _ _ _ _ c.start-state.ensures.state, front_none _ _ _ (Appends-nil _))

pub loop-preserved : goal.loop-preserved
loop-preserved g c =
    let went = c.loop.invariant.0 in
    let e = c.turn.ensures in
    (went_on _ _ _ _ _ _ _ _ _ went (e.on _ c.in-On.is), fronts _ _ _ _ _ _ _ went e.front)

pub returns-in-Over-clause-whole : goal.returns-in-Over-clause-whole
returns-in-Over-clause-whole g c = λ t. session_whole _ _ _ (ended _ _ _ _ _ _ _ c.loop.invariant.0 (c.turn.ensures.whole (c.in-Over.is ∙ ap Over t)))

pub returns-in-Over-clause-front : goal.returns-in-Over-clause-front
returns-in-Over-clause-front g c = session_front _ _ _ (fronts _ _ _ _ _ _ _ c.loop.invariant.0 c.turn.ensures.front)

pub returns-clause-front : goal.returns-clause-front
returns-clause-front g c = session_front _ _ _ c.loop.invariant.1
