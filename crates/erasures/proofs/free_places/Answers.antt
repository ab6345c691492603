use Rattle.std.proofs.Common.{arith, length}
use Rattle.code_engine.specs.FreePlaces.{NextFree}
use Rattle.code_engine.specs.FreePlacesLaws.{free-none, free_one, free-two}
use Rattle.erasures.specs.FirstTwoLaws.{two_none, two-one, two-two}
use Rattle.erasures.proofs.Laws.{bound-not-free}
use Rattle.erasures.proofs.free_places.Goals as goal

pub returns-then-all_bound : goal.returns-then-all_bound
returns-then-all_bound c =
    let a = c.args in
    let N : NextFree a.marks.now a.bound.now 0 (length a.marks.now) =
    record {
      on = omega arith;
      passed = λ p l _. bound-not-free a.marks.now a.bound.now p (c.all_bound.ensures c.if-all_bound.true p l);
      found = λ l. absurd (omega arith);
    } in record { free_places = free-none a.marks.now a.bound.now (length a.marks.now) N (omega arith); value = two_none a.marks.now a.bound.now (length a.marks.now) N (omega arith) }

pub returns-then-marks-first : goal.returns-then-marks-first
returns-then-marks-first c =
    let a = c.args in
    let n = c.first_free-first in record { free_places = free-none a.marks.now a.bound.now n.result n.ensures c.if-marks-first.true; value = two_none a.marks.now a.bound.now n.result n.ensures c.if-marks-first.true }

pub returns-then-marks-second : goal.returns-then-marks-second
returns-then-marks-second c =
    let a = c.args in
    let n = c.first_free-first in
    let i = c.if-marks-first.false in
    let k = c.next_free-second in record { free_places = free_one a.marks.now a.bound.now n.result n.ensures i k.result k.ensures c.if-marks-second.true; value = two-one a.marks.now a.bound.now n.result n.ensures i k.result k.ensures c.if-marks-second.true }

pub returns : goal.returns
returns c =
    let a = c.args in
    let n = c.first_free-first in
    let i = c.if-marks-first.false in
    let k = c.next_free-second in record { free_places = free-two a.marks.now a.bound.now n.result n.ensures i k.result k.ensures c.if-marks-second.false; value = two-two a.marks.now a.bound.now n.result n.ensures i k.result k.ensures c.if-marks-second.false }
