use Rattle.wide_sums.specs.PowerSumsLaws.{first_alone}
use Rattle.wide_sums.proofs.power_sums.Goals as goal

pub returns-then-n-eq1-clause-power_sums : goal.returns-then-n-eq1-clause-power_sums
returns-then-n-eq1-clause-power_sums c = λ _ _.
    let a = c.args in
    first_alone a.part.now _ a.n (λ j. (c.shared_slice_known-1.given j).fits) c.sum-s.ensures c.if-n-eq1.true
