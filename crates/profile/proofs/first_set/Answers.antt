use Rattle.std.proofs.Common.{◌≡◌, sym, ap, ◌∙◌, ◌+◌, arith}
use Rattle.counting.specs.Sets.{sets_below, first_in}
use Rattle.counting.specs.SetsLaws.{below-zero}
use Rattle.profile.specs.Search.{within, found_in, found_at}
use Rattle.profile.specs.SearchLaws.{size-smaller, size-found, size_none, found-set, found_nothing}
use Rattle.profile.proofs.first_set.Goals as goal
use Rattle.std.specs.Prelude.{Some}

pub loop-size-init : goal.loop-size-init
loop-size-init c = below-zero _ _

pub search-requires : goal.search-requires
search-requires c =
    let a = c.args in
    record { w_bound = (omega arith, omega arith, omega arith); none_smaller = size-smaller a.counts.now a.w c.loop-size.size c.loop-size.invariant }

pub returns-in-Some : goal.returns-in-Some
returns-in-Some c =
    let a = c.args in
    let n = a.counts.now in
    let i = found-set (found_in n a.w c.loop-size.size a.w 0) c.in-Some.s (sym c.in-Some.is ∙ c.search.ensures) in
    ap Some i.shows
    ∙ sym (ap found_at (size-found n a.w c.loop-size.size c.loop-size.invariant (a.c + 1) c.loop-size-test.true i.s i.found))

pub loop-size-preserved : goal.loop-size-preserved
loop-size-preserved c =
    let a = c.args in
    size_none a.counts.now a.w c.loop-size.size c.loop-size.invariant (found_nothing _ (sym c.in_default.is ∙ c.search.ensures))

pub returns : goal.returns
returns c =
    let a = c.args in
    let e : c.loop-size.size ≡ a.c + 1 = omega arith in
    sym (ap found_at (ap (λ k. first_in (within a.counts.now 0 a.w 0) (sets_below k a.w)) (sym e) ∙ c.loop-size.invariant))
