use Rattle.std.proofs.Common.{◌≡◌, ℕ, ◌<◌, List, arith, rules, length}
use Rattle.code.specs.Limits.{Limits, GoodIn, data_count}
use Rattle.code_services.specs.PlacesRuns.{data_in}
use Rattle.code_loops.specs.SpreadLaws.{Spread, SpreadTurn, spread-starts, spread-on, spread-ends, data-within, part-holds}
use Rattle.places.proofs.spread_data.Goals as goal

pub loop-g-init : goal.loop-g-init
loop-g-init g c = spread-starts _ c.args.m c.args.w c.args.c c.args.symbols.now c.args.word.now c.requires.word_len

turn : {A : Type 0} {z : A} {L : Limits} {m w c : ℕ} {carries word : List A} {i g d : ℕ} → GoodIn L m w c → length carries ≡ data_count m w c → g < m
    → d ≡ data_in m w c g → Spread z m w c carries word i g → SpreadTurn z L m w c carries word i g d
turn good all more own before = record { good = good; all = all; more = more; own = own; before = before }

pub overflow_add-n : goal.overflow_add-n
overflow_add-n g c =
    let t = turn c.requires.good_in c.requires.symbols_len c.loop-g-test.true c.data_in.ensures c.loop-g.invariant in
    let h = data-within t in
    search rules

pub slice_bounds-spread_part-end : goal.slice_bounds-spread_part-end
slice_bounds-spread_part-end g c =
    let t = turn c.requires.good_in c.requires.symbols_len c.loop-g-test.true c.data_in.ensures c.loop-g.invariant in
    let h = data-within t in
    search rules

pub spread_part-requires : goal.spread_part-requires
spread_part-requires g c = part-holds (turn c.requires.good_in c.requires.symbols_len c.loop-g-test.true c.data_in.ensures c.loop-g.invariant)

pub loop-g-preserved : goal.loop-g-preserved
loop-g-preserved g c =
    let t = turn c.requires.good_in c.requires.symbols_len c.loop-g-test.true c.data_in.ensures c.loop-g.invariant in
    spread-on t _ (rw c.ZERO.ensures at c.spread_part.ensures)

pub returns : goal.returns
returns g c = spread-ends c.loop-g.invariant (omega arith)
