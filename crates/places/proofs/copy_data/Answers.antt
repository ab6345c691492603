use Rattle.std.proofs.Common.{◌≡◌, ℕ, ◌*◌, ◌≤◌, ◌<◌, List, arith, rules, length}
use Rattle.code.specs.Limits.{Limits, GoodIn}
use Rattle.code_services.specs.PlacesRuns.{data_in}
use Rattle.code_loops.specs.CopyLaws.{Copied, CopyTurn, copy-starts, copy-on, copy-ends, word-within, data-within}
use Rattle.places.proofs.copy_data.Goals as goal

pub loop-g-init : goal.loop-g-init
loop-g-init g c = copy-starts _ c.args.m c.args.w c.args.c c.args.word.now c.args.symbols.now c.requires.symbols_len

turn : {A : Type 0} {z : A} {L : Limits} {m w c : ℕ} {word carries : List A} {i g d : ℕ} → GoodIn L m w c → length word ≡ m * w → g < m → d ≡ data_in m w c g
    → Copied z m w c word carries i g → CopyTurn z L m w c word carries i g d
turn good whole more own before = record { good = good; whole = whole; more = more; own = own; before = before }

pub overflow_add-e : goal.overflow_add-e
overflow_add-e g c =
    let t = turn c.requires.good_in c.requires.word_len c.loop-g-test.true c.data_in-d.ensures c.loop-g.invariant in
    let h = word-within t in
    search rules

pub overflow_add-n : goal.overflow_add-n
overflow_add-n g c =
    let t = turn c.requires.good_in c.requires.word_len c.loop-g-test.true c.data_in-d.ensures c.loop-g.invariant in
    let h = data-within t in
    search rules

pub offset_bounds-symbols-i : goal.offset_bounds-symbols-i
offset_bounds-symbols-i g c =
    let t = turn c.requires.good_in c.requires.word_len c.loop-g-test.true c.data_in-d.ensures c.loop-g.invariant in
    let h = data-within t in
    let l : c.loop-g.i ≤ length c.loop-g.symbols = omega arith in
    search rules

pub slice_bounds-copy_from_slice-end : goal.slice_bounds-copy_from_slice-end
slice_bounds-copy_from_slice-end g c =
    let t = turn c.requires.good_in c.requires.word_len c.loop-g-test.true c.data_in-d.ensures c.loop-g.invariant in
    let h = data-within t in
    search rules

pub slice_bounds-copy_from_slice-end-in-loop-g : goal.slice_bounds-copy_from_slice-end-in-loop-g
slice_bounds-copy_from_slice-end-in-loop-g g c =
    let t = turn c.requires.good_in c.requires.word_len c.loop-g-test.true c.data_in-d.ensures c.loop-g.invariant in
    let h = word-within t in
    search rules

pub loop-g-preserved : goal.loop-g-preserved
loop-g-preserved g c =
    let t = turn c.requires.good_in c.requires.word_len c.loop-g-test.true c.data_in-d.ensures c.loop-g.invariant in
    copy-on t _ c.copy_from_slice.ensures.after

pub returns : goal.returns
returns g c = copy-ends c.requires.good_in c.loop-g.invariant (omega arith)
