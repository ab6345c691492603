use Rattle.std.proofs.Common.{List, length-take-le, arith, sym, ◌∙◌}
use Rattle.catalogue_compact.specs.Laws.{drop-start, buffer-long, drop-end, turn_inside, turn_some, turn}
use Rattle.catalogue_text.specs.Catalogue.{Entry}
use Rattle.catalogue_text.specs.Buffers.{catalogue_in}
use Rattle.catalogue_compact.proofs.drop_gone.Goals as goal

pub loop-at-init : goal.loop-at-init
loop-at-init c =
    let a = c.args in
    drop-start a.buffer.now a.size a.first (catalogue_in a.buffer.now a.size).list c.requires

pub slice_bounds-part_end-end : goal.slice_bounds-part_end-end
slice_bounds-part_end-end c =
    let a = c.args in
    let l = c.loop-at in
    let n = buffer-long a.buffer.now a.size a.first (catalogue_in a.buffer.now a.size).list l.buffer l.at l.to l.invariant in
    let h = l.invariant.held in
    omega arith

pub slice_bounds-part_end-end-in-loop-at : goal.slice_bounds-part_end-end-in-loop-at
slice_bounds-part_end-end-in-loop-at c =
    let a = c.args in
    let l = c.loop-at in
    let n = buffer-long a.buffer.now a.size a.first (catalogue_in a.buffer.now a.size).list l.buffer l.at l.to l.invariant in
    let h = l.invariant.held in
    sym (length-take-le a.size l.buffer (omega arith))

pub slice_bounds-read_line-end : goal.slice_bounds-read_line-end
slice_bounds-read_line-end c =
    let a = c.args in
    let l = c.loop-at in
    let t = turn_inside a.buffer.now a.size a.first (catalogue_in a.buffer.now a.size).list l.buffer l.at l.to l.invariant c.loop-at-test.true
    c.part_end-end.result c.part_end-end.ensures.end in
    omega arith

pub unwrap-line-requires : goal.unwrap-line-requires
unwrap-line-requires c =
    let a = c.args in
    let l = c.loop-at in
    rw c.read_line.ensures
    (turn_some a.buffer.now a.size a.first (catalogue_in a.buffer.now a.size).list l.buffer l.at l.to l.invariant c.loop-at-test.true
    c.part_end-end.result c.part_end-end.ensures.end)

pub keep_line-to-requires : goal.keep_line-to-requires
keep_line-to-requires c =
    let a = c.args in
    let l = c.loop-at in
    let t = turn_inside a.buffer.now a.size a.first (catalogue_in a.buffer.now a.size).list l.buffer l.at l.to l.invariant c.loop-at-test.true
    c.part_end-end.result c.part_end-end.ensures.end in
    let o = c.loop-at.invariant.order in
    (omega arith, omega arith, omega arith)

pub loop-at-preserved : goal.loop-at-preserved
loop-at-preserved c =
    let entries : List Entry = (catalogue_in c.args.buffer.now c.args.size).list in
    let l = c.loop-at in
    let r = c.unwrap-line in
    let k = c.keep_line-to in
    turn c.args.buffer.now c.args.size c.args.first entries l.buffer l.at l.to l.invariant c.loop-at-test.true c.part_end-end.result
    c.part_end-end.ensures.end r.result (sym c.read_line.ensures ∙ r.ensures) k.new.buffer k.result k.ensures.place k.ensures.buffer

pub shape_of-buffer : goal.shape_of-buffer
shape_of-buffer c =
    let a = c.args in
    let l = c.loop-at in
    let n = buffer-long a.buffer.now a.size a.first (catalogue_in a.buffer.now a.size).list l.buffer l.at l.to l.invariant in
    n

pub returns : goal.returns
returns c =
    let l = c.loop-at in
    let a = c.args in
    let t = drop-end a.buffer.now a.size a.first (catalogue_in a.buffer.now a.size).list l.buffer l.at l.to l.invariant (omega arith) in
    record { end = t.0; buffer = t.1 }
