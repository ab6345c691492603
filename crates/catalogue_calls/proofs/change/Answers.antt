use Rattle.std.proofs.Common.{List, ℕ, cond, eqb, ◌+◌, ◌≤◌, length, arith, ◌≡◌, ◌∙◌}
use Rattle.catalogue_scan.specs.declared.Found.{Found}
use Rattle.catalogue_scan.specs.Places.{FoundIn}
use Rattle.catalogue_calls.specs.Laws.{Changing, name-short, order, last-revision, change-last, change-long}
use Rattle.catalogue_calls.specs.Laws.{change-full, line-fits, first-splice-fits, end, change-done}
use Rattle.catalogue_lines.specs.SpliceLaws.{row_line}
use Rattle.catalogue_lines.specs.Splice.{spliced_in}
use Rattle.catalogue_text.specs.Catalogue.{entry_line}
use Rattle.catalogue_calls.proofs.change.Goals as goal

-- a change that is not refused for the last revision
changes : (found : Found) (buffer : List ℕ) (size : ℕ) (name : List ℕ) (last : ℕ) → FoundIn found buffer size name
    → last ≡ cond (eqb found.place.revision 0) found.floor found.place.revision → (last ≡ 65535 → ⊥) → Changing found buffer size name last
changes found buffer size name last p e n = record { found_in = p; last-is = e ∙ last-revision found buffer size name p; more = n }

pub returns-then-last : goal.returns-then-last
returns-then-last c =
    let a = c.args in
    change-last a.found a.buffer.now a.size a.name.now c.requires.0 a.m a.w a.c _
    (c.last_revision-last.ensures ∙ last-revision a.found a.buffer.now a.size a.name.now c.requires.0) c.if-last.true

pub entry_line-row-requires : goal.entry_line-row-requires
entry_line-row-requires c = name-short c.args.name.now c.requires.1

pub overflow_add-moved : goal.overflow_add-moved
overflow_add-moved c =
    let a = c.args in
    let o = order a.found a.buffer.now a.size a.name.now c.requires.0 in
    omega arith

pub overflow_sub-moved : goal.overflow_sub-moved
overflow_sub-moved c =
    let a = c.args in
    let o = order a.found a.buffer.now a.size a.name.now c.requires.0 in
    omega arith

pub overflow_add-moved-2 : goal.overflow_add-moved-2
overflow_add-moved-2 c =
    let a = c.args in
    let o = order a.found a.buffer.now a.size a.name.now c.requires.0 in
    omega arith

pub overflow_sub-end : goal.overflow_sub-end
overflow_sub-end c =
    let a = c.args in
    let o = order a.found a.buffer.now a.size a.name.now c.requires.0 in
    omega arith

pub overflow_add-end : goal.overflow_add-end
overflow_add-end c =
    let a = c.args in
    let o = order a.found a.buffer.now a.size a.name.now c.requires.0 in
    omega arith

pub returns-then-end-gt4096 : goal.returns-then-end-gt4096
returns-then-end-gt4096 c =
    let a = c.args in
    let changing = changes a.found a.buffer.now a.size a.name.now c.last_revision-last.result c.requires.0 c.last_revision-last.ensures c.if-last.false in
    change-long a.found a.buffer.now a.size a.name.now _ changing a.m a.w a.c (omega arith)

pub returns-then-buffer-end : goal.returns-then-buffer-end
returns-then-buffer-end c =
    let a = c.args in
    let changing = changes a.found a.buffer.now a.size a.name.now c.last_revision-last.result c.requires.0 c.last_revision-last.ensures c.if-last.false in
    change-full a.found a.buffer.now a.size a.name.now _ changing a.m a.w a.c (omega arith) (omega arith)

pub splice-requires : goal.splice-requires
splice-requires c =
    let a = c.args in
    let changing = changes a.found a.buffer.now a.size a.name.now c.last_revision-last.result c.requires.0 c.last_revision-last.ensures c.if-last.false in
    let fits : (let n = end a.found a.buffer.now a.size a.name.now _ changing a.m a.w a.c in (n ≤ 4096) × (n ≤ length a.buffer.now)) =
    (omega arith, omega arith) in
    let f = fits in
    let r = c.entry_line-row in
    rw (row_line r.result _ r.ensures)
    (line-fits a.found a.buffer.now a.size a.name.now _ changing a.m a.w a.c f.0 f.1)

pub splice-requires-2 : goal.splice-requires-2
splice-requires-2 c =
    let a = c.args in
    let changing = changes a.found a.buffer.now a.size a.name.now c.last_revision-last.result c.requires.0 c.last_revision-last.ensures c.if-last.false in
    let fits : (let n = end a.found a.buffer.now a.size a.name.now _ changing a.m a.w a.c in (n ≤ 4096) × (n ≤ length a.buffer.now)) =
    (omega arith, omega arith) in
    let r = c.entry_line-row in
    let line : List ℕ = entry_line (record { name = a.name.now; revision = c.last_revision-last.result + 1; m = a.m; w = a.w; c = a.c }) in
    let spliced : c.splice.new.buffer ≡ spliced_in a.buffer.now a.size a.found.place.from a.found.place.to line =
    rw (row_line r.result _ r.ensures) at c.splice.ensures in
    let f = fits in
    rw (row_line c.first_line-first.result _ c.first_line-first.ensures, c.entry_line-row.ensures.size)
    (first-splice-fits a.found a.buffer.now a.size a.name.now _ changing a.m a.w a.c f.0 f.1 _ spliced)

pub returns : goal.returns
returns c =
    let a = c.args in
    let changing = changes a.found a.buffer.now a.size a.name.now c.last_revision-last.result c.requires.0 c.last_revision-last.ensures c.if-last.false in
    let fits : (let n = end a.found a.buffer.now a.size a.name.now _ changing a.m a.w a.c in (n ≤ 4096) × (n ≤ length a.buffer.now)) =
    (omega arith, omega arith) in
    let r = c.entry_line-row in
    let line : List ℕ = entry_line (record { name = a.name.now; revision = c.last_revision-last.result + 1; m = a.m; w = a.w; c = a.c }) in
    let spliced : c.splice.new.buffer ≡ spliced_in a.buffer.now a.size a.found.place.from a.found.place.to line =
    rw (row_line r.result _ r.ensures) at c.splice.ensures in
    let f = fits in
    let z = c.entry_line-row.ensures.size in
    let p = c.splice-2 in
    rw (z, c.first_line-first.ensures.size)
    (change-done a.found a.buffer.now a.size a.name.now _ changing a.m a.w a.c f.0 f.1 _ spliced p.new.buffer
    (rw (row_line c.first_line-first.result _ c.first_line-first.ensures, z) at p.ensures))
