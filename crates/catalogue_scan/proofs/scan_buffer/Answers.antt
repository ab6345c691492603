use Rattle.std.proofs.Common.{length-take-le, arith, sym, ◌∙◌}
use Rattle.catalogue_scan.specs.BufferLaws.{scanned-short, scanned-long, scanned-text}
use Rattle.catalogue_scan.proofs.scan_buffer.Goals as goal

pub returns-then-buffer-size : goal.returns-then-buffer-size
returns-then-buffer-size c = let a = c.args in sym (scanned-short a.buffer.now a.size a.name.now (omega arith))

pub returns-then-size-gt4096 : goal.returns-then-size-gt4096
returns-then-size-gt4096 c = let a = c.args in sym (scanned-long a.buffer.now a.size a.name.now (omega arith) (omega arith))

pub slice_bounds-scan-end : goal.slice_bounds-scan-end
slice_bounds-scan-end c = let a = c.args in sym (length-take-le a.size a.buffer.now (omega arith))

pub returns : goal.returns
returns c =
    let a = c.args in c.scan.ensures ∙ scanned-text a.buffer.now a.size a.name.now
    (omega arith) (omega arith)
