use Rattle.catalogue_lines.specs.SpliceLaws.{splice-step}
use Rattle.catalogue_lines.proofs.splice.Goals as goal

pub returns : goal.returns
returns c =
    let m = c.move_bytes in
    let p = c.put_text in
    let a = c.args in
    splice-step a.buffer.now m.new.buffer p.new.out a.line.now a.size a.from a.to c.requires m.ensures p.ensures.out
