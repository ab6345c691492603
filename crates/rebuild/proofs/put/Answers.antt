use Rattle.std.proofs.Common.{take, drop, sym, take-append-drop}
use Rattle.rebuild.proofs.put.Goals as goal

pub returns-clause-front : goal.returns-clause-front
returns-clause-front g c =
    let (k, a) = c.write_out.ensures.part in
    (take k c.args.bytes.now, drop k c.args.bytes.now, sym (take-append-drop k c.args.bytes.now), a)
