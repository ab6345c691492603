use Rattle.std.proofs.Common.{◌+◌, ◌-◌, ◌*◌, subst, take, drop}
use Rattle.code.specs.Stretch.{stretch}
use Rattle.code.specs.LentLaws.{stretch-lent}
use Rattle.code_loops.specs.Broken.{FilledTested}
use Rattle.byte_edition.specs.Edition.{byte_edition}
use Rattle.recover.proofs.fn.test.is_sound.Goals as goal

pub returns : goal.returns
returns c =
    let k = c.captures in
    let z = c.filled_zero.ensures in
    subst (λ marks. FilledTested byte_edition k.c marks (stretch k.w c.args.g k.word.now) c.filled_zero.result) (stretch-lent k.w c.args.g k.marks.now)
    (subst (λ part. FilledTested byte_edition k.c (take (c.args.g * k.w + k.w - c.args.g * k.w) (drop (c.args.g * k.w) k.marks.now)) part c.filled_zero.result) (stretch-lent k.w c.args.g k.word.now)
    (z.few, z.many))
