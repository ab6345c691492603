use Rattle.std.proofs.Common.{subst}
use Rattle.code.specs.LentLaws.{stretch-lent}
use Rattle.code_loops.specs.Broken.{PartTested}
use Rattle.wide_shape.specs.Edition.{wide_edition}
use Rattle.wide_across.proofs.fn.test.is_sound.Goals as goal

pub returns : goal.returns
returns c =
    let k = c.captures in
    subst (λ part. PartTested wide_edition k.c part c.local_zero.result) (stretch-lent k.w c.args.g k.word.now) c.local_zero.ensures.value
