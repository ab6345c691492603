use Rattle.std.proofs.Common.{subst}
use Rattle.code.specs.LentLaws.{stretch-lent}
use Rattle.code_loops.specs.Broken.{PartTested}
use Rattle.byte_edition.specs.Edition.{byte_edition}
use Rattle.syndrome.proofs.fn.test.is_sound.Goals as goal

pub returns : goal.returns
returns c =
    let k = c.captures in
    subst (λ part. PartTested byte_edition k.c part c.local_zero.result) (stretch-lent k.w c.args.g k.word.now) c.local_zero.ensures.value
