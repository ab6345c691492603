use Rattle.std.proofs.Common.{◌∙◌, arith, take, length-take}
use Rattle.syndrome.specs.PartsLaws.{front-sums}
use Rattle.candidate.proofs.Laws.{weights-of}
use Rattle.candidate.proofs.weights.Goals as goal

pub returns : goal.returns
returns c =
    let a = c.args in
    let n = length-take a.w a.h in
    c.group_sums.ensures.value (omega arith) (omega arith) (omega arith) (omega arith)
    ∙ front-sums a.c a.g a.w a.h (omega arith) (omega arith) c.requires.zero_from
    ∙ weights-of a.m a.w a.c a.g (take a.w a.h) c.requires.g_lt_m (omega arith)
