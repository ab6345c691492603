use Rattle.std.proofs.Common.{◌≡◌, sym, ◌∙◌, arith, below_more, length}
use lib.Ieee.Bits.{is_true}
use Rattle.byte_edition.specs.Edition.{byte_edition}
use Rattle.code.specs.Word.{local_sum}
use Rattle.code.specs.WordLaws.{local-zero, zero-local}
use Rattle.code_engine.specs.PartsLaws.{is_false}
use Rattle.syndrome.specs.PartsLaws.{power-group}
use Rattle.syndrome.proofs.zero_sums.Goals as goal

pub returns-then-power_sum-ne0 : goal.returns-then-power_sum-ne0
returns-then-power_sum-ne0 c =
    let a = c.args in
    let p = a.part.now in
    let narrow = c.requires.0 in
    let z = power-group p narrow c.loop-e.e (omega arith) in
    let e : c.power_sum.result ≡ local_sum byte_edition (length p) p 0 c.loop-e.e = cc in
    sym (is_false _ (λ t. c.if-power_sum-ne0.true (e ∙ local-zero byte_edition (length p) a.c p 0 t c.loop-e.e (omega arith))))

pub loop-e-preserved : goal.loop-e-preserved
loop-e-preserved c =
    let p = c.args.part.now in
    let z = power-group p c.requires.0 c.loop-e.e (omega arith) in
    below_more (λ k. local_sum byte_edition (length p) p 0 k ≡ 0) c.loop-e.e c.loop-e.invariant (cc)

pub returns : goal.returns
returns c =
    let a = c.args in
    let p = a.part.now in
    sym (is_true _ (zero-local byte_edition (length p) a.c p 0 (λ k l. c.loop-e.invariant k (omega arith))))
