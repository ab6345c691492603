use Rattle.std.proofs.Common.{sym, ◌∙◌, arith, below_more}
use Rattle.erasures.proofs.next_free.Goals as goal

pub returns-then-is_free : goal.returns-then-is_free
returns-then-is_free c =
    record { on = omega arith; passed = c.loop-i.invariant; found = λ _. sym c.is_free.ensures ∙ c.if-is_free.true }

pub loop-i-preserved : goal.loop-i-preserved
loop-i-preserved c = below_more _ _ c.loop-i.invariant (λ _. sym c.is_free.ensures ∙ c.if-is_free.false)
