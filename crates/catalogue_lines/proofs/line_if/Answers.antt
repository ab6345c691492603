use Rattle.std.proofs.Common.{◌≡◌, ◌<◌, sym, ◌∙◌, arith}
use Rattle.catalogue_lines.proofs.Steps.{revision-none, revision-high, shape-refused, shape-good}
use Rattle.catalogue_lines.proofs.line_if.Goals as goal

pub returns-in_default : goal.returns-in_default
returns-in_default c =
    let a = c.args in
    let high : a.revision < 65536 → ⊥ = c.in_default.ensures in
    sym (revision-high a.size a.revision a.m a.w a.c (omega arith))

pub returns-then-revision-eq0 : goal.returns-then-revision-eq0
returns-then-revision-eq0 c =
    let a = c.args in
    let k : (a.revision < 65536) × (c.in-Ok.revision ≡ a.revision) = c.in-Ok.ensures in
    sym (revision-none a.size a.revision a.m a.w a.c (sym k.1 ∙ c.if-revision-eq0.true))

pub returns-in-Err : goal.returns-in-Err
returns-in-Err c =
    let a = c.args in
    let k : (a.revision < 65536) × (c.in-Ok.revision ≡ a.revision) = c.in-Ok.ensures in
    sym (shape-refused a.size a.revision a.m a.w a.c (λ z. c.if-revision-eq0.false (k.1 ∙ z)) (omega arith) _ (sym c.new.ensures ∙ c.in-Err.is))

pub returns-in-Ok-new : goal.returns-in-Ok-new
returns-in-Ok-new c =
    let a = c.args in
    let s = c.in-Ok-new.s in
    let k : (a.revision < 65536) × (c.in-Ok.revision ≡ a.revision) = c.in-Ok.ensures in
    rw k.1 (sym (shape-good a.size a.revision a.m a.w a.c (λ z. c.if-revision-eq0.false (k.1 ∙ z)) (omega arith) s (sym c.new.ensures ∙ c.in-Ok-new.is)))
