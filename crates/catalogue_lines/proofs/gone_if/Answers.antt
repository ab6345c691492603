use Rattle.std.proofs.Common.{◌≡◌, ◌<◌, sym, ◌∙◌, arith}
use Rattle.catalogue_lines.proofs.Steps.{gone-zero, gone-high, gone-good}
use Rattle.catalogue_lines.proofs.gone_if.Goals as goal

pub returns-in_default : goal.returns-in_default
returns-in_default c =
    let a = c.args in
    let high : a.revision < 65536 → ⊥ = c.in_default.ensures in
    sym (gone-high a.size a.revision (omega arith))

pub returns-then-revision-eq0 : goal.returns-then-revision-eq0
returns-then-revision-eq0 c =
    let a = c.args in
    let k : (a.revision < 65536) × (c.in-Ok.revision ≡ a.revision) = c.in-Ok.ensures in
    sym (gone-zero a.size a.revision (sym k.1 ∙ c.if-revision-eq0.true))

pub returns : goal.returns
returns c =
    let a = c.args in
    let k : (a.revision < 65536) × (c.in-Ok.revision ≡ a.revision) = c.in-Ok.ensures in
    rw k.1 (sym (gone-good a.size a.revision (λ z. c.if-revision-eq0.false (k.1 ∙ z)) (omega arith)))
