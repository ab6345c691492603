use Rattle.std.proofs.Common.{refl, [], ◌∷◌, get_or, w16}
use Rattle.code_engine.proofs.Arrays.{array-small}
use Rattle.wide_solve.specs.PeelLaws.{has_one}
use Rattle.wide_solve.proofs.symbols.Goals as goal

pub returns-then-t-eq1-clause-has_sums : goal.returns-then-t-eq1-clause-has_sums
returns-then-t-eq1-clause-has_sums c = λ _ d.
    let s = c.args.s in
    rw c.if-t-eq1.true (has_one _ (λ i. get_or (get_or s 0 0 ∷ 0 ∷ 0 ∷ 0 ∷ []) i 0) (λ e. get_or s e 0) refl (array-small w16 6 s _ c.well_formed.1.0 0))
