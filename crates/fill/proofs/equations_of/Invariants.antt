use Rattle.std.proofs.Common.{◌≡◌, ℕ, ◌<◌, length}
use Rattle.byte_edition.specs.Edition.{byte_edition}
use Rattle.code_engine.specs.Elimination.{row}
use Rattle.code_engine.specs.EquationsLaws.{EquationIn}
use Rattle.fill.proofs.equations_of.Given as goal

abbrev pub invariant-loop-e : goal.invariant-loop-e
invariant-loop-e l = (length l.rows ≡ 4) × ((k : ℕ) → k < l.e → EquationIn byte_edition l.part l.at l.t k (row l.rows k))
