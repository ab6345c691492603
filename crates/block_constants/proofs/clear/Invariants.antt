use Rattle.std.proofs.Common.{◌≡◌, List, [], ℕ, ◌<◌, length, get_or}
use Rattle.binary_field.specs.Xor.{◌⊕◌}
use Rattle.code.specs.Edition.{times}
use Rattle.byte_edition.specs.Edition.{byte_edition}
use Rattle.code_engine.specs.Elimination.{entry}
use Rattle.block_constants.proofs.clear.Given as goal

-- what becomes of row i
abbrev pub Cleared : List ℕ → ℕ → ℕ → List (List ℕ) → ℕ → List ℕ → Type 0
Cleared b t p rows i row =
    (i ≡ t → (j : ℕ) → j < 16 → get_or row j 0 ≡ get_or b j 0)
    × ((i ≡ t → ⊥) → (j : ℕ) → j < 16 → get_or row j 0 ≡ entry rows i j ⊕ times byte_edition (get_or b j 0) (entry rows i p))

abbrev pub invariant-loop-i : goal.invariant-loop-i
invariant-loop-i l = (length l.r ≡ 6) × ((k : ℕ) → k < l.i → Cleared l.b l.t l.p l.rows k (get_or l.r k []))
