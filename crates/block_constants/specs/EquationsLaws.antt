-- Laws: The six equations of a group.
use Rattle.std.specs.Prelude.{◌≡◌, refl, true, List, [], ◌∷◌, ℕ, zero, suc, ◌<◌, ◌≤◌, get_or}
use Rattle.std.proofs.Common.{ap, ◌∙◌, arith}
use Rattle.byte_edition.specs.Rows.{power_rows, no_row}
use Rattle.byte_edition.specs.RowsLaws.{power_at}
use Rattle.code.specs.Edition.{raised}
use Rattle.byte_edition.specs.Edition.{byte_edition}
use Rattle.code_engine.specs.Elimination.{entry}
use Rattle.code.specs.Marks.{lost}
use Rattle.byte_edition.specs.EditionLaws.{bytes-sound}
use Rattle.block_constants.specs.Reduced.{ReducedTo, Pivoted}
use Rattle.block_constants.specs.ReducedLaws.{reduced-more, pivot-some}
use Rattle.block_constants.specs.Equations.{equation_of}

-- the rows that hold them
pub equation-at : (a b c d first second : List ℕ) → a ≡ get_or power_rows 0 no_row → b ≡ get_or power_rows 1 no_row → c ≡ get_or power_rows 2 no_row
    → d ≡ get_or power_rows 3 no_row → (i : ℕ) → i < 6 → (j : ℕ) → j < 16
    → entry (a ∷ b ∷ c ∷ d ∷ first ∷ second ∷ []) i j ≡ equation_of first second i j
unfolding equation_of
equation-at a b c d first second ea eb ec ed zero l j h = ap (λ r. get_or r j 0) ea ∙ power_at 0 j (omega arith) h
equation-at a b c d first second ea eb ec ed (suc zero) l j h = ap (λ r. get_or r j 0) eb ∙ power_at 1 j (omega arith) h
equation-at a b c d first second ea eb ec ed (suc (suc zero)) l j h = ap (λ r. get_or r j 0) ec ∙ power_at 2 j (omega arith) h
equation-at a b c d first second ea eb ec ed (suc (suc (suc zero))) l j h = ap (λ r. get_or r j 0) ed ∙ power_at 3 j (omega arith) h
equation-at a b c d first second ea eb ec ed (suc (suc (suc (suc zero)))) l j h = refl
equation-at a b c d first second ea eb ec ed (suc (suc (suc (suc (suc zero))))) l j h = refl
equation-at a b c d first second ea eb ec ed (suc (suc (suc (suc (suc (suc i)))))) l j h = absurd (omega arith)

-- the local ones
pub equation-local : (first second : List ℕ) (e : ℕ) → e < 4 → (j : ℕ) → equation_of first second e j ≡ raised byte_edition (byte_edition.locator j) e
unfolding equation_of
equation-local first second zero l j = refl
equation-local first second (suc zero) l j = refl
equation-local first second (suc (suc zero)) l j = refl
equation-local first second (suc (suc (suc zero))) l j = refl
equation-local first second (suc (suc (suc (suc e)))) l j = absurd (omega arith)

-- a step of the reduction at a bound place
module _ (first second bound : List ℕ) (w p t : ℕ) (rows₀ rows next : List (List ℕ)) (wide : 1 ≤ w) (narrow : w ≤ 16) (inside : p < w) (few : t < 4)
    (rows_are : (i : ℕ) → i < 6 → (j : ℕ) → j < 16 → entry rows₀ i j ≡ equation_of first second i j)
    (small : (i : ℕ) → i < 6 → entry rows i p < 256) (here : lost bound p ≡ true) where
  restricted : Pivoted byte_edition 16 6 p t (entry rows) (entry next) → Pivoted byte_edition w 6 p t (entry rows) (entry next)
  restricted P = record { own = λ j l. P.own j (omega arith); other = λ i l d j h. P.other i l d j (omega arith) }

  pub equations-step : ReducedTo byte_edition w 6 bound p t (entry rows₀) (entry rows) → Pivoted byte_edition 16 6 p t (entry rows) (entry next)
      → ReducedTo byte_edition w 6 bound (suc p) (suc t) (entry rows₀) (entry next)
  equations-step R P =
      reduced-more byte_edition w bytes-sound 6 bound p t (entry rows₀) (entry rows) (entry next) R (restricted P) inside (omega arith) small here
      (pivot-some w bound byte_edition bytes-sound wide narrow 6 p t (entry rows₀) (entry rows) R
      (λ e l j h. rows_are e (omega arith) j (omega arith) ∙ equation-local first second e (omega arith) j) inside (omega arith) here)
