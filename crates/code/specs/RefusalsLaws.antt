-- Laws: The number of a refusal, 0 for done, and what a refusal leaves of a buffer.
use Rattle.std.specs.Prelude.{◌≡◌, refl, Bool, true, false, List, ℕ, zero, suc, ◌≤◌}
use Rattle.std.proofs.Common.{arith}
use Rattle.code.specs.Refusals.{refuse, ◌or_else◌, unless_refused}

pub refuse-zero : (r : ℕ) (b : Bool) → refuse (suc r) b ≡ 0 → b ≡ false
refuse-zero r true e = let z : suc r ≡ 0 = e in absurd (omega arith)
refuse-zero r false e = refl

pub or_else-zero : (r s : ℕ) → r or_else s ≡ 0 → (r ≡ 0) × (s ≡ 0)
or_else-zero zero s e = (refl, e)
or_else-zero (suc r) s e = let z : suc r ≡ 0 = e in absurd (omega arith)

pub or_else-first : (r s : ℕ) → (r ≡ 0 → ⊥) → r or_else s ≡ r
or_else-first zero s h = absurd (h refl)
or_else-first (suc r) s h = refl

-- a refusal's number is at most a bound that holds of each
pub refuse-most : (k r : ℕ) (b : Bool) → r ≤ k → refuse r b ≤ k
refuse-most k r true l = l
refuse-most k r false l = omega arith

pub or_else-most : (k r s : ℕ) → r ≤ k → s ≤ k → (r or_else s) ≤ k
or_else-most k zero s l h = h
or_else-most k (suc r) s l h = l

-- and where the second need only hold after the first has not applied
pub or_else-then : (k r s : ℕ) → r ≤ k → (r ≡ 0 → s ≤ k) → (r or_else s) ≤ k
or_else-then k zero s l h = h refl
or_else-then k (suc r) s l h = l

pub unless-refused : {A : Type 0} (r : ℕ) (written lent : List A) → (r ≡ 0 → ⊥) → unless_refused r written lent ≡ lent
unless-refused zero written lent h = absurd (h refl)
unless-refused (suc r) written lent h = refl
