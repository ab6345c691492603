-- Laws on lists as loops write them: one entry set at each turn.
use Rattle.std.specs.Prelude.{List, ℕ, ◌+◌, ◌-◌, ◌<◌, ◌≤◌, zero, suc, length, get_or, set, replicate, ◌≡◌, refl}
use Rattle.std.proofs.Math.Decide.{ℕ_discrete}
use Rattle.std.proofs.Common.{arith, get_or-set_same, get_or-set_other, ◌∙◌}

-- what holds of each element before i, and of v, holds up to i once v is written there
pub each_set : {A : Type 0} (P : ℕ → A → Type 0) (xs : List A) (i : ℕ) (v d : A) → i < length xs → ((j : ℕ) → j < i → P j (get_or xs j d)) → P i v
    → (j : ℕ) → j < i + 1 → P j (get_or (set xs i v) j d)
each_set P xs i v d h f p j l = elim (ℕ_discrete j i) [
  | yes q ↦ (rw (q, get_or-set_same xs i v d h) p)
  | no q ↦ (rw (get_or-set_other xs i j v d q) (f j (omega arith)))
]

-- ---- writes
-- past a write at i the elements are as they were
pub rest-set : {A : Type 0} (f : ℕ → A) (xs : List A) (i : ℕ) (v d : A) → ((k : ℕ) → i ≤ k → get_or xs k d ≡ f k)
    → (k : ℕ) → i + 1 ≤ k → get_or (set xs i v) k d ≡ f k
rest-set f xs i v d h k l = get_or-set_other xs i k v d (omega arith) ∙ h k (omega arith)

-- a row of zeros
pub zeros-row : (n j : ℕ) → get_or {A = ℕ} (replicate n 0) j 0 ≡ 0
zeros-row zero j = refl
zeros-row (suc n) zero = refl
zeros-row (suc n) (suc j) = zeros-row n j
