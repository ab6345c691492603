-- The lines of an input, one after the other.
use Rattle.std.specs.Prelude.{◌≡◌, refl, Bool, true, false, cond, not, ◌&&◌, List, [], ◌∷◌, ◌++◌, ℕ, T, eqb}
use Rattle.std.proofs.Common.{ap}
use Rattle.text.specs.Fields.{with_first}
use Rattle.text.specs.Input.{lines}
use Rattle.text.specs.Decimal.{without}

-- a line that a line feed ends
pub lines-feed : (line rest : List ℕ) → T (without 10 line) → lines (line ++ (10 ∷ rest)) ≡ line ∷ lines rest
unfolding lines without
lines-feed [] rest t = refl
lines-feed (x ∷ line) rest t = go (eqb x 10) t (λ u. lines-feed line rest u)
  where
    go : (b : Bool) → T (not b && without 10 line) → (T (without 10 line) → lines (line ++ (10 ∷ rest)) ≡ line ∷ lines rest)
        → cond b ([] ∷ lines (line ++ (10 ∷ rest))) (with_first x (lines (line ++ (10 ∷ rest)))) ≡ (x ∷ line) ∷ lines rest
    go true t i = absurd t
    go false t i = ap (with_first x) (i t)

-- a last line without one
pub lines-last : (x : ℕ) (line : List ℕ) → T (without 10 (x ∷ line)) → lines (x ∷ line) ≡ (x ∷ line) ∷ []
unfolding lines without
lines-last x [] t = go (eqb x 10) t
  where
    go : (b : Bool) → T (not b && true) → cond b ([] ∷ []) ((x ∷ []) ∷ []) ≡ (x ∷ []) ∷ []
    go true t = absurd t
    go false t = refl
lines-last x (y ∷ line) t = go (eqb x 10) t (lines-last y line)
  where
    go : (b : Bool) → T (not b && without 10 (y ∷ line)) → (T (without 10 (y ∷ line)) → lines (y ∷ line) ≡ (y ∷ line) ∷ [])
        → cond b ([] ∷ lines (y ∷ line)) (with_first x (lines (y ∷ line))) ≡ (x ∷ y ∷ line) ∷ []
    go true t i = absurd t
    go false t i = ap (with_first x) (i t)
