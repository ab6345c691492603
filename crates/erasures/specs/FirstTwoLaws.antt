-- Laws: All free places of a word in order, and the first two of them.
use Rattle.std.specs.Prelude.{◌≡◌, Bool, true, false, List, [], ◌∷◌, length}
use Rattle.std.proofs.Math.Path.{refl, sym, ap}
use Rattle.std.proofs.Common.{◌∙◌}
use Prim.Native.Nat.{ℕ, zero, suc, ◌+◌, ◌-◌, ◌≤◌, ◌<◌}
use native.Mathlib.Omega.{arith}
use Rattle.std.proofs.Math.Decide.{ℕ_discrete}
use Rattle.code_engine.specs.Bound.{free}
use Rattle.code_engine.specs.FreePlaces.{NextFree}
use Rattle.erasures.specs.FirstTwo.{cons_if, first_two}

-- of the n places from start on, those of which f is true, in order
unfoldable pub places_from : (ℕ → Bool) → ℕ → ℕ → List ℕ
places_from f zero start = []
places_from f (suc n) start = cons_if (f start) start (places_from f n (suc start))

-- the places that are lost and not bound
abbrev pub free_places : List ℕ → List ℕ → List ℕ
free_places marks bound = places_from (free marks bound) (length marks) 0

module _ (f : ℕ → Bool) where
  none_from : (n s r : ℕ) → s + n ≤ r → ((p : ℕ) → p < r → s ≤ p → f p ≡ false) → places_from f n s ≡ []
  unfolding places_from
  none_from zero s r h passed = refl
  none_from (suc n) s r h passed =
      ap (λ b. cons_if b s (places_from f n (suc s))) (passed s (omega arith) (omega arith))
      ∙ none_from n (suc s) r (omega arith) (λ p l k. passed p l (omega arith))

  -- the first is r
  next-from : (n s r : ℕ) → s ≤ r → r < s + n → ((p : ℕ) → p < r → s ≤ p → f p ≡ false) → f r ≡ true
      → places_from f n s ≡ r ∷ places_from f (s + n - (r + 1)) (r + 1)
  unfolding places_from
  next-from zero s r h k passed t = absurd (omega arith)
  next-from (suc n) s r h k passed t = elim (ℕ_discrete s r) [
    | yes q ↦
        (let e : s + suc n - (r + 1) ≡ n = omega arith in
        let d : r + 1 ≡ suc r = omega arith in
        rw (e, d, q, t))
    | no q ↦
        (let e : s + suc n - (r + 1) ≡ suc s + n - (r + 1) = omega arith in
        ap (λ b. cons_if b s (places_from f n (suc s))) (passed s (omega arith) (omega arith))
        ∙ next-from n (suc s) r (omega arith) (omega arith) (λ p l k. passed p l (omega arith)) t
        ∙ ap (λ m. r ∷ places_from f m (r + 1)) (sym e))
  ]

module _ (marks bound : List ℕ) (first : ℕ) (N : NextFree marks bound 0 first) where
  pub two_none : length marks ≤ first → record { count = 0; first = 0; second = 0 } ≡ first_two (free_places marks bound)
  two_none h = ap first_two (sym (none_from (free marks bound) (length marks) 0 first (omega arith) N.passed))

  module _ (inside : first < length marks) (second : ℕ) (M : NextFree marks bound (first + 1) second) where
    rest : List ℕ
    rest = places_from (free marks bound) (0 + length marks - (first + 1)) (first + 1)

    start : free_places marks bound ≡ first ∷ rest
    unfolding rest
    start = next-from (free marks bound) (length marks) 0 first (omega arith) (omega arith) N.passed (N.found inside)

    pub two-one : length marks ≤ second → record { count = 1; first = first; second = 0 } ≡ first_two (free_places marks bound)
    unfolding rest
    two-one h =
        sym (ap first_two (start ∙ ap (λ ps. first ∷ ps) (none_from (free marks bound) _ (first + 1) second (omega arith) M.passed)))

    pub two-two : second < length marks → record { count = 2; first = first; second = second } ≡ first_two (free_places marks bound)
    unfolding rest
    two-two h =
        sym (ap first_two (start ∙ ap (λ ps. first ∷ ps) (next-from (free marks bound) _ (first + 1) second M.on (omega arith) M.passed (M.found h))))
