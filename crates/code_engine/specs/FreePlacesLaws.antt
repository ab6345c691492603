-- Laws: The free places of a word.
use Rattle.std.specs.Prelude.{◌≡◌, refl, Bool, true, false, not, ◌&&◌, List, ◌⊎◌, ℕ, zero, suc, ◌+◌, ◌≤◌, ◌<◌, length}
use Rattle.std.proofs.Common.{sym, inl, inr, ⊎_elim, arith}
use Rattle.std.proofs.Math.Decide.{dec_lt, ℕ_discrete}
use Rattle.counting.specs.Count.{count_below}
use Rattle.counting.specs.CountLaws.{count_next}
use Rattle.code.specs.Marks.{lost}
use Rattle.code_engine.specs.Bound.{free}
use Rattle.code_engine.specs.FreePlaces.{free_at, FreePlaces, NextFree}

split : (a b : Bool) → (a && not b) ≡ true → (a ≡ true) × (b ≡ false)
split true true e = (refl, sym e)
split true false e = (refl, refl)
split false b e = let z : ◌≡◌ {A = ℕ} 0 1 = cc in absurd (omega arith)

both_ways : (b : Bool) → b ≡ true → b ≡ false → ⊥
both_ways b e f = let z : ◌≡◌ {A = ℕ} 0 1 = cc in omega arith

module _ (marks bound : List ℕ) where
  free-split : (p : ℕ) → free marks bound p ≡ true → (lost marks p ≡ true) × (lost bound p ≡ false)
  free-split p = split (lost marks p) (lost bound p)

  free-join : (p : ℕ) → lost marks p ≡ true → lost bound p ≡ false → free marks bound p ≡ true
  free-join p e f = rw (e, f)

  -- a free place from start on is not passed
  not-passed : (start r : ℕ) → NextFree marks bound start r → (p : ℕ) → start ≤ p → free marks bound p ≡ true → r ≤ p
  not-passed start r N p l e = elim (dec_lt p r) [
    | yes k ↦ absurd (both_ways (free marks bound p) e (N.passed p k l))
    | no k ↦ omega arith
  ]

  module _ (first : ℕ) (N : NextFree marks bound 0 first) where
    pub free-none : length marks ≤ first → FreePlaces marks bound 0 0 0
    free-none h = record {
      most = omega arith;
      less = λ i l. absurd (omega arith);
      is_lost = λ i l. absurd (omega arith);
      not-bound = λ i l. absurd (omega arith);
      apart = λ i l a b e. absurd (omega arith);
      every = λ _ p l e f.
          let k = not-passed 0 first N p (omega arith) (free-join p e f) in
          absurd (omega arith);
    }

    module _ (inside : first < length marks) (second : ℕ) (M : NextFree marks bound (first + 1) second) where
      -- the first, or one from the second on
      cases : (p : ℕ) → free marks bound p ≡ true → (p ≡ first) ⊎ (second ≤ p)
      cases p e = elim (dec_lt first p) [
        | yes k ↦ inr (not-passed (first + 1) second M p (omega arith) e)
        | no k ↦ (let l = not-passed 0 first N p (omega arith) e in inl (omega arith))
      ]

      pub free_one : length marks ≤ second → FreePlaces marks bound 1 first 0
      free_one h = record {
        most = omega arith;
        less = λ i l. is-first (λ f. f < length marks) i l inside;
        is_lost = λ i l. is-first (λ f. lost marks f ≡ true) i l (free-split first (N.found inside)).0;
        not-bound = λ i l. is-first (λ f. lost bound f ≡ false) i l (free-split first (N.found inside)).1;
        apart = λ i l a b e. omega arith;
        every = λ _ p l e f.
            ⊎_elim (λ q. (0, omega arith, q)) (λ q. absurd (omega arith)) (cases p (free-join p e f));
      }
        where
          is-first : (P : ℕ → Type 0) (i : ℕ) → i < 1 → P first → P (free_at first 0 i)
          is-first P zero l x = x
          is-first P (suc i) l x = absurd (omega arith)

      pub free-two : second < length marks → FreePlaces marks bound 2 first second
      free-two h = record {
        most = omega arith;
        less = λ i l. either (λ f. f < length marks) i inside h;
        is_lost = λ i l. either (λ f. lost marks f ≡ true) i (free-split first (N.found inside)).0 (free-split second (M.found h)).0;
        not-bound = λ i l. either (λ f. lost bound f ≡ false) i (free-split first (N.found inside)).1 (free-split second (M.found h)).1;
        apart = apart;
        every = λ two p l e f. go two p l (free-join p e f);
      }
        where
          either : (P : ℕ → Type 0) (i : ℕ) → P first → P second → P (free_at first second i)
          either P zero x y = x
          either P (suc i) x y = y

          apart : (i l : ℕ) → i < 2 → l < 2 → free_at first second i ≡ free_at first second l → i ≡ l
          apart zero zero a b e = refl
          apart zero (suc l) a b e = let o = M.on in absurd (omega arith)
          apart (suc i) zero a b e = let o = M.on in absurd (omega arith)
          apart (suc i) (suc l) a b e = omega arith

          -- a third would make three
          go : count_below (length marks) (free marks bound) ≤ 2 → (p : ℕ) → p < length marks → free marks bound p ≡ true
              → (i : ℕ) × (i < 2) × (p ≡ free_at first second i)
          go two p l e = ⊎_elim (λ q. (0, omega arith, q)) (λ q. elim (ℕ_discrete p second) [
            | yes s ↦ (1, omega arith, s)
            | no s ↦
                (let o = M.on in
                let a = count_next first second (free marks bound) (omega arith) (N.found inside) in
                let b = count_next second p (free marks bound) (omega arith) (M.found h) in
                let d = count_next p (length marks) (free marks bound) l e in
                absurd (omega arith))
          ]) (cases p e)
