-- The laws of the lists that go through places one by one, for any test of a place.
use Rattle.std.specs.Prelude.{◌≡◌, Bool, ◌⊎◌, drop}
use Rattle.std.proofs.Math.Path.{refl, sym, ap}
use Rattle.std.proofs.Common.{ap₂, ◌∙◌, inl, inr, add-suc, suc-add, not-suc-le-zero, le_of_suc-le-suc, eq-or-lt_of_le, get_or-drop}
use Rattle.std.proofs.Math.Bool.{true, false}
use Rattle.std.proofs.lemmas.Bool.{false≢true}
use mathlib.Core.List.{List, [], ◌∷◌, ◌++◌, map, append_assoc}
use Prim.Native.Nat.{ℕ, zero, suc, ◌+◌, ◌≤◌, ◌<◌}
use Rattle.std.proofs.Math.Nat.{add-zero, le_refl}
use native.Mathlib.Omega.{arith}
use Rattle.std.proofs.Math.ListN.{length, get_or, length-append}
use Rattle.std.proofs.lemmas.List.{get_or_at}
use Rattle.code_services.specs.Places.{others_from, bytes_at, spread_from, mark, marks_from, spread_over, symbols_at}
use Rattle.counting.specs.Count.{total_below, count_below}

module _ (check : ℕ → Bool) where
  pub others-length : (p r : ℕ) → length (others_from check p r) + count_below (p + r) check ≡ r + count_below p check
  unfolding others_from total_below
  others-length p zero = rw add-zero
  others-length p (suc r) = go (check p) refl (others-length (suc p) r)
    where
      go : (b : Bool) → check p ≡ b → length (others_from check (suc p) r) + count_below (suc p + r) check ≡ r + count_below (suc p) check
          → length (others_from check p (suc r)) + count_below (p + suc r) check ≡ suc r + count_below p check
      go true e h =
          let q : p + suc r ≡ suc p + r = omega arith in
          let i = rw e at h in
          rw (q, e) (omega arith)
      go false e h =
          let q : p + suc r ≡ suc p + r = omega arith in
          let i = rw e at h in
          rw (q, e) (omega arith)

  pub others-ext : (u v : ℕ → ℕ) (p r : ℕ) → ((q : ℕ) → p ≤ q → q < p + r → check q ≡ false → u q ≡ v q) → map u (others_from check p r)
      ≡ map v (others_from check p r)
  unfolding others_from total_below
  others-ext u v p zero h = refl
  others-ext u v p (suc r) h =
      go (check p) refl (others-ext u v (suc p) r (λ q a b e. h q (omega arith) (omega arith) e))
    where
      go : (b : Bool) → check p ≡ b → map u (others_from check (suc p) r) ≡ map v (others_from check (suc p) r)
          → map u (others_from check p (suc r)) ≡ map v (others_from check p (suc r))
      go true e i = rw e i
      go false e i = rw e (ap₂ ◌∷◌ (h p (omega arith) (omega arith) e) i)

  pub ext-others : (u v : ℕ → ℕ) (p r : ℕ) → map u (others_from check p r) ≡ map v (others_from check p r) → (q : ℕ) → p ≤ q → q < p + r → check q ≡ false → u q
      ≡ v q
  unfolding others_from total_below
  ext-others u v p zero h q a b e = absurd (omega arith)
  ext-others u v p (suc r) h q a b e = go (check p) refl (eq-or-lt_of_le a) (λ i l. ext-others u v (suc p) r i q l (omega arith) e)
    where
      go : (b : Bool) → check p ≡ b → (p ≡ q) ⊎ (p < q) → (map u (others_from check (suc p) r) ≡ map v (others_from check (suc p) r) → suc p ≤ q → u q ≡ v q)
          → u q ≡ v q
      go true s (inl z) i = absurd (false≢true (sym e ∙ ap check (sym z) ∙ s))
      go true s (inr l) i = i (rw s at h) l
      go false s (inl z) i =
          let t : u p ∷ map u (others_from check (suc p) r) ≡ v p ∷ map v (others_from check (suc p) r) = rw s at h in
          let o : u p ≡ v p = cc in
          ap u (sym z) ∙ o ∙ ap v z
      go false s (inr l) i =
          let t : u p ∷ map u (others_from check (suc p) r) ≡ v p ∷ map v (others_from check (suc p) r) = rw s at h in
          i (cc) l

  pub spread-length : (p r : ℕ) (bytes : List ℕ) → length (spread_from check p r bytes) ≡ r
  unfolding spread_over
  spread-length p zero bytes = refl
  spread-length p (suc r) bytes = go (check p) refl (spread-length (suc p) r)
    where
      go : (b : Bool) → check p ≡ b → ((l : List ℕ) → length (spread_from check (suc p) r l) ≡ r) → length (spread_from check p (suc r) bytes) ≡ suc r
      go true e i = rw e (ap suc (i bytes))
      go false e i = rw e (ap suc (i (drop 1 bytes)))

  pub spread-check : (p r : ℕ) (bytes : List ℕ) (i : ℕ) → i < r → check (p + i) ≡ true → get_or (spread_from check p r bytes) i 0 ≡ 0
  unfolding spread_over
  spread-check p zero bytes i l e = absurd (not-suc-le-zero l)
  spread-check p (suc r) bytes zero l e = let s : check p ≡ true = ap check (sym (add-zero p)) ∙ e in rw s
  spread-check p (suc r) bytes (suc i) l e = go (check p) refl (λ bs. spread-check (suc p) r bs i (le_of_suc-le-suc l)
      (ap check (suc-add p i ∙ sym (add-suc p i)) ∙ e))
    where
      go : (b : Bool) → check p ≡ b → ((bs : List ℕ) → get_or (spread_from check (suc p) r bs) i 0 ≡ 0) → get_or (spread_from check p (suc r) bytes) (suc i) 0 ≡ 0
      go true s h = rw s (h bytes)
      go false s h = rw s (h (drop 1 bytes))

  pub spread-below : (b : ℕ) → 0 < b → (p r : ℕ) (bytes : List ℕ) → ((i : ℕ) → get_or bytes i 0 < b) → (i : ℕ) → get_or (spread_from check p r bytes) i 0 < b
  unfolding spread_over
  spread-below b l p zero bytes h i = l
  spread-below b l p (suc r) bytes h i = go (check p) refl (spread-below b l (suc p) r) i
    where
      go : (v : Bool) → check p ≡ v → ((bs : List ℕ) → ((i : ℕ) → get_or bs i 0 < b) → (i : ℕ) → get_or (spread_from check (suc p) r bs) i 0 < b)
          → (i : ℕ) → get_or (spread_from check p (suc r) bytes) i 0 < b
      go true e ih zero = rw e l
      go true e ih (suc i) = rw e (ih bytes h i)
      go false e ih zero = rw e (h 0)
      go false e ih (suc i) = rw e (ih (drop 1 bytes) (λ j. rw (get_or-drop 1 bytes j 0) (h (1 + j))) i)

  pub marks-length : (p r : ℕ) → length (marks_from check p r) ≡ r
  unfolding marks_from
  marks-length p zero = refl
  marks-length p (suc r) = ap suc (marks-length (suc p) r)

  pub marks-from : (p r i : ℕ) → i < r → get_or (marks_from check p r) i 0 ≡ mark (check (p + i))
  unfolding marks_from
  marks-from p zero i l = absurd (not-suc-le-zero l)
  marks-from p (suc r) zero l = rw add-zero
  marks-from p (suc r) (suc i) l = marks-from (suc p) r i (le_of_suc-le-suc l) ∙ ap (λ q. mark (check q)) (suc-add p i ∙ sym (add-suc p i))

  pub marks-small : (p r i : ℕ) → get_or (marks_from check p r) i 0 ≤ 1
  unfolding marks_from
  marks-small p zero i = omega arith
  marks-small p (suc r) zero = go (check p)
    where
      go : (v : Bool) → mark v ≤ 1
      go true = le_refl 1
      go false = omega arith
  marks-small p (suc r) (suc i) = marks-small (suc p) r i

  -- behind the places before p, what was spread is found again
  pub others-spread : (p r : ℕ) (before bytes : List ℕ) → length before ≡ p → length bytes ≡ length (others_from check p r)
      → map (λ q. get_or (before ++ spread_from check p r bytes) q 0) (others_from check p r) ≡ bytes
  unfolding others_from spread_over
  others-spread p zero before [] h k = refl
  others-spread p zero before (b ∷ bytes) h k = absurd (omega arith)
  others-spread p (suc r) before bytes h k = go (check p) refl bytes k (others-spread (suc p) r)
    where
      go : (b : Bool) → check p ≡ b → (bytes : List ℕ) → length bytes ≡ length (others_from check p (suc r))
          → ((before bytes : List ℕ) → length before ≡ suc p → length bytes ≡ length (others_from check (suc p) r)
          → map (λ q. get_or (before ++ spread_from check (suc p) r bytes) q 0) (others_from check (suc p) r) ≡ bytes)
          → map (λ q. get_or (before ++ spread_from check p (suc r) bytes) q 0) (others_from check p (suc r)) ≡ bytes
      go true e bytes k i = rw e (simp append_assoc at (i (before ++ (0 ∷ [])) bytes (simp length-append (omega arith)) (rw e at k)))
      go false e [] k i = let z = rw e at k in absurd (omega arith)
      go false e (b ∷ bytes) k i =
          let z = rw e at k in
          rw e (ap₂ ◌∷◌ (get_or_at before b (spread_from check (suc p) r bytes) 0 p h)
          (simp append_assoc at (i (before ++ (b ∷ [])) bytes (simp length-append (omega arith)) (omega arith))))

pub bytes_below : (b : ℕ) → 0 < b → (word : List ℕ) → ((i : ℕ) → get_or word i 0 < b) → (places : List ℕ) (i : ℕ) → get_or (bytes_at word places) i 0 < b
unfolding symbols_at
bytes_below b l word h [] i = l
bytes_below b l word h (p ∷ places) zero = h p
bytes_below b l word h (p ∷ places) (suc i) = bytes_below b l word h places i
