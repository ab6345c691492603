-- Laws: The different numbers of any list, in ascending order, are a set of no more numbers.
use Rattle.std.specs.Prelude.{◌≡◌, refl, Bool, true, false, cond, ◌||◌, List, [], ◌∷◌, ℕ, zero, suc, ◌+◌, ◌<◌, ◌≤◌, eqb, length}
use Rattle.std.proofs.Common.{sym, ap, ◌∙◌, subst, add-zero, arith, eq-eqb, ne_eqb}
use Rattle.std.proofs.Math.Decide.{ℕ_discrete}
use Rattle.counting.specs.Count.{one, total_below, count_below}
use Rattle.counting.specs.CountLaws.{total-none, total-suc, total_ext, total-le, total-zero, total-sum, total_first}
use Rattle.counting.specs.Sets.{is_in, IsSet}
use Rattle.counting.specs.SetsLaws.{set-from}

one-most : (a b : Bool) → one (a || b) ≤ one a + one b
one-most true b = omega arith
one-most false b = omega arith

-- one number is met at most once
once : (w i : ℕ) → count_below w (λ j. eqb j i) ≤ 1
once zero i = let z = total-none (λ j. one (eqb j i)) in omega arith
once (suc n) i = elim (ℕ_discrete n i) [
  | yes q ↦
      (let z : count_below n (λ j. eqb j i) ≡ 0 = total-zero n _ (λ j l. ap one (ne_eqb j i (λ e. omega arith))) in
      let v : one (eqb n i) ≡ 1 = ap one (eq-eqb n i q) in
      let t = total-suc n (λ j. one (eqb j i)) in
      omega arith)
  | no q ↦
      (let ih = once n i in
      let v : one (eqb n i) ≡ 0 = ap one (ne_eqb n i q) in
      let t = total-suc n (λ j. one (eqb j i)) in
      omega arith)
]

-- a list of k numbers has at most k different ones
pub in-few : (w : ℕ) (s : List ℕ) → count_below w (λ j. is_in j s) ≤ length s
in-few w [] = let z = total-zero w (λ j. 0) (λ j l. refl) in omega arith
in-few w (i ∷ s) =
    let ih = in-few w s in
    let o = once w i in
    let l = total-le w (λ j. one (eqb j i || is_in j s)) (λ j. one (eqb j i) + one (is_in j s)) (λ j _. one-most (eqb j i) (is_in j s)) in
    let t = total-sum w (λ j. one (eqb j i)) (λ j. one (is_in j s)) in
    omega arith

-- the numbers of a list from a to a + n - 1, ascending
unfoldable pub ascending : ℕ → ℕ → List ℕ → List ℕ
ascending a zero t = []
ascending a (suc n) t = cond (is_in a t) (a ∷ ascending (suc a) n t) (ascending (suc a) n t)

pub ascending-set : (a n w : ℕ) → a + n ≡ w → (t : List ℕ) → IsSet a w (ascending a n t)
unfolding ascending
ascending-set a zero w e t = tt
ascending-set a (suc n) w e t = go (is_in a t) (ascending-set (suc a) n w (omega arith) t)
  where
    go : (b : Bool) → IsSet (suc a) w (ascending (suc a) n t) → IsSet a w (cond b (a ∷ ascending (suc a) n t) (ascending (suc a) n t))
    go true h = (omega arith, omega arith, h)
    go false h = set-from a w (ascending (suc a) n t) h

ascending-length : (a n : ℕ) (t : List ℕ) → length (ascending a n t) ≡ count_below n (λ i. is_in (a + i) t)
unfolding ascending
ascending-length a zero t = sym (total-none _)
ascending-length a (suc n) t =
    go (is_in a t) refl (ascending-length (suc a) n t)
  where
    rest : total_below n (λ i. one (is_in (a + suc i) t)) ≡ count_below n (λ i. is_in (suc a + i) t)
    rest = total_ext n _ _ (λ i _. ap (λ x. one (is_in x t)) (omega arith))

    go : (b : Bool) → is_in a t ≡ b → length (ascending (suc a) n t) ≡ count_below n (λ i. is_in (suc a + i) t)
        → length (cond b (a ∷ ascending (suc a) n t) (ascending (suc a) n t)) ≡ count_below (suc n) (λ i. is_in (a + i) t)
    go true d h =
        let f = total_first n (λ i. one (is_in (a + i) t)) in
        let z : one (is_in (a + 0) t) ≡ 1 = ap (λ x. one (is_in x t)) (add-zero a) ∙ ap one d in
        let r = rest in
        omega arith
    go false d h =
        let f = total_first n (λ i. one (is_in (a + i) t)) in
        let z : one (is_in (a + 0) t) ≡ 0 = ap (λ x. one (is_in x t)) (add-zero a) ∙ ap one d in
        let r = rest in
        omega arith

-- no more of them than the list has
pub ascending-few : (w : ℕ) (t : List ℕ) → length (ascending 0 w t) ≤ length t
ascending-few w t =
    subst (λ n. n ≤ length t) (sym (ascending-length 0 w t ∙ total_ext w _ _ (λ j _. ap (λ x. one (is_in x t)) (omega arith)))) (in-few w t)

-- numbers before a set's first are not in it
pub not_in : (a w : ℕ) (s : List ℕ) → IsSet a w s → (j : ℕ) → j < a → is_in j s ≡ false
not_in a w [] h j l = refl
not_in a w (i ∷ s) h j l = let x = h.0 in rw (ne_eqb j i (λ e. omega arith)) (not_in (suc i) w s h.2 j (omega arith))

pub ascending-in : (a n : ℕ) (t : List ℕ) (j : ℕ) → a ≤ j → j < a + n → is_in j (ascending a n t) ≡ is_in j t
unfolding ascending
ascending-in a zero t j l h = absurd (omega arith)
ascending-in a (suc n) t j l h = elim (ℕ_discrete j a) [
  | yes q ↦ here (is_in a t) refl q
  | no q ↦ there (is_in a t) q (ascending-in (suc a) n t j (omega arith) (omega arith))
]
  where
    here : (b : Bool) → is_in a t ≡ b → j ≡ a → is_in j (cond b (a ∷ ascending (suc a) n t) (ascending (suc a) n t)) ≡ is_in j t
    here true d q = rw (eq-eqb j a q) (sym d ∙ ap (λ x. is_in x t) (sym q))
    here false d q =
        not_in (suc a) (suc a + n) (ascending (suc a) n t) (ascending-set (suc a) n (suc a + n) refl t) j (omega arith)
        ∙ (sym d ∙ ap (λ x. is_in x t) (sym q))

    there : (b : Bool) → (j ≡ a → ⊥) → is_in j (ascending (suc a) n t) ≡ is_in j t
        → is_in j (cond b (a ∷ ascending (suc a) n t) (ascending (suc a) n t)) ≡ is_in j t
    there true q ih = rw (ne_eqb j a q) ih
    there false q ih = ih
