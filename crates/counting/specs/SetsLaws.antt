-- Laws: Sets of numbers in the order of their size and then of their numbers.
use Rattle.std.specs.Prelude.{◌≡◌, refl, ◌⊎◌, Bool, true, false, cond, List, [], ◌∷◌, ◌++◌, map, ℕ, zero, suc, ◌+◌, ◌<◌, ◌≤◌, length}
use Rattle.std.proofs.Common.{sym, ◌∙◌, subst, inl, inr, arith}
use Rattle.std.proofs.Math.Path.{ap}
use Rattle.std.proofs.Math.Option
use Rattle.std.proofs.Math.Option.{Option, none, some, some-injective, none-ne-some, some-ne-none}
use Rattle.std.proofs.Math.Decide.{dec_lt, ℕ_discrete}
use Rattle.counting.specs.Sets.{IsSet, Before, sets_of, sets_below, first_in}

-- the first of two lists after each other
pub first-append-some : (f : List ℕ → Bool) (xs ys : List (List ℕ)) (s : List ℕ) → first_in f xs ≡ some s → first_in f (xs ++ ys) ≡ some s
unfolding first_in
first-append-some f [] ys s h = absurd (none-ne-some s h)
first-append-some f (x ∷ xs) ys s h = go (f x) (first-append-some f xs ys s) h
  where
    go : (b : Bool) → (first_in f xs ≡ some s → first_in f (xs ++ ys) ≡ some s)
        → cond b (some x) (first_in f xs) ≡ some s → cond b (some x) (first_in f (xs ++ ys)) ≡ some s
    go true ih h = h
    go false ih h = ih h

pub first-append-none : (f : List ℕ → Bool) (xs ys : List (List ℕ)) → first_in f xs ≡ none → first_in f (xs ++ ys) ≡ first_in f ys
unfolding first_in
first-append-none f [] ys h = refl
first-append-none f (x ∷ xs) ys h = go (f x) (first-append-none f xs ys) h
  where
    go : (b : Bool) → (first_in f xs ≡ none → first_in f (xs ++ ys) ≡ first_in f ys)
        → cond b (some x) (first_in f xs) ≡ none → cond b (some x) (first_in f (xs ++ ys)) ≡ first_in f ys
    go true ih h = absurd (some-ne-none x h)
    go false ih h = ih h

-- of lists that all begin with a
first-map : (f : List ℕ → Bool) (a : ℕ) (xs : List (List ℕ))
    → first_in f (map (λ s. a ∷ s) xs) ≡ Option.map (λ s. a ∷ s) (first_in (λ s. f (a ∷ s)) xs)
unfolding first_in
first-map f a [] = refl
first-map f a (x ∷ xs) = go (f (a ∷ x)) (first-map f a xs)
  where
    go : (b : Bool) → first_in f (map (λ s. a ∷ s) xs) ≡ Option.map (λ s. a ∷ s) (first_in (λ s. f (a ∷ s)) xs)
        → cond b (some (a ∷ x)) (first_in f (map (λ s. a ∷ s) xs)) ≡ Option.map (λ s. a ∷ s) (cond b (some x) (first_in (λ s. f (a ∷ s)) xs))
    go true ih = refl
    go false ih = ih

-- sets with a first, then those without it
module _ (f : List ℕ → Bool) (k a n : ℕ) where
  pub step-some : (t : List ℕ) → first_in (λ s. f (a ∷ s)) (sets_of k (suc a) n) ≡ some t → first_in f (sets_of (suc k) a (suc n)) ≡ some (a ∷ t)
  unfolding sets_of
  step-some t h =
      first-append-some f (map (λ s. a ∷ s) (sets_of k (suc a) n)) _ (a ∷ t) (first-map f a (sets_of k (suc a) n) ∙ ap (Option.map (λ s. a ∷ s)) h)

  pub step-none : first_in (λ s. f (a ∷ s)) (sets_of k (suc a) n) ≡ none → first_in f (sets_of (suc k) a (suc n)) ≡ first_in f (sets_of (suc k) (suc a) n)
  unfolding sets_of
  step-none h =
      first-append-none f (map (λ s. a ∷ s) (sets_of k (suc a) n)) _ (first-map f a (sets_of k (suc a) n) ∙ ap (Option.map (λ s. a ∷ s)) h)

-- the set of no numbers
pub empty-true : (f : List ℕ → Bool) (a n : ℕ) → f [] ≡ true → first_in f (sets_of 0 a n) ≡ some []
unfolding sets_of first_in
empty-true f a n e = rw e

pub empty-false : (f : List ℕ → Bool) (a n : ℕ) → f [] ≡ false → first_in f (sets_of 0 a n) ≡ none
unfolding sets_of first_in
empty-false f a n e = rw e

pub no-numbers : (f : List ℕ → Bool) (k a : ℕ) → first_in f (sets_of (suc k) a 0) ≡ none
unfolding sets_of first_in
no-numbers f k a = refl

pub set-from : (a w : ℕ) (s : List ℕ) → IsSet (suc a) w s → IsSet a w s
set-from a w [] h = tt
set-from a w (j ∷ s) h = let l = h.0 in (omega arith, h.1, h.2)

-- what is found is a set of k numbers that passes
pub sets-found : (f : List ℕ → Bool) (k a n w : ℕ) → a + n ≡ w → (s : List ℕ) → first_in f (sets_of k a n) ≡ some s
    → IsSet a w s × (length s ≡ k) × (f s ≡ true)
sets-found f zero a n w e s h = go (f []) refl
  where
    go : (b : Bool) → f [] ≡ b → IsSet a w s × (length s ≡ zero) × (f s ≡ true)
    go true d =
        let q : [] ≡ s = some-injective [] s (sym (empty-true f a n d) ∙ h) in
        subst (λ s. IsSet a w s × (length s ≡ zero) × (f s ≡ true)) q (tt, refl, d)
    go false d = absurd (none-ne-some s (sym (empty-false f a n d) ∙ h))
sets-found f (suc k) a zero w e s h = absurd (none-ne-some s (sym (no-numbers f k a) ∙ h))
sets-found f (suc k) a (suc n) w e s h =
    go (first_in (λ s. f (a ∷ s)) (sets_of k (suc a) n)) refl (sets-found (λ s. f (a ∷ s)) k (suc a) n w (omega arith))
    (sets-found f (suc k) (suc a) n w (omega arith) s)
  where
    go : (o : Option (List ℕ)) → first_in (λ s. f (a ∷ s)) (sets_of k (suc a) n) ≡ o
        → ((t : List ℕ) → first_in (λ s. f (a ∷ s)) (sets_of k (suc a) n) ≡ some t → IsSet (suc a) w t × (length t ≡ k) × (f (a ∷ t) ≡ true))
        → (first_in f (sets_of (suc k) (suc a) n) ≡ some s → IsSet (suc a) w s × (length s ≡ suc k) × (f s ≡ true))
        → IsSet a w s × (length s ≡ suc k) × (f s ≡ true)
    go none d with-a without =
        let r = without (sym (step-none f k a n d) ∙ h) in (set-from a w s r.0, r.1, r.2)
    go (some t) d with-a without =
        let r = with-a t d in
        let q : a ∷ t ≡ s = some-injective (a ∷ t) s (sym (step-some f k a n t d) ∙ h) in
        subst (λ s. IsSet a w s × (length s ≡ suc k) × (f s ≡ true)) q ((omega arith, omega arith, r.0), ap suc r.1, r.2)

-- where none is found no set of k numbers passes
pub sets-none : (f : List ℕ → Bool) (k a n w : ℕ) → a + n ≡ w → first_in f (sets_of k a n) ≡ none
    → (t : List ℕ) → IsSet a w t → length t ≡ k → f t ≡ false
sets-none f zero a n w e h [] i l = go (f []) refl
  where
    go : (b : Bool) → f [] ≡ b → f [] ≡ false
    go true d = absurd (some-ne-none [] (sym (empty-true f a n d) ∙ h))
    go false d = d
sets-none f zero a n w e h (j ∷ t) i l = absurd (omega arith)
sets-none f (suc k) a zero w e h [] i l = absurd (omega arith)
sets-none f (suc k) a zero w e h (j ∷ t) i l = let x = i.0 in let y = i.1 in absurd (omega arith)
sets-none f (suc k) a (suc n) w e h [] i l = absurd (omega arith)
sets-none f (suc k) a (suc n) w e h (j ∷ t) i l =
    go (first_in (λ s. f (a ∷ s)) (sets_of k (suc a) n)) refl (λ d. sets-none (λ s. f (a ∷ s)) k (suc a) n w (omega arith) d t)
    (λ d. sets-none f (suc k) (suc a) n w (omega arith) d (j ∷ t))
  where
    go : (o : Option (List ℕ)) → first_in (λ s. f (a ∷ s)) (sets_of k (suc a) n) ≡ o
        → (first_in (λ s. f (a ∷ s)) (sets_of k (suc a) n) ≡ none → IsSet (suc a) w t → length t ≡ k → f (a ∷ t) ≡ false)
        → (first_in f (sets_of (suc k) (suc a) n) ≡ none → IsSet (suc a) w (j ∷ t) → suc (length t) ≡ suc k → f (j ∷ t) ≡ false)
        → f (j ∷ t) ≡ false
    go (some s) d with-a without = absurd (some-ne-none (a ∷ s) (sym (step-some f k a n s d) ∙ h))
    go none d with-a without = elim (ℕ_discrete j a) [
      | yes q ↦ subst (λ x. f (x ∷ t) ≡ false) (sym q) (with-a d (subst (λ x. IsSet (suc x) w t) q i.2) (omega arith))
      | no q ↦ (let x = i.0 in without (sym (step-none f k a n d) ∙ h) (omega arith, i.1, i.2) l)
    ]

-- no set of k numbers that comes before the one found passes
pub sets-before : (f : List ℕ → Bool) (k a n w : ℕ) → a + n ≡ w → (s : List ℕ) → first_in f (sets_of k a n) ≡ some s
    → (t : List ℕ) → IsSet a w t → length t ≡ k → Before t s → f t ≡ false
sets-before f k a n w e s h [] i l b = absurd b
sets-before f zero a n w e s h (j ∷ t) i l b = absurd (omega arith)
sets-before f (suc k) a zero w e s h (j ∷ t) i l b = absurd (none-ne-some s (sym (no-numbers f k a) ∙ h))
sets-before f (suc k) a (suc n) w e s h (j ∷ t) i l b =
    go (first_in (λ s. f (a ∷ s)) (sets_of k (suc a) n)) refl (λ s d. sets-before (λ s. f (a ∷ s)) k (suc a) n w (omega arith) s d t)
    (λ d. sets-before f (suc k) (suc a) n w (omega arith) s d (j ∷ t))
  where
    go : (o : Option (List ℕ)) → first_in (λ s. f (a ∷ s)) (sets_of k (suc a) n) ≡ o
        → ((s : List ℕ) → first_in (λ s. f (a ∷ s)) (sets_of k (suc a) n) ≡ some s → IsSet (suc a) w t → length t ≡ k → Before t s → f (a ∷ t) ≡ false)
        → (first_in f (sets_of (suc k) (suc a) n) ≡ some s → IsSet (suc a) w (j ∷ t) → suc (length t) ≡ suc k → Before (j ∷ t) s → f (j ∷ t) ≡ false)
        → f (j ∷ t) ≡ false
    go (some s') d with-a without =
        let q : a ∷ s' ≡ s = some-injective (a ∷ s') s (sym (step-some f k a n s' d) ∙ h) in
        let b' : (j < a) ⊎ ((j ≡ a) × Before t s') = subst (λ s. Before (j ∷ t) s) (sym q) b in
        elim b' [
          | inl x ↦ (let y = i.0 in absurd (omega arith))
          | inr x ↦
              subst (λ x. f (x ∷ t) ≡ false) (sym x.0) (with-a s' d (subst (λ x. IsSet (suc x) w t) x.0 i.2) (omega arith) x.1)
        ]
    go none d with-a without = elim (ℕ_discrete j a) [
      | yes q ↦
          subst (λ x. f (x ∷ t) ≡ false) (sym q)
          (sets-none (λ s. f (a ∷ s)) k (suc a) n w (omega arith) d t (subst (λ x. IsSet (suc x) w t) q i.2) (omega arith))
      | no q ↦ (let x = i.0 in without (sym (step-none f k a n d) ∙ h) (omega arith, i.1, i.2) l b)
    ]

-- two tests that agree on the sets of k numbers find the same
pub sets-ext : (f g : List ℕ → Bool) (k a n w : ℕ) → a + n ≡ w → ((s : List ℕ) → IsSet a w s → f s ≡ g s)
    → first_in f (sets_of k a n) ≡ first_in g (sets_of k a n)
unfolding sets_of first_in
sets-ext f g zero a n w e same = ap (λ b. cond b (some []) none) (same [] tt)
sets-ext f g (suc k) a zero w e same = refl
sets-ext f g (suc k) a (suc n) w e same =
    go (first_in (λ s. f (a ∷ s)) (sets_of k (suc a) n)) refl
    (sets-ext (λ s. f (a ∷ s)) (λ s. g (a ∷ s)) k (suc a) n w (omega arith) (λ s i. same (a ∷ s) (omega arith, omega arith, i)))
    (sets-ext f g (suc k) (suc a) n w (omega arith) (λ s i. same s (set-from a w s i)))
  where
    go : (o : Option (List ℕ)) → first_in (λ s. f (a ∷ s)) (sets_of k (suc a) n) ≡ o
        → first_in (λ s. f (a ∷ s)) (sets_of k (suc a) n) ≡ first_in (λ s. g (a ∷ s)) (sets_of k (suc a) n)
        → first_in f (sets_of (suc k) (suc a) n) ≡ first_in g (sets_of (suc k) (suc a) n)
        → first_in f (sets_of (suc k) a (suc n)) ≡ first_in g (sets_of (suc k) a (suc n))
    go none d with-a without = step-none f k a n d ∙ without ∙ sym (step-none g k a n (sym with-a ∙ d))
    go (some t) d with-a without = step-some f k a n t d ∙ sym (step-some g k a n t (sym with-a ∙ d))

-- sets of fewer than k numbers, one size after another
module _ (f : List ℕ → Bool) (k w : ℕ) where
  pub below_more : first_in f (sets_below k w) ≡ none → first_in f (sets_below (suc k) w) ≡ first_in f (sets_of k 0 w)
  unfolding sets_below
  below_more h = first-append-none f (sets_below k w) (sets_of k 0 w) h

  pub below-same : (s : List ℕ) → first_in f (sets_below k w) ≡ some s → first_in f (sets_below (suc k) w) ≡ some s
  unfolding sets_below
  below-same s h = first-append-some f (sets_below k w) (sets_of k 0 w) s h

-- a set that is found stays the first
pub below_stays : (f : List ℕ → Bool) (k n w : ℕ) (s : List ℕ) → first_in f (sets_below k w) ≡ some s → k ≤ n → first_in f (sets_below n w) ≡ some s
below_stays f k zero w s h l = subst (λ k. first_in f (sets_below k w) ≡ some s) (omega arith) h
below_stays f k (suc n) w s h l = elim (ℕ_discrete k (suc n)) [
  | yes e ↦ subst (λ k. first_in f (sets_below k w) ≡ some s) e h
  | no e ↦ below-same f n w s (below_stays f k n w s h (omega arith))
]

pub below-zero : (f : List ℕ → Bool) (w : ℕ) → first_in f (sets_below 0 w) ≡ none
unfolding sets_below first_in
below-zero f w = refl

-- what is found is the first of its size, and no smaller size has one
pub below-found : (f : List ℕ → Bool) (k w : ℕ) (s : List ℕ) → first_in f (sets_below k w) ≡ some s
    → (length s < k) × (first_in f (sets_of (length s) 0 w) ≡ some s) × (first_in f (sets_below (length s) w) ≡ none)
below-found f zero w s h = absurd (none-ne-some s (sym (below-zero f w) ∙ h))
below-found f (suc k) w s h = go (first_in f (sets_below k w)) refl (below-found f k w s)
  where
    go : (o : Option (List ℕ)) → first_in f (sets_below k w) ≡ o
        → (first_in f (sets_below k w) ≡ some s → (length s < k) × (first_in f (sets_of (length s) 0 w) ≡ some s) × (first_in f (sets_below (length s) w) ≡ none))
        → (length s < suc k) × (first_in f (sets_of (length s) 0 w) ≡ some s) × (first_in f (sets_below (length s) w) ≡ none)
    go none d ih =
        let h' : first_in f (sets_of k 0 w) ≡ some s = sym (below_more f k w d) ∙ h in
        let l : k ≡ length s = sym (sets-found f k 0 w w (omega arith) s h').1 in
        (omega arith, subst (λ k. first_in f (sets_of k 0 w) ≡ some s) l h', subst (λ k. first_in f (sets_below k w) ≡ none) l d)
    go (some t) d ih = let r = ih (d ∙ sym (below-same f k w t d) ∙ h) in let l = r.0 in (omega arith, r.1, r.2)

-- where none is found no size has one
pub below_none : (f : List ℕ → Bool) (k w : ℕ) → first_in f (sets_below k w) ≡ none → (i : ℕ) → i < k → first_in f (sets_of i 0 w) ≡ none
below_none f zero w h i l = absurd (omega arith)
below_none f (suc k) w h i l = go (first_in f (sets_below k w)) refl (below_none f k w)
  where
    go : (o : Option (List ℕ)) → first_in f (sets_below k w) ≡ o
        → (first_in f (sets_below k w) ≡ none → (i : ℕ) → i < k → first_in f (sets_of i 0 w) ≡ none) → first_in f (sets_of i 0 w) ≡ none
    go (some t) d ih = absurd (some-ne-none t (sym (below-same f k w t d) ∙ h))
    go none d ih = elim (ℕ_discrete i k) [
      | yes q ↦ subst (λ i. first_in f (sets_of i 0 w) ≡ none) (sym q) (sym (below_more f k w d) ∙ h)
      | no q ↦ ih d i (omega arith)
    ]

-- two tests that agree on all sets
pub below-ext : (f g : List ℕ → Bool) (k w : ℕ) → ((s : List ℕ) → IsSet 0 w s → f s ≡ g s) → first_in f (sets_below k w) ≡ first_in g (sets_below k w)
below-ext f g zero w same = below-zero f w ∙ sym (below-zero g w)
below-ext f g (suc k) w same = go (first_in f (sets_below k w)) refl (below-ext f g k w same)
  where
    go : (o : Option (List ℕ)) → first_in f (sets_below k w) ≡ o → first_in f (sets_below k w) ≡ first_in g (sets_below k w)
        → first_in f (sets_below (suc k) w) ≡ first_in g (sets_below (suc k) w)
    go none d ih = below_more f k w d ∙ sets-ext f g k 0 w w (omega arith) same ∙ sym (below_more g k w (sym ih ∙ d))
    go (some t) d ih = below-same f k w t d ∙ sym (below-same g k w t (sym ih ∙ d))

-- of two lists of one length one comes before the other, or they are the same
pub before-total : (s t : List ℕ) → length s ≡ length t → (Before s t) ⊎ ((s ≡ t) ⊎ (Before t s))
before-total [] [] e = inr (inl refl)
before-total [] (j ∷ t) e = absurd (omega arith)
before-total (i ∷ s) [] e = absurd (omega arith)
before-total (i ∷ s) (j ∷ t) e = go (before-total s t (omega arith))
  where
    go : (Before s t) ⊎ ((s ≡ t) ⊎ (Before t s)) → (Before (i ∷ s) (j ∷ t)) ⊎ ((i ∷ s ≡ j ∷ t) ⊎ (Before (j ∷ t) (i ∷ s)))
    go r = elim (ℕ_discrete i j) [
      | yes q ↦ (elim r [
        | inl b ↦ inl (inr (q, b))
        | inr o ↦ (elim o [
          | inl e ↦ inr (inl (cc))
          | inr b ↦ inr (inr (inr (sym q, b)))
        ])
      ])
      | no q ↦ (elim (dec_lt i j) [
        | yes l ↦ inl (inl l)
        | no l ↦ inr (inr (inl (omega arith)))
      ])
    ]
