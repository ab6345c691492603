-- Laws: Lists as index sets: members, distinct images, the numbers below n, what a test keeps, and a list of lists as one.
use Rattle.std.specs.Prelude.{◌≡◌, Bool, true, false, cond, not, ℕ, zero, suc, ◌+◌, ◌<◌, ◌≤◌, length}
use Rattle.std.proofs.Math.Path.{refl}
use Rattle.std.proofs.Common.{sym, ◌∙◌, ap, subst, true≢false, arith, length-append}
use Rattle.std.proofs.Math.Logic.{inl, inr}
use mathlib.Core.List.Memᴰ
use mathlib.Core.List.Memᴰ.{head as here}
use mathlib.Core.List.Memᴰ.{tail as there}
use mathlib.Core.List.{List, [], ◌∷◌, ◌++◌, map, flat_map}
use Rattle.std.proofs.Math.Decide.{ℕ_discrete}
use Rattle.algebra.specs.Lists.{◌∈◌, All, Distinct, below, total, filter}

pub all_cons : {A : Type 0} {Q : A → Type 0} {b : A} {l : List A} → Q b → All l Q → All (b ∷ l) Q
all_cons {Q} z f a (here e) = subst Q (sym e) z
all_cons z f a (there h) = f a h

module _ {A B : Type 0} (f : A → B) where
  -- Members with distinct images are distinct.
  pub distinct-members : (l : List A) → Distinct f l → Distinct (λ a. a) l
  distinct-members [] d = tt
  distinct-members (a ∷ l) d = ((λ b h e. d.0 b h (ap f e)), distinct-members l d.1)

  pub distinct-map : {C : Type 0} (k : B → C) (l : List A) → Distinct (λ a. k (f a)) l → Distinct k (map f l)
  distinct-map k [] d = tt
  distinct-map k (a ∷ l) d = ((λ b h e. let w = Memᴰ.of_map f l h in d.0 w.0 w.1 (ap k w.2 ∙ e)), distinct-map k l d.1)

distinct_append : {A : Type 0} (l k : List A) → Distinct (λ a. a) l → Distinct (λ a. a) k → All l (λ a. ¬ (a ∈ k)) → Distinct (λ a. a) (l ++ k)
distinct_append [] k d e f = e
distinct_append (a ∷ l) k d e f = (
  (λ b h s. elim (Memᴰ.append_cases l h) [ inl i ↦ d.0 b i s | inr i ↦ f a (here refl) (subst (λ t. t ∈ k) s i) ]),
  distinct_append l k d.1 e (λ b h. f b (there h)),
)

pub length-below : (n : ℕ) → length (below n) ≡ n
length-below zero = refl
length-below (suc n) = ap suc (length-below n)

pub below_less : (n i : ℕ) → i ∈ below n → i < n
below_less zero i h = elim h [ ]
below_less (suc n) i (here e) = omega arith
below_less (suc n) i (there h) = let l : i < n = below_less n i h in omega arith

pub in-below : (n i : ℕ) → i < n → i ∈ below n
in-below zero i l = absurd (omega arith)
in-below (suc n) i l = elim (ℕ_discrete i n) [ yes e ↦ here e | no d ↦ there (in-below n i (omega arith)) ]

pub distinct-below : {A : Type 0} (f : ℕ → A) (n : ℕ) → ((s t : ℕ) → s < n → t < n → ¬ (s ≡ t) → ¬ (f s ≡ f t)) → Distinct f (below n)
distinct-below f zero h = tt
distinct-below f (suc n) h = (
  (λ r k. let l : r < n = below_less n r k in h r n (omega arith) (omega arith) (λ e. omega arith)),
  distinct-below f n (λ s t k l. h s t (omega arith) (omega arith)),
)

pub below-distinct : (n : ℕ) → Distinct (λ i. i) (below n)
below-distinct n = distinct-below (λ i. i) n (λ s t _ _ d. d)

module _ {A : Type 0} (test : A → Bool) where
  -- Induction on a list and what the test keeps of it.
  pub filter-elim : (R : List A → List A → Type 0) → R [] [] → ((a : A) (l k : List A) → test a ≡ true → R l k → R (a ∷ l) (a ∷ k))
      → ((a : A) (l k : List A) → test a ≡ false → R l k → R (a ∷ l) k) → (l : List A) → R l (filter test l)
  filter-elim R n s d [] = n
  filter-elim R n s d (a ∷ l) = go (test a) refl (filter-elim R n s d l)
    where
      go : (v : Bool) → test a ≡ v → R l (filter test l) → R (a ∷ l) (cond v (a ∷ filter test l) (filter test l))
      go true e h = s a l (filter test l) e h
      go false e h = d a l (filter test l) e h

  -- What is kept is a member that passes the test, and the other way round.
  pub filter-in : (l : List A) → All (filter test l) (λ a. (a ∈ l) × (test a ≡ true))
  filter-in = filter-elim (λ l k. All k (λ a. (a ∈ l) × (test a ≡ true)))
      (λ a h. elim h [ ])
      (λ a l k e f. all_cons {Q = λ b. (b ∈ (a ∷ l)) × (test b ≡ true)} (here refl, e) (λ b h. (there (f b h).0, (f b h).1)))
      (λ a l k e f b h. (there (f b h).0, (f b h).1))

  -- What holds of the members kept and of those not kept holds of all.
  pub filter-all : {Q : A → Type 0} (l : List A) → All (filter test l) Q → All l (λ a. test a ≡ false → Q a) → All l Q
  filter-all {Q} = filter-elim (λ l k. All k Q → All l (λ a. test a ≡ false → Q a) → All l Q)
      (λ f g. f)
      (λ a l k e h f g. all_cons {Q = Q} (f a (here refl)) (h (λ b i. f b (there i)) (λ b i. g b (there i))))
      (λ a l k e h f g. all_cons {Q = Q} (g a (here refl) e) (h f (λ b i. g b (there i))))

  pub in-filter : (l : List A) → All l (λ a. test a ≡ true → a ∈ (filter test) l)
  in-filter l = filter-all {Q = λ a. test a ≡ true → a ∈ (filter test) l} l (λ a h _. h) (λ a h e t. absurd (true≢false (sym t ∙ e)))

  pub filter-distinct : {B : Type 0} (f : A → B) (l : List A) → Distinct f l → Distinct f (filter test l)
  filter-distinct f [] d = tt
  filter-distinct f (a ∷ l) d = go (test a) (filter-distinct f l d.1)
    where
      go : (v : Bool) → Distinct f (filter test l) → Distinct f (cond v (a ∷ filter test l) (filter test l))
      go true e = ((λ b h. d.0 b (filter-in l b h).0), e)
      go false e = e

  pub total-filter : (f : A → ℕ) (l : List A) → total f (filter test l) ≤ total f l
  total-filter f = filter-elim (λ l k. total f k ≤ total f l) (omega arith) (λ a l k e h. omega arith) (λ a l k e h. omega arith)

-- A test parts a list in two.
pub filter-count : {A : Type 0} (test : A → Bool) (l : List A) → length (filter test l) + length (filter (λ a. not (test a)) l) ≡ length l
filter-count test = filter-elim test (λ l k. length k + length (filter (λ a. not (test a)) l) ≡ length l)
    refl
    (λ a l k e h. rw e (omega arith))
    (λ a l k e h. rw e (omega arith))

-- A test that passes whatever another passes, and a member besides, keeps more.
module _ {A : Type 0} (s t : A → Bool) (more : (a : A) → s a ≡ true → t a ≡ true) where
  filter-le : (l : List A) → length (filter s l) ≤ length (filter t l)
  filter-le [] = omega arith
  filter-le (a ∷ l) = go (s a) (t a) refl refl (filter-le l)
    where
      go : (u v : Bool) → s a ≡ u → t a ≡ v → length (filter s l) ≤ length (filter t l)
          → length (cond u (a ∷ filter s l) (filter s l)) ≤ length (cond v (a ∷ filter t l) (filter t l))
      go true true d e h = omega arith
      go true false d e h = absurd (true≢false (sym (more a d) ∙ e))
      go false true d e h = omega arith
      go false false d e h = h

  pub filter-less : {a : A} (l : List A) → a ∈ l → s a ≡ false → t a ≡ true → length (filter s l) < length (filter t l)
  filter-less {a = a} [] x3 d e = elim x3 [ ]
  filter-less {a} (b ∷ l) (here q) d e = rw (ap s (sym q) ∙ d, ap t (sym q) ∙ e) (let h = filter-le l in omega arith)
  filter-less {a} (b ∷ l) (there m) d e = go (s b) (t b) refl refl (filter-less l m d e)
    where
      go : (u v : Bool) → s b ≡ u → t b ≡ v → length (filter s l) < length (filter t l)
          → length (cond u (b ∷ filter s l) (filter s l)) < length (cond v (b ∷ filter t l) (filter t l))
      go true true d e h = omega arith
      go true false d e h = absurd (true≢false (sym (more b d) ∙ e))
      go false true d e h = omega arith
      go false false d e h = h

module _ {I P : Type 0} (f : I → List P) where
  -- The members of the lists of the members of l.
  pub in-flat : {i : I} {p : P} (l : List I) → i ∈ l → p ∈ f i → p ∈ flat_map f l
  unfolding flat_map
  in-flat {i = i} {p = p} [] x'' k = elim x'' [ ]
  in-flat {i} {p} (j ∷ l) (here e) k = Memᴰ.append_left (flat_map f l) (rw e at k)
  in-flat (j ∷ l) (there h) k = Memᴰ.append_right (f j) (in-flat l h k)

  pub flat_in : {p : P} (l : List I) → p ∈ flat_map f l → (i : I) × (i ∈ l) × (p ∈ f i)
  unfolding flat_map
  flat_in [] h = elim h [ ]
  flat_in (i ∷ l) h = elim (Memᴰ.append_cases (f i) h) [
    | inl k ↦ (i, here refl, k)
    | inr k ↦ let w = flat_in l k in (w.0, there w.1, w.2)
  ]

  -- No member twice, in lists whose members tell which list they are of.
  pub distinct-flat : (of : P → I) (l : List I) → Distinct (λ i. i) l → All l (λ i. Distinct (λ p. p) (f i) × All (f i) (λ p. of p ≡ i))
      → Distinct (λ p. p) (flat_map f l)
  unfolding flat_map
  distinct-flat of [] d e = tt
  distinct-flat of (i ∷ l) d e =
      distinct_append (f i) (flat_map f l) (e i (here refl)).0 (distinct-flat of l d.1 (λ j h. e j (there h)))
      (λ p h k. let w = flat_in l k in d.0 w.0 w.1 (sym ((e w.0 (there w.1)).1 p w.2) ∙ (e i (here refl)).1 p h))

-- Lists that are each shorter by n i are shorter by the total.
pub length-flat : {I P Q : Type 0} (f : I → List P) (g : I → List Q) (n : I → ℕ) → ((i : I) → length (f i) + n i ≡ length (g i)) → (l : List I)
    → length (flat_map f l) + total n l ≡ length (flat_map g l)
unfolding flat_map
length-flat f g n e [] = refl
length-flat f g n e (i ∷ l) =
    let w : length (flat_map f l) + total n l ≡ length (flat_map g l) = length-flat f g n e l in
    omega (arith, length-append (f i) (flat_map f l), length-append (g i) (flat_map g l), e i)
