-- Laws: The code over any layout of places in groups, and its erasure bound: with excess at most two the lost symbols are determined.
use Rattle.std.specs.Prelude.{◌≡◌, Bool, false, List, ℕ, ◌<◌, ◌≤◌}
use Rattle.std.proofs.Common.{sym, ◌∙◌, ap, ap₂, arith}
use Rattle.algebra.specs.Field.{Field, pow}
use Rattle.algebra.specs.FieldLaws.{add-self, mul_left_comm, mul-zero, mul-cancel, eq-of-add-zero, add-zero-of-eq, pow-ne-zero}
use Rattle.algebra.specs.Lists.{◌∈◌, All, below, filter}
use Rattle.algebra.specs.ListsLaws.{below_less, in-below, below-distinct, filter-in, filter-all, filter-distinct}
use Rattle.algebra.specs.Sum.{dot}
use Rattle.algebra.specs.SumLaws.{sum-ext, sum-add, sum-scale, dot-add, dot-zero, dot-filter}
use Rattle.algebra.specs.Tower.{Tower, q, across, across-q, Lost}
use Rattle.algebra.specs.TowerLaws.{g-ne-zero, excess-0, excess-1, excess-2, excess-1-1}
use Rattle.algebra.specs.Excess.{Cases}
use Rattle.algebra.specs.ExcessLaws.{all-zero}
use Rattle.algebra.specs.Unique.{Layout, AllPlaces, word-dot, Meets, coeff₁, coeff₂, Codeword, excess, total-excess}

module _ {F : Field} {T : Tower F} {P : Type 0} (L : Layout F T P) where
  open F use {K, add as ◌⊕◌, mul as ◌⊗◌, 𝟘}
  open T use {g}
  open L use {m, c, places, group_of, locator, few, distinct, small, own}

  infixl 65 ◌⊕◌
  infixl 70 ◌⊗◌
  -- A codeword that is zero off the lost places, with excess at most two, is zero.
  pub unique : (lost : P → Bool) (x : P → K) → Codeword L x → AllPlaces L (λ p. lost p ≡ false → x p ≡ 𝟘) → total-excess L lost ≤ 2
      → AllPlaces L (λ p. x p ≡ 𝟘)
  unique lost x X z t i l = filter-all lost (places i) (all i (in-below m i l)) (z i l)
    where
      gone : ℕ → List P
      gone i = filter lost (places i)

      Z : ℕ → Type 0
      Z i = All (gone i) (λ p. x p ≡ 𝟘)

      A : ℕ → K
      A i = across F T locator c (gone i) x

      B : ℕ → K
      B i = pow F g i ⊗ across-q F T locator c (gone i) x

      less : {i : ℕ} → i ∈ below m → i < m
      less {i} h = below_less m i h

      same : {i : ℕ} → i ∈ below m → (h : P → K) → dot F (gone i) x h ≡ dot F (places i) x h
      same {i} k h = dot-filter F lost (places i) x h (z i (less k))

      same₂ : {i : ℕ} → i ∈ below m → B i ≡ dot F (places i) x (coeff₂ L)
      same₂ {i} k = sym (sum-scale F (gone i) (pow F g i) _) ∙ sum-ext F (gone i) _ (λ p. x p ⊗ coeff₂ L p) at ∙ same k (coeff₂ L)
        where
          at : All (gone i) (λ p. pow F g i ⊗ (x p ⊗ pow F (coeff₁ L p) (q F T)) ≡ x p ⊗ coeff₂ L p)
          at p h =
              mul_left_comm F _ _ _
              ∙ ap (λ j. x p ⊗ (pow F g j ⊗ pow F (coeff₁ L p) (q F T))) (sym (own i (less k) p (filter-in lost (places i) p h).0))

      group : {i : ℕ} → i ∈ below m → Lost F T locator c (gone i) x
      group {i} h = record {
        distinct = filter-distinct lost locator (places i) (distinct i (less h));
        small = λ p k. small i (less h) p (filter-in lost (places i) p k).0;
        locals = λ e k. same h _ ∙ X.locals i (less h) e k;
      }

      cases : Cases F Z (excess L lost) A B (below m)
      cases = record {
        zero-A = λ i h. dot-zero F (gone i) x _;
        zero-B = λ i h k. ap (λ s. pow F g i ⊗ s) (dot-zero F (gone i) x _ k) ∙ mul-zero F _;
        case-0 = λ i h e. excess-0 F T locator c (gone i) x (group h) (omega arith);
        case-1 = λ i h e. excess-1 F T locator c (gone i) x (group h) (omega arith);
        case-2 = λ i h e e_a e_b.
            excess-2 F T locator c (gone i) x (group h) (omega arith) e_a (mul-cancel F (pow-ne-zero F i (g-ne-zero F T)) e_b);
        case-1-1 = λ i j h k n e e'.
            excess-1-1 F T locator c i j n (omega (arith, less h, few)) (omega (arith, less k, few)) (gone i) (gone j) x
            (group h) (group k) (omega arith) (omega arith);
      }

      all : All (below m) Z
      all = all-zero F Z (excess L lost) A B (below m) cases (below-distinct m) t
          (sum-ext F (below m) _ _ (λ i h. same h _) ∙ X.first)
          (sum-ext F (below m) _ _ (λ i h. same₂ h) ∙ X.second)

  word-dot-add : (x y h : P → K) → word-dot L x h ≡ 𝟘 → word-dot L y h ≡ 𝟘 → word-dot L (λ p. x p ⊕ y p) h ≡ 𝟘
  word-dot-add x y h ex ey =
      sum-ext F (below m) _ _ (λ i _. dot-add F (places i) x y h)
      ∙ sum-add F (below m) _ _ ∙ ap₂ ◌⊕◌ ex ey ∙ add-self F 𝟘

  -- The words that meet the equations are closed under addition.
  pub meets-add : {h₁ h₂ : P → K} (x y : P → K) → Meets L h₁ h₂ x → Meets L h₁ h₂ y → Meets L h₁ h₂ (λ p. x p ⊕ y p)
  meets-add x y X Y = record {
    locals = λ i l e k. dot-add F (places i) x y _ ∙ ap₂ ◌⊕◌ (X.locals i l e k) (Y.locals i l e k) ∙ add-self F 𝟘;
    first = word-dot-add x y _ X.first Y.first;
    second = word-dot-add x y _ X.second Y.second;
  }

  -- Two codewords that agree off the lost places, with excess at most two, are the same.
  pub same_word : (lost : P → Bool) (x y : P → K) → Codeword L x → Codeword L y → AllPlaces L (λ p. lost p ≡ false → x p ≡ y p)
      → total-excess L lost ≤ 2 → AllPlaces L (λ p. x p ≡ y p)
  same_word lost x y X Y z t i l p h =
      eq-of-add-zero F (unique lost _ (meets-add x y X Y) (λ i l p h e. add-zero-of-eq F (z i l p h e)) t i l p h)
