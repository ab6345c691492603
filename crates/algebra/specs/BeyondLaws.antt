-- Laws: With excess above two, no two equations across determine the lost symbols, whatever their coefficients.
use Rattle.std.specs.Prelude.{◌≡◌, refl, Bool, false, not, ℕ, zero, suc, ◌+◌, ◌<◌, length}
use Rattle.std.proofs.Common.{sym, ◌∙◌, arith, length-append}
use Rattle.std.proofs.Math.Path.{ap}
use mathlib.Core.HLevel.{Discrete, dec→stable}
use mathlib.Core.List.Memᴰ
use mathlib.Core.List.Memᴰ.{head as here}
use mathlib.Core.List.Memᴰ.{tail as there}
use mathlib.Core.List.{List, ◌∷◌, ◌++◌, map, flat_map}
use Rattle.std.proofs.Math.Decide.{ℕ_discrete}
use Rattle.std.proofs.lemmas.List.{length-map}
use Rattle.algebra.specs.Field.{Field, pow}
use Rattle.algebra.specs.FieldLaws.{mul-one, mul-zero}
use Rattle.algebra.specs.Lists.{◌∈◌, All, Distinct, below, filter}
use Rattle.algebra.specs.ListsLaws.{distinct-members, length-below, below_less, in-below, below-distinct, in-filter, filter-count, in-flat, flat_in}
use Rattle.algebra.specs.ListsLaws.{distinct-flat, length-flat}
use Rattle.algebra.specs.Sum.{dot}
use Rattle.algebra.specs.SumLaws.{sum-ext, sum-zero, sum-single, sum-flat, dot-zero}
use Rattle.algebra.specs.Vandermonde.{psum}
use Rattle.algebra.specs.Kernel.{Kernel}
use Rattle.algebra.specs.KernelLaws.{choose, choose_yes, choose_no, kernel}
use Rattle.algebra.specs.Tower.{Tower}
use Rattle.algebra.specs.Unique.{Layout, excess, total-excess}
use Rattle.algebra.specs.Beyond.{Hidden}

module _ {F : Field} {T : Tower F} {P : Type 0} (L : Layout F T P) where
  open F use {K, mul as ◌⊗◌, 𝟘, 𝟙, dec}
  open L use {m, c, places, group_of, locator, distinct, own}

  infixl 70 ◌⊗◌
  module _ (same : Discrete P) (lost : P → Bool) where
    abbrev present : P → Bool
    present p = not (lost p)

    -- The equation that x is zero at p.
    pin : P → P → K
    pin p r = choose (same r p) 𝟙 𝟘

    -- The local equation e of the group i, over the whole word.
    check : ℕ → ℕ → P → K
    check i e p = choose (ℕ_discrete (group_of p) i) (pow F (locator p) e) 𝟘

    -- The equations for the group i of excess n: as many as it has places, less n.
    abbrev equations-at : ℕ → ℕ → List (P → K)
    equations-at i zero = map pin (places i)
    equations-at i (suc n) = map pin (filter present (places i)) ++ map (check i) (below c)

    abbrev equations : ℕ → List (P → K)
    equations i = equations-at i (excess L lost i)

    count : (i : ℕ) → length (equations i) + excess L lost i ≡ length (places i)
    count i = go (excess L lost i) refl
      where
        go : (n : ℕ) → excess L lost i ≡ n → length (equations-at i n) + n ≡ length (places i)
        go zero e = omega (arith, length-map (places i) pin)
        go (suc n) e = simp (length-append, length-map, length-below) (omega (arith, filter-count lost (places i)))

    abbrev word : List P
    word = flat_map places (below m)

    word-distinct : Distinct (λ p. p) word
    word-distinct =
        distinct-flat places group_of (below m) (below-distinct m)
        (λ i h. (distinct-members locator (places i) (distinct i (below_less m i h)), own i (below_less m i h)))

    module _ (x : P → K) (meets : All (flat_map equations (below m)) (λ h. dot F word x h ≡ 𝟘)) (i : ℕ) (l : i < m) where
      meets_at : All (equations i) (λ h. dot F word x h ≡ 𝟘)
      meets_at h k = meets h (in-flat equations (below m) (in-below m i l) k)

      pinned : (p : P) → p ∈ places i → dot F word x (pin p) ≡ x p
      unfolding pin
      pinned p h =
          sum-single F word word-distinct _ (in-flat places (below m) (in-below m i l) h)
          (λ r _ n. ap (λ s. x r ⊗ s) (choose_no (same r p) 𝟙 𝟘 n) ∙ mul-zero F _)
          ∙ ap (λ s. x p ⊗ s) (choose_yes (same p p) 𝟙 𝟘 refl) ∙ mul-one F _

      checked : (e : ℕ) → dot F word x (check i e) ≡ psum F locator (places i) x e
      unfolding check
      checked e =
          sum-flat F places (below m) _
          ∙ sum-single F (below m) (below-distinct m) _ (in-below m i l)
          (λ j h n. sum-zero F (places j) _
          (λ p k. ap (λ s. x p ⊗ s) (choose_no (ℕ_discrete _ i) _ 𝟘 (λ o. n (sym (own j (below_less m j h) p k) ∙ o))) ∙ mul-zero F _))
          ∙ sum-ext F (places i) _ _ (λ p k. ap (λ s. x p ⊗ s) (choose_yes (ℕ_discrete _ i) _ 𝟘 (own i l p k)))

      zero-off : (p : P) → p ∈ places i → lost p ≡ false → x p ≡ 𝟘
      zero-off p h e = sym (pinned p h) ∙ go (excess L lost i) meets_at
        where
          go : (n : ℕ) → All (equations-at i n) (λ h. dot F word x h ≡ 𝟘) → dot F word x (pin p) ≡ 𝟘
          go zero f = f (pin p) (Memᴰ.map pin h)
          go (suc n) f = f (pin p) (Memᴰ.append_left _ (Memᴰ.map pin (in-filter present (places i) p h (ap not e))))

      local-zero : (e : ℕ) → e < c → psum F locator (places i) x e ≡ 𝟘
      local-zero e k = go (excess L lost i) meets_at
        where
          go : (n : ℕ) → All (equations-at i n) (λ h. dot F word x h ≡ 𝟘) → psum F locator (places i) x e ≡ 𝟘
          go zero f = dot-zero F (places i) x _ (λ p h. sym (pinned p h) ∙ f (pin p) (Memᴰ.map pin h))
          go (suc n) f = sym (checked e) ∙ f (check i e) (Memᴰ.append_right (map pin (filter present (places i))) (Memᴰ.map (check i) (in-below c e k)))

    -- With excess above two there is such a word, whatever the two equations across.
    pub beyond : (h₁ h₂ : P → K) → 2 < total-excess L lost → Hidden L lost h₁ h₂
    beyond h₁ h₂ t = record {
      x = N.x;
      off = λ p h. dec→stable (dec (N.x p) 𝟘) (λ n. n (N.off p (λ k.
          let w = flat_in places (below m) k in
          let l = below_less m w.0 w.1 in
          n (zero-off N.x rest w.0 l p w.2 (h w.0 l w.2)))));
      group = at.0;
      group-less = below_less m at.0 at.1;
      place = N.place;
      inside = at.2;
      nonzero = N.nonzero;
      meets = record {
        locals = local-zero N.x rest;
        first = sym (sum-flat F places (below m) _) ∙ N.meets h₁ (here refl);
        second = sym (sum-flat F places (below m) _) ∙ N.meets h₂ (there (here refl));
      };
    }
      where
        N : Kernel F same word (h₁ ∷ h₂ ∷ flat_map equations (below m))
        N = kernel F same word word-distinct _ (omega (arith, length-flat equations places (excess L lost) count (below m)))

        rest : All (flat_map equations (below m)) (λ h. dot F word N.x h ≡ 𝟘)
        rest h k = N.meets h (there (there k))

        at : (i : ℕ) × (i ∈ below m) × (N.place ∈ places i)
        at = flat_in places (below m) N.inside
