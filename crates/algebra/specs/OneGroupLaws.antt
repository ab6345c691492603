-- Laws: One group by its own equations: with more lost places than equations they do not determine the lost symbols; with as many kept places as
-- equations, a one at another place is completed on the kept places to a word that meets them.
use Rattle.std.specs.Prelude.{◌≡◌, refl, Bool, false, map, ℕ, ◌<◌, length}
use Rattle.std.proofs.Common.{sym, ◌∙◌, ap, true≢false, arith}
use Rattle.std.proofs.Math.Bool.{true}
use mathlib.Core.List.Memᴰ
use Rattle.std.proofs.Math.Decide.{ℕ_discrete}
use Rattle.std.proofs.lemmas.List.{length-map}
use Rattle.algebra.specs.Field.{Field, pow}
use Rattle.algebra.specs.FieldLaws.{mul_assoc, mul_comm, mul-zero}
use Rattle.algebra.specs.Lists.{◌∈◌, All, below, filter}
use Rattle.algebra.specs.ListsLaws.{distinct-members, length-below, in-below, filter-in, filter-all, filter-less, filter-distinct}
use Rattle.algebra.specs.SumLaws.{sum-ext, sum-scale, dot-filter}
use Rattle.algebra.specs.VandermondeLaws.{vandermonde}
use Rattle.algebra.specs.Kernel.{Kernel}
use Rattle.algebra.specs.KernelLaws.{choose, choose_yes, choose_no, kernel}
use Rattle.algebra.specs.Tower.{Tower}
use Rattle.algebra.specs.Flat.{Geometry, group, locator}
use Rattle.algebra.specs.FlatLaws.{group-distinct}
use Rattle.algebra.specs.OneGroup.{HiddenGroup, WayGroup}

module _ {F : Field} {T : Tower F} (G : Geometry F T) where
  open F use {K, mul as ◌⊗◌, 𝟘, 𝟙, inv, mul-inv}

  infixl 70 ◌⊗◌
  -- With more than v places of the group lost there is such a word.
  pub beyond-group : (i v : ℕ) (lost : ℕ → Bool) → v < length (filter lost (group G i)) → HiddenGroup G i v lost
  beyond-group i v lost l = record {
    x = N.x;
    off = off;
    outside = λ p n. N.off p (λ h. n (filter-in lost (group G i) p h).0);
    place = N.place;
    inside = (filter-in lost (group G i) N.place N.inside).0;
    nonzero = N.nonzero;
    meets = λ e k. sym (dot-filter F lost (group G i) N.x (row e) (λ p _. off p)) ∙ N.meets (row e) (Memᴰ.map row (in-below v e k));
  }
    where
      row : ℕ → ℕ → K
      row e p = pow F (locator G p) e

      N : Kernel F ℕ_discrete (filter lost (group G i)) (map row (below v))
      N = kernel F ℕ_discrete (filter lost (group G i))
          (distinct-members (locator G) (filter lost (group G i)) (filter-distinct lost (locator G) (group G i) (group-distinct G i))) (map row (below v))
          (omega (arith, length-map (below v) row, length-below v))

      off : (p : ℕ) → lost p ≡ false → N.x p ≡ 𝟘
      off p e = N.off p (λ h. true≢false (sym (filter-in lost (group G i) p h).1 ∙ e))

  module _ (i p : ℕ) (kept : ℕ → Bool) (inside : p ∈ group G i) (free : kept p ≡ false) where
    -- the kept places and p
    more : ℕ → Bool
    more q = choose (ℕ_discrete q p) true (kept q)

    more-kept : (q : ℕ) → kept q ≡ true → more q ≡ true
    unfolding more
    more-kept q e = elim (ℕ_discrete q p) [
      | yes s ↦ choose_yes (ℕ_discrete q p) true (kept q) s
      | no n ↦ choose_no (ℕ_discrete q p) true (kept q) n ∙ e
    ]

    H : HiddenGroup G i (length (filter kept (group G i))) more
    unfolding more
    H = beyond-group i (length (filter kept (group G i))) more
        (filter-less kept more more-kept (group G i) inside free (choose_yes (ℕ_discrete p p) true (kept p) refl))

    zero-off : (q : ℕ) → kept q ≡ false → ¬ (q ≡ p) → H.x q ≡ 𝟘
    unfolding more
    zero-off q e n = H.off q (choose_no (ℕ_discrete q p) true (kept q) n ∙ e)

    -- were it zero at p it would be zero on the kept places too
    nonzero : ¬ (H.x p ≡ 𝟘)
    nonzero z = H.nonzero (filter-all kept {Q = λ q. H.x q ≡ 𝟘} (group G i) all (λ q _. off q) H.place H.inside)
      where
        off : (q : ℕ) → kept q ≡ false → H.x q ≡ 𝟘
        off q e = elim (ℕ_discrete q p) [ yes s ↦ ap H.x s ∙ z | no s ↦ zero-off q e s ]

        all : All (filter kept (group G i)) (λ q. H.x q ≡ 𝟘)
        all = vandermonde F (locator G) (filter kept (group G i)) H.x (filter-distinct kept (locator G) (group G i) (group-distinct G i))
            (λ e l. dot-filter F kept (group G i) H.x _ (λ q _. off q) ∙ H.meets e l)

    pub way-group : WayGroup G i p kept
    way-group = record {
      x = λ q. inv (H.x p) ⊗ H.x q;
      own = mul_comm F _ _ ∙ mul-inv (H.x p) nonzero;
      off = λ q e n. ap (λ s. inv (H.x p) ⊗ s) (zero-off q e n) ∙ mul-zero F _;
      outside = λ q n. ap (λ s. inv (H.x p) ⊗ s) (H.outside q n) ∙ mul-zero F _;
      meets = λ e l.
          sum-ext F (group G i) _ (λ q. inv (H.x p) ⊗ (H.x q ⊗ pow F (locator G q) e)) (λ q _. mul_assoc F _ _ _)
          ∙ sum-scale F (group G i) _ _ ∙ ap (λ s. inv (H.x p) ⊗ s) (H.meets e l) ∙ mul-zero F _;
    }
