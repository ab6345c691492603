-- Laws: The flat word of m groups of w places: place t of group i stands at i·w + t.
use Rattle.std.specs.Prelude.{◌≡◌, Bool, false, ℕ, suc, ◌+◌, ◌*◌, ◌/◌, ◌%◌, ◌<◌, ◌≤◌, length}
use Rattle.std.proofs.Common.{sym, ◌∙◌, ap, arith, mod-eq_of_lt, mod-lt, div-add-mod', div-lt_iff_lt-mul, add-zero}
use mathlib.Core.List.Memᴰ
use Rattle.std.proofs.Math.Decide.{ℕ_discrete}
use Rattle.std.proofs.Math.Nat.{mul-add-div_right, mul-add-mod_self_right, div-eq_of_lt}
use Rattle.algebra.specs.Field.{Field}
use Rattle.algebra.specs.FieldLaws.{eq-of-add-zero, add-zero-of-eq}
use Rattle.algebra.specs.Lists.{◌∈◌, All, Distinct, below, filter}
use Rattle.algebra.specs.ListsLaws.{distinct-map, below_less, in-below, distinct-below, filter-all, filter-distinct}
use Rattle.algebra.specs.SumLaws.{dot-add, dot-filter}
use Rattle.algebra.specs.Vandermonde.{psum}
use Rattle.algebra.specs.VandermondeLaws.{vandermonde}
use Rattle.algebra.specs.Sum.{dot}
use Rattle.algebra.specs.Tower.{Tower}
use Rattle.algebra.specs.TowerLaws.{excess-1}
use Rattle.algebra.specs.Unique.{Layout, Meets, Codeword, coeff₁, total-excess}
use Rattle.algebra.specs.UniqueLaws.{same_word}
use Rattle.algebra.specs.Beyond.{Hidden}
use Rattle.algebra.specs.BeyondLaws.{beyond}
use Rattle.algebra.specs.Flat.{Geometry, group, locator}

at-div : (w i t : ℕ) → t < w → (i * w + t) / w ≡ i
at-div w i t l = mul-add-div_right {m = w} (omega arith) i t ∙ ap (λ s. i + s) (div-eq_of_lt l) ∙ add-zero i

at-mod : (w i t : ℕ) → t < w → (i * w + t) % w ≡ t
at-mod w i t l = mul-add-mod_self_right i w t ∙ mod-eq_of_lt l

module _ {F : Field} {T : Tower F} (G : Geometry F T) where
  open F use {K, add as ◌⊕◌, 𝟘}
  open G use {m, w, c, loc, few, wide, apart, small}

  infixl 65 ◌⊕◌
  -- A place of the group i is i·w + t; every place p is in the group p / w, and in no other.
  pub group_at : (i p : ℕ) → p ∈ (group G) i → (t : ℕ) × (t < w) × (p ≡ i * w + t)
  group_at i p h = let v = Memᴰ.of_map (λ t. i * w + t) (below w) h in (v.0, below_less w v.0 v.1, sym v.2)

  pub in_group : (p : ℕ) → p ∈ (group G) (p / w)
  in_group p = rw (div-add-mod' p w) at (Memᴰ.map (λ t. p / w * w + t) (in-below w (p % w) (mod-lt p wide)))

  pub group-distinct : (i : ℕ) → Distinct (locator G) (group G i)
  group-distinct i =
      distinct-map (λ t. i * w + t) (locator G) (below w)
      (distinct-below _ w (λ s t ls lt n e. apart s t ls lt n (ap loc (sym (at-mod w i s ls)) ∙ e ∙ ap loc (at-mod w i t lt))))

  pub group-own : (i : ℕ) → All (group G i) (λ p. p / w ≡ i)
  group-own i p h = let v = group_at i p h in rw v.2 (at-div w i v.0 v.1)

  -- The code's layout.
  abbrev pub layout : Layout F T ℕ
  layout = record {
    m = m;
    c = c;
    places = group G;
    group_of = λ p. p / w;
    locator = locator G;
    few = few;
    distinct = λ i l. group-distinct i;
    small = λ i l p h. small (p % w) (mod-lt p wide);
    own = λ i l. group-own i;
  }

  -- The places of the m groups are below m·w.
  pub group-less : (i p : ℕ) → i < m → p ∈ (group G) i → p < m * w
  group-less i p l h = (div-lt_iff_lt-mul wide).0 (rw (group-own i p h) l)

  -- Two codewords that agree at the places not lost, with excess at most two, are the same.
  pub unique-flat : (lost : ℕ → Bool) (x y : ℕ → K) → Codeword layout x → Codeword layout y
      → ((p : ℕ) → p < m * w → lost p ≡ false → x p ≡ y p)
      → total-excess layout lost ≤ 2 → (p : ℕ) → p < m * w → x p ≡ y p
  unique-flat lost x y X Y z t p l =
      same_word layout lost x y X Y (λ i k p h. z p (group-less i p k h)) t (p / w) ((div-lt_iff_lt-mul wide).1 l) p (in_group p)

  -- Two words that agree at the places of a group that are not lost, at most v being lost, and have the same first v local sums there,
  -- are the same there.
  pub local-unique : (i v : ℕ) (lost : ℕ → Bool) (x y : ℕ → K)
      → ((e : ℕ) → e < v → psum F (locator G) (group G i) x e ≡ psum F (locator G) (group G i) y e)
      → All (group G i) (λ p. lost p ≡ false → x p ≡ y p) → length (filter lost (group G i)) ≤ v → All (group G i) (λ p. x p ≡ y p)
  local-unique i v lost x y s z l p h = eq-of-add-zero F (filter-all lost (group G i) all off p h)
    where
      off : All (group G i) (λ p. lost p ≡ false → x p ⊕ y p ≡ 𝟘)
      off p h e = add-zero-of-eq F (z p h e)

      all : All (filter lost (group G i)) (λ p. x p ⊕ y p ≡ 𝟘)
      all = vandermonde F (locator G) (filter lost (group G i)) _ (filter-distinct lost (locator G) (group G i) (group-distinct i))
          (λ e k. dot-filter F lost (group G i) _ _ off ∙ dot-add F (group G i) x y _ ∙ add-zero-of-eq F (s e (omega arith)))

  -- A word of a group that is zero but at c + 1 lost places, meets the group's own equations and has no share in the first sum across is zero.
  pub first-zero : (i : ℕ) (lost : ℕ → Bool) (x : ℕ → K) → ((e : ℕ) → e < c → psum F (locator G) (group G i) x e ≡ 𝟘)
      → dot F (group G i) x (coeff₁ layout) ≡ 𝟘 → All (group G i) (λ p. lost p ≡ false → x p ≡ 𝟘)
      → length (filter lost (group G i)) ≡ suc c → All (group G i) (λ p. x p ≡ 𝟘)
  first-zero i lost x s a z l =
      filter-all lost (group G i)
      (excess-1 F T (locator G) c (filter lost (group G i)) x (record {
        distinct = filter-distinct lost (locator G) (group G i) (group-distinct i);
        small = λ p _. small (p % w) (mod-lt p wide);
        locals = λ e k. dot-filter F lost (group G i) x _ z ∙ s e k;
      }) l (dot-filter F lost (group G i) x _ z ∙ a)) z

  -- A nonzero word on the lost places that meets the local equations and the two across.
  pub record HiddenWord (lost : ℕ → Bool) (h₁ h₂ : ℕ → K) : Type 0 where
    pub x : ℕ → K
    pub off : (p : ℕ) → lost p ≡ false → x p ≡ 𝟘
    pub past : (p : ℕ) → m * w ≤ p → x p ≡ 𝟘
    pub place : ℕ
    pub inside : place < m * w
    pub nonzero : ¬ (x place ≡ 𝟘)
    pub meets : Meets layout h₁ h₂ x

  -- With excess above two there is such a word, whatever the two equations across.
  pub beyond-flat : (lost : ℕ → Bool) (h₁ h₂ : ℕ → K) → 2 < total-excess layout lost → HiddenWord lost h₁ h₂
  beyond-flat lost h₁ h₂ t = record {
    x = H.x;
    off = λ p e. H.off p (λ _ _ _. e);
    past = λ p l. H.off p (λ i k h. let n : p < m * w = group-less i p k h in absurd (omega arith));
    place = H.place;
    inside = group-less H.group H.place H.group-less H.inside;
    nonzero = H.nonzero;
    meets = H.meets;
  }
    where
      H : Hidden layout lost h₁ h₂
      H = beyond layout ℕ_discrete lost h₁ h₂ t
