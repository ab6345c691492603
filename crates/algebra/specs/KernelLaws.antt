-- Laws: A homogeneous linear system with more unknowns than equations has a nonzero solution.
use Rattle.std.specs.Prelude.{◌≡◌, ◌⊎◌, List, [], ◌∷◌, map, suc, ◌<◌, length}
use Rattle.std.proofs.Math.Path.{refl, sym, ap}
use Rattle.std.proofs.Common.{◌∙◌, ap₂, inl, inr, arith}
use mathlib.Core.HLevel.{Discrete}
use mathlib.Core.List.Memᴰ
use mathlib.Core.List.Memᴰ.{head as here}
use mathlib.Core.List.Memᴰ.{tail as there}
use Rattle.std.proofs.lemmas.List.{length-map}
use Rattle.algebra.specs.Field.{Field}
use Rattle.algebra.specs.FieldLaws.{ring, add-zero, add-self, one-mul, mul-zero}
use Rattle.algebra.specs.Lists.{◌∈◌, All, Distinct}
use Rattle.algebra.specs.ListsLaws.{all_cons}
use Rattle.algebra.specs.Sum.{dot}
use Rattle.algebra.specs.SumLaws.{sum-cons, sum-ext, sum-add, sum-scale, sum-zero, dot-zero}
use Rattle.algebra.specs.Kernel.{Kernel}

module _ {A K : Type 0} where
  -- One value where A holds, else the other.
  pub choose : Dec A → K → K → K
  choose (yes _) u v = u
  choose (no _) u v = v

  pub choose_yes : (d : Dec A) (u v : K) → A → choose d u v ≡ u
  unfolding choose
  choose_yes (yes _) u v h = refl
  choose_yes (no n) u v h = absurd (n h)

  pub choose_no : (d : Dec A) (u v : K) → ¬ A → choose d u v ≡ v
  unfolding choose
  choose_no (yes h) u v n = absurd (n h)
  choose_no (no _) u v n = refl

module _ (F : Field) {P : Type 0} (same : Discrete P) where
  open F use {K, add as ◌⊕◌, mul as ◌⊗◌, 𝟘, 𝟙, inv, dec, one-ne-zero, mul-inv}

  infixl 65 ◌⊕◌
  infixl 70 ◌⊗◌
  -- An equation in which the unknown p stands, and the others.
  record Pivot (p : P) (eqs : List (P → K)) : Type 0 where
    eq : P → K
    rest : List (P → K)
    nonzero : ¬ (eq p ≡ 𝟘)
    size : length eqs ≡ suc (length rest)
    cover : All eqs (λ h. (h ≡ eq) ⊎ (h ∈ rest))

  pivot : (p : P) (eqs : List (P → K)) → All eqs (λ h. h p ≡ 𝟘) ⊎ Pivot p eqs
  pivot p [] = inl (λ h i. elim i [ ])
  pivot p (h ∷ eqs) = go (dec (h p) 𝟘) (pivot p eqs)
    where
      go : Dec (h p ≡ 𝟘) → All eqs (λ h. h p ≡ 𝟘) ⊎ Pivot p eqs → All (h ∷ eqs) (λ h. h p ≡ 𝟘) ⊎ Pivot p (h ∷ eqs)
      go (no n) w = inr (record { eq = h; rest = eqs; nonzero = n; size = refl; cover = λ k i. Memᴰ.cases_cons i })
      go (yes z) (inl f) = inl (all_cons {Q = λ h. h p ≡ 𝟘} z f)
      go (yes z) (inr v) = inr (record {
        eq = v.eq;
        rest = h ∷ v.rest;
        nonzero = v.nonzero;
        size = ap suc v.size;
        cover = all_cons {Q = λ k. (k ≡ v.eq) ⊎ (k ∈ (h ∷ v.rest))} (inr (here refl))
            (λ k i. elim (v.cover k i) [ inl e ↦ inl e | inr j ↦ inr (there j) ]);
      })

  -- x with the value c at p.
  abbrev update : P → K → (P → K) → P → K
  update p c x r = choose (same r p) c (x r)

  module _ (p : P) (qs : List P) (apart : All qs (λ r. ¬ (r ≡ p))) where
    dot-update : (c : K) (x h : P → K) → dot F (p ∷ qs) (update p c x) h ≡ c ⊗ h p ⊕ dot F qs x h
    dot-update c x h =
        sum-cons F p qs _
        ∙ ap₂ (λ s t. s ⊗ h p ⊕ t) (choose_yes (same p p) c (x p) refl)
        (sum-ext F qs _ _ (λ r i. ap (λ s. s ⊗ h r) (choose_no (same r p) c (x r) (apart r i))))

    -- Where p stands in no equation, it may be one and the rest zero.
    unit : (eqs : List (P → K)) → All eqs (λ h. h p ≡ 𝟘) → Kernel F same (p ∷ qs) eqs
    unit eqs z = record {
      x = update p 𝟙 (λ _. 𝟘);
      off = λ r n. choose_no (same r p) 𝟙 𝟘 (λ e. n (here e));
      place = p;
      inside = here refl;
      nonzero = λ e. one-ne-zero (sym (choose_yes (same p p) 𝟙 𝟘 refl) ∙ e);
      meets = λ h i.
          dot-update 𝟙 (λ _. 𝟘) h
          ∙ ap₂ ◌⊕◌ (one-mul F (h p) ∙ z h i) (dot-zero F qs (λ _. 𝟘) h (λ r _. refl)) ∙ add-zero F 𝟘;
    }

    module _ {eqs : List (P → K)} (v : Pivot p eqs) where
      reduce : (P → K) → P → K
      reduce h r = h r ⊕ (h p ⊗ inv (v.eq p)) ⊗ v.eq r

      value : (P → K) → K
      value x = dot F qs x v.eq ⊗ inv (v.eq p)

      dot-reduce : (x h : P → K) → dot F (p ∷ qs) (update p (value x) x) h ≡ dot F qs x (reduce h)
      unfolding reduce value
      dot-reduce x h =
          dot-update (value x) x h
          ∙ sym (sum-ext F qs _ (λ r. x r ⊗ h r ⊕ (h p ⊗ inv (v.eq p)) ⊗ (x r ⊗ v.eq r)) (λ r _. simp ring)
          ∙ sum-add F qs _ _ ∙ ap (λ s. dot F qs x h ⊕ s) (sum-scale F qs _ _) ∙ simp ring)

      reduce-pivot : (r : P) → reduce v.eq r ≡ 𝟘
      unfolding reduce
      reduce-pivot r = ap (λ s. v.eq r ⊕ s ⊗ v.eq r) (mul-inv _ v.nonzero) ∙ ap (λ s. v.eq r ⊕ s) (one-mul F _) ∙ add-self F _

      -- A solution of the reduced equations, with p by the pivot equation.
      lift : Kernel F same qs (map reduce v.rest) → Kernel F same (p ∷ qs) eqs
      lift n = record {
        x = update p (value n.x) n.x;
        off = λ r h. other r (λ e. h (here e)) ∙ n.off r (λ i. h (there i));
        place = n.place;
        inside = there n.inside;
        nonzero = λ z. n.nonzero (sym (other n.place (apart n.place n.inside)) ∙ z);
        meets = λ h i. dot-reduce n.x h ∙ elim (v.cover h i) [
          | inl e ↦ sum-zero F qs _ (λ r _. ap (λ s. n.x r ⊗ s) (ap (λ k. reduce k r) e ∙ reduce-pivot r) ∙ mul-zero F _)
          | inr j ↦ n.meets (reduce h) (Memᴰ.map reduce j)
        ];
      }
        where
          other : (r : P) → ¬ (r ≡ p) → update p (value n.x) n.x r ≡ n.x r
          other r = choose_no (same r p) _ (n.x r)

  -- Fewer equations than unknowns leave a nonzero solution.
  pub kernel : (ps : List P) → Distinct (λ p. p) ps → (eqs : List (P → K)) → length eqs < length ps → Kernel F same ps eqs
  kernel [] d eqs l = absurd (omega arith)
  kernel (p ∷ qs) d eqs l = elim (pivot p eqs) [
    | inl z ↦ unit p qs d.0 eqs z
    | inr v ↦ lift p qs d.0 v (kernel qs d.1 _ (omega (arith, length-map v.rest (reduce p qs d.0 v), v.size)))
  ]
