-- Laws of the contradicting group: a group is broken exactly if no filling of its lost places meets its own equations.
use Rattle.std.specs.Prelude.{◌≡◌, Bool, true, List, ℕ, suc, ◌+◌, ◌*◌, ◌<◌, ◌≤◌, ◌^◌, T, eqb, length, get_or, replicate}
use Rattle.std.proofs.Math.Path.{refl}
use Rattle.std.proofs.Common.{sym, ap, ap₂, ◌∙◌, subst, true≢false, mul-le-mul_right, ext_get_or}
use Rattle.std.proofs.Math.Bool.{false, not}
use Rattle.std.proofs.lemmas.Bool.{false≢true}
use Rattle.counting.specs.First.{first_below}
use Rattle.counting.specs.FirstLaws.{first-is, first-before, first_holds, first-none, first-most, first-ext}
use Rattle.code.specs.Edition.{Edition}
use Rattle.code.specs.Word.{is_local, local_sum}
use Rattle.code.specs.WordLaws.{local-zero, zero-local}
use Rattle.code.specs.BlankLaws.{blank-at}
use Rattle.code.specs.CombinedLaws.{place-less}
use Rattle.code.specs.Filling.{Found, found, none, search}
use Rattle.code.specs.FillingLaws.{search-found, search-none, search-present}
use Rattle.code.specs.Marks.{lost, Agree}
use Rattle.code.specs.Stretch.{stretch}
use Rattle.code.specs.StretchLaws.{stretch-at, stretch-below, stretch-length, stretch-lengths, stretch-sum, in-stretch, in_list}
use Rattle.code.specs.Repair.{Satisfies}
use Rattle.code.specs.Contradiction.{is_found, is_broken, contradicting_group}

-- the same stretches, the same verdict
pub same-broken : (E : Edition) (w c : ℕ) (word₁ marks₁ word₂ marks₂ : List ℕ) (g : ℕ) → stretch w g word₁ ≡ stretch w g word₂ → stretch w g marks₁
    ≡ stretch w g marks₂
    → is_broken E w c word₁ marks₁ g ≡ is_broken E w c word₂ marks₂ g
unfolding is_broken
same-broken E w c word₁ marks₁ word₂ marks₂ g p q = ap₂ (λ x k. not (is_found (search (2 ^ E.bits) (λ x. is_local E w c x 0) k x))) p q

module _ (E : Edition) (w c : ℕ) (word marks : List ℕ) (g : ℕ) where
  -- a filling that meets the group's equations
  pub record Filling : Type 0 where
    pub x : List ℕ
    pub satisfies : Satisfies E w c (stretch w g marks) (stretch w g word) x

  pub filling-sound : (y : List ℕ) → Satisfies E w c (stretch w g marks) (stretch w g word) y → is_broken E w c word marks g ≡ false
  unfolding is_broken
  filling-sound y Y = go (search (2 ^ E.bits) (λ x. is_local E w c x 0) (stretch w g marks) (stretch w g word)) refl
    where
      go : (r : Found) → search (2 ^ E.bits) (λ x. is_local E w c x 0) (stretch w g marks) (stretch w g word) ≡ r → not (is_found r) ≡ false
      go (found x) e = refl
      go none e = absurd (search-none (2 ^ E.bits) (λ x. is_local E w c x 0) (stretch w g marks) (stretch w g word) e y Y.fills Y.passes)

  pub sound-filling : is_broken E w c word marks g ≡ false → Filling
  unfolding is_broken
  sound-filling e = go (search (2 ^ E.bits) (λ x. is_local E w c x 0) (stretch w g marks) (stretch w g word)) refl e
    where
      go : (r : Found) → search (2 ^ E.bits) (λ x. is_local E w c x 0) (stretch w g marks) (stretch w g word) ≡ r → not (is_found r) ≡ false → Filling
      go (found x) d h = record { x = x; satisfies = search-found (2 ^ E.bits) (λ x. is_local E w c x 0) (stretch w g marks) (stretch w g word) x d }
      go none d h = absurd (true≢false h)

  -- "no filling can satisfy" it
  pub broken-never : is_broken E w c word marks g ≡ true → (y : List ℕ) → Satisfies E w c (stretch w g marks) (stretch w g word) y → ⊥
  broken-never e y Y = false≢true (sym (filling-sound y Y) ∙ e)

  pub never-broken : ((y : List ℕ) → Satisfies E w c (stretch w g marks) (stretch w g word) y → ⊥) → is_broken E w c word marks g ≡ true
  never-broken never = go (is_broken E w c word marks g) refl
    where
      go : (b : Bool) → is_broken E w c word marks g ≡ b → b ≡ true
      go true e = refl
      go false e = absurd (never (sound-filling e).x (sound-filling e).satisfies)

pub contradicting-most : (E : Edition) (m w c : ℕ) (word marks : List ℕ) → contradicting_group E m w c word marks ≤ m
unfolding contradicting_group
contradicting-most E m w c word marks = first-most m (is_broken E w c word marks)

-- the symbols that stand in lost places play no part
pub contradicting-present : (E : Edition) (m w c : ℕ) (word₁ word₂ marks : List ℕ) → length word₁ ≡ length word₂ → Agree (length word₁) marks word₁ word₂
    → contradicting_group E m w c word₁ marks ≡ contradicting_group E m w c word₂ marks
unfolding contradicting_group is_broken
contradicting-present E m w c word₁ word₂ marks size same =
    first-ext m _ _ λ g _. ap (λ r. not (is_found r))
    (search-present (2 ^ E.bits) (λ x. is_local E w c x 0) (stretch w g marks) (stretch w g word₁) (stretch w g word₂) (stretch-lengths w g word₁ word₂ size)
    (λ j l e.
    let k : j < w = in-stretch w g word₁ j l in
    stretch-at w g word₁ j k ∙ same (g * w + j) (in_list w g word₁ j l) (ap (λ b. eqb b 1) (sym (stretch-at w g marks j k)) ∙ e)
    ∙ sym (stretch-at w g word₂ j k)))

-- A word x with the present symbols of word, of which each group that some filling satisfies is satisfied: its lowest group that breaks its
-- equations is the one that contradicts.
module _ (E : Edition) (m w c : ℕ) (word marks x : List ℕ) (size : length word ≡ m * w) (x-size : length x ≡ m * w)
    (small : (p : ℕ) → get_or x p 0 < 2 ^ E.bits) (present : Agree (m * w) marks x word)
    (satisfied : (g : ℕ) → g < m → (y : List ℕ) → Satisfies E w c (stretch w g marks) (stretch w g word) y → T (is_local E w c x g)) where
  module _ (g : ℕ) (l : g < m) where
    fits : (xs : List ℕ) → length xs ≡ m * w → suc g * w ≤ length xs
    fits xs e = subst (λ n. suc g * w ≤ n) (sym e) (mul-le-mul_right w l)

    own-filling : T (is_local E w c x g) → Satisfies E w c (stretch w g marks) (stretch w g word) (stretch w g x)
    own-filling t = record {
      fills = record {
        size = stretch-length w g x (fits x x-size) ∙ sym (stretch-length w g word (fits word size));
        present = λ j k e.
            let h : j < w = subst (λ n. j < n) (stretch-length w g word (fits word size)) k in
            stretch-at w g x j h ∙ present (g * w + j) (place-less m w g j l h) (ap (λ b. eqb b 1) (sym (stretch-at w g marks j h)) ∙ e)
            ∙ sym (stretch-at w g word j h);
        each = λ j _ _. stretch-below w g x (2 ^ E.bits) small j;
      };
      passes = zero-local E w c (stretch w g x) 0 (λ e h. stretch-sum E w g x _ ∙ local-zero E w c x g t e h);
    }

    same-verdict : not (is_local E w c x g) ≡ is_broken E w c word marks g
    same-verdict = go (is_local E w c x g) refl
      where
        go : (v : Bool) → is_local E w c x g ≡ v → not v ≡ is_broken E w c word marks g
        go true e = sym (filling-sound E w c word marks g (stretch w g x) (own-filling (subst T (sym e) tt)))
        go false e = sym (never-broken E w c word marks g (λ y Y. subst T e (satisfied g l y Y)))

  pub same-groups : first_below m (λ g. not (is_local E w c x g)) ≡ contradicting_group E m w c word marks
  unfolding contradicting_group
  same-groups = first-ext m _ _ same-verdict

-- Where no place is lost the only filling of a group is the group itself.
pub whole-groups : (E : Edition) (m w c : ℕ) (word : List ℕ) → length word ≡ m * w → ((p : ℕ) → get_or word p 0 < 2 ^ E.bits)
    → first_below m (λ g. not (is_local E w c word g)) ≡ contradicting_group E m w c word (replicate (length word) 0)
whole-groups E m w c word size small =
    same-groups E m w c word (replicate (length word) 0) word size size small (λ p _ _. refl) λ g l y Y.
    let f = subst (λ n. suc g * w ≤ n) (sym size) (mul-le-mul_right w l) in
    zero-local E w c word g λ e h.
    sym (stretch-sum E w g word _)
    ∙ ap (λ z. local_sum E w z 0 e)
    (sym (ext_get_or 0 y (stretch w g word) Y.fills.size λ j k.
    let b : j < length (stretch w g word) = subst (λ n. j < n) Y.fills.size k in
    Y.fills.present j b (none-lost g j (in-stretch w g word j b))))
    ∙ local-zero E w c y 0 Y.passes e h
  where
    none-lost : (g j : ℕ) → j < w → lost (stretch w g (replicate (length word) 0)) j ≡ false
    none-lost g j k = ap (λ b. eqb b 1) (stretch-at w g (replicate (length word) 0) j k ∙ blank-at (length word) (g * w + j))
