-- Laws: The words of numbers as words over the field of `algebra`: the same sums, the same codewords, the same excess.
use Rattle.std.specs.Prelude.{◌≡◌, Bool, true, false, List, [], ◌∷◌, map, ℕ, zero, suc, ◌+◌, ◌-◌, ◌*◌, ◌/◌, ◌<◌, ◌≤◌, cond, length, get_or}
use Rattle.std.proofs.Common.{sym, ◌∙◌, add_comm, add-zero, add-one, arith}
use Rattle.std.proofs.Math.Path.{ap, ap₂}
use Rattle.std.proofs.Math.Nat.{mod-eq_of_lt}
use Rattle.std.proofs.Math.Arith.{digits_div, digits_mod}
use Rattle.counting.specs.Count.{total_below, count_below, one}
use Rattle.counting.specs.CountLaws.{total-none, total-suc, total_ext}
use Rattle.algebra.specs.Field.{Field, pow}
use Rattle.algebra.specs.Lists.{below, filter, total}
use Rattle.algebra.specs.Sum.{sum, dot}
use Rattle.algebra.specs.SumLaws.{sum-nil, sum-cons}
use Rattle.algebra.specs.Vandermonde.{psum}
use Rattle.algebra.specs.Unique.{coeff₁, coeff₂, total-excess}
use Rattle.algebra.specs.Unique as Abstract
use Rattle.algebra.specs.Flat.{Geometry, group}
use Rattle.algebra.specs.FlatLaws.{layout}
use Rattle.algebra.specs.Flat as Flat
use Rattle.binary_field.specs.Xor.{◌⊕◌}
use Rattle.binary_field.specs.ProductLaws.{product-low-l}
use Rattle.binary_field.specs.PowerLaws.{power-low}
use Rattle.binary_field.specs.SumLaws.{sum-ext}
use Rattle.binary_field.specs.Element.{Element, reduced}
use Rattle.binary_field.specs.ElementLaws.{field, tower, same-value, pow-value, sum-value}
use Rattle.code.specs.Edition.{Edition, Sound, times, raised}
use Rattle.code.specs.Word.{coefficient, second_coefficient, group_sum, local_sum, word_sum, first_across, second_across, Equations}
use Rattle.code.specs.Marks.{lost_in}
use Rattle.code.specs.Marks as Marks
use Rattle.code.specs.Bridge.{symbol}

sum-map : (F : Field) {A B : Type 0} (f : A → B) (l : List A) (h : B → F.K) → sum F (map f l) h ≡ sum F l (λ a. h (f a))
sum-map F f [] h = sum-nil F h ∙ sym (sum-nil F _)
sum-map F f (a ∷ l) h = sum-cons F (f a) (map f l) h ∙ ap (F.add (h (f a))) (sum-map F f l h) ∙ sym (sum-cons F a l _)

filter-length : (test : ℕ → Bool) (f : ℕ → ℕ) (w : ℕ) → length (filter test (map f (below w))) ≡ count_below w (λ j. test (f j))
filter-length test f zero = sym (total-none _)
filter-length test f (suc w) = go (filter-length test f w) (test (f w)) ∙ sym (total-suc w (λ j. one (test (f j))))
  where
    rest : List ℕ
    rest = filter test (map f (below w))

    go : length rest ≡ count_below w (λ j. test (f j)) → (v : Bool) → length (cond v (f w ∷ rest) rest) ≡ count_below w (λ j. test (f j)) + one v
    go ih true = ap suc ih ∙ sym (add-one _)
    go ih false = ih ∙ sym (add-zero _)

total-sum : (f : ℕ → ℕ) (m : ℕ) → total f (below m) ≡ total_below m f
total-sum f zero = sym (total-none f)
total-sum f (suc m) = ap (λ s. f m + s) (total-sum f m) ∙ add_comm (f m) (total_below m f) ∙ sym (total-suc m f)

module _ (E : Edition) (S : Sound E) (m w c : ℕ) (few : m ≤ S.r) (wide : 0 < w) (narrow : w ≤ E.small) where
  pub loc : ℕ → Element E.bits
  loc j = reduced E.bits (E.locator j)

  loc-value : (j : ℕ) → j < w → (loc j).0 ≡ E.locator j
  unfolding loc
  loc-value j h = mod-eq_of_lt (S.locator-lt j (omega arith))

  pub loc-apart : (s t : ℕ) → s < w → t < w → ¬ (s ≡ t) → ¬ (loc s ≡ loc t)
  loc-apart s t hs ht n e =
      S.locator-apart s t (omega arith) (omega arith) n (sym (loc-value s hs) ∙ ap (λ (x : Element E.bits). x.0) e ∙ loc-value t ht)

  -- the power e of a locator
  loc-power : (j e : ℕ) → (pow (field S.facts) (loc j) e).0 ≡ raised E (E.locator j) e
  unfolding loc
  loc-power j e = pow-value S.facts (loc j) e ∙ power-low E.bits E.poly (E.locator j) e

  pub loc-small : (j : ℕ) → j < w → pow (field S.facts) (loc j) (suc S.r) ≡ loc j
  loc-small j h =
      same-value E.bits
      (loc-power j (suc S.r) ∙ ap (raised E (E.locator j)) (sym S.small_is) ∙ S.locator-fixed j (omega arith) ∙ sym (loc-value j h))

  unfoldable pub geometry : Geometry (field S.facts) (tower S.facts)
  geometry = record { m = m; w = w; c = c; loc = loc; few = few; wide = wide; apart = loc-apart; small = loc-small }

  group-value : (word : List ℕ) (g : ℕ) (h : ℕ → Element E.bits) (h' : ℕ → ℕ)
      → ((j : ℕ) → j < w → (a : ℕ) → times E a (h (g * w + j)).0 ≡ times E a (h' j))
      → (dot (field S.facts) (group geometry g) (symbol E S m w c few wide narrow word) h).0 ≡ group_sum E w word g h'
  unfolding geometry symbol group_sum
  group-value word g h h' same =
      ap (λ (x : Element E.bits). x.0) (sum-map (field S.facts) (λ t. g * w + t) (below w) _) ∙ sum-value S.facts w _
      ∙ sum-ext w _ _ (λ j l. product-low-l E.bits E.poly (get_or word (g * w + j) 0) _ ∙ same j l (get_or word (g * w + j) 0))

  pub word_value : (word : List ℕ) (h : ℕ → Element E.bits) (h' : ℕ → ℕ → ℕ)
      → ((g j : ℕ) → j < w → (a : ℕ) → times E a (h (g * w + j)).0 ≡ times E a (h' g j))
      → (Abstract.word-dot (layout geometry) (symbol E S m w c few wide narrow word) h).0 ≡ word_sum E m w word h'
  unfolding geometry word_sum
  word_value word h h' same = sum-value S.facts m _ ∙ sum-ext m _ _ (λ g _. group-value word g h (h' g) (same g))

  -- the locator of a place, by its number in the group
  place-locator : (g j : ℕ) → j < w → Flat.locator geometry (g * w + j) ≡ loc j
  unfolding geometry
  place-locator g j l = ap loc (digits_mod g l)

  place-power : (g j e : ℕ) → j < w → (pow (field S.facts) (Flat.locator geometry (g * w + j)) e).0 ≡ raised E (E.locator j) e
  place-power g j e l = ap (λ x. (pow (field S.facts) x e).0) (place-locator g j l) ∙ loc-power j e

  pub local-value : (word : List ℕ) (g e : ℕ) → (psum (field S.facts) (Flat.locator geometry) (group geometry g) (symbol E S m w c few wide narrow word)
      e).0 ≡ local_sum E w word g e
  local-value word g e = group-value word g (λ p. pow (field S.facts) (Flat.locator geometry p) e) _ (λ j l a. ap (times E a) (place-power g j e l))

  first-value : (g j : ℕ) → j < w → (coeff₁ (layout geometry) (g * w + j)).0 ≡ coefficient E c j
  unfolding geometry coefficient
  first-value g j l = ap₂ (λ a b. a ⊕ times E 2 b) (place-power g j c l) (place-power g j (suc c) l)

  second-value : (g j : ℕ) → j < w → (coeff₂ (layout geometry) (g * w + j)).0 ≡ second_coefficient E c g j
  unfolding geometry second_coefficient
  second-value g j l =
      ap₂ (times E) (pow-value S.facts _ ((g * w + j) / w) ∙ ap (raised E 2) (digits_div g l))
      (pow-value S.facts (coeff₁ (layout geometry) (g * w + j)) (suc S.r) ∙ ap₂ (raised E) (first-value g j l) (sym S.small_is))

  -- the share of a group in the first sum across
  pub first_group : (word : List ℕ) (g : ℕ)
      → (dot (field S.facts) (group geometry g) (symbol E S m w c few wide narrow word) (coeff₁ (layout geometry))).0
      ≡ group_sum E w word g (coefficient E c)
  first_group word g = group-value word g (coeff₁ (layout geometry)) _ (λ j l a. ap (times E a) (first-value g j l))

  first-sum : (word : List ℕ) → (Abstract.word-dot (layout geometry) (symbol E S m w c few wide narrow word) (coeff₁ (layout geometry))).0
      ≡ first_across E m w c word
  first-sum word = word_value word (coeff₁ (layout geometry)) _ (λ g j l a. ap (times E a) (first-value g j l))

  second-sum : (word : List ℕ) → (Abstract.word-dot (layout geometry) (symbol E S m w c few wide narrow word) (coeff₂ (layout geometry))).0
      ≡ second_across E m w c word
  second-sum word = word_value word (coeff₂ (layout geometry)) _ (λ g j l a. ap (times E a) (second-value g j l))

  -- a codeword of numbers is one of symbols, and the other way round
  pub to-codeword : (word : List ℕ) → Equations E m w c word → Abstract.Codeword (layout geometry) (symbol E S m w c few wide narrow word)
  unfolding geometry
  to-codeword word Q = record {
    locals = λ g l e k. same-value E.bits (local-value word g e ∙ Q.locals g l e k);
    first = same-value E.bits (first-sum word ∙ Q.first);
    second = same-value E.bits (second-sum word ∙ Q.second);
  }

  pub group-lost : (marks : List ℕ) (g : ℕ) → length (filter (Marks.lost marks) (group geometry g)) ≡ lost_in w marks g
  unfolding geometry lost_in
  group-lost marks g = filter-length (Marks.lost marks) (λ t. g * w + t) w

  pub excess-value : (marks : List ℕ) → total-excess (layout geometry) (Marks.lost marks) ≡ Marks.excess m w c marks
  unfolding geometry Marks.excess
  excess-value marks = total-sum _ m ∙ total_ext m _ _ (λ g _. ap (λ n. n - c) (group-lost marks g))
