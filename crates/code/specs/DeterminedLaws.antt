-- Laws: When the present places determine a codeword: exactly where the excess is at most two.
use Rattle.std.specs.Prelude.{◌≡◌, refl, false, List, ℕ, zero, suc, ◌+◌, ◌*◌, ◌/◌, ◌%◌, ◌<◌, ◌≤◌, ◌^◌, length}
use Rattle.std.proofs.Math.Path.{sym, ap, subst}
use Rattle.std.proofs.Common.{ap₂, ◌∙◌, arith}
use Rattle.std.proofs.Math.Nat.{mod-eq_of_lt, zero-mod}
use Rattle.std.proofs.Math.Decide.{dec_lt, dec_le}
use Rattle.std.proofs.Math.Arith.{digits_div, digits_mod}
use Rattle.std.proofs.Math.ListN.{get_or, get_or-eq_default}
use Rattle.std.proofs.Math.Seq.{ext_get_or}
use Rattle.algebra.specs.Unique.{Meets}
use Rattle.algebra.specs.Lists.{◌∈◌}
use Rattle.algebra.specs.Flat.{Geometry, group}
use Rattle.algebra.specs.FlatLaws.{layout, group_at, in_group, unique-flat, beyond-flat, HiddenWord}
use Rattle.algebra.specs.FlatLaws as FlatLaws
use Rattle.binary_field.specs.ProductLaws.{product-low-r}
use Rattle.binary_field.specs.Element.{Element, reduced}
use Rattle.binary_field.specs.ElementLaws.{field, tower, element-lt, same-value}
use Rattle.code.specs.Edition.{Edition, Sound, times}
use Rattle.code.specs.Word.{group_sum, local_sum, Symbols, Codeword, coefficient, second_coefficient}
use Rattle.code.specs.WordLaws.{equations, is-codeword}
use Rattle.code.specs.Marks.{lost, lost_in, excess, Agree}
use Rattle.code.specs.Blank.{blank}
use Rattle.code.specs.BlankLaws.{blank-at, blank-symbols, blank-group, blank-word}
use Rattle.code.specs.Bridge as Bridge
use Rattle.code.specs.BridgeLaws as BridgeLaws
use Rattle.code.specs.Determined.{list_of, Ambiguous, Undetermined}

pub list_length : (n : ℕ) (f : ℕ → ℕ) → length (list_of n f) ≡ n
unfolding list_of
list_length zero f = refl
list_length (suc n) f = ap suc (list_length n (λ i. f (suc i)))

pub list_at : (n : ℕ) (f : ℕ → ℕ) (i : ℕ) → i < n → get_or (list_of n f) i 0 ≡ f i
unfolding list_of
list_at zero f i h = absurd (omega arith)
list_at (suc n) f zero h = refl
list_at (suc n) f (suc i) h = list_at n (λ i. f (suc i)) i (omega arith)

module _ (E : Edition) (S : Sound E) (m w c : ℕ) (few : m ≤ S.r) (wide : 0 < w) (narrow : w ≤ E.small) where
  -- a symbol is its own reduction
  same-symbol : (x : List ℕ) → Symbols E (m * w) x → (p : ℕ) → (Bridge.symbol E S m w c few wide narrow x p).0 ≡ get_or x p 0
  unfolding Bridge.symbol
  same-symbol x s p = mod-eq_of_lt (s.each p)

  -- The columns of the lost places are independent: two codewords that agree at all present places are equal, for an excess of at most two
  pub unique : (marks x y : List ℕ) → Codeword E m w c x → Codeword E m w c y → Agree (m * w) marks x y → excess m w c marks ≤ 2 → x ≡ y
  unfolding BridgeLaws.geometry Bridge.symbol
  unique marks x y X Y a h =
      ext_get_or 0 x y (X.symbols.size ∙ sym Y.symbols.size) λ p l.
      let k : p < m * w = subst (λ n. p < n) X.symbols.size l in
      sym (same-symbol x X.symbols p)
      ∙ ap (λ (s : Element E.bits). s.0)
      (unique-flat (BridgeLaws.geometry E S m w c few wide narrow) (lost marks) _ _
      (BridgeLaws.to-codeword E S m w c few wide narrow x (equations E m w c x X.zero))
      (BridgeLaws.to-codeword E S m w c few wide narrow y (equations E m w c y Y.zero))
      (λ q b e. ap (reduced E.bits) (a q b e))
      (subst (λ n. n ≤ 2) (sym (BridgeLaws.excess-value E S m w c few wide narrow marks)) h) p k)
      ∙ same-symbol y Y.symbols p

  -- a coefficient of each group and place, at the places of the flat word
  flat : (ℕ → ℕ → ℕ) → ℕ → Element E.bits
  flat h p = reduced E.bits (h (p / w) (p % w))

  flat-times : (h : ℕ → ℕ → ℕ) (g j : ℕ) → j < w → (a : ℕ) → times E a (flat h (g * w + j)).0 ≡ times E a (h g j)
  unfolding flat
  flat-times h g j l a = product-low-r E.bits E.poly a _ ∙ ap (times E a) (ap₂ h (digits_div g l) (digits_mod g l))

  module _ (marks : List ℕ) (h₁ h₂ : ℕ → ℕ → ℕ) (N : HiddenWord (BridgeLaws.geometry E S m w c few wide narrow) (lost marks) (flat h₁) (flat h₂)) where
    hidden : List ℕ
    unfolding BridgeLaws.geometry
    hidden = list_of (m * w) (λ p. (N.x p).0)

    hidden_at : (p : ℕ) → get_or hidden p 0 ≡ (N.x p).0
    unfolding hidden BridgeLaws.geometry
    hidden_at p = elim (dec_lt p (m * w)) [
      | yes h ↦ list_at (m * w) _ p h
      | no h ↦
          get_or-eq_default hidden 0 (omega (arith, list_length (m * w) (λ p. (N.x p).0)))
          ∙ sym (ap (λ (s : Element E.bits). s.0) (N.past p (omega arith)))
    ]

    hidden-symbols : Symbols E (m * w) hidden
    unfolding hidden BridgeLaws.geometry
    hidden-symbols = record {
      size = list_length (m * w) _;
      each = λ p. subst (λ n. n < 2 ^ E.bits) (sym (hidden_at p)) (element-lt E.bits (N.x p));
    }

    hidden-same : (p : ℕ) → N.x p ≡ Bridge.symbol E S m w c few wide narrow hidden p
    unfolding BridgeLaws.geometry
    hidden-same p = same-value E.bits (sym (hidden_at p) ∙ sym (same-symbol hidden hidden-symbols p))

    meets : Meets (layout (BridgeLaws.geometry E S m w c few wide narrow)) (flat h₁) (flat h₂) (Bridge.symbol E S m w c few wide narrow hidden)
    unfolding BridgeLaws.geometry
    meets = subst (Meets (layout (BridgeLaws.geometry E S m w c few wide narrow)) (flat h₁) (flat h₂)) (λ i p. hidden-same p i) N.meets

    ambiguous : Ambiguous E m w c marks h₁ h₂
    unfolding BridgeLaws.geometry
    ambiguous = record {
      x = blank (m * w);
      y = hidden;
      x-symbols = blank-symbols E (m * w);
      y-symbols = hidden-symbols;
      x-local = λ g _ e _. blank-group E (m * w) w g _;
      y-local = λ g l e k. sym (BridgeLaws.local-value E S m w c few wide narrow hidden g e) ∙ ap (λ (s : Element E.bits). s.0) (meets.locals g l e k);
      x-first = blank-word E (m * w) m w h₁;
      y-first = sym (BridgeLaws.word_value E S m w c few wide narrow hidden (flat h₁) h₁ (flat-times h₁)) ∙ ap (λ (s : Element E.bits). s.0) meets.first;
      x-second = blank-word E (m * w) m w h₂;
      y-second = sym (BridgeLaws.word_value E S m w c few wide narrow hidden (flat h₂) h₂ (flat-times h₂))
          ∙ ap (λ (s : Element E.bits). s.0) meets.second;
      agree = λ p _ e. blank-at (m * w) p ∙ sym (hidden_at p ∙ ap (λ (s : Element E.bits). s.0) (N.off p e));
      differ = λ e. N.nonzero (same-value E.bits (sym (hidden_at N.place) ∙ ap (λ l. get_or l N.place 0) (sym e) ∙ blank-at (m * w) N.place));
    }

  -- for an excess above two, whatever the two equations across are, the present places do not determine the word
  pub beyond : (marks : List ℕ) (h₁ h₂ : ℕ → ℕ → ℕ) → 2 < excess m w c marks → Ambiguous E m w c marks h₁ h₂
  beyond marks h₁ h₂ l =
      ambiguous marks h₁ h₂
      (beyond-flat (BridgeLaws.geometry E S m w c few wide narrow) (lost marks) (flat h₁) (flat h₂)
      (subst (λ n. 2 < n) (sym (BridgeLaws.excess-value E S m w c few wide narrow marks)) l))

  -- exactly where the excess is above two
  pub above-two : (marks : List ℕ) → Undetermined E m w c marks → 2 < excess m w c marks
  above-two marks U = elim (dec_le (excess m w c marks) 2) [
    | yes h ↦ absurd (U.differ (unique marks U.x U.y U.x-codeword U.y-codeword U.agree h))
    | no h ↦ omega arith
  ]

  pub undetermined : (marks : List ℕ) → 2 < excess m w c marks → Undetermined E m w c marks
  undetermined marks l =
      let A = beyond marks (λ _. coefficient E c) (second_coefficient E c) l in
      record {
        x = A.x;
        y = A.y;
        x-codeword = record {
          symbols = A.x-symbols;
          zero = is-codeword E m w c A.x
              (record { locals = A.x-local; first = A.x-first; second = A.x-second });
        };
        y-codeword = record {
          symbols = A.y-symbols;
          zero = is-codeword E m w c A.y
              (record { locals = A.y-local; first = A.y-first; second = A.y-second });
        };
        agree = A.agree;
        differ = A.differ;
      }

-- One group alone: two words whose first v local sums of group g are the same and that agree at the group's present places agree on the whole
-- group, where at most v of its places are lost. (Any v columns of v rows with distinct locators are independent.)
pub local-unique : (E : Edition) (S : Sound E) (w v g : ℕ) → 0 < w → w ≤ E.small → (marks x y : List ℕ)
    → ((p : ℕ) → get_or x p 0 < 2 ^ E.bits) → ((p : ℕ) → get_or y p 0 < 2 ^ E.bits)
    → ((e : ℕ) → e < v → local_sum E w x g e ≡ local_sum E w y g e)
    → ((j : ℕ) → j < w → lost marks (g * w + j) ≡ false → get_or x (g * w + j) 0 ≡ get_or y (g * w + j) 0)
    → lost_in w marks g ≤ v → (j : ℕ) → j < w → get_or x (g * w + j) 0 ≡ get_or y (g * w + j) 0
unfolding BridgeLaws.geometry Bridge.symbol
local-unique E S w v g wide narrow marks x y sx sy same agree few j l =
    sym (mod-eq_of_lt (sx (g * w + j)))
    ∙ ap (λ (s : Element E.bits). s.0)
    (FlatLaws.local-unique G g v (lost marks) (Bridge.symbol E S 0 w 0 none wide narrow x) (Bridge.symbol E S 0 w 0 none wide narrow y)
    (λ e h. same-value E.bits (BridgeLaws.local-value E S 0 w 0 none wide narrow x g e ∙ same e h
    ∙ sym (BridgeLaws.local-value E S 0 w 0 none wide narrow y g e)))
    (λ p h e. at_place p h e)
    (subst (λ n. n ≤ v) (sym (BridgeLaws.group-lost E S 0 w 0 none wide narrow marks g)) few) (g * w + j) (in_place j l))
    ∙ mod-eq_of_lt (sy (g * w + j))
  where
    none : 0 ≤ S.r
    none = omega arith

    G : Geometry (field S.facts) (tower S.facts)
    G = BridgeLaws.geometry E S 0 w 0 none wide narrow

    in_place : (j : ℕ) → j < w → (g * w + j) ∈ group G g
    in_place j l = subst (λ i. (g * w + j) ∈ group G i) (digits_div g l) (in_group G (g * w + j))

    at_place : (p : ℕ) → p ∈ group G g → lost marks p ≡ false
        → Bridge.symbol E S 0 w 0 none wide narrow x p ≡ Bridge.symbol E S 0 w 0 none wide narrow y p
    at_place p h e =
        let t = group_at G g p h in
        ap (reduced E.bits) (ap (λ i. get_or x i 0) t.2 ∙ agree t.0 t.1 (ap (lost marks) (sym t.2) ∙ e) ∙ ap (λ i. get_or y i 0) (sym t.2))

-- One group alone, with its share of the first sum across: a word whose first c local sums and whose share are zero there, and that is zero
-- but at c + 1 of the group's places, is zero on the whole group.
pub first-zero : (E : Edition) (S : Sound E) (w c g : ℕ) → 0 < w → w ≤ E.small → (marks x : List ℕ)
    → ((e : ℕ) → e < c → local_sum E w x g e ≡ 0) → group_sum E w x g (coefficient E c) ≡ 0
    → ((j : ℕ) → j < w → lost marks (g * w + j) ≡ false → get_or x (g * w + j) 0 ≡ 0)
    → lost_in w marks g ≡ suc c → (j : ℕ) → j < w → get_or x (g * w + j) 0 % 2 ^ E.bits ≡ 0
unfolding BridgeLaws.geometry Bridge.symbol
first-zero E S w c g wide narrow marks x own share off few j l =
    ap (λ (s : Element E.bits). s.0)
    (FlatLaws.first-zero G g (lost marks) (Bridge.symbol E S 0 w c none wide narrow x)
    (λ e h. same-value E.bits (BridgeLaws.local-value E S 0 w c none wide narrow x g e ∙ own e h))
    (same-value E.bits (BridgeLaws.first_group E S 0 w c none wide narrow x g ∙ share))
    (λ p h e. let t = group_at G g p h in
    same-value E.bits
    (ap (λ a. a % 2 ^ E.bits) (ap (λ i. get_or x i 0) t.2 ∙ off t.0 t.1 (ap (lost marks) (sym t.2) ∙ e)) ∙ zero-mod (2 ^ E.bits)))
    (BridgeLaws.group-lost E S 0 w c none wide narrow marks g ∙ few) (g * w + j)
    (subst (λ i. (g * w + j) ∈ group G i) (digits_div g l) (in_group G (g * w + j))))
  where
    none : 0 ≤ S.r
    none = omega arith

    G : Geometry (field S.facts) (tower S.facts)
    G = BridgeLaws.geometry E S 0 w c none wide narrow
