-- The repair of one group under the rule of recovery: undetermined exactly where more than c of its places are lost.
use Rattle.std.specs.Prelude.{◌≡◌, refl, ◌↔◌, Bool, true, false, List, ℕ, suc, ◌+◌, ◌*◌, ◌%◌, ◌<◌, ◌≤◌, ◌^◌, length, get_or, set}
use Rattle.std.proofs.Math.Path.{sym, ap, subst}
use Rattle.std.proofs.Common.{◌∙◌, true≢false, mod-eq_of_lt, ext_get_or}
use Rattle.std.proofs.Math.Nat.{div-eq_of_lt}
use native.Mathlib.Omega.{arith}
use Rattle.std.proofs.Math.Decide.{dec_lt, dec_le, ℕ_discrete}
use Rattle.std.proofs.Math.ListN.{get_or-eq_default}
use Rattle.algebra.specs.Lists.{◌∈◌, filter}
use Rattle.algebra.specs.Vandermonde.{psum}
use Rattle.algebra.specs.Flat.{Geometry, group}
use Rattle.algebra.specs.FlatLaws.{group_at}
use Rattle.algebra.specs.Flat as Flat
use Rattle.algebra.specs.FlatLaws as FlatLaws
use Rattle.algebra.specs.OneGroupLaws.{beyond-group, way-group}
use Rattle.binary_field.specs.Element.{Element}
use Rattle.binary_field.specs.ElementLaws.{field, tower, element-lt, same-value, one-lt}
use Rattle.code.specs.Edition.{Edition, Sound}
use Rattle.code.specs.Word.{group_sum, local_sum, coefficient, Symbols}
use Rattle.code.specs.WordLaws.{local-zero, zero-local}
use Rattle.code.specs.Marks.{lost, lost_in, Agree}
use Rattle.code.specs.MarksLaws.{marked_other, marked-own, marked-count}
use Rattle.code.specs.Blank.{blank}
use Rattle.code.specs.BlankLaws.{blank-at, blank-symbols, blank-group}
use Rattle.code.specs.Bridge as Bridge
use Rattle.code.specs.BridgeLaws as BridgeLaws
use Rattle.code.specs.Determined.{list_of}
use Rattle.code.specs.DeterminedLaws.{list_length, list_at, local-unique, first-zero}
use Rattle.code.specs.FillingLaws.{filling-symbols}
use Rattle.code.specs.Outcome.{Outcome}
use Rattle.code.specs.StretchLaws.{own-place}
use Rattle.code.specs.Repair.{repaired, Satisfies}
use Rattle.code.specs.RepairLaws.{repaired-eight, repaired-nine, repaired-done, eight-many, nine-contradictory, done-single}
use Rattle.code.specs.OneGroup.{LocalWord, LocallyAgrees, LocallyUndetermined, LocalWay}

-- the fillings that satisfy the group's own equations are the stretches that agree
pub agrees-satisfies : (E : Edition) (w c : ℕ) (marks part y : List ℕ) → length part ≡ w → LocallyAgrees E w c marks part y → Satisfies E w c marks part y
agrees-satisfies E w c marks part y n A = record {
  fills = record {
    size = A.local.symbols.size ∙ sym n;
    present = λ p l e. A.agree p (subst (λ k. p < k) n l) e;
    each = λ p l e. A.local.symbols.each p;
  };
  passes = A.local.zero;
}

pub satisfies-agrees : (E : Edition) (w c : ℕ) (marks part y : List ℕ) → Symbols E w part → Satisfies E w c marks part y → LocallyAgrees E w c marks part y
satisfies-agrees E w c marks part y s P = record {
  local = record { symbols = filling-symbols E w marks part y s P.fills; zero = P.passes };
  agree = λ p l e. P.fills.present p (subst (λ k. p < k) (sym s.size) l) e;
}

-- ---- a stretch of elements of the field as a stretch of symbols
module _ (E : Edition) (S : Sound E) (w : ℕ) (wide : 0 < w) (narrow : w ≤ E.small) where
  none : 0 ≤ S.r
  none = omega arith

  G : Geometry (field S.facts) (tower S.facts)
  G = BridgeLaws.geometry E S 0 w 0 none wide narrow

  -- the places of the only group
  in_group : (p : ℕ) → p ∈ group G 0 → p < w
  unfolding G BridgeLaws.geometry
  in_group p h = let t = group_at G 0 p h in let e = t.2 ∙ own-place w t.0 in let k = t.1 in omega arith

  place_in : (j : ℕ) → j < w → j ∈ group G 0
  unfolding G BridgeLaws.geometry
  place_in j l = subst (λ i. j ∈ group G i) (div-eq_of_lt l) (FlatLaws.in_group G j)

  group-lost : (marks : List ℕ) → length (filter (lost marks) (group G 0)) ≡ lost_in w marks 0
  unfolding G
  group-lost marks = BridgeLaws.group-lost E S 0 w 0 none wide narrow marks 0

  module _ (x : ℕ → Element E.bits) (outside : (p : ℕ) → ¬ (p ∈ group G 0) → x p ≡ (field S.facts).𝟘) where
    symbols : List ℕ
    symbols = list_of w (λ p. (x p).0)

    symbols-at : (p : ℕ) → get_or symbols p 0 ≡ (x p).0
    unfolding symbols
    symbols-at p = elim (dec_lt p w) [
      | yes h ↦ list_at w _ p h
      | no h ↦
          get_or-eq_default symbols 0 (omega (arith, list_length w (λ p. (x p).0)))
          ∙ sym (ap (λ (s : Element E.bits). s.0) (outside p (λ k. h (in_group p k))))
    ]

    symbols-are : Symbols E w symbols
    unfolding symbols
    symbols-are = record {
      size = list_length w _;
      each = λ p. subst (λ n. n < 2 ^ E.bits) (sym (symbols-at p)) (element-lt E.bits (x p));
    }

    symbols-same : (p : ℕ) → x p ≡ Bridge.symbol E S 0 w 0 none wide narrow symbols p
    unfolding Bridge.symbol
    symbols-same p = same-value E.bits (sym (symbols-at p) ∙ sym (mod-eq_of_lt (symbols-are.each p)))

    symbols-zero : (e : ℕ) → psum (field S.facts) (Flat.locator G) (group G 0) x e ≡ (field S.facts).𝟘 → local_sum E w symbols 0 e ≡ 0
    unfolding G
    symbols-zero e z =
        sym (BridgeLaws.local-value E S 0 w 0 none wide narrow symbols 0 e)
        ∙ ap (λ x. (psum (field S.facts) (Flat.locator G) (group G 0) x e).0) (λ i p. sym (symbols-same p) i)
        ∙ ap (λ (s : Element E.bits). s.0) z

  -- Where place j is not kept there is a stretch that is 1 there and 0 at every other place that is not kept, with as many local sums zero as
  -- places are kept.
  pub local-way : (kept : List ℕ) (j : ℕ) → j < w → lost kept j ≡ false → LocalWay E w kept j
  local-way kept j l e =
      let W = way-group G 0 j (lost kept) (place_in j l) e in
      record {
        h = symbols W.x W.outside;
        symbols = symbols-are W.x W.outside;
        own = symbols-at W.x W.outside j ∙ ap (λ (s : Element E.bits). s.0) W.own;
        off = λ i k f n. symbols-at W.x W.outside i ∙ ap (λ (s : Element E.bits). s.0) (W.off i f n);
        zero = λ i k. symbols-zero W.x W.outside i (W.meets i (subst (λ n. i < n) (sym (group-lost kept)) k));
      }

  -- The share of such a stretch in the first sum across is not 0, where c places are kept: with place j they would be c + 1, and the stretch zero
  -- on the whole group.
  pub way-share : (c : ℕ) (kept : List ℕ) → length kept ≡ w → lost_in w kept 0 ≡ c → (j : ℕ) → j < w → lost kept j ≡ false
      → (h : List ℕ) → get_or h j 0 ≡ 1 → ((i : ℕ) → i < w → lost kept i ≡ false → ¬ (i ≡ j) → get_or h i 0 ≡ 0)
      → ((e : ℕ) → e < lost_in w kept 0 → local_sum E w h 0 e ≡ 0) → group_sum E w h 0 (coefficient E c) ≡ 0 → ⊥
  way-share c kept long full j l free h own off zero share =
      let e = sym (mod-eq_of_lt (one-lt S.facts)) ∙ ap (λ a. a % 2 ^ E.bits) (sym own ∙ ap (λ i. get_or h i 0) (sym (own-place w j)))
      ∙ first-zero E S w c 0 wide narrow (set kept j 1) h (λ e k. zero e (subst (λ n. e < n) (sym full) k)) share rest
      (marked-count w kept j l long free ∙ ap suc full) j l in
      omega arith
    where
      rest : (i : ℕ) → i < w → lost (set kept j 1) (0 * w + i) ≡ false → get_or h (0 * w + i) 0 ≡ 0
      rest i k f = ap (λ q. get_or h q 0) (own-place w i) ∙ elim (ℕ_discrete i j) [
        | yes q ↦ absurd (true≢false (sym (marked-own kept j (subst (λ n. j < n) (sym long) l)) ∙ ap (lost (set kept j 1)) (sym (own-place w i ∙ q)) ∙ f))
        | no q ↦ off i k (sym (marked_other kept j i q) ∙ ap (lost (set kept j 1)) (sym (own-place w i)) ∙ f) q
      ]

module _ (E : Edition) (S : Sound E) (w c : ℕ) (wide : 0 < w) (narrow : w ≤ E.small) (marks : List ℕ) where
  -- at most c lost places are determined
  pub undetermined-many : LocallyUndetermined E w c marks → c < lost_in w marks 0
  undetermined-many U = elim (dec_le (lost_in w marks 0) c) [
    | yes h ↦ absurd (U.differ (same h))
    | no h ↦ omega arith
  ]
    where
      same : lost_in w marks 0 ≤ c → U.x ≡ U.y
      same few =
          ext_get_or 0 U.x U.y (U.x-local.symbols.size ∙ sym U.y-local.symbols.size) λ j l.
          let k : j < w = subst (λ n. j < n) U.x-local.symbols.size l in
          subst (λ n. get_or U.x n 0 ≡ get_or U.y n 0) (own-place w j)
          (local-unique E S w c 0 wide narrow marks U.x U.y U.x-local.symbols.each U.y-local.symbols.each
          (λ e h. local-zero E w c U.x 0 U.x-local.zero e h ∙ sym (local-zero E w c U.y 0 U.y-local.zero e h))
          (λ i h e. U.agree (0 * w + i) (subst (λ n. n < w) (sym (own-place w i)) h) e) few j k)

  -- more than c lost places are not: fewer equations than unknowns leave a nonzero solution, and the zero stretch is another
  pub many-undetermined : c < lost_in w marks 0 → LocallyUndetermined E w c marks
  many-undetermined l =
      let N = beyond-group (G E S w wide narrow) 0 c (lost marks) (subst (λ n. c < n) (sym (group-lost E S w wide narrow marks)) l) in
      let at = symbols-at E S w wide narrow N.x N.outside in
      record {
        x = blank w;
        y = symbols E S w wide narrow N.x N.outside;
        x-local = record { symbols = blank-symbols E w; zero = zero-local E w c (blank w) 0 (λ e _. blank-group E w w 0 _) };
        y-local = record {
          symbols = symbols-are E S w wide narrow N.x N.outside;
          zero = zero-local E w c _ 0 (λ e k. symbols-zero E S w wide narrow N.x N.outside e (N.meets e k));
        };
        agree = λ p _ e. blank-at w p ∙ sym (at p ∙ ap (λ (s : Element E.bits). s.0) (N.off p e));
        differ = λ e. N.nonzero (same-value E.bits (sym (at N.place) ∙ ap (λ l. get_or l N.place 0) (sym e) ∙ blank-at w N.place));
      }

  -- exactly where more than c places are lost
  pub undetermined-exactly : LocallyUndetermined E w c marks ↔ (c < lost_in w marks 0)
  undetermined-exactly = (undetermined-many, many-undetermined)

  low : ¬ LocallyUndetermined E w c marks → lost_in w marks 0 ≤ c
  low n = elim (dec_le (lost_in w marks 0) c) [
    | yes h ↦ h
    | no h ↦ absurd (n (many-undetermined (omega arith)))
  ]

  -- ---- "One group's repair obeys the same rule over its own equations", on its stretch
  module _ (g : ℕ) (part : List ℕ) (s : Symbols E w part) where
    pub local-eight : ((repaired E w c g part marks).number ≡ 8) ↔ LocallyUndetermined E w c marks
    local-eight = (
      (λ e. many-undetermined (eight-many E S w c wide narrow part marks s g e)),
      (λ U. ap (λ o. o.number) (repaired-eight E S w c wide narrow part marks s g (undetermined-many U))),
    )

    pub local-nine : ((repaired E w c g part marks).number ≡ 9)
        ↔ ((¬ LocallyUndetermined E w c marks) × ((y : List ℕ) → LocallyAgrees E w c marks part y → ⊥))
    local-nine = (
      (λ e.
          let N = nine-contradictory E S w c wide narrow part marks s g e in
          ((λ U. let k = undetermined-many U in let l = N.0 in omega arith), (λ y A. N.1 y (agrees-satisfies E w c marks part y s.size A)))),
      (λ P.
          ap (λ o. o.number)
          (repaired-nine E S w c wide narrow part marks s g (low P.0) (λ y Y. P.1 y (satisfies-agrees E w c marks part y s Y)))),
    )

    pub local-done : ((repaired E w c g part marks).number ≡ 0)
        ↔ ((¬ LocallyUndetermined E w c marks) × ((y : List ℕ) × LocallyAgrees E w c marks part y))
    local-done = (
      (λ e. (
        (λ U. let k = local-eight.1 U in omega arith),
        ((repaired E w c g part marks).word, satisfies-agrees E w c marks part _ s (done-single E S w c wide narrow part marks s g e).passes),
      )),
      (λ P.
          ap (λ o. o.number)
          (repaired-done E S w c wide narrow part marks s g P.1.0 (low P.0) (agrees-satisfies E w c marks part P.1.0 s.size P.1.1))),
    )
