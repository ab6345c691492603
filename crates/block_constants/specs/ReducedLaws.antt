-- Laws: The equations of one group reduced at the places that it keeps.
use Rattle.std.specs.Prelude.{◌≡◌, refl, Bool, List, ℕ, suc, ◌+◌, ◌-◌, ◌*◌, ◌<◌, ◌≤◌, ◌^◌, ltb}
use Rattle.std.proofs.Math.Path.{sym, ap, ap₂, subst}
use Rattle.std.proofs.Common.{◌∙◌, true≢false, lt-ltb, le-ltb, pow_pos}
use Rattle.std.proofs.Math.Bool.{true, false, cond}
use Rattle.std.proofs.Math.Nat.{add-zero}
use native.Mathlib.Omega.{arith}
use Rattle.std.proofs.Math.Decide.{ℕ_discrete, dec_lt}
use Rattle.std.proofs.Math.Dec.{eqb}
use Rattle.std.proofs.Math.ListN.{get_or}
use Rattle.counting.specs.Count.{one, count_below}
use Rattle.counting.specs.CountLaws.{total_mono, total-none, total-suc, total-append, total-zero, count-ext, count_next}
use Rattle.binary_field.specs.Xor.{◌⊕◌}
use Rattle.binary_field.specs.XorLaws.{⊕-self, ⊕-zero-r}
use Rattle.binary_field.specs.ProductLaws.{product-comm, product-assoc, product-add, product-zero, zero-product, product-one, product_lt}
use Rattle.binary_field.specs.SumLaws.{sum-ext, sum-zero, sum-add, scale-sum, sum_lt}
use Rattle.binary_field.specs.Inverse.{inverse}
use Rattle.binary_field.specs.InverseLaws.{product-inverse}
use Rattle.code.specs.Edition.{Edition, Sound, times, raised}
use Rattle.code.specs.Word.{group_sum, local_sum}
use Rattle.code.specs.Marks.{lost, lost_in}
use Rattle.code.specs.Blank.{blank}
use Rattle.code.specs.BlankLaws.{blank-at, blank-group}
use Rattle.code.specs.Determined.{list_of}
use Rattle.code.specs.DeterminedLaws.{list_at, local-unique}
use Rattle.code.specs.OneGroup.{LocalWay}
use Rattle.code.specs.OneGroupLaws.{local-way}
use Rattle.code.specs.StretchLaws.{own-place}
use Rattle.code_engine.specs.EliminationSteps.{identity}
use Rattle.code_engine.specs.EliminationStepsLaws.{identity-same, identity-other}
use Rattle.block_constants.specs.Reduced.{dot, Meets, ReducedTo, Pivoted}

pub count-here : (bound : List ℕ) (p : ℕ) → lost bound p ≡ true → count_below (suc p) (lost bound) ≡ suc (count_below p (lost bound))
count-here bound p e =
    let s : count_below (suc p) (lost bound) ≡ count_below p (lost bound) + 1 = total-suc p (λ i. one (lost bound i))
    ∙ ap (λ b. count_below p (lost bound) + one b) e in
    omega arith

-- the bound places below p are no more than those up to it
pub count_down : (bound : List ℕ) (p n : ℕ) → count_below (p + 1) (lost bound) ≤ n → count_below p (lost bound) ≤ n
count_down bound p n l = let k = total_mono {i = p} {n = p + 1} (λ i. one (lost bound i)) (omega arith) in omega arith

pub count_past : (bound : List ℕ) (p : ℕ) → lost bound p ≡ false → count_below (suc p) (lost bound) ≡ count_below p (lost bound)
count_past bound p e =
    let s : count_below (suc p) (lost bound) ≡ count_below p (lost bound) + 0 = total-suc p (λ i. one (lost bound i))
    ∙ ap (λ b. count_below p (lost bound) + one b) e in
    omega arith

module _ (E : Edition) (w : ℕ) where
  pub dot-ext : (y z h k : ℕ → ℕ) → ((j : ℕ) → j < w → y j ≡ z j) → ((j : ℕ) → j < w → h j ≡ k j) → dot E w y h ≡ dot E w z k
  unfolding dot
  dot-ext y z h k e f = sum-ext w _ _ (λ j l. ap₂ (times E) (e j l) (f j l))

  pub dot-scaled : (y h : ℕ → ℕ) (f : ℕ) → dot E w y (λ j. times E (h j) f) ≡ times E (dot E w y h) f
  unfolding dot
  dot-scaled y h f =
      sum-ext w _ _ (λ j _. sym (product-assoc E.bits E.poly (y j) (h j) f)) ∙ scale-sum E.bits E.poly w f (λ j. times E (y j) (h j))

  pub dot-added : (y h k : ℕ → ℕ) → dot E w y (λ j. h j ⊕ k j) ≡ dot E w y h ⊕ dot E w y k
  unfolding dot
  dot-added y h k = sum-ext w _ _ (λ j _. product-add E.bits E.poly (y j) (h j) (k j)) ∙ sum-add w _ _

  pub dot-lt : (y h : ℕ → ℕ) → dot E w y h < 2 ^ E.bits
  unfolding dot
  dot-lt y h = sum_lt E.bits w _ (λ j _. product_lt E.bits E.poly (y j) (h j))

  -- one step
  module _ (S : Sound E) (n : ℕ) (bound : List ℕ) (p t : ℕ) (H M M' : ℕ → ℕ → ℕ) (R : ReducedTo E w n bound p t H M) (P : Pivoted E w n p t M M')
      (inside : p < w) (t-less : t < n) (small : (i : ℕ) → i < n → M i p < 2 ^ E.bits) (lost-here : lost bound p ≡ true) (some : M t p ≡ 0 → ⊥) where
    f : ℕ
    f = inverse E.bits E.poly (M t p)

    unit-here : times E (M t p) f ≡ 1
    unfolding f
    unit-here = product-inverse E.bits E.poly S.facts.pos S.facts.values S.facts.tested (M t p) (small t t-less) some

    one-times : (a : ℕ) → a < 2 ^ E.bits → times E 1 a ≡ a
    one-times a l = product-comm E.bits E.poly 1 a ∙ product-one E.bits E.poly S.facts.pos a l

    -- the sums of the new rows
    dot-own : (y : ℕ → ℕ) → dot E w y (M' t) ≡ times E (dot E w y (M t)) f
    unfolding f
    dot-own y = dot-ext y y (M' t) _ (λ _ _. refl) P.own ∙ dot-scaled y (M t) f

    dot-other : (y : ℕ → ℕ) (i : ℕ) → i < n → (i ≡ t → ⊥) → dot E w y (M' i) ≡ dot E w y (M i) ⊕ times E (dot E w y (M' t)) (M i p)
    dot-other y i l d =
        dot-ext y y (M' i) _ (λ _ _. refl) (P.other i l d) ∙ dot-added y (M i) (λ j. times E (M' t j) (M i p))
        ∙ ap (λ s. dot E w y (M i) ⊕ s) (dot-scaled y (M' t) (M i p))

    clear : (y : ℕ → ℕ) (i : ℕ) → i < n → (i ≡ t → ⊥) → dot E w y (M' t) ≡ 0 → dot E w y (M' i) ≡ dot E w y (M i)
    clear y i l d z = dot-other y i l d ∙ ap (λ s. dot E w y (M i) ⊕ times E s (M i p)) z
        ∙ ap (λ s. dot E w y (M i) ⊕ s) (zero-product E.bits E.poly (M i p)) ∙ ⊕-zero-r _

    -- the pivot row holds exactly where row t does
    own-zero : (y : ℕ → ℕ) → dot E w y (M t) ≡ 0 → dot E w y (M' t) ≡ 0
    own-zero y z = dot-own y ∙ ap (λ s. times E s f) z ∙ zero-product E.bits E.poly f

    zero-own : (y : ℕ → ℕ) → dot E w y (M t) < 2 ^ E.bits → dot E w y (M' t) ≡ 0 → dot E w y (M t) ≡ 0
    zero-own y l z =
        sym (product-one E.bits E.poly S.facts.pos _ l) ∙ ap (times E (dot E w y (M t))) (sym unit-here ∙ product-comm E.bits E.poly (M t p) f)
        ∙ sym (product-assoc E.bits E.poly _ f (M t p)) ∙ ap (λ s. times E s (M t p)) (sym (dot-own y) ∙ z) ∙ zero-product E.bits E.poly (M t p)

    before : (y : ℕ → ℕ) (K : ℕ → ℕ → ℕ) → Meets E w (suc t) y K → Meets E w t y K
    before y K z e l = z e (omega arith)

    forth' : (y : ℕ → ℕ) → Meets E w (suc t) y H → Meets E w (suc t) y M'
    forth' y z i l =
        let own : dot E w y (M' t) ≡ 0 = own-zero y (R.rest y (before y H z) t (omega arith) t-less ∙ z t (omega arith)) in
        elim (ℕ_discrete i t) [
          | yes q ↦ ap (λ k. dot E w y (M' k)) q ∙ own
          | no q ↦ clear y i (omega arith) q own ∙ R.forth y (before y H z) i (omega arith)
        ]

    back' : (y : ℕ → ℕ) → Meets E w (suc t) y M' → Meets E w (suc t) y H
    back' y z i l =
        let low : Meets E w t y H = R.back y (λ k b. sym (clear y k (omega arith) (λ q. omega arith) (z t (omega arith))) ∙ z k (omega arith)) in
        elim (ℕ_discrete i t) [
          | yes q ↦ ap (λ k. dot E w y (H k)) q ∙ sym (R.rest y low t (omega arith) t-less) ∙ zero-own y (dot-lt y (M t)) (z t (omega arith))
          | no q ↦ low i (omega arith)
        ]

    rest' : (y : ℕ → ℕ) → Meets E w (suc t) y H → (i : ℕ) → suc t ≤ i → i < n → dot E w y (M' i) ≡ dot E w y (H i)
    rest' y z i l b = clear y i b (λ q. omega arith) (forth' y z t (omega arith)) ∙ R.rest y (before y H z) i (omega arith) b

    pivot-here : M' t p ≡ 1
    unfolding f
    pivot-here = P.own p inside ∙ unit-here

    unit' : (q : ℕ) → q < suc p → lost bound q ≡ true → (i : ℕ) → i < n → M' i q ≡ identity i (count_below q (lost bound))
    unfolding f
    unit' q l e i b = elim (ℕ_discrete q p) [
      | yes d ↦
          (let c : count_below q (lost bound) ≡ t = ap (λ k. count_below k (lost bound)) d ∙ sym R.count in
          elim (ℕ_discrete i t) [
            | yes s ↦ ap₂ M' s d ∙ pivot-here ∙ sym (identity-same i _ (s ∙ sym c))
            | no s ↦
                (ap (M' i) d ∙ P.other i b s p inside ∙ ap (λ a. M i p ⊕ times E a (M i p)) pivot-here
                ∙ ap (λ a. M i p ⊕ a) (one-times (M i p) (small i b)) ∙ ⊕-self (M i p) ∙ sym (identity-other i _ (λ z. s (z ∙ c))))
          ])
      | no d ↦
          (let h : q < w = omega arith in
          let c : count_below q (lost bound) < t = subst (λ k. count_below q (lost bound) < k) (sym R.count) (count_next q p (lost bound) (omega arith) e) in
          let z : M t q ≡ 0 = R.unit q (omega arith) e t t-less ∙ identity-other t _ (λ s. omega arith) in
          let o : M' t q ≡ 0 = P.own q h ∙ ap (λ a. times E a f) z ∙ zero-product E.bits E.poly f in
          elim (ℕ_discrete i t) [
            | yes s ↦ ap (λ k. M' k q) s ∙ o ∙ sym (identity-other i _ (λ u. omega arith))
            | no s ↦
                (P.other i b s q h ∙ ap (λ a. M i q ⊕ times E a (M i p)) o ∙ ap (λ a. M i q ⊕ a) (zero-product E.bits E.poly (M i p)) ∙ ⊕-zero-r (M i q)
                ∙ R.unit q (omega arith) e i b)
          ])
    ]

    pub reduced-more : ReducedTo E w n bound (suc p) (suc t) H M'
    reduced-more = record {
      count = ap suc R.count ∙ sym (count-here bound p lost-here);
      unit = unit';
      forth = forth';
      back = back';
      rest = rest';
    }

  -- before the first place
  pub reduced-none : (n : ℕ) (bound : List ℕ) (H M : ℕ → ℕ → ℕ) → ((i : ℕ) → i < n → (j : ℕ) → j < w → M i j ≡ H i j) → ReducedTo E w n bound 0 0 H M
  reduced-none n bound H M same = record {
    count = sym (total-none (λ i. one (lost bound i)));
    unit = λ q l. absurd (omega arith);
    forth = λ y z i l. absurd (omega arith);
    back = λ y z i l. absurd (omega arith);
    rest = λ y z i l b. dot-ext y y (M i) (H i) (λ _ _. refl) (same i b);
  }

  -- equations with the same coefficients
  pub reduced-ext : (n : ℕ) (bound : List ℕ) (p t : ℕ) (H K M : ℕ → ℕ → ℕ) → t ≤ n → ((i : ℕ) → i < n → (j : ℕ) → j < w → H i j ≡ K i j)
      → ReducedTo E w n bound p t H M → ReducedTo E w n bound p t K M
  reduced-ext n bound p t H K M few same R = record {
    count = R.count;
    unit = R.unit;
    forth = λ y z. R.forth y (λ e l. swap y e (omega arith) ∙ z e l);
    back = λ y z e l. sym (swap y e (omega arith)) ∙ R.back y z e l;
    rest = λ y z i l b. R.rest y (λ e h. swap y e (omega arith) ∙ z e h) i l b ∙ swap y i b;
  }
    where
      swap : (y : ℕ → ℕ) (i : ℕ) → i < n → dot E w y (H i) ≡ dot E w y (K i)
      swap y i l = dot-ext y y (H i) (K i) (λ _ _. refl) (same i l)

  -- a place that is not bound changes nothing
  pub reduced-past : (n : ℕ) (bound : List ℕ) (p t : ℕ) (H M : ℕ → ℕ → ℕ) → lost bound p ≡ false → ReducedTo E w n bound p t H M
      → ReducedTo E w n bound (suc p) t H M
  reduced-past n bound p t H M e R = record {
    count = R.count ∙ sym (count_past bound p e);
    unit = λ q l f i b. elim (ℕ_discrete q p) [
      | yes d ↦ absurd (true≢false (sym f ∙ ap (lost bound) d ∙ e))
      | no d ↦ R.unit q (omega arith) f i b
    ];
    forth = R.forth;
    back = R.back;
    rest = R.rest;
  }

-- ---- the pivot is not 0
module _ (w : ℕ) (bound : List ℕ) where
  -- the bound places below n
  up_to : ℕ → List ℕ
  up_to n = list_of w (λ q. cond (ltb q n) (get_or bound q 0) 0)

  up-lost : (n q : ℕ) → q < w → q < n → lost (up_to n) q ≡ lost bound q
  unfolding up_to
  up-lost n q l h = ap (λ b. eqb b 1) (list_at w _ q l ∙ ap (λ b. cond b (get_or bound q 0) 0) (lt-ltb q n h))

  up-past : (n q : ℕ) → q < w → n ≤ q → lost (up_to n) q ≡ false
  unfolding up_to
  up-past n q l h = ap (λ b. eqb b 1) (list_at w _ q l ∙ ap (λ b. cond b (get_or bound q 0) 0) (le-ltb q n h))

  up-count : (n : ℕ) → n ≤ w → lost_in w (up_to n) 0 ≡ count_below n (lost bound)
  unfolding lost_in
  up-count n l =
      let e : w ≡ n + (w - n) = omega arith in
      count-ext w _ (lost (up_to n)) (λ q _. ap (lost (up_to n)) (own-place w q))
      ∙ ap (λ k. count_below k (lost (up_to n))) e ∙ total-append n (w - n) (λ q. one (lost (up_to n) q))
      ∙ ap (λ k. count_below n (lost (up_to n)) + k) (total-zero (w - n) _ (λ q b. ap one (up-past n (n + q) (omega arith) (omega arith))))
      ∙ add-zero _ ∙ count-ext n _ _ (λ q b. up-lost n q (omega arith) b)

  module _ (E : Edition) (S : Sound E) (wide : 0 < w) (narrow : w ≤ E.small) (n p t : ℕ) (H M : ℕ → ℕ → ℕ) (R : ReducedTo E w n bound p t H M)
      (powers : (e : ℕ) → e ≤ t → (j : ℕ) → j < w → H e j ≡ raised E (E.locator j) e) (inside : p < w) (t-less : t < n)
      (lost-here : lost bound p ≡ true) where
    local-dot : (h : List ℕ) (e : ℕ) → e ≤ t → local_sum E w h 0 e ≡ dot E w (λ j. get_or h j 0) (H e)
    unfolding group_sum dot
    local-dot h e l = sum-ext w _ _ (λ j b. ap₂ (times E) (ap (λ i. get_or h i 0) (own-place w j)) (sym (powers e l j b)))

    -- a way of p has nothing outside the bound places below p and p itself
    off : (W : LocalWay E w (up_to p) p) (j : ℕ) → j < w → lost (up_to (suc p)) j ≡ false → get_or W.h j 0 ≡ 0
    off W j l e = W.off j l (go j l e) (λ q. true≢false (sym (up-lost (suc p) p inside (omega arith) ∙ lost-here) ∙ ap (lost (up_to (suc p))) (sym q) ∙ e))
      where
        go : (j : ℕ) → j < w → lost (up_to (suc p)) j ≡ false → lost (up_to p) j ≡ false
        go j l e = elim (dec_lt j p) [
          | yes b ↦ up-lost p j l b ∙ sym (up-lost (suc p) j l (omega arith)) ∙ e
          | no b ↦ up-past p j l (omega arith)
        ]

    same : (W : LocalWay E w (up_to p) p) (j : ℕ) → j < w → lost (up_to (suc p)) (0 * w + j) ≡ false → get_or W.h (0 * w + j) 0 ≡ get_or (blank w) (0 * w + j) 0
    same W j l e = ap (λ i. get_or W.h i 0) (own-place w j) ∙ off W j l (ap (lost (up_to (suc p))) (sym (own-place w j)) ∙ e) ∙ sym (blank-at w (0 * w + j))

    -- row t has nothing at the bound places below p
    row-off : M t p ≡ 0 → (j : ℕ) → j < w → lost (up_to (suc p)) j ≡ true → M t j ≡ 0
    row-off z j l e = elim (ℕ_discrete j p) [
      | yes d ↦ ap (M t) d ∙ z
      | no d ↦ elim (dec_lt j p) [
        | yes b ↦
            (let k : lost bound j ≡ true = sym (up-lost (suc p) j l (omega arith)) ∙ e in
            let c = count_next j p (lost bound) b k in
            let f = R.count in
            R.unit j b k t t-less ∙ identity-other t _ (λ s. omega arith))
        | no b ↦ absurd (true≢false (sym e ∙ up-past (suc p) j l (omega arith)))
      ]
    ]

    none : M t p ≡ 0 → (W : LocalWay E w (up_to p) p) → dot E w (λ j. get_or W.h j 0) (M t) ≡ 0
    unfolding dot
    none z W = sum-zero w _ (λ j l. go j l (lost (up_to (suc p)) j) refl)
      where
        go : (j : ℕ) → j < w → (b : Bool) → lost (up_to (suc p)) j ≡ b → times E (get_or W.h j 0) (M t j) ≡ 0
        go j l false e = ap (λ a. times E a (M t j)) (off W j l e) ∙ zero-product E.bits E.poly (M t j)
        go j l true e = ap (times E (get_or W.h j 0)) (row-off z j l e) ∙ product-zero E.bits E.poly _

    pub pivot-some : M t p ≡ 0 → ⊥
    pivot-some z =
        let W = local-way E S w wide narrow (up_to p) p inside (up-past p p inside (omega arith)) in
        let h : ℕ → ℕ = λ j. get_or W.h j 0 in
        let c : lost_in w (up_to p) 0 ≡ t = up-count p (omega arith) ∙ sym R.count in
        let low : Meets E w t h H = λ e l. sym (local-dot W.h e (omega arith)) ∙ W.zero e (subst (λ k. e < k) (sym c) l) in
        let last : dot E w h (H t) ≡ 0 = sym (R.rest h low t (omega arith) t-less) ∙ none z W in
        let k : lost_in w (up_to (suc p)) 0 ≡ suc t = up-count (suc p) inside ∙ count-here bound p lost-here ∙ ap suc (sym R.count) in
        let u = local-unique E S w (suc t) 0 wide narrow (up_to (suc p)) W.h (blank w) W.symbols.each
        (λ q. subst (λ b. b < 2 ^ E.bits) (sym (blank-at w q)) (pow_pos E.bits))
        (λ e l. elim (ℕ_discrete e t) [
          | yes d ↦ ap (local_sum E w W.h 0) d ∙ local-dot W.h t (omega arith) ∙ last ∙ sym (blank-group E w w 0 _)
          | no d ↦ local-dot W.h e (omega arith) ∙ low e (omega arith) ∙ sym (blank-group E w w 0 _)
        ])
        (λ j l e. same W j l e) (omega arith) p inside in
        let v : ◌≡◌ {A = ℕ} 1 0 = sym W.own ∙ ap (λ i. get_or W.h i 0) (sym (own-place w p)) ∙ u ∙ blank-at w (0 * w + p) in
        omega arith
