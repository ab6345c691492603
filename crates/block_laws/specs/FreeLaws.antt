-- Laws: The free places of a block rebuild.
use Rattle.std.specs.Prelude.{◌≡◌, refl, Bool, not, ◌&&◌, List, T, eqb, length, get_or}
use Rattle.std.proofs.Math.Path.{sym, ap, ap₂}
use Rattle.std.proofs.Common.{◌∙◌, subst, div-add-mod', mod-lt, div-lt_iff_lt-mul, mul-le-mul_right, arith, eq-eqb, ne_eqb, lit<}
use Rattle.std.proofs.Math.Bool.{true, false, cond, true≢false}
use Prim.Native.Nat.{ℕ, suc, ◌+◌, ◌*◌, ◌/◌, ◌%◌, ◌<◌, ◌≤◌}
use Rattle.std.proofs.Math.Decide.{ℕ_discrete, dec_lt}
use Rattle.counting.specs.Test.{any_below}
use Rattle.counting.specs.TestLaws.{any_at, none-at}
use Rattle.binary_field.specs.Xor.{◌⊕◌}
use Rattle.binary_field.specs.XorLaws.{⊕-self, ⊕-zero-l, ⊕-zero-r, ⊕-cancel, ⊕-lt}
use Rattle.binary_field.specs.ProductLaws.{product-comm, product-assoc, product-add, product-zero, zero-product, product-one, product_lt, ring}
use Rattle.binary_field.specs.Sum.{sum_below}
use Rattle.binary_field.specs.SumLaws.{sum-ext, sum-zero, sum-add, sum-single, scale-sum, sum_lt}
use Rattle.shape.specs.Shapes.{byte_limits}
use Rattle.code.specs.Edition.{times}
use Rattle.code.specs.PairLaws.{determinant-some}
use Rattle.code.specs.Word.{Codeword}
use Rattle.code.specs.Marks.{lost, lost_in, excess}
use Rattle.code.specs.Blank.{blank}
use Rattle.code.specs.BlankLaws.{blank-at, blank-codeword}
use Rattle.code.specs.Determined.{list_of}
use Rattle.code.specs.DeterminedLaws.{list_at, unique}
use Rattle.code.specs.Recovery.{Agrees}
use Rattle.code.specs.Stretch.{stretch}
use Rattle.code.specs.StretchLaws.{stretch-at, stretch-length, stretch-count}
use Rattle.code.specs.CombinedLaws.{place-less}
use Rattle.code.specs.Limits.{GoodIn}
use Rattle.byte_edition.specs.Edition.{byte_edition}
use Rattle.byte_edition.specs.EditionLaws.{bytes-sound, bytes-few}
use Rattle.code_engine.specs.Bound.{free}
use Rattle.code_engine.specs.BoundGroups.{BoundAll}
use Rattle.block_constants.specs.FreeRows.{with_at, mixed}
use Rattle.block_laws.specs.Group.{AgreesIn, Mendable}
use Rattle.block_laws.specs.GroupLaws.{mendable, first_some}
use Rattle.block_laws.specs.Whole.{row_sum, Across}
use Rattle.block_laws.specs.WholeLaws.{joined-codeword, codeword-group, codeword-first, codeword-second}
use Rattle.block_laws.specs.Free.{PresentSame, Completes, Completable, OneSolved, TwoSolved}

-- ---- sums of rows
module _ (n : ℕ) where
  pub row_lt : (v a : ℕ → ℕ) → row_sum n v a < 256
  unfolding row_sum
  row_lt v a = sum_lt 8 n _ (λ p _. product_lt 8 285 (v p) (a p))

  -- a symbol at place p by itself
  pub row_at : (p u : ℕ) (v a : ℕ → ℕ) → p < n → row_sum n (with_at p u v) a ≡ row_sum n v (with_at p 0 a) ⊕ times byte_edition u (a p)
  unfolding row_sum
  row_at p u v a l =
      sum-ext n _ _ (λ q _. term q) ∙ sum-add n (λ q. times byte_edition (v q) (with_at p 0 a q)) (λ q. cond (eqb q p) (times byte_edition u (a p)) 0)
      ∙ ap (λ s. sum_below n (λ q. times byte_edition (v q) (with_at p 0 a q)) ⊕ s)
      (sum-single n p _ l (λ q _ d. ap (λ b. cond b (times byte_edition u (a p)) 0) (ne_eqb q p d)) ∙ ap (λ b. cond b (times byte_edition u (a p)) 0)
      (eq-eqb p p refl))
    where
      term : (q : ℕ) → times byte_edition (with_at p u v q) (a q) ≡ times byte_edition (v q) (with_at p 0 a q) ⊕ cond (eqb q p) (times byte_edition u (a p)) 0
      term q = elim (ℕ_discrete q p) [
        | yes e ↦
            (rw (eq-eqb q p e) (ap (λ i. times byte_edition u (a i)) e ∙ sym (⊕-zero-l _) ∙ ap (λ s. s ⊕ times byte_edition u (a p)) (sym
            (product-zero 8 285 (v q)))))
        | no e ↦ (rw (ne_eqb q p e) (sym (⊕-zero-r _)))
      ]

  -- a mixture of rows
  pub row-mixed : (v a b : ℕ → ℕ) (f h : ℕ) → row_sum n v (mixed f h a b) ≡ times byte_edition (row_sum n v a) f ⊕ times byte_edition (row_sum n v b) h
  unfolding row_sum
  row-mixed v a b f h =
      sum-ext n _ _ (λ q _. product-add 8 285 (v q) _ _ ∙ ap₂ ◌⊕◌ (sym (product-assoc 8 285 (v q) (a q) f)) (sym (product-assoc 8 285 (v q) (b q) h)))
      ∙ sum-add n _ _ ∙ ap₂ ◌⊕◌ (scale-sum 8 285 n f _) (scale-sum 8 285 n h _)

-- ---- what one and two free places ask of the factors
one-times : (a : ℕ) → a < 256 → times byte_edition a 1 ≡ a
one-times a l = product-one 8 285 (lit< tt) a l

-- the symbol by the first row
pub one-first : (a b i : ℕ) → a < 256 → b < 256 → times byte_edition a i ≡ 1 → OneSolved a b i 0 (times byte_edition b i) 1
one-first a b i la lb e = record {
  unit = ap₂ ◌⊕◌ e (product-zero 8 285 b) ∙ ⊕-zero-r 1;
  none = ap (λ s. times byte_edition a (times byte_edition b i) ⊕ s) (one-times b lb) ∙ ap (λ s. s ⊕ b) (swap a b i ∙ ap (times byte_edition b) e
      ∙ one-times b lb) ∙ ⊕-self b;
  first = λ s t ls lt z. value s t ∙ undo s ls;
  second = λ s t ls lt z.
      ap (λ u. times byte_edition (times byte_edition s i ⊕ u) b) (product-zero 8 285 t) ∙ ap (λ u. times byte_edition u b) (⊕-zero-r _) ∙ turn s i b
      ∙ ⊕-cancel (ap (λ u. times byte_edition s (times byte_edition b i) ⊕ u) (sym (one-times t lt)) ∙ z);
}
  where
    swap : (x y k : ℕ) → times byte_edition x (times byte_edition y k) ≡ times byte_edition y (times byte_edition x k)
    swap x y k = simp ring

    turn : (s i b : ℕ) → times byte_edition (times byte_edition s i) b ≡ times byte_edition s (times byte_edition b i)
    turn s i b = simp ring

    value : (s t : ℕ) → times byte_edition (times byte_edition s i ⊕ times byte_edition t 0) a ≡ times byte_edition s (times byte_edition a i)
    value s t = ap (λ u. times byte_edition (times byte_edition s i ⊕ u) a) (product-zero 8 285 t) ∙ ap (λ u. times byte_edition u a) (⊕-zero-r _) ∙ turn s i a

    undo : (s : ℕ) → s < 256 → times byte_edition s (times byte_edition a i) ≡ s
    undo s l = ap (times byte_edition s) e ∙ one-times s l

-- by the determinant, of which i is the inverse
pub two-solved : (a a' b b' i : ℕ) → times byte_edition (times byte_edition a b' ⊕ times byte_edition a' b) i ≡ 1
    → TwoSolved a a' b b' (times byte_edition i b') (times byte_edition i a') (times byte_edition i b) (times byte_edition i a)
two-solved a a' b b' i e = record {
  unit = l1 ∙ e;
  cross = l2;
  unit' = l3 ∙ e;
  cross' = l4;
  first = λ s t ls lt. l5 s t ∙ ap (times byte_edition s) e ∙ one-times s ls;
  second = λ s t ls lt. l6 s t ∙ ap (times byte_edition t) e ∙ one-times t lt;
}
  where
    det : ℕ
    det = times byte_edition (times byte_edition a b' ⊕ times byte_edition a' b) i

    l1 : times byte_edition a (times byte_edition i b') ⊕ times byte_edition b (times byte_edition i a') ≡ det
    l1 = simp ring

    l2 : times byte_edition a' (times byte_edition i b') ⊕ times byte_edition b' (times byte_edition i a') ≡ 0
    l2 = simp ring

    l3 : times byte_edition a' (times byte_edition i b) ⊕ times byte_edition b' (times byte_edition i a) ≡ det
    l3 = simp ring

    l4 : times byte_edition a (times byte_edition i b) ⊕ times byte_edition b (times byte_edition i a) ≡ 0
    l4 = simp ring

    l5 : (s t : ℕ) → times byte_edition (times byte_edition s (times byte_edition i b') ⊕ times byte_edition t (times byte_edition i a')) a
        ⊕ times byte_edition (times byte_edition s (times byte_edition i b) ⊕ times byte_edition t (times byte_edition i a)) a' ≡ times byte_edition s det
    l5 s t = simp ring

    l6 : (s t : ℕ) → times byte_edition (times byte_edition s (times byte_edition i b') ⊕ times byte_edition t (times byte_edition i a')) b
        ⊕ times byte_edition (times byte_edition s (times byte_edition i b) ⊕ times byte_edition t (times byte_edition i a)) b' ≡ times byte_edition t det
    l6 s t = simp ring

-- ---- words
-- a choice for every g below m
module _ (m : ℕ) (P : ℕ → (ℕ → ℕ) → Type 0) (f : (g : ℕ) → g < m → (y : ℕ → ℕ) × P g y) where
  chosen : ℕ → ℕ → ℕ
  chosen g = elim (dec_lt g m) [
    | yes l ↦ (f g l).0
    | no l ↦ λ _. 0
  ]

  chosen_is : (g : ℕ) → g < m → P g (chosen g)
  unfolding chosen
  chosen_is g h = elim (dec_lt g m) as (λ d. P g (elim d [
    | yes l ↦ (f g l).0
    | no l ↦ λ _. 0
  ])) [
    | yes l ↦ (f g l).1
    | no l ↦ absurd (l h)
  ]

split : (x y : Bool) → T (x && not y) → (x ≡ true) × (y ≡ false)
split true true t = absurd t
split true false t = (refl, refl)
split false y t = absurd t

no-free : (x y : Bool) → (x && not y) ≡ false → y ≡ false → x ≡ false
no-free true true e f = f
no-free true false e f = e
no-free false y e f = refl

module _ (m w c : ℕ) (good : GoodIn byte_limits m w c) (marks bound : List ℕ) (K : BoundAll m w c marks bound) where
  wide : 0 < w
  wide = let k = good.wide in omega arith

  part_count : (g : ℕ) → lost_in w (stretch w g bound) 0 ≡ lost_in w bound g
  part_count g = stretch-count w g bound

  -- words that are the same at the present places can be mended in the same groups
  pub mend-again : (v z : ℕ → ℕ) → ((p : ℕ) → z p < 256) → PresentSame (m * w) marks bound v z → (g : ℕ) → g < m
      → Mendable w c g (stretch w g bound) (λ j. v (g * w + j)) → Mendable w c g (stretch w g bound) (λ j. z (g * w + j))
  mend-again v z small same g l M = go (any_below w (λ j. free marks bound (g * w + j))) refl
    where
      go : (b : Bool) → any_below w (λ j. free marks bound (g * w + j)) ≡ b → Mendable w c g (stretch w g bound) (λ j. z (g * w + j))
      go true t =
          let a = any_at w (λ j. free marks bound (g * w + j)) (subst T (sym t) tt) in
          let f = split (lost marks (g * w + a.0)) (lost bound (g * w + a.0)) a.2 in
          let n : lost_in w (stretch w g bound) 0 ≡ c = part_count g ∙ K.bound-full g a.0 l a.1 f.0 f.1 in
          let q = good in
          mendable w c g wide q.narrow (stretch w g bound) (omega arith) (λ j. z (g * w + j)) (λ j. small _) q.few-checks (omega arith)
          (λ _ _. 0) (λ e h b. absurd (omega arith)) (λ e h b. absurd (omega arith))
      go false t = (
        M.0,
        record {
          small = M.1.small;
          same = λ j h e.
              M.1.same j h e
              ∙ same (g * w + j) (place-less m w g j l h)
              (no-free (lost marks (g * w + j)) (lost bound (g * w + j)) (none-at w (λ j. free marks bound (g * w + j)) t j h)
              (ap (λ b. eqb b 1) (sym (stretch-at w g bound j h)) ∙ e));
          meets = M.1.meets;
        },
      )

  module _ (a b : ℕ → ℕ) (A : Across m w c bound 4 a) (B : Across m w c bound 5 b) where
    -- the rows have 0 at the bound places
    pub across-none : (i : ℕ) (r : ℕ → ℕ) → Across m w c bound i r → (p : ℕ) → p < m * w → lost bound p ≡ true → r p ≡ 0
    across-none i r R p l e =
        let g : p / w < m = (div-lt_iff_lt-mul wide).1 l in
        let j : p % w < w = mod-lt p wide in
        let d : p / w * w + p % w ≡ p = div-add-mod' p w in
        ap r (sym d) ∙ (R (p / w) g).none (p % w) j (ap (λ b. eqb b 1) (stretch-at w (p / w) bound (p % w) j) ∙ ap (lost bound) d ∙ e)

    -- so only the other places count
    pub row-agree : (i : ℕ) (r : ℕ → ℕ) → Across m w c bound i r → (v z : ℕ → ℕ) → ((p : ℕ) → p < m * w → lost bound p ≡ false → v p ≡ z p)
        → row_sum (m * w) v r ≡ row_sum (m * w) z r
    unfolding row_sum
    row-agree i r R v z e = sum-ext (m * w) _ _ (λ p l. go p l (lost bound p) refl)
      where
        go : (p : ℕ) → p < m * w → (x : Bool) → lost bound p ≡ x → times byte_edition (v p) (r p) ≡ times byte_edition (z p) (r p)
        go p l true k =
            let n = across-none i r R p l k in
            ap (times byte_edition (v p)) n ∙ product-zero 8 285 (v p) ∙ sym (product-zero 8 285 (z p)) ∙ ap (times byte_edition (z p)) (sym n)
        go p l false k = ap (λ x. times byte_edition x (r p)) (e p l k)

    within : (g : ℕ) → g < m → lost_in w bound g ≤ c
    within = K.bound-few

    -- ---- a word that can be mended and completed agrees with a codeword
    pub completed : (v z : ℕ → ℕ) → ((g : ℕ) → g < m → Mendable w c g (stretch w g bound) (λ j. v (g * w + j))) → Completes (m * w) marks bound a b v z
        → (y : List ℕ) × Codeword byte_edition m w c y × ((p : ℕ) → p < m * w → lost bound p ≡ false → get_or y p 0 ≡ z p)
    completed v z M C =
        let N : (g : ℕ) → g < m → Mendable w c g (stretch w g bound) (λ j. z (g * w + j)) = λ g l. mend-again v z C.small C.same g l (M g l) in
        joined-codeword m w c wide good.few-checks bound within z (chosen m (λ g y. AgreesIn w c g (stretch w g bound) (λ j. z (g * w + j)) y) N)
        (chosen_is m (λ g y. AgreesIn w c g (stretch w g bound) (λ j. z (g * w + j)) y) N) a b A B C.first C.second

    pub agrees-of : (v : ℕ → ℕ) → ((g : ℕ) → g < m → Mendable w c g (stretch w g bound) (λ j. v (g * w + j))) → Completable (m * w) marks bound a b v
        → (y : List ℕ) × Agrees byte_edition m w c marks (list_of (m * w) v) y
    agrees-of v M C =
        let J = completed v C.0 M C.1 in (
          J.0,
          record {
            codeword = J.1;
            agree = λ p l e. J.2 p l (K.bound-lost p l e) ∙ sym (C.1.same p l e) ∙ sym (list_at (m * w) v p l);
          },
        )

    -- ---- and the other way
    module _ (v : ℕ → ℕ) (small : (p : ℕ) → v p < 256) (y : List ℕ) (Y : Agrees byte_edition m w c marks (list_of (m * w) v) y) where
      agree : PresentSame (m * w) marks bound (λ p. get_or y p 0) v
      agree p l e = Y.agree p l e ∙ list_at (m * w) v p l

      pub of-mendable : (g : ℕ) → g < m → Mendable w c g (stretch w g bound) (λ j. v (g * w + j))
      of-mendable g l =
          mend-again (λ p. get_or y p 0) v small agree g l
          (_, codeword-group m w c wide good.few-checks bound within y Y.codeword (λ p. get_or y p 0) (λ p _ _. refl) g l)

      pub of-completes : Completes (m * w) marks bound a b v (λ p. get_or y p 0)
      of-completes = record {
        small = λ p. Y.codeword.symbols.each p;
        same = λ p l e. sym (agree p l e);
        first = codeword-first m w c wide good.few-checks bound within y Y.codeword (λ p. get_or y p 0) (λ p _ _. refl) a A;
        second = codeword-second m w c wide good.few-checks bound within y Y.codeword (λ p. get_or y p 0) (λ p _ _. refl) b B;
      }

    -- ---- what stands at the free places and nowhere else completes nothing, unless it is nothing
    module _ (low : excess m w c marks ≤ 2) where
      nothing-mendable : (g : ℕ) → g < m → Mendable w c g (stretch w g bound) (λ _. 0)
      nothing-mendable g l =
          let C = codeword-group m w c wide good.few-checks bound within (blank (m * w)) (blank-codeword byte_edition m w c) (λ _. 0)
          (λ p _ _. blank-at (m * w) p) g l in
          (_, C)

      pub kernel : (z : ℕ → ℕ) → Completes (m * w) marks bound a b (λ _. 0) z → (p : ℕ) → p < m * w → lost bound p ≡ false → z p ≡ 0
      kernel z C p l e =
          let J = completed (λ _. 0) z nothing-mendable C in
          let u : J.0 ≡ blank (m * w) =
          unique byte_edition bytes-sound m w c (bytes-few good.few) wide good.narrow marks J.0 (blank (m * w)) J.1
          (blank-codeword byte_edition m w c)
          (λ q h f. J.2 q h (K.bound-lost q h f) ∙ sym (C.same q h f) ∙ sym (blank-at (m * w) q)) low in
          sym (J.2 p l e) ∙ ap (λ k. get_or k p 0) u ∙ blank-at (m * w) p

-- ---- one free place
row-nothing : (n : ℕ) (a : ℕ → ℕ) → row_sum n (λ _. 0) a ≡ 0
unfolding row_sum
row-nothing n a = sum-zero n _ (λ p _. zero-product 8 285 (a p))

at_here : (p u : ℕ) (v : ℕ → ℕ) → with_at p u v p ≡ u
at_here p u v = ap (λ b. cond b u (v p)) (eq-eqb p p refl)

at_other : (p u : ℕ) (v : ℕ → ℕ) (q : ℕ) → ¬ (q ≡ p) → with_at p u v q ≡ v q
at_other p u v q d = ap (λ b. cond b u (v q)) (ne_eqb q p d)

at_small : (p u : ℕ) (v : ℕ → ℕ) → u < 256 → ((q : ℕ) → v q < 256) → (q : ℕ) → with_at p u v q < 256
at_small p u v l s q = go (eqb q p)
  where
    go : (b : Bool) → cond b u (v q) < 256
    go true = l
    go false = s q

-- s and t are what z has at p times the entries there
from-value : (z a b s t f h : ℕ) → s ⊕ times byte_edition z a ≡ 0 → t ⊕ times byte_edition z b ≡ 0 → times byte_edition s f ⊕ times byte_edition t h
    ≡ times byte_edition z (times byte_edition a f ⊕ times byte_edition b h)
from-value z a b s t f h e g = ap₂ (λ x y. times byte_edition x f ⊕ times byte_edition y h) (⊕-cancel e) (⊕-cancel g) ∙ spread z a b f h
  where
    spread : (z a b f h : ℕ) → times byte_edition (times byte_edition z a) f ⊕ times byte_edition (times byte_edition z b) h
        ≡ times byte_edition z (times byte_edition a f ⊕ times byte_edition b h)
    spread z a b f h = simp ring

module _ (m w c : ℕ) (good : GoodIn byte_limits m w c) (marks bound : List ℕ) (K : BoundAll m w c marks bound) (a b : ℕ → ℕ)
    (A : Across m w c bound 4 a) (B : Across m w c bound 5 b) (p : ℕ) (less : p < m * w) (lost-p : lost marks p ≡ true) (open-p : lost bound p ≡ false) where
  -- the entry of a free place in the first row across is not 0
  pub one-some : length marks ≡ m * w → a p ≡ 0 → ⊥
  one-some long z =
      first_some w c (p / w) wide good.narrow (stretch w (p / w) bound) (let k = good.few-checks in let e = full in omega arith)
      (stretch-length w (p / w) bound (subst (λ n. suc (p / w) * w ≤ n) (sym (K.size ∙ long)) (mul-le-mul_right w g))) full (p % w) inside
      (ap (λ b. eqb b 1) (stretch-at w (p / w) bound (p % w) inside) ∙ ap (lost bound) (div-add-mod' p w) ∙ open-p) _ (A (p / w) g)
      (ap a (div-add-mod' p w) ∙ z)
    where
      wide : 0 < w
      wide = let k = good.wide in omega arith

      inside : p % w < w
      inside = mod-lt p wide

      g : p / w < m
      g = (div-lt_iff_lt-mul wide).1 less

      full : lost_in w (stretch w (p / w) bound) 0 ≡ c
      full = stretch-count w (p / w) bound
          ∙ K.bound-full (p / w) (p % w) g inside (ap (lost marks) (div-add-mod' p w) ∙ lost-p) (ap (lost bound) (div-add-mod' p w) ∙ open-p)

  -- place p alone
  module _ (only : (q : ℕ) → q < m * w → lost marks q ≡ true → lost bound q ≡ false → q ≡ p) where
    other-present : (q : ℕ) → q < m * w → lost bound q ≡ false → ¬ (q ≡ p) → lost marks q ≡ false
    other-present q l e d = go (lost marks q) refl
      where
        go : (x : Bool) → lost marks q ≡ x → lost marks q ≡ false
        go true f = absurd (d (only q l f e))
        go false f = f

    module _ (f h d k : ℕ) (S : OneSolved (a p) (b p) f h d k) (v : ℕ → ℕ) (small : (q : ℕ) → v q < 256) where
      s : ℕ
      s = row_sum (m * w) v (with_at p 0 a)

      t : ℕ
      t = row_sum (m * w) v (with_at p 0 b)

      sum_of : (x y : ℕ) → row_sum (m * w) v (mixed x y (with_at p 0 a) (with_at p 0 b)) ≡ times byte_edition s x ⊕ times byte_edition t y
      unfolding s t
      sum_of x y = row-mixed (m * w) v (with_at p 0 a) (with_at p 0 b) x y

      -- the test row comes to 0: then the value row completes the word
      pub one-completable : row_sum (m * w) v (mixed d k (with_at p 0 a) (with_at p 0 b)) ≡ 0 → Completable (m * w) marks bound a b v
      unfolding s t
      one-completable z =
          let e : times byte_edition s d ⊕ times byte_edition t k ≡ 0 = sym (sum_of d k) ∙ z in
          let u : ℕ = times byte_edition s f ⊕ times byte_edition t h in (
            with_at p u v,
            record {
              small = at_small p u v (⊕-lt 8 _ _ (product_lt 8 285 s f) (product_lt 8 285 t h)) small;
              same = λ q l g. sym (at_other p u v q (λ x. true≢false (sym lost-p ∙ ap (lost marks) (sym x) ∙ g)));
              first = row_at (m * w) p u v a less ∙ ap (λ x. s ⊕ x) (S.first s t (row_lt (m * w) v _) (row_lt (m * w) v _) e) ∙ ⊕-self s;
              second = row_at (m * w) p u v b less ∙ ap (λ x. t ⊕ x) (S.second s t (row_lt (m * w) v _) (row_lt (m * w) v _) e) ∙ ⊕-self t;
            },
          )

      module _ (z : ℕ → ℕ) (C : Completes (m * w) marks bound a b v z) where
        same-open : (q : ℕ) → q < m * w → lost bound q ≡ false → z q ≡ with_at p (z p) v q
        same-open q l e = elim (ℕ_discrete q p) [
          | yes d ↦ ap z d ∙ sym (ap (with_at p (z p) v) d ∙ at_here p (z p) v)
          | no d ↦ sym (at_other p (z p) v q d ∙ C.same q l (other-present q l e d))
        ]

        s-is : s ⊕ times byte_edition (z p) (a p) ≡ 0
        unfolding s
        s-is = sym (row_at (m * w) p (z p) v a less) ∙ sym (row-agree m w c good marks bound K a b A B 4 a A z (with_at p (z p) v) same-open) ∙ C.first

        t-is : t ⊕ times byte_edition (z p) (b p) ≡ 0
        unfolding t
        t-is = sym (row_at (m * w) p (z p) v b less) ∙ sym (row-agree m w c good marks bound K a b A B 5 b B z (with_at p (z p) v) same-open) ∙ C.second

        pub one_value : row_sum (m * w) v (mixed f h (with_at p 0 a) (with_at p 0 b)) ≡ z p
        one_value = sum_of f h ∙ from-value (z p) (a p) (b p) s t f h s-is t-is ∙ ap (times byte_edition (z p)) S.unit ∙ one-times (z p) (C.small p)

        pub one-tested : row_sum (m * w) v (mixed d k (with_at p 0 a) (with_at p 0 b)) ≡ 0
        one-tested = sum_of d k ∙ from-value (z p) (a p) (b p) s t d k s-is t-is ∙ ap (times byte_edition (z p)) S.none ∙ product-zero 8 285 (z p)

  -- ---- two free places
  module _ (q : ℕ) (less-q : q < m * w) (lost-q : lost marks q ≡ true) (open-q : lost bound q ≡ false) (apart : ¬ (q ≡ p))
      (only : (r : ℕ) → r < m * w → lost marks r ≡ true → lost bound r ≡ false → ¬ (r ≡ p) → r ≡ q) where
    both : (r : ℕ → ℕ) (v : ℕ → ℕ) (u x : ℕ)
        → row_sum (m * w) (with_at p u (with_at q x v)) r ≡ row_sum (m * w) v (with_at q 0 (with_at p 0 r)) ⊕ (times byte_edition u (r p) ⊕ times byte_edition x (r q))
    both r v u x =
        row_at (m * w) p u (with_at q x v) r less
        ∙ ap (λ i. i ⊕ times byte_edition u (r p)) (row_at (m * w) q x v (with_at p 0 r) less-q ∙ ap (λ i. row_sum (m * w) v (with_at q 0 (with_at p 0 r))
        ⊕ times byte_edition x i) (at_other p 0 r q apart))
        ∙ turn (row_sum (m * w) v (with_at q 0 (with_at p 0 r))) (times byte_edition x (r q)) (times byte_edition u (r p))
      where
        turn : (i j k : ℕ) → (i ⊕ j) ⊕ k ≡ i ⊕ (k ⊕ j)
        turn i j k = simp ring

    present-apart : (r : ℕ) → lost marks r ≡ false → ¬ (r ≡ p) × ¬ (r ≡ q)
    present-apart r e = (λ x. true≢false (sym lost-p ∙ ap (lost marks) (sym x) ∙ e), λ x. true≢false (sym lost-q ∙ ap (lost marks) (sym x) ∙ e))

    two-kernel : excess m w c marks ≤ 2 → (u x : ℕ) → u < 256 → x < 256 → times byte_edition u (a p) ⊕ times byte_edition x (a q) ≡ 0
        → times byte_edition u (b p) ⊕ times byte_edition x (b q) ≡ 0
        → (u ≡ 0) × (x ≡ 0)
    two-kernel low u x lu lx ea eb =
        let z : ℕ → ℕ = with_at p u (with_at q x (λ _. 0)) in
        let N = kernel m w c good marks bound K a b A B low z (record {
          small = at_small p u (with_at q x (λ _. 0)) lu (at_small q x (λ _. 0) lx (λ _. lit< tt));
          same = λ r l e. let d = present-apart r e in sym (at_other p u (with_at q x (λ _. 0)) r d.0 ∙ at_other q x (λ _. 0) r d.1);
          first = both a (λ _. 0) u x ∙ ap₂ ◌⊕◌ (row-nothing (m * w) _) ea ∙ ⊕-self 0;
          second = both b (λ _. 0) u x ∙ ap₂ ◌⊕◌ (row-nothing (m * w) _) eb ∙ ⊕-self 0;
        }) in
        (sym (at_here p u (with_at q x (λ _. 0))) ∙ N p less open-p, sym (at_other p u (with_at q x (λ _. 0)) q apart ∙ at_here q x (λ _. 0)) ∙ N q less-q open-q)

    -- the determinant is not 0
    pub two-some : excess m w c marks ≤ 2 → a p < 256 → a q < 256 → b p < 256 → b q < 256 → times byte_edition (a p) (b q)
        ⊕ times byte_edition (a q) (b p) ≡ 0 → ⊥
    two-some low la la' lb lb' =
        determinant-some bytes-sound la la' lb lb'
        (λ u x Q. two-kernel low u x Q.u-lt Q.v-lt (ap₂ ◌⊕◌ (product-comm 8 285 u (a p)) (product-comm 8 285 x (a q)) ∙ Q.first)
        (ap₂ ◌⊕◌ (product-comm 8 285 u (b p)) (product-comm 8 285 x (b q)) ∙ Q.second))

    module _ (f h f' h' : ℕ) (S : TwoSolved (a p) (a q) (b p) (b q) f h f' h') (v : ℕ → ℕ) (small : (r : ℕ) → v r < 256) where
      s₂ : ℕ
      s₂ = row_sum (m * w) v (with_at q 0 (with_at p 0 a))

      t₂ : ℕ
      t₂ = row_sum (m * w) v (with_at q 0 (with_at p 0 b))

      sum-two : (x y : ℕ) → row_sum (m * w) v (mixed x y (with_at q 0 (with_at p 0 a)) (with_at q 0 (with_at p 0 b))) ≡ times byte_edition s₂ x
          ⊕ times byte_edition t₂ y
      unfolding s₂ t₂
      sum-two x y = row-mixed (m * w) v (with_at q 0 (with_at p 0 a)) (with_at q 0 (with_at p 0 b)) x y

      -- every word can be completed
      pub two-completable : Completable (m * w) marks bound a b v
      unfolding s₂ t₂
      two-completable =
          let u : ℕ = times byte_edition s₂ f ⊕ times byte_edition t₂ h in
          let x : ℕ = times byte_edition s₂ f' ⊕ times byte_edition t₂ h' in (
            with_at p u (with_at q x v),
            record {
              small = at_small p u (with_at q x v) (⊕-lt 8 _ _ (product_lt 8 285 s₂ f) (product_lt 8 285 t₂ h)) (at_small q x v (⊕-lt 8 _ _
                  (product_lt 8 285 s₂ f') (product_lt 8 285 t₂ h')) small);
              same = λ r l e. let d = present-apart r e in sym (at_other p u (with_at q x v) r d.0 ∙ at_other q x v r d.1);
              first = both a v u x ∙ ap (λ i. s₂ ⊕ i) (S.first s₂ t₂ (row_lt (m * w) v _) (row_lt (m * w) v _)) ∙ ⊕-self s₂;
              second = both b v u x ∙ ap (λ i. t₂ ⊕ i) (S.second s₂ t₂ (row_lt (m * w) v _) (row_lt (m * w) v _)) ∙ ⊕-self t₂;
            },
          )

      module _ (z : ℕ → ℕ) (C : Completes (m * w) marks bound a b v z) where
        same-two : (r : ℕ) → r < m * w → lost bound r ≡ false → z r ≡ with_at p (z p) (with_at q (z q) v) r
        same-two r l e = elim (ℕ_discrete r p) [
          | yes d ↦ ap z d ∙ sym (ap (with_at p (z p) (with_at q (z q) v)) d ∙ at_here p (z p) (with_at q (z q) v))
          | no d ↦ elim (ℕ_discrete r q) [
            | yes k ↦ ap z k ∙ sym (at_other p (z p) (with_at q (z q) v) r d ∙ ap (with_at q (z q) v) k ∙ at_here q (z q) v)
            | no k ↦ sym (at_other p (z p) (with_at q (z q) v) r d ∙ at_other q (z q) v r k ∙ C.same r l (go (lost marks r) refl d k))
          ]
        ]
          where
            go : (x : Bool) → lost marks r ≡ x → ¬ (r ≡ p) → ¬ (r ≡ q) → lost marks r ≡ false
            go true g d k = absurd (k (only r l g e d))
            go false g d k = g

        s-two : s₂ ⊕ (times byte_edition (z p) (a p) ⊕ times byte_edition (z q) (a q)) ≡ 0
        unfolding s₂
        s-two = sym (both a v (z p) (z q)) ∙ sym (row-agree m w c good marks bound K a b A B 4 a A z (with_at p (z p) (with_at q (z q) v)) same-two) ∙ C.first

        t-two : t₂ ⊕ (times byte_edition (z p) (b p) ⊕ times byte_edition (z q) (b q)) ≡ 0
        unfolding t₂
        t-two = sym (both b v (z p) (z q)) ∙ sym (row-agree m w c good marks bound K a b A B 5 b B z (with_at p (z p) (with_at q (z q) v)) same-two) ∙ C.second

        from-two : (x y : ℕ) → times byte_edition s₂ x ⊕ times byte_edition t₂ y
            ≡ times byte_edition (z p) (times byte_edition (a p) x ⊕ times byte_edition (b p) y) ⊕ times byte_edition (z q) (times byte_edition (a q) x
            ⊕ times byte_edition (b q) y)
        from-two x y = ap₂ (λ i j. times byte_edition i x ⊕ times byte_edition j y) (⊕-cancel s-two) (⊕-cancel t-two) ∙ spread (z p) (z q) (a p) (a q) (b p) (b q)
          where
            spread : (i j k l o r : ℕ) → times byte_edition (times byte_edition i k ⊕ times byte_edition j l) x
                ⊕ times byte_edition (times byte_edition i o ⊕ times byte_edition j r) y
                ≡ times byte_edition i (times byte_edition k x ⊕ times byte_edition o y) ⊕ times byte_edition j (times byte_edition l x ⊕ times byte_edition r y)
            spread i j k l o r = simp ring

        pub two-value : row_sum (m * w) v (mixed f h (with_at q 0 (with_at p 0 a)) (with_at q 0 (with_at p 0 b))) ≡ z p
        two-value =
            sum-two f h ∙ from-two f h ∙ ap₂ (λ i j. times byte_edition (z p) i ⊕ times byte_edition (z q) j) S.unit S.cross
            ∙ ap₂ ◌⊕◌ (one-times (z p) (C.small p)) (product-zero 8 285 (z q)) ∙ ⊕-zero-r (z p)

        pub two-value' : row_sum (m * w) v (mixed f' h' (with_at q 0 (with_at p 0 a)) (with_at q 0 (with_at p 0 b))) ≡ z q
        two-value' =
            sum-two f' h' ∙ from-two f' h' ∙ ap₂ (λ i j. times byte_edition (z p) i ⊕ times byte_edition (z q) j) S.cross' S.unit'
            ∙ ap₂ ◌⊕◌ (product-zero 8 285 (z p)) (one-times (z q) (C.small q)) ∙ ⊕-zero-l (z q)
