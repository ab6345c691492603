-- Laws: What the steps towards the candidate owe.
use Rattle.std.specs.Prelude.{◌≡◌, refl, false, List, ◌++◌, ℕ, zero, suc, ◌+◌, ◌-◌, ◌*◌, ◌/◌, ◌%◌, ◌≤◌, ◌<◌, eqb, length, get_or, take, drop, set, replicate}
use Rattle.std.proofs.Common.{sym, ap, ap₂, ◌∙◌, subst, suc-mul, mul-le-mul_right, div-lt_iff_lt-mul, div-add-mod', mod-lt, arith, length-set, get_or-set_same, get_or-set_other, get_or-take, get_or-drop, get_or-append-add, take_at, length-take-le, ext_get_or}
use Rattle.std.proofs.Math.Decide.{ℕ_discrete, dec_lt}
use Rattle.std.proofs.lemmas.List.{length-replicate, get_or-replicate}
use Rattle.std.proofs.Math.ListN.{get_or-eq_default}
use Rattle.binary_field.specs.Xor.{◌⊕◌}
use Rattle.binary_field.specs.XorLaws.{⊕-zero-l, ⊕-zero-r, ⊕-self}
use Rattle.binary_field.specs.ProductLaws.{product-comm, product-assoc, product-zero, product-one, ring}
use Rattle.binary_field.specs.Inverse.{inverse}
use Rattle.binary_field.specs.InverseLaws.{product-inverse}
use Rattle.binary_field.specs.SumLaws.{sum-ext, sum-none, sum-suc}
use Rattle.code.specs.Edition.{Edition, Sound, times}
use Rattle.code.specs.Limits.{Limits, GoodIn}
use Rattle.code.specs.Word.{group_sum, local_sum, word_sum}
use Rattle.code.specs.Marks.{lost, lost_in}
use Rattle.code.specs.Stretch.{stretch, with_stretch}
use Rattle.code.specs.StretchLaws.{stretch-at, stretch-length, with-length, with-inside, with-before, with-after, stretch-count, place-cases, own-place}
use Rattle.code.specs.Combined.{combined}
use Rattle.code.specs.CombinedLaws.{combined-word}
use Rattle.code.specs.Lone.{lone}
use Rattle.code.specs.LoneLaws.{lone-inside, lone-before, lone-after}
use Rattle.code_engine.specs.Filled.{FilledIn}
use Rattle.code_engine.specs.CandidateSteps.{GroupsFilledIn, DirectionIn, AddedIn}
use Rattle.code_engine.specs.SolvedLaws.{combined-length, combined-one}
use Rattle.code_engine.specs.Mended.{BoundFew}
use Rattle.code_engine.specs.WeightsLaws.{word_lt}

-- ---- stretches
-- a stretch ends within the word
pub stretch-end : (m w g : ℕ) → g < m → g * w + w ≤ m * w
stretch-end m w g l = subst (λ k. k ≤ m * w) (suc-mul g w) (mul-le-mul_right w l)

-- sums of groups with the same symbols
pub group-ext : (E : Edition) (w g i : ℕ) (xs ys : List ℕ) (h : ℕ → ℕ) → ((j : ℕ) → j < w → get_or xs (g * w + j) 0 ≡ get_or ys (i * w + j) 0)
    → group_sum E w xs g h ≡ group_sum E w ys i h
unfolding group_sum
group-ext E w g i xs ys h same = sum-ext w _ _ (λ j l. ap (λ a. times E a (h j)) (same j l))

-- ---- the group g filled, after those before it
module _ {E : Edition} (m w c g : ℕ) (narrow : w ≤ E.small) (few-checks : c ≤ 4) (bound before xs part : List ℕ) (l : g < m) (size-xs : length xs ≡ m * w)
    (size-kept : length bound ≡ m * w)
    (few : lost_in w bound g ≤ c) (F : FilledIn E (stretch w g bound) (stretch w g xs) part) (G : GroupsFilledIn E g w bound before xs) where
  pub fits : (ys : List ℕ) → length ys ≡ m * w → suc g * w ≤ length ys
  fits ys e = subst (λ n. suc g * w ≤ n) (sym e) (mul-le-mul_right w l)

  pub room : suc g * w ≤ length xs
  room = fits xs size-xs

  pub width : length (stretch w g xs) ≡ w
  width = stretch-length w g xs room

  pub part-size : length part ≡ w
  part-size = F.size ∙ width

  pub own-zero : (e : ℕ) → e < lost_in w bound g → local_sum E w part 0 e ≡ 0
  own-zero e h =
      let k = stretch-count w g bound in
      subst (λ v. v ≤ E.small → length (stretch w g bound) ≡ v → lost_in v (stretch w g bound) 0 ≤ 4 → (e : ℕ) → e < lost_in v (stretch w g bound) 0
      → local_sum E v part 0 e ≡ 0)
      width F.zero narrow (stretch-length w g bound (fits bound size-kept)) (omega arith) e (omega arith)

  pub in-stretch : (j : ℕ) → j < w → lost bound (g * w + j) ≡ false → get_or (with_stretch w g xs part) (g * w + j) 0 ≡ get_or before (g * w + j) 0
  in-stretch j h e =
      with-inside w g xs room part part-size j h ∙ F.present j (ap (λ b. eqb b 1) (stretch-at w g bound j h) ∙ e) ∙ stretch-at w g xs j h
      ∙ G.present (g * w + j) e

  pub present : (p : ℕ) → lost bound p ≡ false → get_or (with_stretch w g xs part) p 0 ≡ get_or before p 0
  present p e = elim (dec_lt p (g * w)) [
    | yes h ↦ with-before w g xs room part part-size p h ∙ G.present p e
    | no h ↦
        elim (dec_lt p (suc g * w)) [
          | yes k ↦
              (let s = suc-mul g w in
              let q : g * w + (p - g * w) ≡ p = omega arith in
              let b : p - g * w < w = omega arith in
              subst (λ n. lost bound n ≡ false → get_or (with_stretch w g xs part) n 0 ≡ get_or before n 0) q (in-stretch (p - g * w) b) e)
          | no k ↦ with-after w g xs room part part-size p (omega arith) ∙ G.present p e
        ]
  ]

  pub sums : (i : ℕ) → i < g + 1 → (e : ℕ) → e < lost_in w bound i → local_sum E w (with_stretch w g xs part) i e ≡ 0
  sums i b e h = elim (ℕ_discrete i g) [
    | yes q ↦
        subst (λ n. e < lost_in w bound n → local_sum E w (with_stretch w g xs part) n e ≡ 0) (sym q)
        (λ k. group-ext E w g 0 _ part _ (λ j d. with-inside w g xs room part part-size j d ∙ ap (λ n. get_or part n 0) (sym (own-place w j))) ∙ own-zero e k) h
    | no q ↦
        group-ext E w i i _ xs _
        (λ j d. with-before w g xs room part part-size (i * w + j)
        (let r : suc i * w ≤ g * w = mul-le-mul_right w (omega arith) in let s = suc-mul i w in omega arith)) ∙ G.zero i (omega arith) e h
  ]

  pub group-filled : GroupsFilledIn E (g + 1) w bound before (with_stretch w g xs part)
  group-filled = record { size = with-length w g xs room part part-size ∙ G.size; present = present; zero = sums }

-- ---- a front of zeros with 1 at place j, filled
pub direction-filled : {E : Edition} (n j : ℕ) (bound part rest : List ℕ) → length bound ≤ n → length bound ≤ E.small → j < length bound → lost bound j ≡ false
    → lost_in (length bound) bound 0 ≤ 4 → FilledIn E bound (take (length bound) (set (replicate n 0) j 1)) part
    → DirectionIn E (length bound) j bound (take (length bound) (part ++ rest))
direction-filled {E} n j bound part rest fits narrow inside own few F =
    subst (DirectionIn E w j bound) (sym (take_at part rest w size)) record {
      size = size;
      own = F.present j own ∙ get_or-take w h j 0 inside ∙ get_or-set_same (replicate n 0) j 1 0 (subst (λ k. j < k) (sym (length-replicate n 0)) (omega arith));
      off = λ i l e d.
          F.present i e ∙ get_or-take w h i 0 l ∙ get_or-set_other (replicate n 0) j i 1 0 d ∙ get_or-replicate n i 0 0 (omega arith);
      zero = subst (λ v. v ≤ E.small → w ≡ v → lost_in v bound 0 ≤ 4 → (e : ℕ) → e < lost_in v bound 0 → local_sum E v part 0 e ≡ 0) width
          F.zero narrow refl few;
    }
  where
    w : ℕ
    w = length bound

    h : List ℕ
    h = set (replicate n 0) j 1

    width : length (take w h) ≡ w
    width = length-take-le w h (subst (λ k. w ≤ k) (sym (length-set (replicate n 0) j 1 ∙ length-replicate n 0)) fits)

    size : length part ≡ w
    size = F.size ∙ width

-- what stands after the filled front is 0
pub direction-after : (n j w : ℕ) (part : List ℕ) → length part ≡ w → j < w → w ≤ n → (i : ℕ) → w ≤ i
    → get_or (part ++ drop w (set (replicate n 0) j 1)) i 0 ≡ 0
direction-after n j w part size inside room i l =
    let d : i ≡ length part + (i - w) = omega arith in
    let e : w + (i - w) ≡ i = omega arith in
    ap (λ k. get_or (part ++ drop w (set (replicate n 0) j 1)) k 0) d ∙ get_or-append-add part (drop w (set (replicate n 0) j 1)) (i - w) 0
    ∙ get_or-drop w (set (replicate n 0) j 1) (i - w) 0 ∙ ap (λ k. get_or (set (replicate n 0) j 1) k 0) e
    ∙ get_or-set_other (replicate n 0) j i 1 0 (λ q. omega arith) ∙ elim (dec_lt i n) [
      | yes h ↦ get_or-replicate n i 0 0 h
      | no h ↦ get_or-eq_default (replicate n 0) 0 (omega (arith, length-replicate {A = ℕ} n 0))
    ]

-- ---- a multiple of a direction added to its group
pub added-combined : {E : Edition} (m w g u : ℕ) (h word part : List ℕ) → g < m → length word ≡ m * w → length h ≡ w → AddedIn E u h (stretch w g word) part
    → with_stretch w g word part ≡ combined E (m * w) word 1 (λ _. u) (λ _. lone m w g h)
added-combined {E} m w g u h word part l size long A =
    ext_get_or 0 _ _ (length-after ∙ size ∙ sym (combined-length E (m * w) 1 word _ _))
    (λ p k. place-cases (λ p. p < m * w → get_or (with_stretch w g word part) p 0 ≡ get_or C p 0) w g
    (λ p h d. with-before w g word room part part-size p h ∙ plus_none p d (lone-before m w g _ l long p h))
    (λ j h d. with-inside w g word room part part-size j h ∙ A.each j (subst (λ n. j < n) (sym width) h) ∙ inside j h d)
    (λ p h d. with-after w g word room part part-size p h ∙ plus_none p d (lone-after m w g _ l long p h))
    p (subst (λ n. p < n) (length-after ∙ size) k))
  where
    room : suc g * w ≤ length word
    room = subst (λ n. suc g * w ≤ n) (sym size) (mul-le-mul_right w l)

    width : length (stretch w g word) ≡ w
    width = stretch-length w g word room

    part-size : length part ≡ w
    part-size = A.size ∙ width

    length-after : length (with_stretch w g word part) ≡ length word
    length-after = with-length w g word room part part-size

    C : List ℕ
    C = combined E (m * w) word 1 (λ _. u) (λ _. lone m w g h)

    plus_none : (p : ℕ) → p < m * w → get_or (lone m w g h) p 0 ≡ 0 → get_or word p 0 ≡ get_or C p 0
    plus_none p d e = sym (combined-one E m w word u _ p d ∙ ap (λ b. get_or word p 0 ⊕ times E u b) e
        ∙ ap (λ s. get_or word p 0 ⊕ s) (product-zero E.bits E.poly u) ∙ ⊕-zero-r (get_or word p 0))

    inside : (j : ℕ) → j < w → g * w + j < m * w → get_or (stretch w g word) j 0 ⊕ times E u (get_or h j 0) ≡ get_or C (g * w + j) 0
    inside j b d = ap₂ (λ x y. x ⊕ times E u y) (stretch-at w g word j b) (sym (lone-inside m w g h l long j b))
        ∙ sym (combined-one E m w word u _ (g * w + j) d)

-- ---- the direction of place p
module _ {B : Limits} (m w c p : ℕ) (good : GoodIn B m w c) (l : p < m * w) where
  pub some-wide : 0 < w
  some-wide = let k = good.wide in omega arith

  pub group-lt : p / w < m
  group-lt = (div-lt_iff_lt-mul some-wide).1 l

  pub group-end : p / w * w + w ≤ m * w
  group-end = stretch-end m w (p / w) group-lt

  module _ (bound : List ℕ) (K : BoundFew m w c p bound) where
    part-width : length (stretch w (p / w) bound) ≡ w
    part-width = stretch-length w (p / w) bound (subst (λ n. suc (p / w) * w ≤ n) (sym K.size) (mul-le-mul_right w group-lt))

    -- what direction asks of the stretch, and what it gives
    pub way_asked : (length (stretch w (p / w) bound) ≤ B.width)
        × ((p % w < length (stretch w (p / w) bound))
        × ((lost (stretch w (p / w) bound) (p % w) ≡ false)
        × (lost_in (length (stretch w (p / w) bound)) (stretch w (p / w) bound) 0 ≤ B.checks)))
    way_asked =
        subst (λ n. (n ≤ B.width) × ((p % w < n) × ((lost (stretch w (p / w) bound) (p % w) ≡ false) × (lost_in n (stretch w (p / w) bound) 0 ≤ B.checks))))
        (sym part-width) (
          good.narrow,
          (
            inside,
            (
              ap (λ b. eqb b 1) (stretch-at w (p / w) bound (p % w) inside) ∙ ap (lost bound) (div-add-mod' p w) ∙ K.own,
              (let f = K.few (p / w) group-lt in let k = good.few-checks in let e = stretch-count w (p / w) bound in omega arith),
            ),
          ),
        )
      where
        inside : p % w < w
        inside = mod-lt p some-wide

    pub way-given : {E : Edition} (r : List ℕ) → DirectionIn E (length (stretch w (p / w) bound)) (p % w) (stretch w (p / w) bound)
        (take (length (stretch w (p / w) bound)) r)
        → DirectionIn E w (p % w) (stretch w (p / w) bound) (take w r)
    way-given {E} r = subst (λ n. DirectionIn E n (p % w) (stretch w (p / w) bound) (take n r)) part-width

-- a sum over the word after a multiple of another word was added
pub word_moved : (E : Edition) (m w u : ℕ) (before h : List ℕ) (f : ℕ → ℕ → ℕ) → word_sum E m w (combined E (m * w) before 1 (λ _. u) (λ _. h)) f
    ≡ word_sum E m w before f ⊕ times E u (word_sum E m w h f)
word_moved E m w u before h f =
    combined-word E m w 1 before (λ _. u) (λ _. h) f
    ∙ ap (λ s. word_sum E m w before f ⊕ s) (sum-suc 0 _ ∙ ap (λ s. s ⊕ times E u (word_sum E m w h f)) (sum-none _) ∙ ⊕-zero-l _)

-- one direction was added, by the unknown that the first sum determines
pub mended-one : {E : Edition} (S : Sound E) (m w u : ℕ) (before h : List ℕ) (f : ℕ → ℕ → ℕ) → (word_sum E m w h f ≡ 0 → ⊥)
    → u ≡ times E (word_sum E m w before f) (inverse E.bits E.poly (word_sum E m w h f))
    → word_sum E m w (combined E (m * w) before 1 (λ _. u) (λ _. h)) f ≡ 0
mended-one {E} S m w u before h f n e =
    word_moved E m w u before h f
    ∙ ap (λ x. s ⊕ times E x a) e
    ∙ ap (λ x. s ⊕ x) (product-assoc E.bits E.poly s _ a ∙ ap (times E s) (product-comm E.bits E.poly _ a
    ∙ product-inverse E.bits E.poly S.facts.pos S.facts.values S.facts.tested a (word_lt E m w h f) n)
    ∙ product-one E.bits E.poly S.facts.pos s (word_lt E m w before f))
    ∙ ⊕-self s
  where
    a : ℕ
    a = word_sum E m w h f

    s : ℕ
    s = word_sum E m w before f

-- two were, by unknowns that meet the equation
pub mended-two : (E : Edition) (m w u v : ℕ) (before middle h k : List ℕ) (f : ℕ → ℕ → ℕ)
    → times E (word_sum E m w h f) u ⊕ times E (word_sum E m w k f) v ≡ word_sum E m w before f
    → middle ≡ combined E (m * w) before 1 (λ _. u) (λ _. h)
    → word_sum E m w (combined E (m * w) middle 1 (λ _. v) (λ _. k)) f ≡ 0
mended-two E m w u v before middle h k f e g =
    word_moved E m w v middle k f ∙ ap (λ x. word_sum E m w x f ⊕ times E v b) g ∙ ap (λ x. x ⊕ times E v b) (word_moved E m w u before h f)
    ∙ ap (λ x. (x ⊕ times E u a) ⊕ times E v b) (sym e) ∙ simp ring
  where
    a : ℕ
    a = word_sum E m w h f

    b : ℕ
    b = word_sum E m w k f
