-- Where every group has lost at least its c places and the excess is exactly two, the present places are free: whatever symbols stand
-- there, one codeword carries them. So it is with the check places of a shape, and encoding always succeeds.
use Rattle.std.specs.Prelude.{◌≡◌, refl, Bool, true, false, List, length, set}
use Rattle.std.proofs.Math.Path.{sym, ap, ap₂}
use Rattle.std.proofs.Common.{◌∙◌, subst, div-add-mod', mod-lt, div-lt_iff_lt-mul, arith, get_or-set_same, get_or-set_other}
use Prim.Native.Nat.{ℕ, suc, ◌+◌, ◌-◌, ◌*◌, ◌/◌, ◌%◌, ◌<◌, ◌≤◌, ◌^◌}
use Rattle.std.proofs.Math.Decide.{dec_lt, ℕ_discrete}
use Rattle.std.proofs.Math.Arith.{digits_div, digits_mod}
use Rattle.std.proofs.Math.Dec.{eqb}
use Rattle.std.proofs.Math.ListN.{get_or}
use Rattle.std.proofs.Math.Pow.{pow-lt}
use Rattle.counting.specs.Count.{one}
use Rattle.counting.specs.CountLaws.{total-bump, total_ext}
use Rattle.binary_field.specs.Xor.{◌⊕◌}
use Rattle.binary_field.specs.XorLaws.{⊕-zero-l, ⊕-cancel, ⊕-self}
use Rattle.binary_field.specs.ProductLaws.{product-comm, product-zero, product-one}
use Rattle.binary_field.specs.SumLaws.{sum-single}
use Rattle.binary_field.specs.Inverse.{inverse}
use Rattle.binary_field.specs.InverseLaws.{inverse-lt, product-inverse}
use Rattle.code.specs.Edition.{Edition, Sound, times}
use Rattle.code.specs.Word.{Symbols, Codeword}
use Rattle.code.specs.Marks.{lost, lost_in, excess, Agree}
use Rattle.code.specs.Blank.{blank}
use Rattle.code.specs.BlankLaws.{blank-at, blank-codeword}
use Rattle.code.specs.Determined.{Undetermined}
use Rattle.code.specs.DeterminedLaws.{unique, undetermined}
use Rattle.code.specs.Combined.{combined}
use Rattle.code.specs.CombinedLaws.{combined-at, combined-codeword}
use Rattle.code.specs.Recovery.{Agrees}

module _ (E : Edition) (S : Sound E) (m w c : ℕ) (few : m ≤ S.r) (wide : 0 < w) (narrow : w ≤ E.small)
    (marks : List ℕ) (size : length marks ≡ m * w) (full : (g : ℕ) → g < m → c ≤ lost_in w marks g) (two : excess m w c marks ≡ 2) where
  -- one more place lost
  module _ (p : ℕ) (l : p < m * w) (here : lost marks p ≡ false) where
    more : List ℕ
    more = set marks p 1

    more-own : lost more p ≡ true
    unfolding more
    more-own = ap (λ b. eqb b 1) (get_or-set_same marks p 1 0 (subst (λ n. p < n) (sym size) l))

    more-other : (q : ℕ) → ¬ (q ≡ p) → lost more q ≡ lost marks q
    unfolding more
    more-other q n = ap (λ b. eqb b 1) (get_or-set_other marks p q 1 0 n)

    own : p / w * w + p % w ≡ p
    own = div-add-mod' p w

    group-less : p / w < m
    group-less = (div-lt_iff_lt-mul wide).1 l

    more-lost : lost_in w more (p / w) ≡ suc (lost_in w marks (p / w))
    unfolding lost_in
    more-lost =
        total-bump w (p % w) _ _ (mod-lt p wide)
        (λ j h n. ap one (more-other (p / w * w + j) (λ e. n (sym (digits_mod (p / w) h) ∙ ap (λ q. q % w) e))))
        (ap one (ap (lost more) own ∙ more-own) ∙ sym (ap (λ v. suc (one v)) (ap (lost marks) own ∙ here)))

    other-lost : (g : ℕ) → ¬ (g ≡ p / w) → lost_in w more g ≡ lost_in w marks g
    unfolding lost_in
    other-lost g n = total_ext w _ _ (λ j h. ap one (more-other (g * w + j) (λ e. n (sym (digits_div g h) ∙ ap (λ q. q / w) e))))

    three : excess m w c more ≡ 3
    unfolding excess
    three =
        total-bump m (p / w) _ _ group-less (λ g _ n. ap (λ q. q - c) (other-lost g n))
        (let a = more-lost in let b = full (p / w) group-less in omega arith) ∙ ap suc two

    U : Undetermined E m w c more
    U = undetermined E S m w c few wide narrow more (let e = three in omega arith)

    -- the difference of the two codewords, zero at the other present places
    difference : List ℕ
    difference = combined E (m * w) U.x 1 (λ _. 1) (λ _. U.y)

    one-lt : 1 < 2 ^ E.bits
    one-lt = pow-lt S.facts.pos

    difference-at : (q : ℕ) → q < m * w → get_or difference q 0 ≡ get_or U.x q 0 ⊕ get_or U.y q 0
    unfolding difference
    difference-at q h =
        combined-at E m w 1 U.x (λ _. 1) (λ _. U.y) q h
        ∙ ap (λ s. get_or U.x q 0 ⊕ s)
        (sum-single 1 0 _ (omega arith) (λ i a n. absurd (n (omega arith)))
        ∙ product-comm E.bits E.poly 1 (get_or U.y q 0) ∙ product-one E.bits E.poly S.facts.pos (get_or U.y q 0)
        (U.y-codeword.symbols.each q))

    difference-zero : (q : ℕ) → q < m * w → lost marks q ≡ false → ¬ (q ≡ p) → get_or difference q 0 ≡ 0
    difference-zero q h e n =
        difference-at q h ∙ ap (λ b. b ⊕ get_or U.y q 0) (U.agree q h (more-other q n ∙ e)) ∙ ⊕-self (get_or U.y q 0)

    difference-own : get_or difference p 0 ≡ 0 → ⊥
    difference-own z =
        U.differ
        (unique E S m w c few wide narrow marks U.x U.y U.x-codeword U.y-codeword same (let e = two in omega arith))
      where
        same : Agree (m * w) marks U.x U.y
        same q h e = elim (ℕ_discrete q p) [
          | yes d ↦ subst (λ i. get_or U.x i 0 ≡ get_or U.y i 0) (sym d) (⊕-cancel (sym (difference-at p l) ∙ z))
          | no n ↦ U.agree q h (more-other q n ∙ e)
        ]

    difference-codeword : Codeword E m w c difference
    unfolding difference
    difference-codeword = combined-codeword E m w 1 U.x (λ _. 1) (λ _. U.y) c U.x-codeword (λ _ _. U.y-codeword) (λ _. one-lt)

    scale : ℕ
    scale = inverse E.bits E.poly (get_or difference p 0)

    -- the codeword with 1 at this place and 0 at the other present places
    unit : List ℕ
    unit = combined E (m * w) (blank (m * w)) 1 (λ _. scale) (λ _. difference)

    unit-at : (q : ℕ) → q < m * w → get_or unit q 0 ≡ times E scale (get_or difference q 0)
    unfolding unit
    unit-at q h =
        combined-at E m w 1 (blank (m * w)) (λ _. scale) (λ _. difference) q h
        ∙ ap₂ ◌⊕◌ (blank-at (m * w) q) (sum-single 1 0 _ (omega arith) (λ i a n. absurd (n (omega arith)))) ∙ ⊕-zero-l _

    unit-own : get_or unit p 0 ≡ 1
    unfolding scale
    unit-own =
        unit-at p l ∙ product-comm E.bits E.poly scale (get_or difference p 0)
        ∙ product-inverse E.bits E.poly S.facts.pos S.facts.values S.facts.tested (get_or difference p 0)
        (difference-codeword.symbols.each p) difference-own

    unit-zero : (q : ℕ) → q < m * w → lost marks q ≡ false → ¬ (q ≡ p) → get_or unit q 0 ≡ 0
    unit-zero q h e n = unit-at q h ∙ ap (times E scale) (difference-zero q h e n) ∙ product-zero E.bits E.poly scale

    unit-codeword : Codeword E m w c unit
    unfolding unit scale
    unit-codeword =
        combined-codeword E m w 1 (blank (m * w)) (λ _. scale) (λ _. difference) c (blank-codeword E m w c) (λ _ _. difference-codeword)
        (λ _. inverse-lt E.bits E.poly S.facts.pos (get_or difference p 0))

  -- a codeword for each place: the unit of a present place, else the zero word
  record Way (i : ℕ) : Type 0 where
    word : List ℕ
    codeword : Codeword E m w c word
    own : lost marks i ≡ false → get_or word i 0 ≡ 1
    off : (q : ℕ) → q < m * w → lost marks q ≡ false → ¬ (q ≡ i) → get_or word q 0 ≡ 0

  way : (i : ℕ) → i < m * w → Way i
  way i l = go (lost marks i) refl
    where
      go : (v : Bool) → lost marks i ≡ v → Way i
      go true e = record {
        word = blank (m * w);
        codeword = blank-codeword E m w c;
        own = λ f. absurd (let z : ◌≡◌ {A = ℕ} 0 1 = cc in omega arith);
        off = λ q _ _ _. blank-at (m * w) q;
      }
      go false e = record { word = unit i l e; codeword = unit-codeword i l e; own = λ _. unit-own i l e; off = unit-zero i l e }

  way_of : (i : ℕ) → Dec (i < m * w) → List ℕ
  way_of i (yes l) = (way i l).word
  way_of i (no _) = blank (m * w)

  ways : ℕ → List ℕ
  ways i = way_of i (dec_lt i (m * w))

  way-codeword : (i : ℕ) (d : Dec (i < m * w)) → Codeword E m w c (way_of i d)
  unfolding way_of
  way-codeword i (yes l) = (way i l).codeword
  way-codeword i (no _) = blank-codeword E m w c

  way-own : (i : ℕ) → i < m * w → (d : Dec (i < m * w)) → lost marks i ≡ false → get_or (way_of i d) i 0 ≡ 1
  unfolding way_of
  way-own i l (yes k) e = (way i k).own e
  way-own i l (no n) e = absurd (n l)

  way-off : (i : ℕ) (d : Dec (i < m * w)) (q : ℕ) → q < m * w → lost marks q ≡ false → ¬ (q ≡ i) → get_or (way_of i d) q 0 ≡ 0
  unfolding way_of
  way-off i (yes l) q h e n = (way i l).off q h e n
  way-off i (no _) q h e n = blank-at (m * w) q

  -- the codeword that carries the present symbols of any word
  pub carried : List ℕ → List ℕ
  carried word = combined E (m * w) (blank (m * w)) (m * w) (λ i. get_or word i 0) ways

  pub carried-agrees : (word : List ℕ) → Symbols E (m * w) word → Agrees E m w c marks word (carried word)
  unfolding carried ways
  carried-agrees word s = record {
    codeword = combined-codeword E m w (m * w) (blank (m * w)) (λ i. get_or word i 0) ways c (blank-codeword E m w c) (λ i _. way-codeword i (dec_lt i (m * w)))
        s.each;
    agree = λ q h e.
        combined-at E m w (m * w) (blank (m * w)) (λ i. get_or word i 0) ways q h
        ∙ ap₂ ◌⊕◌ (blank-at (m * w) q)
        (sum-single (m * w) q _ h (λ i _ n. ap (times E (get_or word i 0)) (way-off i (dec_lt i (m * w)) q h e (λ d. n (sym d)))
        ∙ product-zero E.bits E.poly (get_or word i 0))
        ∙ ap (times E (get_or word q 0)) (way-own q h (dec_lt q (m * w)) e) ∙ product-one E.bits E.poly S.facts.pos (get_or word q 0) (s.each q))
        ∙ ⊕-zero-l (get_or word q 0);
  }
