-- Laws: A whole word of a block rebuild, in terms of its groups.
use Rattle.std.specs.Prelude.{◌≡◌, refl, false, List, eqb}
use Rattle.std.proofs.Math.Path.{sym, ap₂, subst}
use Rattle.std.proofs.Common.{ap, ◌∙◌, suc-mul, zero-mul, div-add-mod', mod-lt, div-lt_iff_lt-mul, arith, lit<}
use Prim.Native.Nat.{ℕ, zero, suc, ◌+◌, ◌*◌, ◌/◌, ◌%◌, ◌<◌, ◌≤◌}
use Rattle.std.proofs.Math.Decide.{dec_lt}
use Rattle.std.proofs.Math.Arith.{digits_div, digits_mod}
use Rattle.std.proofs.Math.ListN.{length, get_or, get_or-eq_default}
use Rattle.binary_field.specs.Xor.{◌⊕◌}
use Rattle.binary_field.specs.Sum.{sum_below}
use Rattle.binary_field.specs.SumLaws.{sum-none, sum-suc, sum-append, sum-ext}
use Rattle.code.specs.Edition.{times}
use Rattle.code.specs.Word.{group_sum, word_sum, second_coefficient, Codeword, Symbols}
use Rattle.code.specs.WordLaws.{equations, is-codeword}
use Rattle.code.specs.Marks.{lost, lost_in}
use Rattle.code.specs.Determined.{list_of}
use Rattle.code.specs.DeterminedLaws.{list_length, list_at}
use Rattle.code.specs.Stretch.{stretch}
use Rattle.code.specs.StretchLaws.{stretch-at, stretch-count}
use Rattle.code.specs.CombinedLaws.{place-less}
use Rattle.byte_edition.specs.Edition.{byte_edition}
use Rattle.block_constants.specs.Reduced.{dot}
use Rattle.block_constants.specs.ReducedLaws.{dot-ext}
use Rattle.block_laws.specs.Group.{check_of, group_of, AgreesIn}
use Rattle.block_laws.specs.GroupLaws.{check-local, check-first, group-dot, agrees-fills}
use Rattle.block_laws.specs.Whole.{row_sum, Across}

-- a sum over m·w places, group by group
pub sum_rows : (m w : ℕ) (f : ℕ → ℕ) → sum_below (m * w) f ≡ sum_below m (λ g. sum_below w (λ j. f (g * w + j)))
sum_rows zero w f = ap (λ n. sum_below n f) (zero-mul w) ∙ sum-none f ∙ sym (sum-none _)
sum_rows (suc m) w f =
    ap (λ n. sum_below n f) (suc-mul m w) ∙ sum-append (m * w) w f ∙ ap (λ s. s ⊕ sum_below w (λ j. f (m * w + j))) (sum_rows m w f) ∙ sym (sum-suc m _)

check-second : (c g : ℕ) (j : ℕ) → check_of c g 5 j ≡ second_coefficient byte_edition c g j
unfolding check_of
check-second c g j = refl

module _ (m w c : ℕ) (wide : 0 < w) (checks : c ≤ 4) (bound : List ℕ) (within : (g : ℕ) → g < m → lost_in w bound g ≤ c) where
  within-part : (g : ℕ) → g < m → lost_in w (stretch w g bound) 0 ≤ c
  within-part g l = subst (λ n. n ≤ c) (sym (stretch-count w g bound)) (within g l)

  -- the sum of a row that stands for equation i, and of the equation, over all groups
  module _ (i : ℕ) (a : ℕ → ℕ) (A : Across m w c bound i a) (v : ℕ → ℕ) (Y : ℕ → ℕ → ℕ)
      (same : (g : ℕ) → g < m → AgreesIn w c g (stretch w g bound) (λ j. v (g * w + j)) (Y g)) where
    pub across-sum : sum_below m (λ g. dot byte_edition w (Y g) (check_of c g i)) ≡ row_sum (m * w) v a
    unfolding row_sum dot
    across-sum =
        sum-ext m _ _ (λ g l. (A g l).sum (λ j. v (g * w + j)) (Y g) (agrees-fills w c g (stretch w g bound) _ (Y g) (within-part g l) (same g l)))
        ∙ sym (sum_rows m w (λ p. times byte_edition (v p) (a p)))

  -- ---- a word from its groups
  module _ (v : ℕ → ℕ) (Y : ℕ → ℕ → ℕ) (same : (g : ℕ) → g < m → AgreesIn w c g (stretch w g bound) (λ j. v (g * w + j)) (Y g)) where
    joined : List ℕ
    joined = list_of (m * w) (λ p. Y (p / w) (p % w))

    joined_at : (g j : ℕ) → g < m → j < w → get_or joined (g * w + j) 0 ≡ Y g j
    unfolding joined
    joined_at g j l h = list_at (m * w) _ (g * w + j) (place-less m w g j l h) ∙ ap₂ Y (digits_div g h) (digits_mod g h)

    joined-sum : (g : ℕ) → g < m → (h : ℕ → ℕ) → group_sum byte_edition w joined g h ≡ dot byte_edition w (Y g) h
    joined-sum g l h = group-dot w g joined h ∙ dot-ext byte_edition w _ (Y g) h h (λ j b. joined_at g j l b) (λ _ _. refl)

    joined_same : (p : ℕ) → p < m * w → lost bound p ≡ false → get_or joined p 0 ≡ v p
    joined_same p l e =
        let g : p / w < m = (div-lt_iff_lt-mul wide).1 l in
        let j : p % w < w = mod-lt p wide in
        let d : p / w * w + p % w ≡ p = div-add-mod' p w in
        ap (λ q. get_or joined q 0) (sym d) ∙ joined_at (p / w) (p % w) g j
        ∙ (same (p / w) g).same (p % w) j (ap (λ b. eqb b 1) (stretch-at w (p / w) bound (p % w) j) ∙ ap (lost bound) d ∙ e) ∙ ap v d

    joined-symbols : Symbols byte_edition (m * w) joined
    unfolding joined
    joined-symbols = record { size = list_length (m * w) _; each = each }
      where
        each : (p : ℕ) → get_or joined p 0 < 256
        each p = elim (dec_lt p (m * w)) [
          | yes l ↦
              subst (λ b. b < 256) (sym (list_at (m * w) _ p l)) ((same (p / w) ((div-lt_iff_lt-mul wide).1 l)).small (p % w))
          | no l ↦
              (let k : length joined ≤ p = omega (arith, list_length (m * w) (λ p. Y (p / w) (p % w))) in
              subst (λ b. b < 256) (sym (get_or-eq_default joined 0 k)) (lit< tt))
        ]

    -- it is a codeword where the rows across come to 0
    pub joined-codeword : (a b : ℕ → ℕ) → Across m w c bound 4 a → Across m w c bound 5 b → row_sum (m * w) v a ≡ 0 → row_sum (m * w) v b ≡ 0
        → (y : List ℕ) × Codeword byte_edition m w c y × ((p : ℕ) → p < m * w → lost bound p ≡ false → get_or y p 0 ≡ v p)
    unfolding word_sum
    joined-codeword a b A B za zb = (
      joined,
      record {
        symbols = joined-symbols;
        zero = is-codeword byte_edition m w c joined (record {
          locals = λ g l e h.
              joined-sum g l _ ∙ dot-ext byte_edition w (Y g) (Y g) _ (check_of c g e) (λ _ _. refl) (λ j _. sym (check-local c g e (omega arith) j))
              ∙ (same g l).meets e h;
          first =
              sum-ext m _ _ (λ g l. joined-sum g l _ ∙ dot-ext byte_edition w (Y g) (Y g) _ (check_of c g 4) (λ _ _. refl) (λ j _. sym (check-first c g j)))
              ∙ across-sum 4 a A v Y same ∙ za;
          second =
              sum-ext m _ _ (λ g l. joined-sum g l _ ∙ dot-ext byte_edition w (Y g) (Y g) _ (check_of c g 5) (λ _ _. refl) (λ j _. sym (check-second c g j)))
              ∙ across-sum 5 b B v Y same ∙ zb;
        });
      },
      joined_same,
    )

  -- ---- a codeword and its groups
  module _ (y : List ℕ) (C : Codeword byte_edition m w c y) (v : ℕ → ℕ) (same : (p : ℕ) → p < m * w → lost bound p ≡ false → get_or y p 0 ≡ v p) where
    pub codeword-group : (g : ℕ) → g < m → AgreesIn w c g (stretch w g bound) (λ j. v (g * w + j)) (group_of w g y)
    codeword-group g l = record {
      small = λ j. C.symbols.each (g * w + j);
      same = λ j h e. same (g * w + j) (place-less m w g j l h) (ap (λ b. eqb b 1) (sym (stretch-at w g bound j h)) ∙ e);
      meets = λ e h.
          dot-ext byte_edition w _ _ (check_of c g e) _ (λ _ _. refl) (λ j _. check-local c g e (omega arith) j) ∙ sym (group-dot w g y _)
          ∙ (equations byte_edition m w c y C.zero).locals g l e h;
    }

    -- the rows across come to 0
    pub codeword-first : (a : ℕ → ℕ) → Across m w c bound 4 a → row_sum (m * w) v a ≡ 0
    unfolding word_sum
    codeword-first a A =
        sym (across-sum 4 a A v (λ g. group_of w g y) codeword-group)
        ∙ sum-ext m _ _ (λ g l. dot-ext byte_edition w _ _ (check_of c g 4) _ (λ _ _. refl) (λ j _. check-first c g j) ∙ sym (group-dot w g y _))
        ∙ (equations byte_edition m w c y C.zero).first

    pub codeword-second : (a : ℕ → ℕ) → Across m w c bound 5 a → row_sum (m * w) v a ≡ 0
    unfolding word_sum
    codeword-second a A =
        sym (across-sum 5 a A v (λ g. group_of w g y) codeword-group)
        ∙ sum-ext m _ _ (λ g l. dot-ext byte_edition w _ _ (check_of c g 5) _ (λ _ _. refl) (λ j _. check-second c g j) ∙ sym (group-dot w g y _))
        ∙ (equations byte_edition m w c y C.zero).second
