-- Laws: The one or two unknowns across: what is solved for is the codeword's symbol at each free place.
use Rattle.std.specs.Prelude.{◌≡◌, refl, List, ℕ, zero, suc, ◌*◌, ◌^◌, ◌<◌, ◌≤◌, length, get_or}
use Rattle.std.proofs.Common.{sym, ap, ap₂, ◌∙◌, subst, arith, ext_get_or}
use Rattle.binary_field.specs.Xor.{◌⊕◌}
use Rattle.binary_field.specs.XorLaws.{⊕-zero-l, ⊕-zero-r, ⊕-assoc, ⊕-self, ⊕-cancel, ⊕-lt}
use Rattle.binary_field.specs.ProductLaws.{product-assoc, product-one, ring}
use Rattle.binary_field.specs.Sum.{sum_below}
use Rattle.binary_field.specs.SumLaws.{sum-ext, sum-none, sum-suc}
use Rattle.binary_field.specs.Inverse.{inverse}
use Rattle.binary_field.specs.InverseLaws.{product-inverse}
use Rattle.code.specs.Edition.{Edition, Sound, times}
use Rattle.code.specs.Word.{first_across, second_across}
use Rattle.code.specs.WordLaws.{equations}
use Rattle.code.specs.Marks.{excess}
use Rattle.code.specs.Determined.{list_of}
use Rattle.code.specs.DeterminedLaws.{list_length}
use Rattle.code.specs.Combined.{combined}
use Rattle.code.specs.CombinedLaws.{combined-at}
use Rattle.code.specs.Recovery.{Agrees}
use Rattle.code_engine.specs.Frame.{Frame}
use Rattle.code_engine.specs.FrameLaws.{codeword-combined, codeword-across, ways-independent}
use Rattle.code.specs.Pair.{MetIn, pair_at}

pub combined-cong : (E : Edition) (n : ℕ) (base : List ℕ) (x : ℕ) {u v : ℕ → ℕ} {H K : ℕ → List ℕ} → ((i : ℕ) → i < x → u i ≡ v i)
    → ((i : ℕ) → i < x → H i ≡ K i)
    → combined E n base x u H ≡ combined E n base x v K
unfolding combined
combined-cong E n base x {u} {v} {H} {K} same ways =
    ap (list_of n)
    (λ j p. get_or base p 0
    ⊕ (sum-ext x (λ i. times E (u i) (get_or (H i) p 0)) (λ i. times E (v i) (get_or (K i) p 0)) (λ i l. ap₂ (λ a h. times E a (get_or h p 0)) (same i l) (ways i l)))
    j)

pub combined-length : (E : Edition) (n x : ℕ) (base : List ℕ) (u : ℕ → ℕ) (H : ℕ → List ℕ) → length (combined E n base x u H) ≡ n
unfolding combined
combined-length E n x base u H = list_length n _

pub combined-none : (E : Edition) (m w : ℕ) (base : List ℕ) (u : ℕ → ℕ) (H : ℕ → List ℕ) → length base ≡ m * w → combined E (m * w) base 0 u H ≡ base
combined-none E m w base u H size =
    ext_get_or 0 (combined E (m * w) base 0 u H) base (combined-length E (m * w) 0 base u H ∙ sym size)
    (λ p l. combined-at E m w 0 base u H p (subst (λ n. p < n) (combined-length E (m * w) 0 base u H) l) ∙ ap (λ s. get_or base p 0 ⊕ s) (sum-none _)
    ∙ ⊕-zero-r (get_or base p 0))

-- a quotient: from y·a = s
quotient : {E : Edition} (S : Sound E) (a s y : ℕ) → a < 2 ^ E.bits → y < 2 ^ E.bits → (a ≡ 0 → ⊥) → times E y a ≡ s → y
    ≡ times E s (inverse E.bits E.poly a)
quotient {E} S a s y ha hy n e =
    sym
    (ap (λ q. times E q (inverse E.bits E.poly a)) (sym e) ∙ product-assoc E.bits E.poly y a (inverse E.bits E.poly a)
    ∙ ap (times E y) (product-inverse E.bits E.poly S.facts.pos S.facts.values S.facts.tested a ha n)
    ∙ product-one E.bits E.poly S.facts.pos y hy)

sum_one : (f : ℕ → ℕ) → sum_below 1 f ≡ f 0
sum_one f = sum-suc 0 f ∙ ap (λ s. s ⊕ f 0) (sum-none f) ∙ ⊕-zero-l (f 0)

pub sum-two : (f : ℕ → ℕ) → sum_below 2 f ≡ f 0 ⊕ f 1
sum-two f = sum-suc 1 f ∙ ap (λ s. s ⊕ f 1) (sum_one f)

pub pair_lt : {n u v : ℕ} → u < n → v < n → (i : ℕ) → pair_at u v i < n
pair_lt hu hv zero = hu
pair_lt hu hv (suc i) = hv

-- one multiple, and then another
module _ (E : Edition) (m w : ℕ) where
  pub combined-one : (base : List ℕ) (u : ℕ) (h : List ℕ) (p : ℕ) → p < m * w
      → get_or (combined E (m * w) base 1 (λ _. u) (λ _. h)) p 0 ≡ get_or base p 0 ⊕ times E u (get_or h p 0)
  combined-one base u h p l = combined-at E m w 1 base _ _ p l ∙ ap (λ s. get_or base p 0 ⊕ s) (sum_one _)

  pub combined-two : (base : List ℕ) (u v : ℕ) (H : ℕ → List ℕ)
      → combined E (m * w) (combined E (m * w) base 1 (λ _. u) (λ _. H 0)) 1 (λ _. v) (λ _. H 1) ≡ combined E (m * w) base 2 (pair_at u v) H
  combined-two base u v H =
      ext_get_or 0 _ _ (combined-length E (m * w) 1 _ _ _ ∙ sym (combined-length E (m * w) 2 base _ _))
      (λ p k.
      let l : p < m * w = subst (λ n. p < n) (combined-length E (m * w) 1 _ _ _) k in
      combined-one _ v (H 1) p l ∙ ap (λ a. a ⊕ times E v (get_or (H 1) p 0)) (combined-one base u (H 0) p l) ∙ ⊕-assoc _ _ _
      ∙ ap (λ s. get_or base p 0 ⊕ s) (sym (sum-two _)) ∙ sym (combined-at E m w 2 base (pair_at u v) H p l))

module _ (E : Edition) (S : Sound E) (m w c : ℕ) (few : m ≤ S.r) (wide : 0 < w) (narrow : w ≤ E.small) (marks bound word base : List ℕ) (x : ℕ) (f : ℕ → ℕ)
    (H : ℕ → List ℕ)
    (F : Frame E m w c marks bound word base x f H) (low : excess m w c marks ≤ 2) (y : List ℕ) (A : Agrees E m w c marks word y) where
  -- the codeword's symbols at the free places solve the two sums across
  across-first : sum_below x (λ i. times E (get_or y (f i) 0) (first_across E m w c (H i))) ≡ first_across E m w c base
  across-first = codeword-across E S m w c few wide narrow marks bound word base x f H F low y A _ (equations E m w c y A.codeword.zero).first

  across-second : sum_below x (λ i. times E (get_or y (f i) 0) (second_across E m w c (H i))) ≡ second_across E m w c base
  across-second = codeword-across E S m w c few wide narrow marks bound word base x f H F low y A _ (equations E m w c y A.codeword.zero).second

  -- symbols that are the codeword's at the free places give the codeword
  found : (u : ℕ → ℕ) → ((i : ℕ) → i < x → u i ≡ get_or y (f i) 0) → combined E (m * w) base x u H ≡ y
  found u same = combined-cong E (m * w) base x same (λ i _. refl) ∙ codeword-combined E S m w c few wide narrow marks bound word base x f H F low y A

  independent : (v : ℕ → ℕ) → ((i : ℕ) → v i < 2 ^ E.bits) → sum_below x (λ i. times E (v i) (first_across E m w c (H i))) ≡ 0
      → sum_below x (λ i. times E (v i) (second_across E m w c (H i))) ≡ 0 → (i : ℕ) → i < x → v i ≡ 0
  independent = ways-independent E S m w c few wide narrow marks bound word base x f H F low

-- no free place
module _ (E : Edition) (S : Sound E) (m w c : ℕ) (few : m ≤ S.r) (wide : 0 < w) (narrow : w ≤ E.small) (marks bound word base : List ℕ) (f : ℕ → ℕ)
    (H : ℕ → List ℕ)
    (low : excess m w c marks ≤ 2) (y : List ℕ) (A : Agrees E m w c marks word y) where
  pub found_none : Frame E m w c marks bound word base 0 f H → base ≡ y
  found_none F =
      sym (combined-none E m w base (λ _. 0) H F.base-symbols.size)
      ∙ found E S m w c few wide narrow marks bound word base 0 f H F low y A (λ _. 0) (λ i l. absurd (omega arith))

  -- one free place, whose direction has a first sum that is not 0
  pub found-one : Frame E m w c marks bound word base 1 f H → (u : ℕ) → first_across E m w c (H 0) < 2 ^ E.bits → (first_across E m w c (H 0) ≡ 0 → ⊥)
      → u ≡ times E (first_across E m w c base) (inverse E.bits E.poly (first_across E m w c (H 0)))
      → combined E (m * w) base 1 (λ _. u) H ≡ y
  found-one F u ha n e =
      found E S m w c few wide narrow marks bound word base 1 f H F low y A (λ _. u)
      (λ i l. e ∙ sym (quotient S _ _ (get_or y (f 0) 0) ha (A.codeword.symbols.each (f 0)) n
      (sym (sum_one _) ∙ across-first E S m w c few wide narrow marks bound word base 1 f H F low y A)) ∙ ap (λ j. get_or y (f j) 0) (sym (is_zero i l)))
    where
      is_zero : (i : ℕ) → i < 1 → i ≡ 0
      is_zero i l = omega arith

  -- two free places
  pub found-two : Frame E m w c marks bound word base 2 f H → (u v : ℕ)
      → MetIn E (first_across E m w c (H 0)) (first_across E m w c (H 1)) (second_across E m w c (H 0)) (second_across E m w c (H 1))
      (first_across E m w c base) (second_across E m w c base) u v
      → combined E (m * w) base 2 (pair_at u v) H ≡ y
  found-two F u v Q = found E S m w c few wide narrow marks bound word base 2 f H F low y A (pair_at u v) same
    where
      p : ℕ
      p = get_or y (f 0) 0

      q : ℕ
      q = get_or y (f 1) 0

      -- the codeword's symbols meet the equations too, so the difference is a solution with zeros on the right
      none : (a : ℕ → ℕ) {s : ℕ} → times E (a 0) u ⊕ times E (a 1) v ≡ s → sum_below 2 (λ i. times E (get_or y (f i) 0) (a i)) ≡ s
          → sum_below 2 (λ i. times E (pair_at (u ⊕ p) (v ⊕ q) i) (a i)) ≡ 0
      none a {s} e g = sum-two _ ∙ spread (a 0) (a 1) ∙ ap₂ ◌⊕◌ e (sym (sum-two _) ∙ g) ∙ ⊕-self s
        where
          spread : (a b : ℕ) → times E (u ⊕ p) a ⊕ times E (v ⊕ q) b ≡ (times E a u ⊕ times E b v) ⊕ (times E p a ⊕ times E q b)
          spread a b = simp ring

      differ : (i : ℕ) → i < 2 → pair_at (u ⊕ p) (v ⊕ q) i ≡ 0
      differ =
          independent E S m w c few wide narrow marks bound word base 2 f H F low y A (pair_at (u ⊕ p) (v ⊕ q))
          (pair_lt (⊕-lt E.bits u p Q.u-lt (A.codeword.symbols.each (f 0))) (⊕-lt E.bits v q Q.v-lt (A.codeword.symbols.each (f 1))))
          (none (λ i. first_across E m w c (H i)) Q.first (across-first E S m w c few wide narrow marks bound word base 2 f H F low y A))
          (none (λ i. second_across E m w c (H i)) Q.second (across-second E S m w c few wide narrow marks bound word base 2 f H F low y A))

      same : (i : ℕ) → i < 2 → pair_at u v i ≡ get_or y (f i) 0
      same zero l = ⊕-cancel (differ 0 l)
      same (suc zero) l = ⊕-cancel (differ 1 l)
      same (suc (suc i)) l = absurd (omega arith)
