-- Laws: Why the recovery finds the codeword. A few lost places, at most c in each group, are bound for the group's own equations; the others, at
-- most two, are free. A base word fills the bound places with the free ones at 0; for each free place a direction fills them with that place
-- at 1 and all else at 0. The codeword that agrees is the base plus each direction times its symbol at the free place, and those symbols
-- are the only ones for which the two sums across are zero.
use Rattle.std.specs.Prelude.{◌≡◌, refl, Bool, true, false, List, ℕ, zero, ◌+◌, ◌*◌, ◌/◌, ◌%◌, ◌<◌, ◌≤◌, ◌^◌, get_or}
use Rattle.std.proofs.Common.{sym, ap, ap₂, ◌∙◌, subst, div-add-mod', mod-lt, div-lt_iff_lt-mul, le_refl, arith, ext_get_or}
use Rattle.binary_field.specs.Xor.{◌⊕◌}
use Rattle.binary_field.specs.XorLaws.{⊕-zero-l, ⊕-zero-r, ⊕-self, ⊕-comm, ⊕-cancel}
use Rattle.binary_field.specs.ProductLaws.{product-one, product-zero}
use Rattle.binary_field.specs.Sum.{sum_below}
use Rattle.binary_field.specs.SumLaws.{sum-zero, sum-single}
use Rattle.code.specs.Edition.{Edition, Sound, times}
use Rattle.code.specs.Word.{local_sum, word_sum, first_across, second_across, Symbols, Codeword}
use Rattle.code.specs.WordLaws.{equations, is-codeword}
use Rattle.code.specs.Marks.{lost, lost_in, excess}
use Rattle.code.specs.DeterminedLaws.{unique, local-unique}
use Rattle.code.specs.Combined.{combined}
use Rattle.code.specs.CombinedLaws.{combined-at, combined-group, combined-word, combined-symbols, place-less}
use Rattle.code.specs.Blank.{blank}
use Rattle.code.specs.BlankLaws.{blank-at, blank-symbols, blank-group, blank-word, blank-codeword}
use Rattle.code.specs.Recovery.{Agrees}
use Rattle.code_engine.specs.Frame.{Frame}

module _ (E : Edition) (S : Sound E) (m w c : ℕ) (few : m ≤ S.r) (wide : 0 < w) (narrow : w ≤ E.small)
    (marks bound word base : List ℕ) (x : ℕ) (f : ℕ → ℕ) (H : ℕ → List ℕ) (F : Frame E m w c marks bound word base x f H) where
  -- at a place that is not bound, only the direction of that place counts
  pub ways-present : (u : ℕ → ℕ) (p : ℕ) → p < m * w → lost marks p ≡ false → sum_below x (λ i. times E (u i) (get_or (H i) p 0)) ≡ 0
  ways-present u p l e =
      sum-zero x _ (λ i k. ap (times E (u i)) (F.way-off i k p l (F.bound-lost p l e) (λ q. differ i k q)) ∙ product-zero E.bits E.poly (u i))
    where
      differ : (i : ℕ) → i < x → p ≡ f i → ⊥
      differ i k q = let z : ◌≡◌ {A = ℕ} 0 1 = cc (sym e, ap (lost marks) q, F.free-lost i k) in omega arith

  ways-free : (u : ℕ → ℕ) → ((i : ℕ) → u i < 2 ^ E.bits) → (i : ℕ) → i < x → sum_below x (λ l. times E (u l) (get_or (H l) (f i) 0)) ≡ u i
  ways-free u small i k =
      sum-single x i _ k (λ l h n. ap (times E (u l)) (F.way-off l h (f i) (F.free-less i k) (F.free_bound i k) (λ q. n (sym (F.free-apart i l k h q))))
      ∙ product-zero E.bits E.poly (u l))
      ∙ ap (times E (u i)) (F.way-own i k) ∙ product-one E.bits E.poly S.facts.pos (u i) (small i)

  -- the codeword that agrees is the base plus each direction times its own symbol at the free place
  pub codeword-combined : excess m w c marks ≤ 2 → (y : List ℕ) → Agrees E m w c marks word y → combined E (m * w) base x (λ i. get_or y (f i) 0) H ≡ y
  codeword-combined low y A =
      ext_get_or 0 z y (z-symbols.size ∙ sym A.codeword.symbols.size) λ p l.
      let k : p < m * w = subst (λ n. p < n) z-symbols.size l in
      subst (λ q. get_or z q 0 ≡ get_or y q 0) (div-add-mod' p w) (in_group (p / w) (p % w) ((div-lt_iff_lt-mul wide).1 k) (mod-lt p wide))
    where
      u : ℕ → ℕ
      u i = get_or y (f i) 0

      z : List ℕ
      z = combined E (m * w) base x u H

      z-symbols : Symbols E (m * w) z
      z-symbols = combined-symbols E m w x base u H F.base-symbols (λ i. A.codeword.symbols.each (f i))

      sums : (g e : ℕ) → g < m → e < lost_in w bound g → local_sum E w z g e ≡ local_sum E w y g e
      sums g e l k =
          let b : e < c = (let q = F.bound-few g l in omega arith) in
          combined-group E m w x base u H g _ l
          ∙ ap₂ ◌⊕◌ (F.base-local g l e k) (sum-zero x _ (λ i h. ap (times E (u i)) (F.way-local i h g l e b) ∙ product-zero E.bits E.poly (u i)))
          ∙ ⊕-self 0 ∙ sym ((equations E m w c y A.codeword.zero).locals g l e b)

      at : (p : ℕ) → p < m * w → lost bound p ≡ false → (v : Bool) → lost marks p ≡ v → get_or z p 0 ≡ get_or y p 0
      at p l e false q =
          combined-at E m w x base u H p l ∙ ap₂ ◌⊕◌ (F.base-present p l q) (ways-present u p l q) ∙ ⊕-zero-r (get_or word p 0) ∙ sym (A.agree p l q)
      at p l e true q =
          let t = F.free_all low p l q e in
          subst (λ n. get_or z n 0 ≡ get_or y n 0) (sym t.2)
          (combined-at E m w x base u H (f t.0) (F.free-less t.0 t.1)
          ∙ ap₂ ◌⊕◌ (F.base-free t.0 t.1) (ways-free u (λ i. A.codeword.symbols.each (f i)) t.0 t.1) ∙ ⊕-zero-l (u t.0))

      in_group : (g j : ℕ) → g < m → j < w → get_or z (g * w + j) 0 ≡ get_or y (g * w + j) 0
      in_group g j l k =
          local-unique E S w (lost_in w bound g) g wide narrow bound z y z-symbols.each A.codeword.symbols.each (λ e h. sums g e l h)
          (λ i h e. at (g * w + i) (place-less m w g i l h) e (lost marks (g * w + i)) refl) (le_refl (lost_in w bound g)) j k

  -- the two sums across of a codeword that agrees
  pub codeword-across : excess m w c marks ≤ 2 → (y : List ℕ) → Agrees E m w c marks word y → (h : ℕ → ℕ → ℕ) → word_sum E m w y h ≡ 0
      → sum_below x (λ i. times E (get_or y (f i) 0) (word_sum E m w (H i) h)) ≡ word_sum E m w base h
  codeword-across low y A h z =
      ⊕-cancel (⊕-comm _ _ ∙ sym (combined-word E m w x base (λ i. get_or y (f i) 0) H h) ∙ ap (λ q. word_sum E m w q h) (codeword-combined low y A) ∙ z)

  -- the columns of the directions in the two sums across are independent
  pub ways-independent : excess m w c marks ≤ 2 → (v : ℕ → ℕ) → ((i : ℕ) → v i < 2 ^ E.bits)
      → sum_below x (λ i. times E (v i) (first_across E m w c (H i))) ≡ 0 → sum_below x (λ i. times E (v i) (second_across E m w c (H i))) ≡ 0
      → (i : ℕ) → i < x → v i ≡ 0
  ways-independent low v small e₁ e₂ i k =
      sym (ways-free v small i k) ∙ sym (⊕-zero-l _) ∙ ap (λ b. b ⊕ sum_below x (λ l. times E (v l) (get_or (H l) (f i) 0))) (sym (blank-at (m * w) (f i)))
      ∙ sym (combined-at E m w x (blank (m * w)) v H (f i) (F.free-less i k)) ∙ ap (λ q. get_or q (f i) 0) is-blank ∙ blank-at (m * w) (f i)
    where
      z : List ℕ
      z = combined E (m * w) (blank (m * w)) x v H

      across : (h : ℕ → ℕ → ℕ) → sum_below x (λ i. times E (v i) (word_sum E m w (H i) h)) ≡ 0 → word_sum E m w z h ≡ 0
      across h e = combined-word E m w x (blank (m * w)) v H h ∙ ap₂ ◌⊕◌ (blank-word E (m * w) m w h) e ∙ ⊕-self 0

      z-codeword : Codeword E m w c z
      z-codeword = record {
        symbols = combined-symbols E m w x (blank (m * w)) v H (blank-symbols E (m * w)) small;
        zero = is-codeword E m w c z (record {
          locals = λ g l e h.
              combined-group E m w x (blank (m * w)) v H g _ l
              ∙ ap₂ ◌⊕◌ (blank-group E (m * w) w g _) (sum-zero x _ (λ i q. ap (times E (v i)) (F.way-local i q g l e h)
              ∙ product-zero E.bits E.poly (v i))) ∙ ⊕-self 0;
          first = across _ e₁;
          second = across _ e₂;
        });
      }

      is-blank : z ≡ blank (m * w)
      is-blank =
          unique E S m w c few wide narrow marks z (blank (m * w)) z-codeword (blank-codeword E m w c)
          (λ p l e. combined-at E m w x (blank (m * w)) v H p l ∙ ap₂ ◌⊕◌ (blank-at (m * w) p) (ways-present v p l e) ∙ ⊕-self 0 ∙ sym (blank-at (m * w) p)) low
