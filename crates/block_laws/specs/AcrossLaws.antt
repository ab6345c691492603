-- Laws: the two sums across with no, one and two free places.
use Rattle.std.specs.Prelude.{◌≡◌, refl, Bool, true, false, List, ℕ, zero, suc, ◌*◌, ◌<◌, ◌≤◌, length, get_or}
use Rattle.std.proofs.Common.{sym, ap, ◌∙◌, subst, arith}
use Rattle.std.proofs.Math.Decide.{ℕ_discrete}
use Rattle.counting.specs.Count.{count_below}
use Rattle.binary_field.specs.XorLaws.{⊕-lt}
use Rattle.binary_field.specs.ProductLaws.{product_lt}
use Rattle.binary_field.specs.Inverse.{inverse}
use Rattle.shape.specs.Shapes.{byte_limits}
use Rattle.code.specs.Edition.{times}
use Rattle.code.specs.Marks.{lost, excess}
use Rattle.code.specs.Recovery.{Agrees}
use Rattle.code.specs.DeterminedLaws.{list_at}
use Rattle.code.specs.Limits.{GoodIn}
use Rattle.byte_edition.specs.Edition.{byte_edition}
use Rattle.code_engine.specs.Bound.{free}
use Rattle.code_engine.specs.BoundGroups.{BoundAll}
use Rattle.code_engine.specs.FreePlaces.{FreePlaces, free_at}
use Rattle.block_laws.specs.Steps.{Limit, place_symbol, AcrossRows}
use Rattle.block_laws.specs.StepsLaws.{limit-map, limit-none}
use Rattle.block_laws.specs.Whole.{row_sum, Across}
use Rattle.block_laws.specs.Free.{Completes, Completable, OneSolved, TwoSolved}
use Rattle.block_laws.specs.FreeLaws.{row-agree, of-completes, one-some, one-completable, one_value, one-tested}
use Rattle.block_laws.specs.FreeLaws.{two-some, two-completable, two-value, two-value'}
use Rattle.block_constants.specs.FreeRows.{first_of, second_of, one_test, determinant_inverse}
use Rattle.block_laws.specs.Rest.{BothZero, OneWritten, TwoWritten}
use Rattle.block_laws.specs.RestLaws.{one-solved, two-factors, across-first, across-second}
use Rattle.block_laws.specs.Ready.{word_of, FreeWritten}

module _ (m w c : ℕ) (good : GoodIn byte_limits m w c) (marks bound : List ℕ) (K : BoundAll m w c marks bound) (long : length marks ≡ m * w)
    (low : excess m w c marks ≤ 2) where
  few : count_below (length marks) (free marks bound) ≤ 2
  few = subst (λ n. count_below n (free marks bound) ≤ 2) (sym long) (subst (λ n. n ≤ 2) (sym K.free-count) low)

  -- a place that is neither bound nor free is present
  present : (count p q : ℕ) → FreePlaces marks bound count p q → (r : ℕ) → r < m * w → lost bound r ≡ false
      → ((i : ℕ) → i < count → r ≡ free_at p q i → ⊥) → lost marks r ≡ false
  present count p q F r l e n = go (lost marks r) refl
    where
      go : (x : Bool) → lost marks r ≡ x → lost marks r ≡ false
      go true f = let i = F.every few r (omega arith) f e in absurd (n i.0 i.1 i.2)
      go false f = f

  -- where no place is free, nothing is to be written
  pub none_free : (p q size : ℕ) (blocks : List ℕ) → FreePlaces marks bound 0 p q → FreeWritten m w c size marks bound blocks blocks
  none_free p q size blocks F = record {
    long = refl;
    here = λ x l y Y r h e.
        sym (Y.agree r h (present 0 p q F r h e (λ i k z. absurd (omega arith))) ∙ list_at (m * w) (place_symbol size blocks x) r h);
  }

  module _ (a b : ℕ → ℕ) (A : Across m w c bound 4 a) (B : Across m w c bound 5 b) (la : (q : ℕ) → a q < 256) (lb : (q : ℕ) → b q < 256) where
    module _ (p q : ℕ) (F : FreePlaces marks bound 0 p q) where
      pub none-enough : (v : ℕ → ℕ) → ((r : ℕ) → v r < 256) → BothZero (m * w) a b v → Completable (m * w) marks bound a b v
      none-enough v small z = (v, record { small = small; same = λ _ _ _. refl; first = z.0; second = z.1 })

      pub none_needed : (v : ℕ → ℕ) → Completable (m * w) marks bound a b v → BothZero (m * w) a b v
      none_needed v C =
          let same : (r : ℕ) → r < m * w → lost bound r ≡ false → v r ≡ C.0 r =
          λ r l e. C.1.same r l (present 0 p q F r l e (λ i h z. absurd (omega arith))) in (
            row-agree m w c good marks bound K a b A B 4 a A v C.0 same ∙ C.1.first,
            row-agree m w c good marks bound K a b A B 5 b B v
                C.0 same ∙ C.1.second,
          )

    module _ (p q : ℕ) (F : FreePlaces marks bound 1 p q) where
      less : p < m * w
      less = subst (λ n. p < n) long (F.less 0 (omega arith))

      only : (r : ℕ) → r < m * w → lost marks r ≡ true → lost bound r ≡ false → r ≡ p
      only r l e f = let i = F.every few r (omega arith) e f in go i.0 i.1 i.2
        where
          go : (i : ℕ) → i < 1 → r ≡ free_at p q i → r ≡ p
          go zero h z = z
          go (suc i) h z = absurd (omega arith)

      lost-p : lost marks p ≡ true
      lost-p = F.is_lost 0 (omega arith)

      open-p : lost bound p ≡ false
      open-p = F.not-bound 0 (omega arith)

      S : OneSolved (a p) (b p) (inverse 8 285 (a p)) 0 (times byte_edition (b p) (inverse 8 285 (a p))) 1
      S = one-solved (a p) (b p) (la p) (lb p) (one-some m w c good marks bound K a b A B p less lost-p open-p long)

      pub one-enough : (v : ℕ → ℕ) → ((r : ℕ) → v r < 256) → row_sum (m * w) v (one_test p a b) ≡ 0 → Completable (m * w) marks bound a b v
      one-enough v small z = one-completable m w c good marks bound K a b A B p less lost-p open-p only _ _ _ _ S v small z

      pub one-needed : (v : ℕ → ℕ) → ((r : ℕ) → v r < 256) → Completable (m * w) marks bound a b v → row_sum (m * w) v (one_test p a b) ≡ 0
      one-needed v small C = one-tested m w c good marks bound K a b A B p less lost-p open-p only _ _ _ _ S v small C.0 C.1

      pub one_free : (size : ℕ) (before after : List ℕ) → ((i : ℕ) → get_or before i 0 < 256) → OneWritten p a b (m * w) size before after
          → FreeWritten m w c size marks bound before after
      one_free size before after small W = record {
        long = W.long;
        here = λ x l y Y r h e. elim (ℕ_discrete r p) [
          | yes d ↦
              (ap (place_symbol size after x) d ∙ W.here x l
              ∙ one_value m w c good marks bound K a b A B p less lost-p open-p only _ _ _ _ S (place_symbol size before x) (λ _. small _) (λ s. get_or y s 0)
              (of-completes m w c good marks bound K a b A B (place_symbol size before x) (λ _. small _) y Y)
              ∙ ap (λ s. get_or y s 0) (sym d))
          | no d ↦
              (W.other r x l d
              ∙ sym (Y.agree r h (present 1 p q F r h e (λ i k z. d (go r i k z))) ∙ list_at (m * w) (place_symbol size before x) r h))
        ];
      }
        where
          go : (r i : ℕ) → i < 1 → r ≡ free_at p q i → r ≡ p
          go r zero h z = z
          go r (suc i) h z = absurd (omega arith)

    module _ (p q : ℕ) (F : FreePlaces marks bound 2 p q) where
      less₂ : p < m * w
      less₂ = subst (λ n. p < n) long (F.less 0 (omega arith))

      less-q : q < m * w
      less-q = subst (λ n. q < n) long (F.less 1 (omega arith))

      pub two-apart : ¬ (q ≡ p)
      two-apart e = let z : ◌≡◌ {A = ℕ} 1 0 = F.apart 1 0 (omega arith) (omega arith) e in omega arith

      only₂ : (r : ℕ) → r < m * w → lost marks r ≡ true → lost bound r ≡ false → ¬ (r ≡ p) → r ≡ q
      only₂ r l e f d = let i = F.every few r (omega arith) e f in go i.0 i.2
        where
          go : (i : ℕ) → r ≡ free_at p q i → r ≡ q
          go zero z = absurd (d z)
          go (suc i) z = z

      S₂ : TwoSolved (a p) (a q) (b p) (b q) (times byte_edition (determinant_inverse p a b q) (b q)) (times byte_edition (determinant_inverse p a b q) (a q))
          (times byte_edition (determinant_inverse p a b q) (b p)) (times byte_edition (determinant_inverse p a b q) (a p))
      S₂ =
          two-factors p a b q (⊕-lt 8 _ _ (product_lt 8 285 (a p) (b q)) (product_lt 8 285 (a q) (b p)))
          (two-some m w c good marks bound K a b A B p less₂ (F.is_lost 0 (omega arith)) (F.not-bound 0 (omega arith)) q less-q (F.is_lost 1 (omega arith))
          (F.not-bound 1 (omega arith)) two-apart only₂ low (la p) (la q) (lb p) (lb q))

      pub two-enough : (v : ℕ → ℕ) → ((r : ℕ) → v r < 256) → Completable (m * w) marks bound a b v
      two-enough v small =
          two-completable m w c good marks bound K a b A B p less₂ (F.is_lost 0 (omega arith)) (F.not-bound 0 (omega arith)) q less-q (F.is_lost 1
          (omega arith))
          (F.not-bound 1 (omega arith)) two-apart only₂ _ _ _ _ S₂ v small

      pub two-free : (size : ℕ) (before after : List ℕ) → ((i : ℕ) → get_or before i 0 < 256) → TwoWritten p a b q (m * w) size before after
          → FreeWritten m w c size marks bound before after
      two-free size before after small W = record {
        long = W.long;
        here = λ x l y Y r h e. elim (ℕ_discrete r p) [
          | yes d ↦
              (ap (place_symbol size after x) d ∙ W.here x l
              ∙ two-value m w c good marks bound K a b A B p less₂ (F.is_lost 0 (omega arith)) (F.not-bound 0 (omega arith)) q less-q (F.is_lost 1
              (omega arith))
              (F.not-bound 1 (omega arith)) two-apart only₂ _ _ _ _ S₂ (place_symbol size before x) (λ _. small _) (λ s. get_or y s 0) (C x y Y)
              ∙ ap (λ s. get_or y s 0) (sym d))
          | no d ↦ elim (ℕ_discrete r q) [
            | yes k ↦
                (ap (place_symbol size after x) k ∙ W.there x l
                ∙ two-value' m w c good marks bound K a b A B p less₂ (F.is_lost 0 (omega arith)) (F.not-bound 0 (omega arith)) q less-q
                (F.is_lost 1 (omega arith)) (F.not-bound 1 (omega arith)) two-apart only₂ _ _ _ _ S₂ (place_symbol size before x) (λ _. small _)
                (λ s. get_or y s 0)
                (C x y Y)
                ∙ ap (λ s. get_or y s 0) (sym k))
            | no k ↦
                (W.other r x l d k
                ∙ sym (Y.agree r h (present 2 p q F r h e (λ i o z. go r d k i z)) ∙ list_at (m * w) (place_symbol size before x) r h))
          ]
        ];
      }
        where
          C : (x : ℕ) (y : List ℕ) → Agrees byte_edition m w c marks (word_of (m * w) size before x) y
              → Completes (m * w) marks bound a b (place_symbol size before x) (λ s. get_or y s 0)
          C x y Y = of-completes m w c good marks bound K a b A B (place_symbol size before x) (λ _. small _) y Y

          go : (r : ℕ) → ¬ (r ≡ p) → ¬ (r ≡ q) → (i : ℕ) → r ≡ free_at p q i → ⊥
          go r d k zero z = d z
          go r d k (suc i) z = k z

-- the number of free places under another name
pub free-as : {marks bound : List ℕ} {k n p q : ℕ} → k ≡ n → FreePlaces marks bound k p q → FreePlaces marks bound n p q
free-as {marks} {bound} {p = p} {q = q} e F = subst (λ k. FreePlaces marks bound k p q) e F

-- ---- with the rows that were made
module _ (m w c : ℕ) (good : GoodIn byte_limits m w c) (marks bound : List ℕ) (K : BoundAll m w c marks bound) (long : length marks ≡ m * w)
    (low : excess m w c marks ≤ 2) (rows : List ℕ) (A : AcrossRows m w c bound rows) (size : ℕ) (blocks : List ℕ)
    (small : (i : ℕ) → get_or blocks i 0 < 256) (p q : ℕ) where
  FA : Across m w c bound 4 (first_of rows)
  FA = across-first m w c bound rows A

  FB : Across m w c bound 5 (second_of (m * w) rows)
  FB = across-second m w c bound rows A

  -- the words below the limit whose sums across some symbols at the free places make zero
  abbrev pub CompletableUntil : ℕ → ℕ → Type 0
  CompletableUntil limit r = Limit limit r (λ x. Completable (m * w) marks bound (first_of rows) (second_of (m * w) rows) (place_symbol size blocks x))

  pub none-limit : (limit r : ℕ) → FreePlaces marks bound 0 p q
      → Limit limit r (λ x. BothZero (length marks) (first_of rows) (second_of (length marks) rows) (place_symbol size blocks x)) → CompletableUntil limit r
  none-limit limit r F L =
      limit-map
      (λ x _ z. none-enough m w c good marks bound K long low _ _ FA FB (λ i. A.small _) (λ i. A.small _) p q F (place_symbol size blocks x) (λ _. small _) z)
      (λ x _ C. none_needed m w c good marks bound K long low _ _ FA FB (λ i. A.small _) (λ i. A.small _) p q F (place_symbol size blocks x) C)
      (subst (λ n. Limit limit r (λ x. BothZero n (first_of rows) (second_of n rows) (place_symbol size blocks x))) long L)

  pub one-limit : (limit r : ℕ) → FreePlaces marks bound 1 p q
      → Limit limit r (λ x. row_sum (length marks) (place_symbol size blocks x) (one_test p (first_of rows) (second_of (length marks) rows)) ≡ 0)
      → CompletableUntil limit r
  one-limit limit r F L =
      limit-map
      (λ x _ z. one-enough m w c good marks bound K long low _ _ FA FB (λ i. A.small _) (λ i. A.small _) p q F (place_symbol size blocks x) (λ _. small _) z)
      (λ x _ C. one-needed m w c good marks bound K long low _ _ FA FB (λ i. A.small _) (λ i. A.small _) p q F (place_symbol size blocks x) (λ _. small _) C)
      (subst (λ n. Limit limit r (λ x. row_sum n (place_symbol size blocks x) (one_test p (first_of rows) (second_of n rows)) ≡ 0)) long L)

  pub two-limit : (limit : ℕ) → FreePlaces marks bound 2 p q → CompletableUntil limit limit
  two-limit limit F =
      limit-none limit _ (λ x _.
      two-enough m w c good marks bound K long low _ _ FA FB (λ i. A.small _) (λ i. A.small _) p q F (place_symbol size blocks x) (λ _. small _))

  pub one-free-at : (after : List ℕ) → FreePlaces marks bound 1 p q
      → OneWritten p (first_of rows) (second_of (length marks) rows) (length marks) size blocks after → FreeWritten m w c size marks bound blocks after
  one-free-at after F W =
      one_free m w c good marks bound K long low _ _ FA FB (λ i. A.small _) (λ i. A.small _) p q F size blocks after small
      (subst (λ n. OneWritten p (first_of rows) (second_of n rows) n size blocks after) long W)

  pub two-free-at : (after : List ℕ) → FreePlaces marks bound 2 p q
      → TwoWritten p (first_of rows) (second_of (length marks) rows) q (length marks) size blocks after → FreeWritten m w c size marks bound blocks after
  two-free-at after F W =
      two-free m w c good marks bound K long low _ _ FA FB (λ i. A.small _) (λ i. A.small _) p q F size blocks after small
      (subst (λ n. TwoWritten p (first_of rows) (second_of n rows) q n size blocks after) long W)
