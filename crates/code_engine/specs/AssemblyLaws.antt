-- The steps put together: the base and the directions that the code makes are a frame, so they find the codeword that agrees.
use Rattle.std.specs.Prelude.{◌≡◌, List, ℕ, zero, ◌+◌, ◌*◌, ◌/◌, ◌%◌, ◌<◌, ◌≤◌}
use Rattle.std.proofs.Common.{sym, ap, ◌∙◌, div-add-mod', mod-lt, div-lt_iff_lt-mul}
use Rattle.std.proofs.Math.Path.{subst}
use Rattle.std.proofs.Math.Bool.{false}
use Rattle.std.proofs.Math.Decide.{ℕ_discrete}
use Rattle.std.proofs.Math.Dec.{eqb}
use Rattle.std.proofs.Math.ListN.{length, get_or}
use Rattle.counting.specs.Count.{count_below}
use Rattle.code.specs.Edition.{Edition}
use Rattle.code.specs.Word.{local_sum, Symbols}
use Rattle.code.specs.Marks.{lost, lost_in}
use Rattle.code.specs.Stretch.{stretch}
use Rattle.code.specs.StretchLaws.{stretch-at, stretch-count, place-cases}
use Rattle.code.specs.Lone.{lone}
use Rattle.code.specs.LoneLaws.{lone-inside, lone-before, lone-after, lone-own, lone-zero}
use Rattle.code_engine.specs.Bound.{free}
use Rattle.code_engine.specs.BoundGroups.{BoundAll}
use Rattle.code_engine.specs.FreePlaces.{FreePlaces, free_at}
use Rattle.code_engine.specs.Frame.{Frame}
use Rattle.code_engine.specs.CandidateSteps.{Blanked, GroupsFilledIn, DirectionIn}

-- the direction of a free place, in the whole word
abbrev pub way_of : ℕ → ℕ → (ℕ → ℕ) → (ℕ → List ℕ) → ℕ → List ℕ
way_of m w f h i = lone m w (f i / w) (h i)

module _ {E : Edition} (m w c : ℕ) (wide : 0 < w) (marks bound word blanked base : List ℕ) (x first second : ℕ) (h : ℕ → List ℕ)
    (word-symbols : Symbols E (m * w) word) (base-symbols : Symbols E (m * w) base) (size : length marks ≡ m * w)
    (K : BoundAll m w c marks bound) (P : FreePlaces marks bound x first second) (B : Blanked marks word blanked) (G : GroupsFilledIn E m w bound blanked base)
    (D : (i : ℕ) → i < x → DirectionIn E w (free_at first second i % w) (stretch w (free_at first second i / w) bound) (h i)) where
  f : ℕ → ℕ
  f i = free_at first second i

  less : (i : ℕ) → i < x → f i < m * w
  unfolding f
  less i k = subst (λ n. f i < n) size (P.less i k)

  group-less : (i : ℕ) → i < x → f i / w < m
  group-less i k = (div-lt_iff_lt-mul wide).1 (less i k)

  own : (i : ℕ) → f i / w * w + f i % w ≡ f i
  own i = div-add-mod' (f i) w

  H : ℕ → List ℕ
  H i = lone m w (f i / w) (h i)

  way-own : (i : ℕ) → i < x → get_or (H i) (f i) 0 ≡ 1
  unfolding H f
  way-own i k =
      subst (λ p. get_or (H i) p 0 ≡ 1) (own i)
      (lone-inside m w (f i / w) (h i) (group-less i k) (D i k).size (f i % w) (mod-lt (f i) wide) ∙ (D i k).own)

  way-off : (i : ℕ) → i < x → (p : ℕ) → p < m * w → lost bound p ≡ false → ¬ (p ≡ f i) → get_or (H i) p 0 ≡ 0
  unfolding H f
  way-off i k =
      place-cases (λ p. p < m * w → lost bound p ≡ false → ¬ (p ≡ f i) → get_or (H i) p 0 ≡ 0) w (f i / w)
      (λ p l _ _ _. lone-before m w (f i / w) (h i) (group-less i k) (D i k).size p l)
      (λ j l _ e n.
      lone-inside m w (f i / w) (h i) (group-less i k) (D i k).size j l
      ∙ (D i k).off j l (ap (λ b. eqb b 1) (stretch-at w (f i / w) bound j l) ∙ e) (λ q. n (ap (λ z. f i / w * w + z) q ∙ own i)))
      (λ p l _ _ _. lone-after m w (f i / w) (h i) (group-less i k) (D i k).size p l)

  way-local : (i : ℕ) → i < x → (g : ℕ) → g < m → (e : ℕ) → e < c → local_sum E w (H i) g e ≡ 0
  unfolding H f
  way-local i k g l e b = elim (ℕ_discrete g (f i / w)) [
    | yes q ↦
        subst (λ a. local_sum E w (H i) a e ≡ 0) (sym q)
        (lone-own m w (f i / w) (h i) (group-less i k) (D i k).size E _
        ∙ (D i k).zero e (subst (λ n. e < n) (sym (stretch-count w (f i / w) bound ∙ all-bound)) b))
    | no n ↦ lone-zero m w (f i / w) (h i) (group-less i k) (D i k).size E g n _
  ]
    where
      all-bound : lost_in w bound (f i / w) ≡ c
      all-bound =
          K.bound-full (f i / w) (f i % w) (group-less i k) (mod-lt (f i) wide) (ap (lost marks) (own i) ∙ P.is_lost i k)
          (ap (lost bound) (own i) ∙ P.not-bound i k)

  pub frame : Frame E m w c marks bound word base x (free_at first second) (way_of m w (free_at first second) h)
  unfolding H f
  frame = record {
    word-symbols = word-symbols;
    base-symbols = base-symbols;
    bound-few = K.bound-few;
    bound-lost = K.bound-lost;
    free-less = less;
    free-lost = P.is_lost;
    free_bound = P.not-bound;
    free-apart = P.apart;
    free_all = λ low p l e q. P.every (subst (λ n. n ≤ 2) (sym (ap (λ n. count_below n (free marks bound)) size ∙ K.free-count)) low) p
        (subst (λ n. p < n) (sym size) l) e q;
    base-present = λ p l e. G.present p (K.bound-lost p l e) ∙ B.present p (in-word p l) e;
    base-free = λ i k. G.present (free_at first second i) (P.not-bound i k)
        ∙ B.zero (free_at first second i) (in-word (free_at first second i) (less i k)) (P.is_lost i k);
    base-local = λ g l e b. G.zero g l e b;
    way-own = way-own;
    way-off = way-off;
    way-local = way-local;
  }
    where
      in-word : (p : ℕ) → p < m * w → p < length word
      in-word p l = subst (λ n. p < n) (sym word-symbols.size) l
