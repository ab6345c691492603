-- The whole: the candidate has the present symbols, and is the only codeword that can agree with them.
use Rattle.std.specs.Prelude.{◌≡◌, refl, Bool, true, false, not, ◌&&◌, List, [], ℕ, zero, suc, ◌+◌, ◌*◌, ◌/◌, ◌%◌, ◌^◌, ◌<◌, ◌≤◌, T, eqb, length, get_or}
use Rattle.std.proofs.Common.{sym, ap, ap₂, ◌∙◌, subst, le_refl, mul-le-mul_right, arith, ext_get_or}
use Rattle.counting.specs.Test.{any_below}
use Rattle.counting.specs.TestLaws.{any_at, none-at}
use Rattle.binary_field.specs.Xor.{◌⊕◌}
use Rattle.binary_field.specs.XorLaws.{⊕-zero-r, ⊕-self}
use Rattle.binary_field.specs.ProductLaws.{product-zero}
use Rattle.binary_field.specs.SumLaws.{sum-zero}
use Rattle.code.specs.Edition.{Edition, Sound, times}
use Rattle.code.specs.Word.{local_sum, Symbols}
use Rattle.code.specs.WordLaws.{local-zero, zero-local}
use Rattle.code.specs.Marks.{lost, lost_in, excess}
use Rattle.code.specs.DeterminedLaws.{local-unique}
use Rattle.code.specs.FillingLaws.{filling-symbols}
use Rattle.code.specs.Recovery.{Agrees}
use Rattle.code.specs.Repair.{Satisfies}
use Rattle.code.specs.Stretch.{stretch}
use Rattle.code.specs.StretchLaws.{stretch-at, stretch-below, stretch-length, stretch-lost, stretch-sum, stretch-count, own-place}
use Rattle.code.specs.Combined.{combined}
use Rattle.code.specs.CombinedLaws.{combined-at, combined-group, place-less}
use Rattle.code.specs.Limits.{GoodIn}
use Rattle.code.specs.Pair.{pair_at}
use Rattle.code_engine.specs.Bound.{free}
use Rattle.code.specs.Lone.{lone}
use Rattle.code_engine.specs.BoundGroups.{BoundAll}
use Rattle.code_engine.specs.FreePlaces.{FreePlaces, free_at}
use Rattle.code_engine.specs.Frame.{Frame}
use Rattle.code_engine.specs.FrameLaws.{ways-present}
use Rattle.code_engine.specs.CandidateSteps.{Blanked, GroupsFilledIn, DirectionIn}
use Rattle.code_engine.specs.AssemblyLaws.{way_of, frame}
use Rattle.code_engine.specs.SolvedLaws.{combined-length, combined-cong, combined-none, combined-two, found_none, found-one, found-two}
use Rattle.code_engine.specs.WeightsLaws.{few-at, word_lt, first-weight}
use Rattle.code_engine.specs.Mended.{MendedOneIn, MendedTwoIn, MendedIn, IsCandidateIn}

-- a free place is lost and not bound
free-parts : (marks bound : List ℕ) (p : ℕ) → T (free marks bound p) → (lost marks p ≡ true) × (lost bound p ≡ false)
free-parts marks bound p t = go (lost marks p) (lost bound p) refl refl t
  where
    go : (a b : Bool) → lost marks p ≡ a → lost bound p ≡ b → T (a && not b) → (lost marks p ≡ true) × (lost bound p ≡ false)
    go true false e f t = (e, f)
    go true true e f t = absurd t
    go false b e f t = absurd t

no-free : (marks bound : List ℕ) (p : ℕ) → free marks bound p ≡ false → lost bound p ≡ false → lost marks p ≡ false
no-free marks bound p n e = go (lost marks p) refl
  where
    go : (a : Bool) → lost marks p ≡ a → a ≡ false
    go true d = sym (ap₂ (λ a b. a && not b) d e) ∙ n
    go false d = refl

module _ {E : Edition} (S : Sound E) (m w c : ℕ) (good : GoodIn E.limits m w c) (marks bound word blanked base out : List ℕ)
    (word-symbols : Symbols E (m * w) word) (base-symbols : Symbols E (m * w) base) (size : length marks ≡ m * w)
    (K : BoundAll m w c marks bound) (B : Blanked marks word blanked) (G : GroupsFilledIn E m w bound blanked base) where
  few : m ≤ S.r
  few = let h = good.few in let k = S.groups-few in omega arith

  narrow : w ≤ E.small
  narrow = let h = good.narrow in let k = S.width_narrow in omega arith

  wide : 0 < w
  wide = let k = good.wide in omega arith

  -- ---- a group that some filling satisfies
  module _ (g : ℕ) (l : g < m) (y : List ℕ) (Y : Satisfies E w c (stretch w g marks) (stretch w g word) y) where
    part_length : (xs : List ℕ) → length xs ≡ m * w → length (stretch w g xs) ≡ w
    part_length xs e = stretch-length w g xs (subst (λ n. suc g * w ≤ n) (sym e) (mul-le-mul_right w l))

    y-length : length y ≡ w
    y-length = Y.fills.size ∙ part_length word word-symbols.size

    -- where no place of the group is free, the base has the filling there
    base-filled : ((j : ℕ) → j < w → lost bound (g * w + j) ≡ false → lost marks (g * w + j) ≡ false) → stretch w g base ≡ y
    base-filled none =
        ext_get_or 0 (stretch w g base) y (part_length base base-symbols.size ∙ sym y-length) λ j h.
        let k : j < w = subst (λ n. j < n) (part_length base base-symbols.size) h in
        subst (λ n. get_or (stretch w g base) n 0 ≡ get_or y n 0) (own-place w j)
        (local-unique E S w (lost_in w bound g) 0 wide narrow (stretch w g bound) (stretch w g base) y
        (stretch-below w g base (2 ^ E.bits) base-symbols.each)
        (filling-symbols E w (stretch w g marks) (stretch w g word) y
        (record { size = part_length word word-symbols.size; each = stretch-below w g word (2 ^ E.bits) word-symbols.each }) Y.fills).each
        (λ e i. stretch-sum E w g base _ ∙ G.zero g l e i ∙ sym (local-zero E w c y 0 Y.passes e (let q = K.bound-few g l in omega arith)))
        (λ i b e. subst (λ n. get_or (stretch w g base) n 0 ≡ get_or y n 0) (sym (own-place w i)) (present i b (sym (stretch-lost w g bound i b) ∙ e)))
        (subst (λ n. n ≤ lost_in w bound g) (sym (stretch-count w g bound)) (le_refl (lost_in w bound g))) j k)
      where
        in-word : (i : ℕ) → i < w → g * w + i < length word
        in-word i b = subst (λ n. g * w + i < n) (sym word-symbols.size) (place-less m w g i l b)

        present : (i : ℕ) → i < w → lost bound (g * w + i) ≡ false → get_or (stretch w g base) i 0 ≡ get_or y i 0
        present i b e =
            stretch-at w g base i b ∙ G.present (g * w + i) e ∙ B.present (g * w + i) (in-word i b) (none i b e) ∙ sym (stretch-at w g word i b)
            ∙ sym (Y.fills.present i (subst (λ n. i < n) (sym (part_length word word-symbols.size)) b)
            (ap (λ b. eqb b 1) (stretch-at w g marks i b) ∙ none i b e))

    base-local : (e : ℕ) → e < c → local_sum E w base g e ≡ 0
    base-local e h = go (any_below w (λ j. free marks bound (g * w + j))) refl
      where
        go : (v : Bool) → any_below w (λ j. free marks bound (g * w + j)) ≡ v → local_sum E w base g e ≡ 0
        go true t =
            let a = any_at w (λ j. free marks bound (g * w + j)) (subst T (sym t) tt) in
            let f = free-parts marks bound (g * w + a.0) a.2 in
            G.zero g l e (subst (λ n. e < n) (sym (K.bound-full g a.0 l a.1 f.0 f.1)) h)
        go false t =
            sym (stretch-sum E w g base _)
            ∙ ap (λ s. local_sum E w s 0 e) (base-filled (λ j b q. no-free marks bound (g * w + j) (none-at w (λ j. free marks bound (g * w + j)) t j b) q))
            ∙ local-zero E w c y 0 Y.passes e h

  -- from a frame and multiples that give the codeword
  of-frame : (x : ℕ) (f : ℕ → ℕ) (H : ℕ → List ℕ) (u : ℕ → ℕ) → Frame E m w c marks bound word base x f H → out ≡ combined E (m * w) base x u H
      → (excess m w c marks ≤ 2 → (y : List ℕ) → Agrees E m w c marks word y → combined E (m * w) base x u H ≡ y) → IsCandidateIn E m w c marks word out
  of-frame x f H u F is only = record {
    size = ap length is ∙ combined-length E (m * w) x base u H;
    present = λ p l e.
        ap (λ s. get_or s p 0) is ∙ combined-at E m w x base u H p l
        ∙ ap₂ ◌⊕◌ (F.base-present p l e) (ways-present E S m w c few wide narrow marks bound word base x f H F u p l e)
        ∙ ⊕-zero-r (get_or word p 0);
    only = λ low y A. is ∙ only low y A;
    satisfied = λ g l y Y. zero-local E w c out g (λ e h.
        ap (λ s. local_sum E w s g e) is ∙ combined-group E m w x base u H g _ l
        ∙ ap₂ ◌⊕◌ (base-local g l y Y e h) (sum-zero x _ (λ i k. ap (times E (u i)) (F.way-local i k g l e h) ∙ product-zero E.bits E.poly (u i)))
        ∙ ⊕-self 0);
  }

  module _ (p q : ℕ) where
    with_none : FreePlaces marks bound 0 p q → out ≡ base → IsCandidateIn E m w c marks word out
    with_none P e =
        of-frame 0 (free_at p q) (way_of m w (free_at p q) (λ _. [])) (λ _. 0) F (e ∙ sym same)
        (λ low y A. same ∙ found_none E S m w c few wide narrow marks bound word base _ _ low y A F)
      where
        F : Frame E m w c marks bound word base 0 (free_at p q) (way_of m w (free_at p q) (λ _. []))
        F = frame m w c wide marks bound word blanked base 0 p q (λ _. []) word-symbols base-symbols size K P B G (λ i l. absurd (omega arith))

        same : combined E (m * w) base 0 (λ _. 0) (way_of m w (free_at p q) (λ _. [])) ≡ base
        same = combined-none E m w base _ _ base-symbols.size

    with-one : FreePlaces marks bound 1 p q → MendedOneIn E m w c p bound base out → IsCandidateIn E m w c marks word out
    with-one P M =
        of-frame 1 (free_at p q) H (λ _. M.u) F (M.is ∙ combined-cong E (m * w) base 1 (λ _ _. refl) (λ i l. ways i l))
        (λ low y A. found-one E S m w c few wide narrow marks bound word base _ H low y A F M.u (word_lt E m w _ _)
        (first-weight S m w c good bound p (subst (λ n. p < n) size (P.less 0 (omega arith))) (few-at wide K P size 0 (omega arith)) M.h M.way)
        M.solved)
      where
        H : ℕ → List ℕ
        H = way_of m w (free_at p q) (λ _. M.h)

        ways : (i : ℕ) → i < 1 → lone m w (p / w) M.h ≡ H i
        ways zero l = refl
        ways (suc i) l = absurd (omega arith)

        D : (i : ℕ) → i < 1 → DirectionIn E w (free_at p q i % w) (stretch w (free_at p q i / w) bound) M.h
        D zero l = M.way
        D (suc i) l = absurd (omega arith)

        F : Frame E m w c marks bound word base 1 (free_at p q) H
        F = frame m w c wide marks bound word blanked base 1 p q (λ _. M.h) word-symbols base-symbols size K P B G D

    with_two : FreePlaces marks bound 2 p q → MendedTwoIn E m w c p q bound base out → IsCandidateIn E m w c marks word out
    with_two P M =
        of-frame 2 (free_at p q) H (pair_at M.u M.v) F
        (M.second ∙ ap (λ s. combined E (m * w) s 1 (λ _. M.v) (λ _. H 1)) M.first ∙ combined-two E m w base M.u M.v H)
        (λ low y A. found-two E S m w c few wide narrow marks bound word base _ H low y A F M.u M.v M.solved)
      where
        h : ℕ → List ℕ
        h = pair_at M.h₁ M.h₂

        H : ℕ → List ℕ
        H = way_of m w (free_at p q) h

        D : (i : ℕ) → i < 2 → DirectionIn E w (free_at p q i % w) (stretch w (free_at p q i / w) bound) (h i)
        D zero l = M.way₁
        D (suc zero) l = M.way₂
        D (suc (suc i)) l = absurd (omega arith)

        F : Frame E m w c marks bound word base 2 (free_at p q) H
        F = frame m w c wide marks bound word blanked base 2 p q h word-symbols base-symbols size K P B G D

  -- what is mended is the candidate
  pub is-candidate : MendedIn E m w c marks bound base out → IsCandidateIn E m w c marks word out
  is-candidate (MendedIn.none {p} {q} P e) = with_none p q P e
  is-candidate (MendedIn.one {p} {q} P M) = with-one p q P M
  is-candidate (MendedIn.two {p} {q} P M) = with_two p q P M
