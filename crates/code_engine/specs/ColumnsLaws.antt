-- The columns left for the equations across are independent, where the excess is at most two.
use Rattle.std.specs.Prelude.{◌≡◌, refl, Bool, true, false, not, ◌&&◌, List, [], ℕ, zero, suc, ◌+◌, ◌-◌, ◌*◌, ◌/◌, ◌%◌, ◌<◌, ◌≤◌, eqb, length, get_or}
use Rattle.std.proofs.Common.{sym, ap, ◌∙◌, subst, true≢false, div-add-mod', mod-lt, le_refl, arith, eq-eqb, ne_eqb}
use Rattle.std.proofs.Math.Decide.{dec_lt, ℕ_discrete}
use Rattle.counting.specs.Count.{one, count_below}
use Rattle.counting.specs.CountLaws.{total-zero, total-bump}
use Rattle.code.specs.Edition.{Edition, Sound}
use Rattle.code.specs.Marks.{lost, excess}
use Rattle.code.specs.Blank.{blank}
use Rattle.code.specs.BlankLaws.{blank-at, blank-symbols, blank-group}
use Rattle.code.specs.Stretch.{stretch}
use Rattle.code.specs.StretchLaws.{stretch-at}
use Rattle.code.specs.OneGroup.{LocalWay}
use Rattle.code.specs.OneGroupLaws.{local-way}
use Rattle.code.specs.Limits.{GoodIn}
use Rattle.code.specs.Pair.{pair_at}
use Rattle.code_engine.specs.Bound.{free}
use Rattle.code_engine.specs.BoundGroups.{bound_groups, BoundAll}
use Rattle.code_engine.specs.BoundGroupsLaws.{bound-groups}
use Rattle.code_engine.specs.FreePlaces.{FreePlaces, NextFree, free_at}
use Rattle.code_engine.specs.FreePlacesLaws.{free-none, free_one, free-two}
use Rattle.code_engine.specs.Frame.{Frame}
use Rattle.code_engine.specs.FrameLaws.{ways-independent}
use Rattle.code_engine.specs.CandidateSteps.{DirectionIn}
use Rattle.code_engine.specs.AssemblyLaws.{way_of, frame}
use Rattle.code_engine.specs.Columns.{Left, Independent, ColumnsIndependent}

-- The places that a test passes, each listed once, are as many as the list is long.
pub listed : (n x : ℕ) (f : ℕ → ℕ) (t : ℕ → Bool) → ((i : ℕ) → i < x → f i < n) → ((i : ℕ) → i < x → t (f i) ≡ true)
    → ((i l : ℕ) → i < x → l < x → f i ≡ f l → i ≡ l) → ((p : ℕ) → p < n → t p ≡ true → (i : ℕ) × (i < x) × (p ≡ f i)) → count_below n t ≡ x
listed n zero f t less passes apart every = total-zero n _ (λ p l. go p l (t p) refl)
  where
    go : (p : ℕ) → p < n → (b : Bool) → t p ≡ b → one b ≡ 0
    go p l true e = let z = (every p l e).1 in absurd (omega arith)
    go p l false e = refl
listed n (suc x) f t less passes apart every =
    total-bump n (f x) (λ p. one (t p)) (λ p. one (rest p)) (less x (omega arith)) (λ p _ d. ap one (other p d))
    (ap one (passes x (omega arith)) ∙ ap (λ b. suc (one b)) (sym last))
    ∙ ap suc (listed n x f rest (λ i l. less i (omega arith))
    (λ i l. sym (other (f i) (λ q. let z = apart i x (omega arith) (omega arith) q in omega arith)) ∙ passes i (omega arith))
    (λ i l a b q. apart i l (omega arith) (omega arith) q) (λ p l e. elim (ℕ_discrete p (f x)) [
      | yes q ↦ absurd (true≢false (sym e ∙ ap rest q ∙ last))
      | no d ↦ at p d (every p l (other p d ∙ e))
    ]))
  where
    -- all but the last of the list
    rest : ℕ → Bool
    rest p = not (eqb p (f x)) && t p

    other : (p : ℕ) → ¬ (p ≡ f x) → t p ≡ rest p
    other p d = ap (λ b. not b && t p) (sym (ne_eqb p (f x) d))

    last : rest (f x) ≡ false
    last = ap (λ b. not b && t (f x)) (eq-eqb (f x) (f x) refl)

    at : (p : ℕ) → ¬ (p ≡ f x) → (i : ℕ) × (i < suc x) × (p ≡ f i) → (i : ℕ) × (i < x) × (p ≡ f i)
    at p d s = elim (dec_lt s.0 x) [
      | yes h ↦ (s.0, h, s.2)
      | no h ↦ (let l = s.1 in let e : s.0 ≡ x = omega arith in absurd (d (s.2 ∙ ap f e)))
    ]

pub split : (a b : Bool) → (a && not b) ≡ true → (a ≡ true) × (b ≡ false)
split true true e = absurd (true≢false (sym e))
split true false e = (refl, refl)
split false b e = absurd (true≢false (sym e))

-- ---- there are such columns
-- the next free place, from start on
next : (marks bound : List ℕ) (d start : ℕ) → start + d ≡ length marks → (r : ℕ) × NextFree marks bound start r
next marks bound zero start e = (start, record { on = le_refl start; passed = λ p a b. absurd (omega arith); found = λ l. absurd (omega arith) })
next marks bound (suc d) start e = go (next marks bound d (suc start) (omega arith)) (free marks bound start) refl
  where
    go : (r : ℕ) × NextFree marks bound (suc start) r → (b : Bool) → free marks bound start ≡ b → (r : ℕ) × NextFree marks bound start r
    go N true f = (start, record { on = le_refl start; passed = λ p a b. absurd (omega arith); found = λ _. f })
    go N false f = (
      N.0,
      record {
        on = let o = N.1.on in omega arith;
        passed = λ p a b. elim (ℕ_discrete p start) [
          | yes q ↦ ap (free marks bound) q ∙ f
          | no q ↦ N.1.passed p a (omega arith)
        ];
        found = N.1.found;
      },
    )

module _ {E : Edition} (S : Sound E) (m w c : ℕ) (good : GoodIn E.limits m w c) (marks : List ℕ) (size : length marks ≡ m * w) where
  few : m ≤ S.r
  few = let h = good.few in let k = S.groups-few in omega arith

  narrow : w ≤ E.small
  narrow = let h = good.narrow in let k = S.width_narrow in omega arith

  wide : 0 < w
  wide = let k = good.wide in omega arith

  module _ (bound : List ℕ) (K : BoundAll m w c marks bound) where
    direction : (p : ℕ) → lost bound p ≡ false → (h : List ℕ) × DirectionIn E w (p % w) (stretch w (p / w) bound) h
    direction p e =
        let j = mod-lt p wide in
        let W = local-way E S w wide narrow (stretch w (p / w) bound) (p % w) j
        (ap (λ b. eqb b 1) (stretch-at w (p / w) bound (p % w) j) ∙ ap (lost bound) (div-add-mod' p w) ∙ e) in
        (W.h, record { size = W.symbols.size; own = W.own; off = W.off; zero = W.zero })

    with_none : FreePlaces marks bound 0 0 0 → Left E m w c marks
    with_none P = record { bound = bound; keeps = K; x = 0; first = 0; second = 0; places = P; h = λ _. []; way = λ i l. absurd (omega arith) }

    with-one : (p : ℕ) → FreePlaces marks bound 1 p 0 → Left E m w c marks
    with-one p P = record { bound = bound; keeps = K; x = 1; first = p; second = 0; places = P; h = λ _. D.0; way = way }
      where
        D : (h : List ℕ) × DirectionIn E w (p % w) (stretch w (p / w) bound) h
        D = direction p (P.not-bound 0 (omega arith))

        way : (i : ℕ) → i < 1 → DirectionIn E w (free_at p 0 i % w) (stretch w (free_at p 0 i / w) bound) D.0
        way zero l = D.1
        way (suc i) l = absurd (omega arith)

    with_two : (p q : ℕ) → FreePlaces marks bound 2 p q → Left E m w c marks
    with_two p q P = record { bound = bound; keeps = K; x = 2; first = p; second = q; places = P; h = pair_at D.0 D'.0; way = way }
      where
        D : (h : List ℕ) × DirectionIn E w (p % w) (stretch w (p / w) bound) h
        D = direction p (P.not-bound 0 (omega arith))

        D' : (h : List ℕ) × DirectionIn E w (q % w) (stretch w (q / w) bound) h
        D' = direction q (P.not-bound 1 (omega arith))

        way : (i : ℕ) → i < 2 → DirectionIn E w (free_at p q i % w) (stretch w (free_at p q i / w) bound) (pair_at D.0 D'.0 i)
        way zero l = D.1
        way (suc i) l = D'.1

    left : Left E m w c marks
    left = elim (dec_lt N.0 (length marks)) [
      | yes l ↦
          (let M = next marks bound (length marks - (N.0 + 1)) (N.0 + 1) (omega arith) in
          elim (dec_lt M.0 (length marks)) [
            | yes k ↦ with_two N.0 M.0 (free-two marks bound N.0 N.1 l M.0 M.1 k)
            | no k ↦ with-one N.0 (free_one marks bound N.0 N.1 l M.0 M.1 (omega arith))
          ])
      | no l ↦ with_none (free-none marks bound N.0 N.1 (omega arith))
    ]
      where
        N : (r : ℕ) × NextFree marks bound 0 r
        N = next marks bound (length marks) 0 (omega arith)

  pub some_left : Left E m w c marks
  some_left = left (bound_groups m w c marks) (bound-groups m w c marks size)

  -- ---- they are as many as the excess
  module _ (low : excess m w c marks ≤ 2) where
    count : (L : Left E m w c marks) → L.x ≡ excess m w c marks
    count L =
        let P = L.places in
        let e : count_below (length marks) (free marks L.bound) ≡ excess m w c marks =
        ap (λ n. count_below n (free marks L.bound)) size ∙ L.keeps.free-count in
        sym
        (listed (length marks) L.x (free_at L.first L.second) (free marks L.bound) P.less (λ i l. rw (P.is_lost i l, P.not-bound i l))
        P.apart
        (λ p l f.
        let s = split (lost marks p) (lost L.bound p) f in
        P.every (subst (λ n. n ≤ 2) (sym e) low) p l s.0 s.1))
        ∙ e

  -- ---- and they are independent: the frame of the zero word
  module _ (low : excess m w c marks ≤ 2) where
    independent : (L : Left E m w c marks) → Independent E m w c marks L
    independent L = record {
      only_zero =
          ways-independent E S m w c few wide narrow marks L.bound (blank (m * w)) (blank (m * w)) L.x
          (free_at L.first L.second) (way_of m w (free_at L.first L.second) L.h) F low;
    }
      where
        F : Frame E m w c marks L.bound (blank (m * w)) (blank (m * w)) L.x (free_at L.first L.second)
            (way_of m w (free_at L.first L.second) L.h)
        F = frame m w c wide marks L.bound (blank (m * w)) (blank (m * w)) (blank (m * w)) L.x L.first L.second L.h
            (blank-symbols E (m * w)) (blank-symbols E (m * w)) size L.keeps L.places
            (record { size = refl; present = λ p _ _. refl; zero = λ p _ _. blank-at (m * w) p })
            (record { size = refl; present = λ p _. refl; zero = λ g _ e _. blank-group E (m * w) w g _ }) L.way

    -- "for every good shape and such marks the one or two columns left for the equations across are independent"
    pub columns-independent : ColumnsIndependent E m w c marks
    columns-independent = record { some = some_left; count = count low; independent = independent }
