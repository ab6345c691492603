-- Laws: What holds of a gather whatever the cuts and the order of its stretches.
use Rattle.std.specs.Prelude.{◌≡◌, refl, not, ◌⊎◌, List, [], ◌∷◌, ℕ, zero, suc, ◌+◌, ◌-◌, ◌*◌, ◌<◌, ◌≤◌, length, get_or, replicate}
use Rattle.std.proofs.Common.{sym, ap, ap₂, ◌∙◌, subst, inl, inr, arith, eqb-true, ext_get_or}
use Rattle.std.proofs.Math.Decide.{dec_lt}
use Rattle.std.proofs.lemmas.Bool.{not-false}
use Rattle.std.proofs.lemmas.List.{length-replicate, get_or-replicate}
use Rattle.counting.specs.TestLaws.{none-at}
use Rattle.code.specs.Marks.{lost}
use Rattle.code.specs.LimitsLaws.{places-most}
use Rattle.gather_record.specs.declared.Gather.{Gather}
use Rattle.gather_record.specs.Record.{Whole, gather_places, gathering_by}
use Rattle.gather_take.specs.Take.{some_came, take_refusal, taken, take_of}
use Rattle.gather_take.specs.TakeLaws.{Takeable, take-parts}
use Rattle.gather_finish.specs.Finish.{finish_of}
use Rattle.gather_history.specs.History.{Stretch, take_number, leaves, after_stretches, Unrefused, keep_if, accepted, BringsOne, Brings, SameBrought}
use Rattle.gather_history.specs.StretchOrder.{Gathered, GatheredHolds, StretchOrderHolds, RefusedHolds}
use Rattle.gather_history.specs.PutLaws.{put-length, put_in, put-below, put-above}

-- ---- one stretch

gathering-number : (r : ℕ) (new old : Gather) → (gathering_by r new old).number ≡ r
gathering-number zero new old = refl
gathering-number (suc r) new old = refl

gathering-done : (r : ℕ) (new old : Gather) → r ≡ 0 → (gathering_by r new old).gather ≡ new
gathering-done r new old e = ap (λ n. (gathering_by n new old).gather) e

gathering-kept : (r : ℕ) (new old : Gather) (n : ℕ) → (gathering_by r new old).number ≡ suc n → (gathering_by r new old).gather ≡ old
gathering-kept zero new old n e = let z : 0 ≡ suc n = e in absurd (omega arith)
gathering-kept (suc r) new old n e = refl

module _ (s : Stretch) (g : Gather) where
  pub number_is : take_number s g ≡ take_refusal s.first (length s.bytes) g
  unfolding take_of
  number_is = gathering-number (take_refusal s.first (length s.bytes) g) (taken s.first s.bytes g) g

  -- a refused stretch changes nothing
  pub leaves-same : (n : ℕ) → take_number s g ≡ suc n → leaves s g ≡ g
  unfolding take_of
  leaves-same n e = gathering-kept (take_refusal s.first (length s.bytes) g) (taken s.first s.bytes g) g n e

  module _ (e : take_number s g ≡ 0) where
    pub takeable : Takeable s.first (length s.bytes) g
    takeable = take-parts s.first (length s.bytes) g (sym number_is ∙ e)

    pub leaves-taken : leaves s g ≡ taken s.first s.bytes g
    unfolding take_of
    leaves-taken = gathering-done (take_refusal s.first (length s.bytes) g) (taken s.first s.bytes g) g (sym number_is ∙ e)

-- what one stretch that is not refused does to each place
pub record Stretched (s : Stretch) (before now : Gather) : Type 0 where
  pub m-same : now.m ≡ before.m
  pub w-same : now.w ≡ before.w
  pub c-same : now.c ≡ before.c
  pub finished-same : now.finished ≡ before.finished
  pub whole : Whole now
  pub new : (i : ℕ) → i < length s.bytes → get_or before.marks (s.first + i) 0 ≡ 1
  pub inner : (i : ℕ) → i < length s.bytes → (get_or now.bytes (s.first + i) 0 ≡ get_or s.bytes i 0) × (get_or now.marks (s.first + i) 0 ≡ 0)
  pub outer : (p : ℕ) → (p < s.first) ⊎ (s.first + length s.bytes ≤ p)
      → (get_or now.bytes p 0 ≡ get_or before.bytes p 0) × (get_or now.marks p 0 ≡ get_or before.marks p 0)

pub stretched : (s : Stretch) (g : Gather) → Whole g → take_number s g ≡ 0 → Stretched s g (leaves s g)
unfolding taken some_came
stretched s g W e = subst (Stretched s g) (sym (leaves-taken s g e)) (record {
  m-same = refl;
  w-same = refl;
  c-same = refl;
  finished-same = refl;
  whole = record { bytes-long = put-length f b g.bytes fb ∙ W.bytes-long; marks-long = put-length f z g.marks fz ∙ W.marks-long };
  new = λ i l. eqb-true _ _ (not-false _ (none-at (length b) (λ i. not (lost g.marks (f + i))) t.new i l));
  inner = λ i l. (put_in f b g.bytes fb i l, put_in f z g.marks fz i (omega (arith, zl)) ∙ get_or-replicate (length b) i 0 0 l);
  outer = λ p h. elim h [
    | inl l ↦ (put-below f b g.bytes fb p l, put-below f z g.marks fz p l)
    | inr l ↦ (put-above f b g.bytes fb p l, put-above f z g.marks fz p (omega (arith, zl)))
  ];
})
  where
    f : ℕ
    f = s.first

    b : List ℕ
    b = s.bytes

    z : List ℕ
    z = replicate (length s.bytes) 0

    t : Takeable s.first (length s.bytes) g
    t = takeable s g e

    zl : length z ≡ length b
    zl = length-replicate (length b) 0

    room : f + length b ≤ 240
    room = let k = places-most t.opened.good in omega (arith, t.inside)

    fb : f + length b ≤ length g.bytes
    fb = omega (arith, room, W.bytes-long)

    fz : f + length z ≤ length g.marks
    fz = omega (arith, room, zl, W.marks-long)

-- whether a place lies inside the stretch
pub inside-or : (s : Stretch) (p : ℕ) → ((i : ℕ) × (i < length s.bytes) × (p ≡ s.first + i)) ⊎ ((p < s.first) ⊎ (s.first + length s.bytes ≤ p))
inside-or s p = elim (dec_lt p s.first) [
  | yes l ↦ inr (inl l)
  | no h ↦ elim (dec_lt p (s.first + length s.bytes)) [
    | yes l ↦ (let d : s.first ≤ p = omega arith in inl (p - s.first, omega arith, omega arith))
    | no l ↦ inr (inr (omega arith))
  ]
]

-- a place that came stays so, with its byte
module _ (s : Stretch) (g h : Gather) (S : Stretched s g h) where
  came-stays : (p : ℕ) → get_or g.marks p 0 ≡ 0 → (get_or h.bytes p 0 ≡ get_or g.bytes p 0) × (get_or h.marks p 0 ≡ 0)
  came-stays p z = elim (inside-or s p) [
    | inl w ↦ (let k : get_or g.marks p 0 ≡ 1 = subst (λ q. get_or g.marks q 0 ≡ 1) (sym w.2) (S.new w.0 w.1) in absurd (omega arith))
    | inr o ↦ ((S.outer p o).0, (S.outer p o).1 ∙ z)
  ]

  -- and no stretch that is not refused brings it again
  came-once : (p x : ℕ) → get_or g.marks p 0 ≡ 0 → BringsOne p x s → ⊥
  came-once p x z b =
      let k : get_or g.marks p 0 ≡ 1 = subst (λ q. get_or g.marks q 0 ≡ 1) (sym b.place) (S.new b.index b.inside) in
      omega arith

-- ---- a list of stretches

came-list : (ss : List Stretch) (g : Gather) → Whole g → Unrefused ss g → (p : ℕ) → get_or g.marks p 0 ≡ 0 → (x : ℕ) → Brings p x ss → ⊥
unfolding Brings Unrefused
came-list [] g W u p z x b = b
came-list (s ∷ ss) g W u p z x b =
    let S = stretched s g W u.0 in
    elim b [
      | inl one ↦ came-once s g (leaves s g) S p x z one
      | inr rest ↦ came-list ss (leaves s g) S.whole u.1 p (came-stays s g (leaves s g) S p z).1 x rest
    ]

-- what comes lies below n
pub brought-inside : (ss : List Stretch) (g : Gather) → Whole g → Unrefused ss g → (p x : ℕ) → Brings p x ss → p < gather_places g
unfolding Brings Unrefused
brought-inside [] g W u p x b = absurd b
brought-inside (s ∷ ss) g W u p x b =
    let S = stretched s g W u.0 in
    elim b [
      | inl one ↦ omega (arith, (takeable s g u.0).inside, one.place, one.inside)
      | inr rest ↦ subst (λ n. p < n) (ap₂ (λ a b. a * b) S.m-same S.w-same) (brought-inside ss (leaves s g) S.whole u.1 p x rest)
    ]

-- the record after the list is given by what came, and by nothing else
pub gathered : GatheredHolds
unfolding after_stretches Unrefused Brings
gathered [] g W u = record {
  m-same = refl;
  w-same = refl;
  c-same = refl;
  finished-same = refl;
  whole = W;
  came = λ p x b. absurd b;
  other = λ p n. (refl, refl);
}
gathered (s ∷ ss) g W u =
    let S = stretched s g W u.0 in
    let G = gathered ss (leaves s g) S.whole u.1 in
    record {
      m-same = G.m-same ∙ S.m-same;
      w-same = G.w-same ∙ S.w-same;
      c-same = G.c-same ∙ S.c-same;
      finished-same = G.finished-same ∙ S.finished-same;
      whole = G.whole;
      came = λ p x b. elim b [
        | inl one ↦ first-came s ss g W u S G p x one
        | inr rest ↦ G.came p x rest
      ];
      other = λ p n. elim (inside-or s p) [
        | inl w ↦ absurd (n (get_or s.bytes w.0 0) (inl (record { index = w.0; inside = w.1; place = w.2; byte = refl })))
        | inr o ↦ (let q = G.other p (λ x b. n x (inr b)) in (q.0 ∙ (S.outer p o).0, q.1 ∙ (S.outer p o).1))
      ];
    }
  where
    first-came : (s : Stretch) (ss : List Stretch) (g : Gather) → Whole g → Unrefused (s ∷ ss) g → Stretched s g (leaves s g)
        → Gathered ss (leaves s g) (after_stretches ss (leaves s g))
        → (p x : ℕ) → BringsOne p x s → (get_or (after_stretches ss (leaves s g)).bytes p 0 ≡ x) × (get_or (after_stretches ss (leaves s g)).marks p 0 ≡ 0)
    first-came s ss g W u S G p x one =
        let b : get_or (leaves s g).bytes p 0 ≡ x
        = ap (λ q. get_or (leaves s g).bytes q 0) one.place ∙ (S.inner one.index one.inside).0 ∙ one.byte in
        let k : get_or (leaves s g).marks p 0 ≡ 0
        = ap (λ q. get_or (leaves s g).marks q 0) one.place ∙ (S.inner one.index one.inside).1 in
        let q = G.other p (came-list ss (leaves s g) S.whole u.1 p k) in
        (q.0 ∙ b, q.1 ∙ k)

-- what a list brings to a place, or that it brings nothing there
pub brought-or : (p : ℕ) (ss : List Stretch) → ((x : ℕ) × Brings p x ss) ⊎ ((x : ℕ) → Brings p x ss → ⊥)
unfolding Brings
brought-or p [] = inr (λ x b. b)
brought-or p (s ∷ ss) = elim (inside-or s p) [
  | inl w ↦ inl (get_or s.bytes w.0 0, inl (record { index = w.0; inside = w.1; place = w.2; byte = refl }))
  | inr o ↦ elim (brought-or p ss) [
    | inl b ↦ inl (b.0, inr b.1)
    | inr n ↦ inr (λ x b. elim b [ inl one ↦ out s p x o one | inr rest ↦ n x rest ])
  ]
]
  where
    out : (s : Stretch) (p x : ℕ) → (p < s.first) ⊎ (s.first + length s.bytes ≤ p) → BringsOne p x s → ⊥
    out s p x (inl l) one = omega (arith, one.place, one.inside)
    out s p x (inr l) one = omega (arith, one.place, one.inside)

gather-path : (m₁ m₂ w₁ w₂ c₁ c₂ f₁ f₂ : ℕ) (b₁ b₂ k₁ k₂ : List ℕ) → m₁ ≡ m₂ → w₁ ≡ w₂ → c₁ ≡ c₂ → f₁ ≡ f₂ → b₁ ≡ b₂ → k₁ ≡ k₂
    → ◌≡◌ {A = Gather} (record { m = m₁; w = w₁; c = c₁; finished = f₁; bytes = b₁; marks = k₁ })
    (record { m = m₂; w = w₂; c = c₂; finished = f₂; bytes = b₂; marks = k₂ })
gather-path m₁ m₂ w₁ w₂ c₁ c₂ f₁ f₂ b₁ b₂ k₁ k₂ em ew ec ef eb ek = cc

-- two lists none of whose stretches is refused, and that bring the same bytes to the same places, leave the same record
pub same-record : (ss us : List Stretch) (g : Gather) → Whole g → Unrefused ss g → Unrefused us g → SameBrought ss us
    → after_stretches ss g ≡ after_stretches us g
same-record ss us g W u v B =
    let S = gathered ss g W u in
    let U = gathered us g W v in
    gather-path _ _ _ _ _ _ _ _ _ _ _ _
    (S.m-same ∙ sym U.m-same) (S.w-same ∙ sym U.w-same) (S.c-same ∙ sym U.c-same) (S.finished-same ∙ sym U.finished-same)
    (ext_get_or 0 (after_stretches ss g).bytes (after_stretches us g).bytes (S.whole.bytes-long ∙ sym U.whole.bytes-long) (λ p _. (at S U p).0))
    (ext_get_or 0 (after_stretches ss g).marks (after_stretches us g).marks (S.whole.marks-long ∙ sym U.whole.marks-long) (λ p _. (at S U p).1))
  where
    at : Gathered ss g (after_stretches ss g) → Gathered us g (after_stretches us g) → (p : ℕ)
        → (get_or (after_stretches ss g).bytes p 0 ≡ get_or (after_stretches us g).bytes p 0)
        × (get_or (after_stretches ss g).marks p 0 ≡ get_or (after_stretches us g).marks p 0)
    at S U p = elim (brought-or p ss) [
      | inl b ↦ (
          let q = S.came p b.0 b.1 in
          let r = U.came p b.0 (B.forth p b.0 b.1) in
          (q.0 ∙ sym r.0, q.1 ∙ sym r.1)
          )
      | inr n ↦ (
          let q = S.other p n in
          let r = U.other p (λ x b. n x (B.back p x b)) in
          (q.0 ∙ sym r.0, q.1 ∙ sym r.1)
          )
    ]

-- cuts and order make no difference
pub order : StretchOrderHolds
order ss us g W u v B =
    let e = same-record ss us g W u v B in
    (e, λ word. ap (finish_of word) e)

-- ---- refused stretches

-- a list leaves what it leaves without its refused stretches
pub refused-nothing : RefusedHolds
unfolding after_stretches accepted Unrefused
refused-nothing [] g = (refl, tt)
refused-nothing (s ∷ ss) g = go (take_number s g) refl (refused-nothing ss (leaves s g))
  where
    go : (r : ℕ) → take_number s g ≡ r
        → (after_stretches ss (leaves s g) ≡ after_stretches (accepted ss (leaves s g)) (leaves s g)) × Unrefused (accepted ss (leaves s g)) (leaves s g)
        → (after_stretches ss (leaves s g) ≡ after_stretches (keep_if r s (accepted ss (leaves s g))) g) × Unrefused (keep_if r s (accepted ss (leaves s g))) g
    go zero e ih = (ih.0, (e, ih.1))
    go (suc r) e ih =
        let k = leaves-same s g r e in
        (ih.0 ∙ ap (after_stretches (accepted ss (leaves s g))) k, subst (Unrefused (accepted ss (leaves s g))) k ih.1)
