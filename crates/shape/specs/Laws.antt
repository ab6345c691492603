-- The laws of a shape, by which whoever uses one goes.
use Rattle.std.proofs.Math.Path.{◌≡◌, refl, ap, subst}
use Rattle.std.proofs.Common.{sym, ◌∙◌, mul-le-mul}
use Rattle.std.specs.Prelude.{◌↔◌, ◌⊎◌, Bool, not, ◌||◌, [], Result, Ok, Err}
use Rattle.std.proofs.Math.Logic.{inl, inr}
use Rattle.std.proofs.Math.Bool.{true, false}
use Prim.Native.Nat.{ℕ, zero, suc, ◌+◌, ◌-◌, ◌*◌, ◌≤◌}
use native.Mathlib.Omega.{arith}
use borrow.Author.Tests.{eqb-true, eqb-false, ltb-false, le-ltb}
use Rattle.std.proofs.Math.Dec.{eqb, ltb}
use Rattle.code.specs.Limits.{Limits, place_count, data_count, GoodIn, shape_refusal_in, retired_refusal, SoldIn, sale_refusal_in, word_refusal_in, buffer_refusal_in}
use Rattle.code.specs.LimitsLaws.{or-none, good-of-refusal, refusal-of-sold, retired-of-good}
use Rattle.answers.specs.Figures.{described_in, figures_in}
use Rattle.shape.specs.declared.Shape.{Shape}
use Rattle.answers.specs.declared.Refusal.{Refusal}
use Rattle.answers.specs.Answers.{refusal_number}
use Rattle.answers.specs.AnswersLaws.{refusal-some, given-refused, given-number, else-first}
use Rattle.answers.specs.PlainLaws.{shape-plain}
use Rattle.code.specs.Refusals.{refuse, ◌or_else◌}
use Rattle.code.specs.RefusalsLaws.{refuse-zero, refuse-most, or_else-zero, or_else-most, or_else-then, unless-refused}
use Rattle.shape.specs.Shapes.{made_of, made_at, made_number}
use Rattle.shape.specs.Shapes.{byte_limits}

-- fifteen groups of sixteen places fit
pub places-fit : {m w : ℕ} → m ≤ 15 → w ≤ 16 → m * w ≤ 240
places-fit few narrow = mul-le-mul few narrow

-- "Good: m from 1 to 15, c from 1 to 4, w from c+2 to 16, and k = m(w−c)−2 at least 1": that is enough
pub good-of-bounds : {m w c : ℕ} → 1 ≤ m → m ≤ 15 → 1 ≤ c → c ≤ 4 → c + 2 ≤ w → w ≤ 16 → 3 ≤ m * (w - c) → GoodIn byte_limits m w c
good-of-bounds some few checked few-checks wide narrow room =
    record { some = some; few = few; checked = checked; few-checks = few-checks; wide = wide; narrow = narrow; room = room; fits = places-fit few narrow }

-- of bytes: the places are enough for fifteen groups of sixteen, so the numbers of these refusals are 1 to 4
module _ (m w c : ℕ) where
  pub shape-most : shape_refusal_in byte_limits m w c ≤ 4
  unfolding shape_refusal_in
  shape-most =
      or_else-then 4 (refuse 1 (eqb m 0 || ltb 15 m)) _ (refuse-most 4 1 (eqb m 0 || ltb 15 m) (omega arith)) λ z₁.
      or_else-then 4 (refuse 2 (eqb c 0 || ltb 4 c)) _ (refuse-most 4 2 (eqb c 0 || ltb 4 c) (omega arith)) λ _.
      or_else-then 4 (refuse 3 (ltb w (c + 2) || ltb 16 w)) _ (refuse-most 4 3 (ltb w (c + 2) || ltb 16 w) (omega arith)) λ z₃.
      or_else-then 4 (refuse 4 (eqb (data_count m w c) 0)) _ (refuse-most 4 4 (eqb (data_count m w c) 0) (omega arith)) λ _.
      let few : m ≤ 15 = ltb-false 15 m (or-none (eqb m 0) (ltb 15 m) (refuse-zero 0 (eqb m 0 || ltb 15 m) z₁)).1 in
      let narrow : w ≤ 16 = ltb-false 16 w (or-none (ltb w (c + 2)) (ltb 16 w) (refuse-zero 2 (ltb w (c + 2) || ltb 16 w) z₃)).1 in
      subst (λ b. refuse 26 b ≤ 4) (sym (le-ltb 240 (m * w) (places-fit few narrow))) (omega arith)

  pub word-most : (lent : ℕ) → word_refusal_in byte_limits m w c lent ≤ 5
  unfolding word_refusal_in
  word-most lent = or_else-most 5 (shape_refusal_in byte_limits m w c) _ (let h = shape-most in omega arith)
      (refuse-most 5 5 (not (eqb lent (place_count m w))) (omega arith))

-- of bytes: what is sold, and 29 comes after 1 to 4
module _ (m w c : ℕ) where
  pub sold-of-refusal : sale_refusal_in byte_limits m w c ≡ 0 → SoldIn byte_limits m w c
  unfolding sale_refusal_in retired_refusal
  sold-of-refusal e =
      let z = or_else-zero _ _ e in
      let g = good-of-refusal m w c z.0 in
      let n = eqb-false c 4 (refuse-zero 28 _ z.1) in
      record { good = g; few-checks = omega arith }

  pub sale-iff : (sale_refusal_in byte_limits m w c ≡ 0) ↔ SoldIn byte_limits m w c
  sale-iff = (sold-of-refusal, refusal-of-sold m w c)

  pub sale-unshaped : (r : ℕ) → shape_refusal_in byte_limits m w c ≡ suc r → sale_refusal_in byte_limits m w c ≡ suc r
  unfolding sale_refusal_in
  sale-unshaped r e = simp e

  -- 29 is given to these alone
  pub retired-exactly : (sale_refusal_in byte_limits m w c ≡ 29) ↔ (GoodIn byte_limits m w c × (c ≡ 4))
  unfolding sale_refusal_in retired_refusal
  retired-exactly = (go (shape_refusal_in byte_limits m w c) refl (eqb c 4) refl, λ p. retired-of-good m w c p.0 p.1)
    where
      go : (r : ℕ) → shape_refusal_in byte_limits m w c ≡ r → (b : Bool) → eqb c 4 ≡ b → (r or_else refuse 29 b) ≡ 29 → GoodIn byte_limits m w c × (c ≡ 4)
      go zero e true f q = (good-of-refusal m w c e, eqb-true c 4 f)
      go zero e false f q = absurd (omega arith)
      go (suc r) e b f q = let h = shape-most m w c in let k : suc r ≡ 29 = q in absurd (omega arith)

  -- the numbers of these refusals
  pub sale-numbers : (sale_refusal_in byte_limits m w c ≤ 4) ⊎ (sale_refusal_in byte_limits m w c ≡ 29)
  unfolding sale_refusal_in retired_refusal
  sale-numbers = go (shape_refusal_in byte_limits m w c) (eqb c 4) (shape-most m w c)
    where
      go : (r : ℕ) (b : Bool) → r ≤ 4 → ((r or_else refuse 29 b) ≤ 4) ⊎ ((r or_else refuse 29 b) ≡ 29)
      go zero true l = inr refl
      go zero false l = inl l
      go (suc r) b l = inl l

-- the places of a good shape fit a machine's word in every edition
pub places-small : {L : Limits} {m w c : ℕ} → GoodIn L m w c → L.groups ≤ 255 → L.width ≤ 256 → m * w ≤ 65280
places-small {m} {w} g few narrow =
    let a : m ≤ 255 = omega (arith, g.few) in
    let b : w ≤ 256 = omega (arith, g.narrow) in
    mul-le-mul a b

-- what Describe answers of a bad shape, in any edition
pub described-refused : (L : Limits) (m w c : ℕ) (e : Refusal) → refusal_number e ≡ shape_refusal_in L m w c
    → (Err e ≡ described_in L m w c) × ([] ≡ figures_in L m w c)
unfolding described_in figures_in
described-refused L m w c e n =
    (sym (given-refused _ n (shape-plain L m w c)), sym (unless-refused _ _ _ (λ z. refusal-some e (n ∙ z))))

-- s is the good shape of m, w and c
pub record Shaped (s : Shape) (m w c : ℕ) : Type 0 where
  pub groups : s.m ≡ m
  pub width : s.w ≡ w
  pub checks : s.c ≡ c
  pub good : GoodIn byte_limits m w c

module _ (m w c : ℕ) where
  pub made-number : made_number (made_of m w c) ≡ shape_refusal_in byte_limits m w c
  unfolding made_of
  made-number = given-number _ _ (shape-plain byte_limits m w c).0

  pub shaped : (s : Shape) → made_of m w c ≡ Ok s → Shaped s m w c
  unfolding made_of
  shaped s = go (shape_refusal_in byte_limits m w c) refl
    where
      go : (r : ℕ) → shape_refusal_in byte_limits m w c ≡ r → made_at r (record { m = m; w = w; c = c }) ≡ Ok s → Shaped s m w c
      go zero e h =
          let q : s ≡ record { m = m; w = w; c = c } = cc in
          record { groups = ap (λ t. t.m) q; width = ap (λ t. t.w) q; checks = ap (λ t. t.c) q; good = good-of-refusal m w c e }
      go (suc r) e h = let z : ◌≡◌ {A = ℕ} 0 1 = cc in absurd (omega arith)

  pub unshaped : (e : Refusal) → made_of m w c ≡ Err e → shape_refusal_in byte_limits m w c ≡ refusal_number e
  unshaped e h = sym (made-number) ∙ ap made_number h

-- a bad shape of bytes
module _ (m w c : ℕ) where
  pub word-unshaped : (n : ℕ) (e : Refusal) → made_of m w c ≡ Err e → refusal_number e ≡ word_refusal_in byte_limits m w c n
  unfolding word_refusal_in
  word-unshaped n e h = else-first e (sym (unshaped m w c e h)) _

  pub buffers-unshaped : (n k : ℕ) (e : Refusal) → made_of m w c ≡ Err e → refusal_number e ≡ buffer_refusal_in byte_limits m w c n k
  unfolding buffer_refusal_in
  buffers-unshaped n k e h = else-first e (word-unshaped n e h) _

  pub describes-refused : (e : Refusal) → made_of m w c ≡ Err e
      → (Err e ≡ described_in byte_limits m w c) × ((refusal_number e ≡ shape_refusal_in byte_limits m w c) × ([] ≡ figures_in byte_limits m w c))
  describes-refused e h =
      let n = sym (unshaped m w c e h) in
      let d = described-refused byte_limits m w c e n in (d.0, (n, d.1))
