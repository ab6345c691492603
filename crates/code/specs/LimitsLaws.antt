-- The laws of shapes in every edition.
use Rattle.std.specs.Prelude.{◌≡◌, refl, ◌↔◌, Bool, true, false, ◌||◌, ℕ, ◌+◌, ◌-◌, ◌*◌, ◌/◌, ◌≤◌}
use Rattle.std.proofs.Math.Nat.{mul-sub, div-eq_of_lt}
use Rattle.std.proofs.Common.{mul_comm, mul-le-mul_left, arith}
use Rattle.std.proofs.Math.Decide.{ℕ_discrete}
use borrow.Author.Tests.{eqb-true, eqb-false, ltb-false, not-false, eq-eqb, ne_eqb, le-ltb}
use Rattle.code.specs.Limits.{Limits, place_count, data_count, sure_count, GoodIn, shape_refusal_in, retired_refusal, SoldIn, sale_refusal_in, word_refusal_in}
use Rattle.code.specs.Limits.{buffer_refusal_in}
use Rattle.code.specs.Refusals.{◌or_else◌}
use Rattle.code.specs.RefusalsLaws.{refuse-zero, or_else-zero}

pub or-none : (a b : Bool) → (a || b) ≡ false → (a ≡ false) × (b ≡ false)
or-none true true e = (e, e)
or-none true false e = (e, refl)
or-none false b e = (refl, e)

module _ {L : Limits} (m w c : ℕ) where
  pub good-of-refusal : shape_refusal_in L m w c ≡ 0 → GoodIn L m w c
  unfolding shape_refusal_in
  good-of-refusal e =
      let e₁ = or_else-zero _ _ e in
      let e₂ = or_else-zero _ _ e₁.1 in
      let e₃ = or_else-zero _ _ e₂.1 in
      let e₄ = or_else-zero _ _ e₃.1 in
      let t₁ = or-none _ _ (refuse-zero 0 _ e₁.0) in
      let t₂ = or-none _ _ (refuse-zero 1 _ e₂.0) in
      let t₃ = or-none _ _ (refuse-zero 2 _ e₃.0) in
      let a₁ = eqb-false m 0 t₁.0 in
      let b₁ = ltb-false L.groups m t₁.1 in
      let a₂ = eqb-false c 0 t₂.0 in
      let b₂ = ltb-false L.checks c t₂.1 in
      let a₃ = ltb-false w (c + 2) t₃.0 in
      let b₃ = ltb-false L.width w t₃.1 in
      let a₄ = eqb-false (data_count m w c) 0 (refuse-zero 3 _ e₄.0) in
      let a₅ = ltb-false L.places (m * w) (refuse-zero 25 _ e₄.1) in
      record {
        some = omega arith;
        few = omega arith;
        checked = omega arith;
        few-checks = omega arith;
        wide = omega arith;
        narrow = omega arith;
        room = omega arith;
        fits = omega arith;
      }

  pub refusal-of-good : GoodIn L m w c → shape_refusal_in L m w c ≡ 0
  unfolding shape_refusal_in
  refusal-of-good g =
      simp (
        ne_eqb m 0 (omega arith),
        le-ltb L.groups m g.few,
        ne_eqb c 0 (omega arith),
        le-ltb L.checks c g.few-checks,
        le-ltb w (c + 2) (omega arith),
        le-ltb L.width w g.narrow,
        ne_eqb (data_count m w c) 0 (omega arith),
        le-ltb L.places (m * w) g.fits,
      )

  pub refusal-iff : (shape_refusal_in L m w c ≡ 0) ↔ GoodIn L m w c
  refusal-iff = (good-of-refusal, refusal-of-good)

module _ {L : Limits} (m w c : ℕ) where
  pub refusal-of-sold : SoldIn L m w c → sale_refusal_in L m w c ≡ 0
  unfolding sale_refusal_in retired_refusal
  refusal-of-sold s = simp (refusal-of-good m w c s.good, ne_eqb c 4 (omega (arith, s.few-checks)))

  -- a good shape with four checks is retired
  pub retired-of-good : GoodIn L m w c → c ≡ 4 → sale_refusal_in L m w c ≡ 29
  unfolding sale_refusal_in retired_refusal
  retired-of-good g e = simp (refusal-of-good m w c g, eq-eqb c 4 e)

module _ {L : Limits} {m w c : ℕ} (g : GoodIn L m w c) where
  -- "A word has n = m·w bytes, at most 240"
  pub places-most : place_count m w ≤ L.places
  places-most = g.fits

  pub data-some : 1 ≤ data_count m w c
  data-some = omega arith

  -- all places: data, the local checks, and the two across
  pub data-and-checks : data_count m w c + c * m + 2 ≡ place_count m w
  data-and-checks =
      let l : m * c ≤ m * w = mul-le-mul_left m (omega arith) in
      omega (arith, mul-sub m w c, mul_comm c m)

-- "2c+2 if w = c+2 and c+2 otherwise"
module _ (w c : ℕ) where
  pub sure-narrow : w ≡ c + 2 → sure_count w c ≡ 2 * c + 2
  unfolding sure_count
  sure-narrow e = rw (eq-eqb w (c + 2) e)

  pub sure-wide : (w ≡ c + 2 → ⊥) → sure_count w c ≡ c + 2
  unfolding sure_count
  sure-wide h = rw (ne_eqb w (c + 2) h)

  -- as in formula (2) of source document 001, less one, with its quotient rounded down
  pub sure-quotient : c + 2 ≤ w → sure_count w c ≡ c + 2 + 2 / (w - c) * c
  sure-quotient h = elim (ℕ_discrete w (c + 2)) [
    | yes e ↦ (let d : w - c ≡ 2 = omega arith in let s = sure-narrow e in rw d (omega arith))
    | no e ↦ (let d : 2 / (w - c) ≡ 0 = div-eq_of_lt (omega arith) in let s = sure-wide e in rw d (omega arith))
  ]

-- lent lengths
module _ {L : Limits} (m w c : ℕ) where
  pub good-of-word : (n : ℕ) → word_refusal_in L m w c n ≡ 0 → GoodIn L m w c × (n ≡ place_count m w)
  unfolding word_refusal_in
  good-of-word n e =
      let z = or_else-zero _ _ e in
      (good-of-refusal m w c z.0, eqb-true _ _ (not-false _ (refuse-zero 4 _ z.1)))

  pub word-of-good : (n : ℕ) → GoodIn L m w c → n ≡ place_count m w → word_refusal_in L m w c n ≡ 0
  unfolding word_refusal_in
  word-of-good n g e = simp (refusal-of-good m w c g, eq-eqb n (place_count m w) e)

  pub word-length : (n : ℕ) → GoodIn L m w c → (n ≡ place_count m w → ⊥) → word_refusal_in L m w c n ≡ 5
  unfolding word_refusal_in
  word-length n g e = simp (refusal-of-good m w c g, ne_eqb n (place_count m w) e)

  pub good-of-buffers : (n k : ℕ) → buffer_refusal_in L m w c n k ≡ 0 → GoodIn L m w c × (n ≡ place_count m w) × (k ≡ data_count m w c)
  unfolding buffer_refusal_in
  good-of-buffers n k e =
      let z = or_else-zero _ _ e in
      let g = good-of-word n z.0 in
      (g.0, g.1, eqb-true _ _ (not-false _ (refuse-zero 4 _ z.1)))

  pub buffers-of-good : (n k : ℕ) → GoodIn L m w c → n ≡ place_count m w → k ≡ data_count m w c → buffer_refusal_in L m w c n k ≡ 0
  unfolding buffer_refusal_in
  buffers-of-good n k g e f = simp (word-of-good n g e, eq-eqb k (data_count m w c) f)

  pub buffers-word-length : (n k : ℕ) → GoodIn L m w c → (n ≡ place_count m w → ⊥) → buffer_refusal_in L m w c n k ≡ 5
  unfolding buffer_refusal_in
  buffers-word-length n k g e = simp (word-length n g e)

  pub buffers-data-length : (n k : ℕ) → GoodIn L m w c → n ≡ place_count m w → (k ≡ data_count m w c → ⊥) → buffer_refusal_in L m w c n k ≡ 5
  unfolding buffer_refusal_in
  buffers-data-length n k g e f = simp (word-of-good n g e, ne_eqb k (data_count m w c) f)
