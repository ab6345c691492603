-- Laws: What a shape and Describe answer in the sixteen-bit edition.
use Rattle.std.proofs.Math.Path.{◌≡◌, refl, sym, ap}
use Prim.Native.Nat.{ℕ, zero, suc}
use Rattle.std.specs.Prelude.{[], Ok, Err}
use Rattle.std.proofs.Common.{◌∙◌, arith}
use Rattle.code.specs.Limits.{GoodIn, shape_refusal_in}
use Rattle.code.specs.LimitsLaws.{good-of-refusal}
use Rattle.answers.specs.declared.Refusal.{Refusal}
use Rattle.answers.specs.Answers.{refusal_number, refused_number}
use Rattle.answers.specs.AnswersLaws.{given-refused, given-number}
use Rattle.answers.specs.PlainLaws.{shape-plain}
use Rattle.answers.specs.Figures.{described_in, figures_in}
use Rattle.shape.specs.Laws.{described-refused}
use Rattle.wide_shape.specs.Edition.{wide_limits}
use Rattle.wide_shape.specs.declared.Shape.{Shape}
use Rattle.wide_shape.specs.Shapes.{wide_made_at, wide_made_of}

-- s is the good shape of m, w and c
pub record Shaped (s : Shape) (m w c : ℕ) : Type 0 where
  pub groups : s.m ≡ m
  pub width : s.w ≡ w
  pub checks : s.c ≡ c
  pub good : GoodIn wide_limits m w c

module _ (m w c : ℕ) where
  pub shaped : (s : Shape) → wide_made_of m w c ≡ Ok s → Shaped s m w c
  unfolding wide_made_of
  shaped s = go (shape_refusal_in wide_limits m w c) refl
    where
      go : (r : ℕ) → shape_refusal_in wide_limits m w c ≡ r → wide_made_at r (record { m = m; w = w; c = c }) ≡ Ok s → Shaped s m w c
      go zero e h =
          let q : s ≡ record { m = m; w = w; c = c } = cc in
          record { groups = ap (λ t. t.m) q; width = ap (λ t. t.w) q; checks = ap (λ t. t.c) q; good = good-of-refusal m w c e }
      go (suc r) e h = let z : ◌≡◌ {A = ℕ} 0 1 = cc in absurd (omega arith)

  pub unshaped : (e : Refusal) → wide_made_of m w c ≡ Err e → shape_refusal_in wide_limits m w c ≡ refusal_number e
  unfolding wide_made_of
  unshaped e h = sym (given-number _ _ (shape-plain wide_limits m w c).0) ∙ ap refused_number h

  pub refused-shape : (e : Refusal) → refusal_number e ≡ shape_refusal_in wide_limits m w c → Err e ≡ wide_made_of m w c
  unfolding wide_made_of
  refused-shape e is = sym (given-refused _ is (shape-plain wide_limits m w c))

  pub describes-refused : (e : Refusal) → wide_made_of m w c ≡ Err e
      → (Err e ≡ described_in wide_limits m w c) × ((refusal_number e ≡ shape_refusal_in wide_limits m w c) × ([] ≡ figures_in wide_limits m w c))
  describes-refused e h =
      let n = sym (unshaped e h) in
      let d = described-refused wide_limits m w c e n in (d.0, (n, d.1))
