-- Two equations in two unknowns.
use Rattle.std.specs.Prelude.{◌≡◌, ℕ, ◌^◌, ◌<◌, zero, suc}
use Rattle.binary_field.specs.Xor.{◌⊕◌}
use Rattle.code.specs.Edition.{Edition, times}

-- u and v are symbols that meet them
pub record MetIn (E : Edition) (a₁ a₂ b₁ b₂ s t u v : ℕ) : Type 0 where
  pub u-lt : u < 2 ^ E.bits
  pub v-lt : v < 2 ^ E.bits
  pub first : times E a₁ u ⊕ times E a₂ v ≡ s
  pub second : times E b₁ u ⊕ times E b₂ v ≡ t

-- the first or the second of two
abbrev pub pair_at : {A : Type 0} → A → A → ℕ → A
pair_at u v zero = u
pair_at u v (suc i) = v
