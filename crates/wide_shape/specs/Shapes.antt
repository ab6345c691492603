-- What a shape and Describe answer in the sixteen-bit edition.
use Rattle.std.specs.Prelude.{ℕ, Result}
use Rattle.code.specs.Limits.{shape_refusal_in}
use Rattle.answers.specs.declared.Refusal.{Refusal}
use Rattle.answers.specs.Answers.{given_at}
use Rattle.wide_shape.specs.Edition.{wide_limits}
use Rattle.wide_shape.specs.declared.Shape.{Shape}

-- the shape, or its refusal
abbrev pub wide_made_at : ℕ → Shape → Result Shape Refusal
wide_made_at = given_at

-- of three numbers of any size
unfoldable pub wide_made_of : ℕ → ℕ → ℕ → Result Shape Refusal
wide_made_of m w c = wide_made_at (shape_refusal_in wide_limits m w c) (record { m = m; w = w; c = c })
