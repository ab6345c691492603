-- A shape, its figures and its refusals.
use Rattle.std.specs.Prelude.{ℕ, Result}
use Rattle.code.specs.Limits.{Limits, shape_refusal_in}
use Rattle.answers.specs.declared.Refusal.{Refusal}
use Rattle.answers.specs.Answers.{given_at, refused_number}
use Rattle.shape.specs.declared.Shape.{Shape}

-- "m from 1 to 15, c from 1 to 4, w from c+2 to 16", and "at most 240" bytes
abbrev pub byte_limits : Limits
byte_limits = record { groups = 15; checks = 4; width = 16; places = 240 }

-- the shape, or its refusal
abbrev pub made_at : ℕ → Shape → Result Shape Refusal
made_at = given_at

-- of three numbers of any size
unfoldable pub made_of : ℕ → ℕ → ℕ → Result Shape Refusal
made_of m w c = made_at (shape_refusal_in byte_limits m w c) (record { m = m; w = w; c = c })

-- the number given back, 0 for a good shape
abbrev pub made_number : Result Shape Refusal → ℕ
made_number = refused_number
