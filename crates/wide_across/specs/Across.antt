-- The two sums across of a sixteen-bit word, as one value.
use Rattle.std.specs.Prelude.{refl, List, ℕ}
use Rattle.code.specs.Word.{first_across, second_across}
use Rattle.wide_shape.specs.Edition.{wide_edition}
use Rattle.code_loops.specs.Directions.{PairType}
use Rattle.wide_across.specs.declared.Sums.{Sums}

abbrev pub wide_across : ℕ → ℕ → ℕ → List ℕ → Sums
wide_across m w c word = record { first = first_across wide_edition m w c word; second = second_across wide_edition m w c word }

-- no sums: what a candidate gives for a call that is not of a good shape and its lengths
abbrev pub no_wide_sums : Sums
no_wide_sums = record { first = 0; second = 0 }

-- the type of two sums
abbrev pub wide_sums : PairType Sums
wide_sums = record {
  pair = λ a b. record { first = a; second = b };
  first = λ s. s.first;
  second = λ s. s.second;
  first-is = λ a b. refl;
  second_is = λ a b. refl;
}
