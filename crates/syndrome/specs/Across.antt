-- The two sums across, as one value.
use Rattle.std.specs.Prelude.{refl, List, ℕ, length}
use Rattle.code.specs.Edition.{raised}
use Rattle.byte_edition.specs.Edition.{byte_edition}
use Rattle.code.specs.Word.{group_sum, coefficient, second_coefficient, first_across, second_across}
use Rattle.code_loops.specs.Directions.{PairType}
use Rattle.syndrome.specs.declared.Sums.{Sums}

abbrev pub across_of : ℕ → ℕ → ℕ → List ℕ → Sums
across_of m w c word = record { first = first_across byte_edition m w c word; second = second_across byte_edition m w c word }

-- the sums of one group, from its stretch, without and with the factor 2^g of the second
abbrev pub plain_sums : ℕ → List ℕ → Sums
plain_sums c part = record {
  first = group_sum byte_edition (length part) part 0 (coefficient byte_edition c);
  second = group_sum byte_edition (length part) part 0 (λ j. raised byte_edition (coefficient byte_edition c j) 16);
}

abbrev pub group_sums : ℕ → ℕ → List ℕ → Sums
group_sums c g part = record {
  first = group_sum byte_edition (length part) part 0 (coefficient byte_edition c);
  second = group_sum byte_edition (length part) part 0 (second_coefficient byte_edition c g);
}

-- the sums of two rows: of the first w places of x with b, and of y with b^16
abbrev pub row_sums : ℕ → ℕ → List ℕ → List ℕ → Sums
row_sums w c x y = record {
  first = group_sum byte_edition w x 0 (coefficient byte_edition c);
  second = group_sum byte_edition w y 0 (λ j. raised byte_edition (coefficient byte_edition c j) 16);
}

-- what is given for a word that is not of a good shape's length
abbrev pub no_sums : Sums
no_sums = record { first = 0; second = 0 }

-- the type of two sums
abbrev pub byte_sums : PairType Sums
byte_sums = record {
  pair = λ a b. record { first = a; second = b };
  first = λ s. s.first;
  second = λ s. s.second;
  first-is = λ a b. refl;
  second_is = λ a b. refl;
}
