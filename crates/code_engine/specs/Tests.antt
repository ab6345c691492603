-- What the test of a word's equations finds, as one value.
use Rattle.std.specs.Prelude.{Bool, false, not, List, ℕ}
use Rattle.counting.specs.First.{first_below}
use Rattle.code.specs.Edition.{Edition}
use Rattle.code.specs.Word.{is_local, is_codeword}
use Rattle.answers.specs.declared.Tested.{Tested}

-- the lowest group whose local sums are not all zero; m if there is none
unfoldable pub broken_group_in : Edition → ℕ → ℕ → ℕ → List ℕ → ℕ
broken_group_in E m w c word = first_below m (λ g. not (is_local E w c word g))

-- whether the word is a codeword, and that group
abbrev pub tested_in : Edition → ℕ → ℕ → ℕ → List ℕ → Tested
tested_in E m w c word = record { codeword = is_codeword E m w c word; group = broken_group_in E m w c word }

-- what is given for a word that is not of a good shape's length
abbrev pub not_tested : Tested
not_tested = record { codeword = false; group = 0 }
