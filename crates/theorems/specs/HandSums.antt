-- The sums done by hand that are shown of the definitions: one list of pairs, what the definition gives and what the paper has, under one claim.
use Rattle.std.specs.Prelude.{◌≡◌, List, [], ◌∷◌, ℕ}
use Rattle.binary_field.specs.Product.{product}
use Rattle.binary_field.specs.Power.{power}
use Rattle.shape.specs.Shapes.{byte_limits}
use Rattle.code.specs.Marks.{excess}
use Rattle.byte_edition.specs.Edition.{byte_edition}
use Rattle.code_services.specs.Recover.{recover_in}
use Rattle.code_services.specs.Encode.{encoded_in}
use Rattle.wide_field.specs.Locators.{locator}
use Rattle.wide_shape.specs.Edition.{wide_edition}
use Rattle.answers.specs.Figures.{described_number, described_figures, described_in}
use Rattle.theorems.specs.WordSums.{number, outcome_list}

-- in each pair the two are the same
abbrev pub AllSame : List (List ℕ × List ℕ) → Type 0
AllSame [] = Unit {0}
AllSame (p ∷ ps) = (p.0 ≡ p.1) × AllSame ps

abbrev pub hand_sums : List (List ℕ × List ℕ)
hand_sums =
    -- 2·128 = 29, 152·152 = 78, 152·11 = 1, 0·77 = 0, 3^16 = 77
    (number (product 8 285 2 128), number 29) ∷ (number (product 8 285 152 152), number 78) ∷ (number (product 8 285 152 11), number 1) ∷
    (number (product 8 285 0 77), number 0) ∷ (number (power 8 285 3 16), number 77) ∷
    -- shape m 2, w 3, c 1: n 6, k 2 (and the sure count 4); m 1, w 3, c 1: refused 4
    (described_figures (described_in byte_limits 2 3 1), 6 ∷ 2 ∷ 4 ∷ []) ∷ (number (described_number (described_in byte_limits 1 3 1)), number 4) ∷
    -- m 1, w 4, c 1, data 1: word 1, 79, 147, 221; m 2, w 3, c 1, data 1, 1: word 1, 1, 0, 78, 206, 128
    (encoded_in byte_edition 1 4 1 (1 ∷ []), 1 ∷ 79 ∷ 147 ∷ 221 ∷ []) ∷ (encoded_in byte_edition 2 3 1 (1 ∷ 1 ∷ []), 1 ∷ 1 ∷ 0 ∷ 78 ∷ 206 ∷ 128 ∷ []) ∷
    -- in that word the first three lost: recovered (excess 2); the excess, the number, and the number with the group (0), the word and the marks
    (number (excess 2 3 1 (1 ∷ 1 ∷ 1 ∷ 0 ∷ 0 ∷ 0 ∷ [])), number 2) ∷
    (number (recover_in byte_edition 2 3 1 (255 ∷ 255 ∷ 255 ∷ 78 ∷ 206 ∷ 128 ∷ []) (1 ∷ 1 ∷ 1 ∷ 0 ∷ 0 ∷ 0 ∷ [])).number, number 0) ∷ (
      outcome_list (recover_in byte_edition 2 3 1 (255 ∷ 255 ∷ 255 ∷ 78 ∷ 206 ∷ 128 ∷ []) (1 ∷ 1 ∷ 1 ∷ 0 ∷ 0 ∷ 0 ∷ [])),
      0 ∷ 0 ∷ 1 ∷ 1 ∷ 0 ∷ 78 ∷ 206 ∷ 128 ∷ 0 ∷ 0 ∷ 0 ∷ 0 ∷ 0 ∷ 0 ∷ [],
    ) ∷
    -- the first five lost: 8 (excess 3)
    (number (excess 2 3 1 (1 ∷ 1 ∷ 1 ∷ 1 ∷ 1 ∷ 0 ∷ [])), number 3) ∷ (
      outcome_list (recover_in byte_edition 2 3 1 (1 ∷ 1 ∷ 0 ∷ 78 ∷ 206 ∷ 128 ∷ []) (1 ∷ 1 ∷ 1 ∷ 1 ∷ 1 ∷ 0 ∷ [])),
      8 ∷ 0 ∷ 1 ∷ 1 ∷ 0 ∷ 78 ∷ 206 ∷ 128 ∷ 1 ∷ 1 ∷ 1 ∷ 1 ∷ 1 ∷ 0 ∷ [],
    ) ∷
    -- nothing lost, last byte 129: 9, with group 1
    (
      outcome_list (recover_in byte_edition 2 3 1 (1 ∷ 1 ∷ 0 ∷ 78 ∷ 206 ∷ 129 ∷ []) (0 ∷ 0 ∷ 0 ∷ 0 ∷ 0 ∷ 0 ∷ [])),
      9 ∷ 1 ∷ 1 ∷ 1 ∷ 0 ∷ 78 ∷ 206 ∷ 129 ∷ 0 ∷ 0 ∷ 0 ∷ 0 ∷ 0 ∷ 0 ∷ [],
    ) ∷
    -- of the sixteen-bit edition: 2·32,768 = 4,107; 2^257 = 5,726, which times the locator of place 254 is 1
    (number (product 16 69643 2 32768), number 4107) ∷ (number (power 16 69643 2 257), number 5726) ∷
    (number (product 16 69643 5726 (locator 254)), number 1) ∷
    -- m 1, w 4, c 1, data 1: word 1, 20881, 23334, 2742; m 2, w 3, c 1, data 1, 1: word 1, 1, 0, 29321, 65233, 35928
    (encoded_in wide_edition 1 4 1 (1 ∷ []), 1 ∷ 20881 ∷ 23334 ∷ 2742 ∷ []) ∷ (encoded_in wide_edition 2 3 1 (1 ∷ 1 ∷ []), 1 ∷ 1 ∷ 0 ∷ 29321 ∷ 65233 ∷ 35928 ∷ []) ∷
    []
