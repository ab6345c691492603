-- The sums done by hand of the sixteen-bit edition: a locator, and words that are shown codewords by their sums.
use Rattle.std.specs.Prelude.{◌≡◌, refl, List, [], ◌∷◌, ℕ}
use Rattle.std.proofs.Common.{sym, ap, ◌∙◌, lit<}
use Rattle.binary_field.specs.Xor.{◌⊕◌, masked}
use Rattle.binary_field.specs.Product.{double, bit_sum, product}
use Rattle.binary_field.specs.Power.{power}
use Rattle.binary_field.specs.PowerLaws.{power-suc}
use Rattle.binary_field.specs.Sum.{sum_below}
use Rattle.code.specs.Limits.{shape_refusal_in}
use Rattle.code.specs.LimitsLaws.{good-of-refusal}
use Rattle.code_services.specs.Places.{extract_of, data_places, others_from, is_check, bytes_at, extract_over, symbols_at}
use Rattle.code.specs.Word.{coefficient, second_coefficient, group_sum, word_sum, is_local, is_codeword, Codeword}
use Rattle.code_services.specs.Encode.{encoded_in}
use Rattle.code_services.specs.EncodeLaws.{encoded}
use Rattle.wide_field.specs.Locators.{locator}
use Rattle.wide_field.specs.SymbolsLaws.{at-257, order-locator}
use Rattle.wide_field.specs.LocatorsLaws.{locator-power, locator-last}
use Rattle.wide_shape.specs.Edition.{wide_limits, wide_edition}
use Rattle.wide_shape.specs.EditionLaws.{wide-sound}
use Rattle.theorems.specs.WordSums.{number}
use Rattle.theorems.specs.WordSumsLaws.{below}

-- the locator of place 254 is the inverse of that of place 1
pub locator-inverse : number (product 16 69643 5726 (locator 254)) ≡ number 1
locator-inverse =
    ap number (ap (product 16 69643 5726) (locator-power 254 (lit< tt)) ∙ sym (power-suc 16 69643 5726 254) ∙ order-locator.end)

first_word : List ℕ
first_word = 1 ∷ 20881 ∷ 23334 ∷ 2742 ∷ []

-- m 1, w 4, c 1, data 1
first-codeword : Codeword wide_edition 1 4 1 first_word
unfolding first_word is_codeword is_local word_sum group_sum sum_below coefficient second_coefficient power product bit_sum double masked ◌⊕◌ locator
first-codeword = record { symbols = record { size = refl; each = below 65536 (lit< tt) first_word tt }; zero = tt }

first-extract : extract_of 1 4 1 first_word ≡ 1 ∷ []
unfolding first_word extract_over data_places others_from is_check symbols_at
first-extract = refl

good-1-4-1 : shape_refusal_in wide_limits 1 4 1 ≡ 0
unfolding shape_refusal_in
good-1-4-1 = refl

pub wide-first : encoded_in wide_edition 1 4 1 (1 ∷ []) ≡ 1 ∷ 20881 ∷ 23334 ∷ 2742 ∷ []
unfolding first_word
wide-first =
    sym ((encoded wide-sound (good-of-refusal 1 4 1 good-1-4-1) (1 ∷ []) refl (below 65536 (lit< tt) (1 ∷ []) tt)).only first_word first-codeword first-extract)

second_word : List ℕ
second_word = 1 ∷ 1 ∷ 0 ∷ 29321 ∷ 65233 ∷ 35928 ∷ []

-- m 2, w 3, c 1, data 1, 1
second-codeword : Codeword wide_edition 2 3 1 second_word
unfolding second_word is_codeword is_local word_sum group_sum sum_below coefficient second_coefficient power product bit_sum double masked ◌⊕◌ locator
second-codeword = record { symbols = record { size = refl; each = below 65536 (lit< tt) second_word tt }; zero = tt }

second-extract : extract_of 2 3 1 second_word ≡ 1 ∷ 1 ∷ []
unfolding second_word extract_over data_places others_from is_check symbols_at
second-extract = refl

good-2-3-1 : shape_refusal_in wide_limits 2 3 1 ≡ 0
unfolding shape_refusal_in
good-2-3-1 = refl

pub wide-second : encoded_in wide_edition 2 3 1 (1 ∷ 1 ∷ []) ≡ 1 ∷ 1 ∷ 0 ∷ 29321 ∷ 65233 ∷ 35928 ∷ []
unfolding second_word
wide-second =
    sym ((encoded wide-sound (good-of-refusal 2 3 1 good-2-3-1) (1 ∷ 1 ∷ []) refl (below 65536 (lit< tt) (1 ∷ 1 ∷ []) tt)).only second_word second-codeword
    second-extract)
