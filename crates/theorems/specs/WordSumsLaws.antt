-- Laws: The words done by hand: each is shown a codeword by its sums, and the theorems on encoding and recovery say the rest.
use Rattle.std.specs.Prelude.{◌≡◌, refl, false, ◌||◌, List, [], ◌∷◌, ℕ, ◌<◌, ◌≤◌, T, ltb, eqb, length, get_or}
use Rattle.std.proofs.Common.{sym, ap, ◌∙◌, subst, arith, ltb→lt, eqb→eq, lit<}
use Rattle.std.proofs.Math.Decide.{dec_lt}
use Rattle.std.proofs.Math.ListN.{get_or-eq_default}
use Rattle.counting.specs.Test.{all_below}
use Rattle.counting.specs.TestLaws.{all-at}
use Rattle.counting.specs.Count.{total_below}
use Rattle.counting.specs.First.{first_below}
use Rattle.binary_field.specs.Xor.{◌⊕◌, masked}
use Rattle.binary_field.specs.Product.{double, bit_sum, product}
use Rattle.binary_field.specs.Power.{power}
use Rattle.binary_field.specs.Sum.{sum_below}
use Rattle.code.specs.Limits.{shape_refusal_in, word_refusal_in}
use Rattle.code.specs.LimitsLaws.{good-of-refusal}
use Rattle.gf256.specs.Locators.{locators}
use Rattle.shape.specs.Shapes.{byte_limits}
use Rattle.code_services.specs.PlacesLaws.{extract-1-4-1, extract-2-3-1}
use Rattle.byte_edition.specs.Edition.{byte_edition}
use Rattle.byte_edition.specs.EditionLaws.{bytes-sound}
use Rattle.code.specs.Word.{coefficient, second_coefficient, group_sum, word_sum, is_local, is_codeword, Codeword}
use Rattle.code.specs.Marks.{lost, lost_in, excess, Agree}
use Rattle.code.specs.Outcome.{refused, contradictory, done_with}
use Rattle.code.specs.Contradiction.{is_broken, contradicting_group}
use Rattle.code.specs.Filling.{search}
use Rattle.code.specs.Stretch.{stretch}
use Rattle.code_services.specs.Marks.{marks_refusal_in, are_marks}
use Rattle.code_services.specs.Recover.{recover_refusal_in, recover_in}
use Rattle.code_services.specs.AttemptLaws.{accepted, service-eight, service-done}
use Rattle.code_services.specs.EncodeLaws.{encoded}
use Rattle.code_services.specs.Encode.{encoded_in}
use Rattle.text_stream.specs.NoneLost.{none_lost}
use Rattle.text_stream.specs.NoneLostLaws.{other-nine}
use Rattle.theorems.specs.WordSums.{number, outcome_list}

-- ---- computed tests
-- all numbers of a list are below a bound
pub below : (n : ℕ) → 0 < n → (xs : List ℕ) → T (all_below (length xs) (λ p. ltb (get_or xs p 0) n)) → (p : ℕ) → get_or xs p 0 < n
below n pos xs t p = elim (dec_lt p (length xs)) [
  | yes h ↦ ltb→lt (get_or xs p 0) n (all-at (length xs) (λ p. ltb (get_or xs p 0) n) t p h)
  | no h ↦ (let k : length xs ≤ p = omega arith in subst (λ v. v < n) (sym (get_or-eq_default xs 0 k)) pos)
]

-- all are bytes
small : (xs : List ℕ) → T (all_below (length xs) (λ p. ltb (get_or xs p 0) 256)) → (p : ℕ) → get_or xs p 0 < 256
small = below 256 (lit< tt)

-- two words at the present places
agree : (n : ℕ) (marks x y : List ℕ) → T (all_below n (λ p. (lost marks p || eqb (get_or x p 0) (get_or y p 0)))) → Agree n marks x y
agree n marks x y t p l e = eqb→eq (get_or x p 0) (get_or y p 0) (subst (λ v. T (v || eqb (get_or x p 0) (get_or y p 0))) e (all-at n _ t p l))

-- ---- m 1, w 4, c 1, data 1
first_word : List ℕ
first_word = 1 ∷ 79 ∷ 147 ∷ 221 ∷ []

first-codeword : Codeword byte_edition 1 4 1 first_word
unfolding first_word is_codeword is_local word_sum group_sum sum_below coefficient second_coefficient power product bit_sum double masked ◌⊕◌ locators
first-codeword = record { symbols = record { size = refl; each = small first_word tt }; zero = tt }

good-1-4-1 : shape_refusal_in byte_limits 1 4 1 ≡ 0
unfolding shape_refusal_in
good-1-4-1 = refl

pub encoded-first : encoded_in byte_edition 1 4 1 (1 ∷ []) ≡ 1 ∷ 79 ∷ 147 ∷ 221 ∷ []
unfolding first_word
encoded-first = sym ((encoded bytes-sound (good-of-refusal 1 4 1 good-1-4-1) (1 ∷ []) refl (small (1 ∷ []) tt)).only first_word first-codeword extract-1-4-1)

-- ---- m 2, w 3, c 1, data 1, 1
second_word : List ℕ
second_word = 1 ∷ 1 ∷ 0 ∷ 78 ∷ 206 ∷ 128 ∷ []

second-codeword : Codeword byte_edition 2 3 1 second_word
unfolding second_word is_codeword is_local word_sum group_sum sum_below coefficient second_coefficient power product bit_sum double masked ◌⊕◌ locators
second-codeword = record { symbols = record { size = refl; each = small second_word tt }; zero = tt }

good-2-3-1 : shape_refusal_in byte_limits 2 3 1 ≡ 0
unfolding shape_refusal_in
good-2-3-1 = refl

pub encoded-second : encoded_in byte_edition 2 3 1 (1 ∷ 1 ∷ []) ≡ 1 ∷ 1 ∷ 0 ∷ 78 ∷ 206 ∷ 128 ∷ []
unfolding second_word
encoded-second =
    sym ((encoded bytes-sound (good-of-refusal 2 3 1 good-2-3-1) (1 ∷ 1 ∷ []) refl (small (1 ∷ 1 ∷ []) tt)).only second_word second-codeword extract-2-3-1)

-- ---- recoveries of that word; other bytes stand in the lost places
-- what computing shows of a call with six bytes and six marks: it is not refused, its excess is x, and its bytes are bytes
record Called (word marks : List ℕ) (x : ℕ) : Type 0 where
  refusal : 0 ≡ recover_refusal_in byte_limits 2 3 1 word marks
  excess-is : excess 2 3 1 marks ≡ x
  bytes : T (all_below (length word) (λ p. ltb (get_or word p 0) 256))

module _ (word marks : List ℕ) {x : ℕ} (C : Called word marks x) where
  mended : x ≤ 2 → T (all_below 6 (λ p. (lost marks p || eqb (get_or second_word p 0) (get_or word p 0))))
      → recover_in byte_edition 2 3 1 word marks ≡ done_with second_word marks
  mended low same =
      let e = C.excess-is in
      service-done bytes-sound 2 3 1 word marks (accepted 2 3 1 word marks 0 C.refusal refl) (small word C.bytes) second_word (omega arith) record {
        codeword = second-codeword;
        agree = agree 6 marks second_word word same;
      }

  undetermined : 2 < x → recover_in byte_edition 2 3 1 word marks ≡ refused 8 word marks
  undetermined high =
      let e = C.excess-is in
      service-eight bytes-sound 2 3 1 word marks (accepted 2 3 1 word marks 0 C.refusal refl) (small word C.bytes) (omega arith)

-- "In that word the first three lost: recovered (excess 2)"
three-called : Called (255 ∷ 255 ∷ 255 ∷ 78 ∷ 206 ∷ 128 ∷ []) (1 ∷ 1 ∷ 1 ∷ 0 ∷ 0 ∷ 0 ∷ []) 2
unfolding recover_refusal_in word_refusal_in marks_refusal_in shape_refusal_in are_marks excess lost_in total_below
three-called = record { refusal = refl; excess-is = refl; bytes = tt }

pub three-lost : outcome_list (recover_in byte_edition 2 3 1 (255 ∷ 255 ∷ 255 ∷ 78 ∷ 206 ∷ 128 ∷ []) (1 ∷ 1 ∷ 1 ∷ 0 ∷ 0 ∷ 0 ∷ []))
    ≡ 0 ∷ 0 ∷ 1 ∷ 1 ∷ 0 ∷ 78 ∷ 206 ∷ 128 ∷ 0 ∷ 0 ∷ 0 ∷ 0 ∷ 0 ∷ 0 ∷ []
unfolding second_word
three-lost = ap outcome_list (mended _ _ three-called (omega arith) tt)

pub three-done : number (recover_in byte_edition 2 3 1 (255 ∷ 255 ∷ 255 ∷ 78 ∷ 206 ∷ 128 ∷ []) (1 ∷ 1 ∷ 1 ∷ 0 ∷ 0 ∷ 0 ∷ [])).number ≡ number 0
three-done = ap (λ l. number (get_or l 0 0)) three-lost

pub three-excess : number (excess 2 3 1 (1 ∷ 1 ∷ 1 ∷ 0 ∷ 0 ∷ 0 ∷ [])) ≡ number 2
three-excess = ap number three-called.excess-is

-- "The first five lost: 8 (excess 3)"
five-called : Called (1 ∷ 1 ∷ 0 ∷ 78 ∷ 206 ∷ 128 ∷ []) (1 ∷ 1 ∷ 1 ∷ 1 ∷ 1 ∷ 0 ∷ []) 3
unfolding recover_refusal_in word_refusal_in marks_refusal_in shape_refusal_in are_marks excess lost_in total_below
five-called = record { refusal = refl; excess-is = refl; bytes = tt }

pub five-lost : outcome_list (recover_in byte_edition 2 3 1 (1 ∷ 1 ∷ 0 ∷ 78 ∷ 206 ∷ 128 ∷ []) (1 ∷ 1 ∷ 1 ∷ 1 ∷ 1 ∷ 0 ∷ []))
    ≡ 8 ∷ 0 ∷ 1 ∷ 1 ∷ 0 ∷ 78 ∷ 206 ∷ 128 ∷ 1 ∷ 1 ∷ 1 ∷ 1 ∷ 1 ∷ 0 ∷ []
five-lost = ap outcome_list (undetermined _ _ five-called (omega arith))

pub five-excess : number (excess 2 3 1 (1 ∷ 1 ∷ 1 ∷ 1 ∷ 1 ∷ 0 ∷ [])) ≡ number 3
five-excess = ap number five-called.excess-is

-- ---- the two words of the paper's session, with 0 in the lost places
-- the second and the fifth lost: recovered
pub two-lost : recover_in byte_edition 2 3 1 (1 ∷ 0 ∷ 0 ∷ 78 ∷ 0 ∷ 128 ∷ []) (0 ∷ 1 ∷ 0 ∷ 0 ∷ 1 ∷ 0 ∷ [])
    ≡ done_with (1 ∷ 1 ∷ 0 ∷ 78 ∷ 206 ∷ 128 ∷ []) (0 ∷ 1 ∷ 0 ∷ 0 ∷ 1 ∷ 0 ∷ [])
unfolding second_word recover_refusal_in word_refusal_in marks_refusal_in shape_refusal_in are_marks excess lost_in total_below
two-lost = mended _ _ {x = 0} record { refusal = refl; excess-is = refl; bytes = tt } (omega arith) tt

-- the first five lost
pub five-lost-again : recover_in byte_edition 2 3 1 (0 ∷ 0 ∷ 0 ∷ 0 ∷ 0 ∷ 128 ∷ []) (1 ∷ 1 ∷ 1 ∷ 1 ∷ 1 ∷ 0 ∷ [])
    ≡ refused 8 (0 ∷ 0 ∷ 0 ∷ 0 ∷ 0 ∷ 128 ∷ []) (1 ∷ 1 ∷ 1 ∷ 1 ∷ 1 ∷ 0 ∷ [])
unfolding recover_refusal_in word_refusal_in marks_refusal_in shape_refusal_in are_marks excess lost_in total_below
five-lost-again = undetermined _ _ {x = 3} record { refusal = refl; excess-is = refl; bytes = tt } (omega arith)

-- ---- nothing lost, and no codeword
-- the answer, from the group that computing finds
nothing_lost : (word : List ℕ) (g : ℕ) → length word ≡ 6 → T (all_below (length word) (λ p. ltb (get_or word p 0) 256))
    → is_codeword byte_edition 2 3 1 word ≡ false → contradicting_group byte_edition 2 3 1 word (none_lost word) ≡ g
    → recover_in byte_edition 2 3 1 word (none_lost word) ≡ contradictory g word (none_lost word)
nothing_lost word g size bytes other group =
    other-nine bytes-sound (good-of-refusal 2 3 1 good-2-3-1) word record { size = size; each = small word bytes } other
    ∙ ap (λ g. contradictory g word (none_lost word)) group

-- "Nothing lost, last byte 129: 9"; the bytes of group 1 break its equation, those of group 0 do not
pub last-outcome : recover_in byte_edition 2 3 1 (1 ∷ 1 ∷ 0 ∷ 78 ∷ 206 ∷ 129 ∷ []) (0 ∷ 0 ∷ 0 ∷ 0 ∷ 0 ∷ 0 ∷ [])
    ≡ contradictory 1 (1 ∷ 1 ∷ 0 ∷ 78 ∷ 206 ∷ 129 ∷ []) (0 ∷ 0 ∷ 0 ∷ 0 ∷ 0 ∷ 0 ∷ [])
unfolding contradicting_group first_below is_broken search stretch is_codeword is_local word_sum group_sum sum_below coefficient second_coefficient power product bit_sum
    double masked ◌⊕◌ locators
last-outcome = nothing_lost (1 ∷ 1 ∷ 0 ∷ 78 ∷ 206 ∷ 129 ∷ []) 1 refl tt refl refl

pub last_byte : outcome_list (recover_in byte_edition 2 3 1 (1 ∷ 1 ∷ 0 ∷ 78 ∷ 206 ∷ 129 ∷ []) (0 ∷ 0 ∷ 0 ∷ 0 ∷ 0 ∷ 0 ∷ []))
    ≡ 9 ∷ 1 ∷ 1 ∷ 1 ∷ 0 ∷ 78 ∷ 206 ∷ 129 ∷ 0 ∷ 0 ∷ 0 ∷ 0 ∷ 0 ∷ 0 ∷ []
last_byte = ap outcome_list last-outcome

-- the same word with its last place lost: recovered. So "two equal words may get different numbers" before and after a lose of that place
pub last-lost : outcome_list (recover_in byte_edition 2 3 1 (1 ∷ 1 ∷ 0 ∷ 78 ∷ 206 ∷ 129 ∷ []) (0 ∷ 0 ∷ 0 ∷ 0 ∷ 0 ∷ 1 ∷ []))
    ≡ 0 ∷ 0 ∷ 1 ∷ 1 ∷ 0 ∷ 78 ∷ 206 ∷ 128 ∷ 0 ∷ 0 ∷ 0 ∷ 0 ∷ 0 ∷ 0 ∷ []
unfolding second_word recover_refusal_in word_refusal_in marks_refusal_in shape_refusal_in are_marks excess lost_in total_below
last-lost = ap outcome_list (mended _ _ {x = 0} record { refusal = refl; excess-is = refl; bytes = tt } (omega arith) tt)

-- nothing lost, the bytes of the second group 0: each group meets its own equation and the equations across fail
pub across-outcome : recover_in byte_edition 2 3 1 (1 ∷ 1 ∷ 0 ∷ 0 ∷ 0 ∷ 0 ∷ []) (0 ∷ 0 ∷ 0 ∷ 0 ∷ 0 ∷ 0 ∷ [])
    ≡ contradictory 2 (1 ∷ 1 ∷ 0 ∷ 0 ∷ 0 ∷ 0 ∷ []) (0 ∷ 0 ∷ 0 ∷ 0 ∷ 0 ∷ 0 ∷ [])
unfolding contradicting_group first_below is_broken search stretch is_codeword is_local word_sum group_sum sum_below coefficient second_coefficient power product bit_sum
    double masked ◌⊕◌ locators
across-outcome = nothing_lost (1 ∷ 1 ∷ 0 ∷ 0 ∷ 0 ∷ 0 ∷ []) 2 refl tt refl refl
