-- Which places of a word carry data, and what Extract gives.
use Rattle.std.specs.Prelude.{Bool, true, false, cond, ◌||◌, ◌&&◌, List, [], ◌∷◌, map, ℕ, zero, suc, ◌+◌, ◌/◌, ◌%◌, eqb, leb, length, get_or, drop, Result}
use Rattle.code.specs.Refusals.{◌or_else◌, unless_refused}
use Rattle.answers.specs.declared.Refusal.{Refusal}
use Rattle.answers.specs.Answers.{answer_at}
use Rattle.code.specs.Limits.{Limits, place_count, sale_refusal_in, word_refusal_in, buffer_refusal_in}

-- "Check places are the last c places of every group and, in the last group, also the two before them."
-- Place p is number p % w of group p / w; the last c are those whose number and c make at least w.
unfoldable pub is_check : ℕ → ℕ → ℕ → ℕ → Bool
is_check m w c p = leb w (p % w + c) || (eqb (p / w + 1) m && leb w (p % w + (c + 2)))

-- of r places from p on, those that are no check
unfoldable pub others_from : (ℕ → Bool) → ℕ → ℕ → List ℕ
others_from check p zero = []
others_from check p (suc r) = cond (check p) (others_from check (suc p) r) (p ∷ others_from check (suc p) r)

-- "All other places carry data, in word order."
unfoldable pub data_places : ℕ → ℕ → ℕ → List ℕ
data_places m w c = others_from (is_check m w c) 0 (place_count m w)

-- the symbols of a word at these places, of any type; z, its zero, stands for what a short word lacks
unfoldable pub symbols_at : {A : Type 0} → A → List A → List ℕ → List A
symbols_at z word places = map (λ p. get_or word p z) places

-- and of a word of numbers
abbrev pub bytes_at : List ℕ → List ℕ → List ℕ
bytes_at word places = symbols_at 0 word places

-- "Extract: the k data bytes of any word of n bytes", for symbols of any type
unfoldable pub extract_over : {A : Type 0} → A → ℕ → ℕ → ℕ → List A → List A
extract_over z m w c word = symbols_at z word (data_places m w c)

-- and for numbers
abbrev pub extract_of : ℕ → ℕ → ℕ → List ℕ → List ℕ
extract_of m w c word = extract_over 0 m w c word

-- r places from p on, with z at a check and the next symbol at each other
unfoldable pub spread_over : {A : Type 0} → A → (ℕ → Bool) → ℕ → ℕ → List A → List A
spread_over z check p zero symbols = []
spread_over z check p (suc r) symbols =
    cond (check p) (z ∷ spread_over z check (suc p) r symbols) (get_or symbols 0 z ∷ spread_over z check (suc p) r (drop 1 symbols))

-- and of numbers, with 0 at a check
abbrev pub spread_from : (ℕ → Bool) → ℕ → ℕ → List ℕ → List ℕ
spread_from check p r bytes = spread_over 0 check p r bytes

-- the word with these symbols in its data places and z in its check places
unfoldable pub placed_over : {A : Type 0} → A → ℕ → ℕ → ℕ → List A → List A
placed_over z m w c symbols = spread_over z (is_check m w c) 0 (place_count m w) symbols

-- the word with these bytes in its data places and 0 in its check places
abbrev pub placed_of : ℕ → ℕ → ℕ → List ℕ → List ℕ
placed_of m w c bytes = placed_over 0 m w c bytes

-- "1 for lost and 0 for present"
abbrev pub mark : Bool → ℕ
mark true = 1
mark false = 0

-- the marks of r places from p on, with the checks lost
unfoldable pub marks_from : (ℕ → Bool) → ℕ → ℕ → List ℕ
marks_from check p zero = []
marks_from check p (suc r) = mark (check p) ∷ marks_from check (suc p) r

-- the marks of a word that has lost its check places
unfoldable pub check_marks : ℕ → ℕ → ℕ → List ℕ
check_marks m w c = marks_from (is_check m w c) 0 (place_count m w)

-- what Extract answers
unfoldable pub extracted_in : {A : Type 0} → Limits → ℕ → ℕ → ℕ → List A → List A → Result Unit Refusal
extracted_in L m w c word bytes = answer_at (buffer_refusal_in L m w c (length word) (length bytes))

-- the data buffer at the end, for symbols of any type
unfoldable pub extracted_data_over : {A : Type 0} → A → Limits → ℕ → ℕ → ℕ → List A → List A → List A
extracted_data_over z L m w c word symbols =
    unless_refused (buffer_refusal_in L m w c (length word) (length symbols)) (extract_over z m w c word) symbols

-- and for numbers
abbrev pub extracted_data_in : Limits → ℕ → ℕ → ℕ → List ℕ → List ℕ → List ℕ
extracted_data_in L m w c word bytes = extracted_data_over 0 L m w c word bytes

-- The service Check marks, for encoding by a rebuild: refused with 1 to 4, 26, 29 and then 5, as Encode is
unfoldable pub check_marks_refusal_in : Limits → ℕ → ℕ → ℕ → ℕ → ℕ
check_marks_refusal_in L m w c lent = sale_refusal_in L m w c or_else word_refusal_in L m w c lent

-- what it answers
unfoldable pub check_marks_answer_in : Limits → ℕ → ℕ → ℕ → List ℕ → Result Unit Refusal
check_marks_answer_in L m w c marks = answer_at (check_marks_refusal_in L m w c (length marks))

-- the marks at the end
unfoldable pub check_marks_buffer_in : Limits → ℕ → ℕ → ℕ → List ℕ → List ℕ
check_marks_buffer_in L m w c marks = unless_refused (check_marks_refusal_in L m w c (length marks)) (check_marks m w c) marks
