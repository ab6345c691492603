-- What the service Edit gives: "Given a shape, a codeword, a data number below k and a byte, leave the word as encoding the changed data would."
use Rattle.std.specs.Prelude.{not, List, ℕ, leb, length, get_or, set, replicate, Result}
use Rattle.answers.specs.declared.Refusal.{Refusal}
use Rattle.answers.specs.Answers.{mending_at}
use Rattle.code.specs.Refusals.{refuse, ◌or_else◌, unless_refused}
use Rattle.code.specs.Limits.{Limits, data_count, sale_refusal_in, word_refusal_in}
use Rattle.code_services.specs.Places.{data_places, extract_of}
use Rattle.code.specs.Edition.{Edition}
use Rattle.code.specs.Word.{is_codeword}
use Rattle.code.specs.Contradiction.{contradicting_group}
use Rattle.code_services.specs.Encode.{encoded_in}

-- "the data place" of a data number
unfoldable pub place_of : ℕ → ℕ → ℕ → ℕ → ℕ
place_of m w c number = get_or (data_places m w c) number 0

-- "the changed data": what the word carries, with another symbol at this number
unfoldable pub changed_data : ℕ → ℕ → ℕ → List ℕ → ℕ → ℕ → List ℕ
changed_data m w c word number symbol = set (extract_of m w c word) number symbol

-- the word "as encoding the changed data would" leave it
unfoldable pub edited_in : Edition → ℕ → ℕ → ℕ → List ℕ → ℕ → ℕ → List ℕ
edited_in E m w c word number symbol = encoded_in E m w c (changed_data m w c word number symbol)

-- 1 to 4, "For c = 4 this is refused 29 like encoding", 5, and "30 data number not below k, after 5 and before 9"
unfoldable pub number_refusal_in : Limits → ℕ → ℕ → ℕ → ℕ → ℕ → ℕ
number_refusal_in L m w c lent number = sale_refusal_in L m w c or_else word_refusal_in L m w c lent or_else refuse 30 (leb (data_count m w c) number)

-- and 9: "A word that isn't a codeword is refused 9 as in request 4."
unfoldable pub edit_refusal_in : Edition → ℕ → ℕ → ℕ → List ℕ → ℕ → ℕ
edit_refusal_in E m w c word number = number_refusal_in E.limits m w c (length word) number or_else refuse 9 (not (is_codeword E m w c word))

-- the answer; a 9 carries the group that contradicts where every place is present
unfoldable pub edit_in : Edition → ℕ → ℕ → ℕ → List ℕ → ℕ → Result Unit Refusal
edit_in E m w c word number = mending_at (edit_refusal_in E m w c word number) (contradicting_group E m w c word (replicate (length word) 0))

-- the word at the end
unfoldable pub edited_buffer_in : Edition → ℕ → ℕ → ℕ → List ℕ → ℕ → ℕ → List ℕ
edited_buffer_in E m w c word number symbol = unless_refused (edit_refusal_in E m w c word number) (edited_in E m w c word number symbol) word
