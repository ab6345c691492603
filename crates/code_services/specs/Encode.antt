-- What the service Encode gives.
use Rattle.std.specs.Prelude.{List, ℕ, length, Result}
use Rattle.answers.specs.declared.Refusal.{Refusal}
use Rattle.answers.specs.Answers.{answer_at}
use Rattle.code.specs.Refusals.{◌or_else◌, unless_refused}
use Rattle.code.specs.Limits.{Limits, sale_refusal_in, buffer_refusal_in}
use Rattle.code_services.specs.Places.{placed_of, check_marks}
use Rattle.code.specs.Edition.{Edition}
use Rattle.code.specs.Recovery.{recovered}

-- "Encode: data of k bytes into a word of n": the data in their places, and the check places recovered
unfoldable pub encoded_in : Edition → ℕ → ℕ → ℕ → List ℕ → List ℕ
encoded_in E m w c carried = (recovered E m w c (placed_of m w c carried) (check_marks m w c)).word

-- "Never refused but for 1 to 5", and "29 retired shape, straight after 4 and 26"
unfoldable pub encode_refusal_in : Limits → ℕ → ℕ → ℕ → ℕ → ℕ → ℕ
encode_refusal_in L m w c word bytes' = sale_refusal_in L m w c or_else buffer_refusal_in L m w c word bytes'

-- the answer
unfoldable pub encode_in : Limits → ℕ → ℕ → ℕ → List ℕ → List ℕ → Result Unit Refusal
encode_in L m w c carried word = answer_at (encode_refusal_in L m w c (length word) (length carried))

-- the word buffer at the end
unfoldable pub encoded_buffer_in : Edition → ℕ → ℕ → ℕ → List ℕ → List ℕ → List ℕ
encoded_buffer_in E m w c carried word = unless_refused (encode_refusal_in E.limits m w c (length word) (length carried)) (encoded_in E m w c carried) word
