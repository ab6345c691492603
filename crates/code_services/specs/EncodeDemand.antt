-- Demand 2 of Encode: "Encoding gives the one codeword that carries the data, and the data come out again."
use Rattle.std.specs.Prelude.{◌≡◌, List, ℕ, Result, Ok, Err}
use Rattle.answers.specs.declared.Refusal.{Refusal}
use Rattle.code_services.specs.Places.{extract_of}
use Rattle.code.specs.Edition.{Edition}
use Rattle.code.specs.Word.{Codeword}
use Rattle.code_services.specs.Encode.{encode_in, encoded_buffer_in}

-- a word is the one codeword that carries these data
pub record Encoded (E : Edition) (m w c : ℕ) (carried word : List ℕ) : Type 0 where
  pub codeword : Codeword E m w c word
  pub carries : extract_of m w c word ≡ carried
  pub only : (y : List ℕ) → Codeword E m w c y → extract_of m w c y ≡ carried → y ≡ word

-- Of a call: it is done, and leaves the one codeword that carries the data. "Demand 2's encoding half now speaks of c up to 3".
pub record EncodeDemandTwo (E : Edition) (m w c : ℕ) (carried word : List ℕ) : Type 0 where
  pub done : encode_in E.limits m w c carried word ≡ Ok tt
  pub encoded : Encoded E m w c carried (encoded_buffer_in E m w c carried word)

-- "Encode [..] with c = 4 [is] refused", with 29, and the word stays as it was
pub record Retired (E : Edition) (m w c : ℕ) (carried word : List ℕ) : Type 0 where
  pub refused : encode_in E.limits m w c carried word ≡ Err Refusal.Retired
  pub stays : encoded_buffer_in E m w c carried word ≡ word
