-- What is shown of edits, in the words of the request. Each is stated of edited_buffer_in, with which, in the edition of bytes, the contract of
-- edit::edit is an equation.
use Rattle.std.specs.Prelude.{◌≡◌, true, false, ◌⊎◌, List, ℕ, zero, suc, ◌+◌, ◌*◌, ◌/◌, ◌%◌, ◌<◌, ◌≤◌, ◌^◌, length, get_or, set, Option, Some, None, Result, Ok, Err}
use Rattle.answers.specs.declared.Refusal.{Refusal}
use Rattle.code.specs.Limits.{data_count, GoodIn, SoldIn}
use Rattle.code_services.specs.Places.{extract_of}
use Rattle.code.specs.Edition.{Edition}
use Rattle.code.specs.Word.{is_local, Symbols, Codeword}
use Rattle.code_services.specs.Encode.{encoded_in}
use Rattle.code_services.specs.EncodeDemand.{Encoded}
use Rattle.edit.specs.Edit.{place_of, changed_data, edit_in, edited_buffer_in}

-- what a call that is not refused is lent: "a shape, a codeword, a data number below k and a byte"
pub record EditCall (E : Edition) (m w c : ℕ) (word : List ℕ) (number symbol : ℕ) : Type 0 where
  pub sold : SoldIn E.limits m w c
  pub codeword : Codeword E m w c word
  pub below : number < data_count m w c
  pub small : symbol < 2 ^ E.bits

-- place p is one that an edit of the data place q may change: "Only the data place, its group's c checks and the last group's c+2 checks"
abbrev pub MayDiffer : ℕ → ℕ → ℕ → ℕ → ℕ → Type 0
MayDiffer m w c q p = (p ≡ q) ⊎ (((p / w ≡ q / w) × (w ≤ p % w + c)) ⊎ ((p / w + 1 ≡ m) × (w ≤ p % w + (c + 2))))

-- Of a call: it is done, and leaves the one codeword that carries the changed data, so that Extract gives them; nothing differs elsewhere; and the
-- byte that stands there already changes nothing.
pub record Edited (E : Edition) (m w c : ℕ) (word : List ℕ) (number symbol : ℕ) : Type 0 where
  pub done : edit_in E m w c word number ≡ Ok tt
  pub as-encoded : edited_buffer_in E m w c word number symbol ≡ encoded_in E m w c (changed_data m w c word number symbol)
  pub encoded : Encoded E m w c (set (extract_of m w c word) number symbol) (edited_buffer_in E m w c word number symbol)
  pub elsewhere : (p : ℕ) → p < m * w → ¬ (MayDiffer m w c (place_of m w c number) p)
      → get_or (edited_buffer_in E m w c word number symbol) p 0 ≡ get_or word p 0
  pub same : symbol ≡ get_or (extract_of m w c word) number 0 → edited_buffer_in E m w c word number symbol ≡ word

-- "Edits of different data numbers give the same word in either order."
abbrev pub EitherOrder : Edition → ℕ → ℕ → ℕ → List ℕ → ℕ → ℕ → ℕ → ℕ → Type 0
EitherOrder E m w c word i a j b =
    ¬ (i ≡ j) → edited_buffer_in E m w c (edited_buffer_in E m w c word i a) j b ≡ edited_buffer_in E m w c (edited_buffer_in E m w c word j b) i a

-- the word after an edit of each number below i, to the data given
unfoldable pub edited_below : Edition → ℕ → ℕ → ℕ → List ℕ → List ℕ → ℕ → List ℕ
edited_below E m w c word carried zero = word
edited_below E m w c word carried (suc i) = edited_buffer_in E m w c (edited_below E m w c word carried i) i (get_or carried i 0)

-- edits one after another on all k numbers end in the encoding of the new data
abbrev pub AllEdited : Edition → ℕ → ℕ → ℕ → List ℕ → List ℕ → Type 0
AllEdited E m w c word carried = edited_below E m w c word carried (data_count m w c) ≡ encoded_in E m w c carried

-- g is "the lowest group whose present bytes no filling can satisfy locally, or m": where no place is lost, the lowest that breaks its own equations
pub record LowestGroup (E : Edition) (m w c : ℕ) (word : List ℕ) (g : ℕ) : Type 0 where
  pub most : g ≤ m
  pub broken : g < m → is_local E w c word g ≡ false
  pub lower : (i : ℕ) → i < g → is_local E w c word i ≡ true

-- Of every call: what is refused, in which order, and that it changes nothing; 1 to 4 come first, as the definition of the refusals says.
pub record Refusals (E : Edition) (m w c : ℕ) (word : List ℕ) (number symbol : ℕ) : Type 0 where
  -- "On every refusal all lent buffers [..] stay as they were."
  pub stays : ¬ (edit_in E m w c word number ≡ Ok tt) → edited_buffer_in E m w c word number symbol ≡ word
  -- "For c = 4 this is refused 29 like encoding."
  pub retired : GoodIn E.limits m w c → c ≡ 4 → edit_in E m w c word number ≡ Err Refusal.Retired
  -- then 5, whatever the number
  pub other_length : SoldIn E.limits m w c → ¬ (length word ≡ m * w) → edit_in E m w c word number ≡ Err Refusal.Length
  -- "30 data number not below k, after 5 and before 9"
  pub beyond : SoldIn E.limits m w c → length word ≡ m * w → data_count m w c ≤ number → edit_in E m w c word number ≡ Err Refusal.DataNumber
  -- "A word that isn't a codeword is refused 9 as in request 4."
  pub contradictory : SoldIn E.limits m w c → Symbols E (m * w) word → number < data_count m w c → ¬ Codeword E m w c word
      → (g : ℕ) × (edit_in E m w c word number ≡ Err (Refusal.Contradictory g)) × LowestGroup E m w c word g

-- what Edit answers to a word, by what Check answers to it
abbrev pub as_checked : Result (Option ℕ) Refusal → Result Unit Refusal
as_checked (Ok None) = Ok tt
as_checked (Ok (Some g)) = Err (Refusal.Contradictory g)
as_checked (Err e) = Err e
