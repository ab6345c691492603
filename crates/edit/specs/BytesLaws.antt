-- What is shown of edits, in the edition of bytes: of the definitions that the contract of edit::edit cites.
use Rattle.std.specs.Prelude.{◌≡◌, refl, Bool, true, false, not, List, ℕ, ◌*◌, ◌<◌, length, get_or}
use Rattle.std.proofs.Common.{sym, ap, ◌∙◌}
use Rattle.answers.specs.Answers.{mending_at}
use Rattle.code.specs.Refusals.{refuse, ◌or_else◌}
use Rattle.shape.specs.Shapes.{byte_limits}
use Rattle.code.specs.Word.{is_codeword, Codeword}
use Rattle.code.specs.Limits.{data_count, SoldIn}
use Rattle.code.specs.LimitsLaws.{word-of-good}
use Rattle.byte_edition.specs.Edition.{byte_edition}
use Rattle.byte_edition.specs.EditionLaws.{bytes-sound}
use Rattle.code_services.specs.Check.{checked_in, whole_group_in}
use Rattle.answers.specs.Figures.{checked_at}
use Rattle.edit.specs.Edit.{edit_in, edit_refusal_in}
use Rattle.edit.specs.Demand.{EditCall, Edited, EitherOrder, AllEdited, Refusals, as_checked}
use Rattle.edit.specs.Laws.{edited, either_order, all-edited, refusals, number-of-sold}

-- a call that is not refused
pub edit-done : (m w c : ℕ) (word : List ℕ) (number byte : ℕ) → EditCall byte_edition m w c word number byte → Edited byte_edition m w c word number byte
edit-done m w c word number byte K = edited bytes-sound K

-- every call
pub edit-refusals : (m w c : ℕ) (word : List ℕ) (number byte : ℕ) → Refusals byte_edition m w c word number byte
edit-refusals m w c word number byte = refusals byte_edition m w c word number byte

-- "Edits of different data numbers give the same word in either order."
pub edit-either-order : (m w c : ℕ) (word : List ℕ) → ((p : ℕ) → get_or word p 0 < 256) → (i a j b : ℕ) → a < 256 → b < 256
    → EitherOrder byte_edition m w c word i a j b
edit-either-order m w c word each i a j b ha hb = either_order bytes-sound m w c word each i a j b ha hb

-- edits of all k numbers
pub edit-all : (m w c : ℕ) → SoldIn byte_limits m w c → (word : List ℕ) → Codeword byte_edition m w c word → (carried : List ℕ) → length carried ≡ data_count m w c
    → ((i : ℕ) → get_or carried i 0 < 256) → AllEdited byte_edition m w c word carried
edit-all m w c s word C carried size small = all-edited bytes-sound s word C carried size small

-- past the number Edit answers as Check does: done where Check says yes, and 9 with Check's group where it says no
pub edit-as-checked : (m w c : ℕ) (word : List ℕ) (number : ℕ) → SoldIn byte_limits m w c → length word ≡ m * w → number < data_count m w c
    → edit_in byte_edition m w c word number ≡ as_checked (checked_in byte_edition m w c word)
unfolding edit_in edit_refusal_in checked_in
edit-as-checked m w c word number s size l =
    ap (λ r. mending_at (r or_else refuse 9 (not (is_codeword byte_edition m w c word))) (whole_group_in byte_edition m w c word))
    (number-of-sold m w c (length word) number s size l)
    ∙ go (is_codeword byte_edition m w c word)
    ∙ ap (λ r. as_checked (checked_at r (is_codeword byte_edition m w c word) (whole_group_in byte_edition m w c word)))
    (sym (word-of-good m w c (length word) s.good size))
  where
    go : (b : Bool) → mending_at (refuse 9 (not b)) (whole_group_in byte_edition m w c word) ≡ as_checked (checked_at 0 b (whole_group_in byte_edition m w c word))
    go true = refl
    go false = refl
