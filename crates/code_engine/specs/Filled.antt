-- What filling a group does: present symbols stay, and with t lost places, at most four of no more than the small field has elements, the
-- first t syndromes are zero.
-- In any other case nothing changes.
use Rattle.std.specs.Prelude.{◌≡◌, false, List, ℕ, ◌≤◌, ◌<◌, length, get_or}
use Rattle.code.specs.Edition.{Edition}
use Rattle.code.specs.Word.{local_sum}
use Rattle.code.specs.Marks.{lost, lost_in}

pub record FilledIn (E : Edition) (marks before after : List ℕ) : Type 0 where
  pub size : length after ≡ length before
  pub present : (p : ℕ) → lost marks p ≡ false → get_or after p 0 ≡ get_or before p 0
  pub zero : length before ≤ E.small → length marks ≡ length before → lost_in (length before) marks 0 ≤ 4
      → (e : ℕ) → e < lost_in (length before) marks 0 → local_sum E (length before) after 0 e ≡ 0
  pub other : (length before ≤ E.small → length marks ≡ length before → lost_in (length before) marks 0 ≤ 4 → ⊥) → after ≡ before
