-- What the steps of an edit owe: a group refilled, rows added, and the last group corrected.
use Rattle.std.specs.Prelude.{◌≡◌, List, ℕ, ◌+◌, ◌-◌, ◌*◌, ◌<◌, length, get_or, set}
use Rattle.binary_field.specs.Xor.{◌⊕◌}
use Rattle.code.specs.Edition.{times, raised}
use Rattle.code.specs.Word.{group_sum, local_sum, coefficient, second_coefficient}
use Rattle.code.specs.Combined.{combined}
use Rattle.code.specs.Lone.{lone}
use Rattle.code.specs.Pair.{pair_at}
use Rattle.byte_edition.specs.Edition.{byte_edition}
use Rattle.syndrome.specs.declared.Sums.{Sums}
use Rattle.edit.specs.Rows.{fix_of, fixes_at}

-- group g's stretch with b at place j and its last c places filled by its own equations, and what that changes in the two sums across
pub record Refilled (w c g j b : ℕ) (before after : List ℕ) (sums : Sums) : Type 0 where
  pub size : length after ≡ w
  pub carries : (i : ℕ) → i + c < w → get_or after i 0 ≡ get_or (set before j b) i 0
  pub zero : (e : ℕ) → e < c → local_sum byte_edition w after 0 e ≡ 0
  pub first : sums.first ≡ group_sum byte_edition w before 0 (coefficient byte_edition c) ⊕ group_sum byte_edition w after 0 (coefficient byte_edition c)
  pub second : sums.second ≡ group_sum byte_edition w before 0 (second_coefficient byte_edition c g) ⊕ group_sum byte_edition w after 0
      (second_coefficient byte_edition c g)

-- u times h and v times k added
pub record AddedRows (u : ℕ) (h : List ℕ) (v : ℕ) (k before after : List ℕ) : Type 0 where
  pub size : length after ≡ length before
  pub each : (i : ℕ) → i < length before → get_or after i 0 ≡ get_or before i 0 ⊕ (times byte_edition u (get_or h i 0) ⊕ times byte_edition v (get_or k i 0))

-- the word with multiples of the two rows added to its last group
unfoldable pub corrected_of : ℕ → ℕ → ℕ → ℕ → ℕ → List ℕ → List ℕ
corrected_of m w c first second word =
    combined byte_edition (m * w) word 2 (pair_at first (times byte_edition second (raised byte_edition 2 (15 - m))))
    (λ i. lone m w (m - 1) (fix_of (fixes_at i) w c))
