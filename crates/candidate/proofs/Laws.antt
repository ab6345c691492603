-- The sums across of a direction are those of its group.
use mathlib.Core.Path.{◌≡◌, sym, ap, ap₂, ◌∙◌}
use mathlib.Core.List.{List}
use Prim.Native.Nat.{ℕ, ◌<◌}
use lib.ListN.{length}
use Rattle.byte_edition.specs.Edition.{byte_edition}
use Rattle.code.specs.Word.{group_sum, coefficient, second_coefficient}
use Rattle.code.specs.Lone.{lone}
use Rattle.code.specs.LoneLaws.{lone-word}
use Rattle.syndrome.specs.Across.{group_sums, across_of}

pub weights-of : (m w c g : ℕ) (part : List ℕ) → g < m → length part ≡ w → group_sums c g part ≡ across_of m w c (lone m w g part)
weights-of m w c g part l long =
    ap₂ (λ a b. record { first = a; second = b })
    (ap (λ n. group_sum byte_edition n part 0 (coefficient byte_edition c)) long ∙ sym (lone-word m w g part l long byte_edition _))
    (ap (λ n. group_sum byte_edition n part 0 (second_coefficient byte_edition c g)) long ∙ sym (lone-word m w g part l long byte_edition _))
