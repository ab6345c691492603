use Rattle.std.proofs.Common.{◌≡◌, ℕ, ◌<◌, length, get_or}
use Rattle.binary_field.specs.Xor.{◌⊕◌}
use Rattle.syndrome.proofs.plus.Given as goal

abbrev pub invariant-loop-i : goal.invariant-loop-i
invariant-loop-i l =
    (length l.r ≡ 16) × ((j : ℕ) → j < l.i → get_or l.r j 0 ≡ get_or l.x j 0 ⊕ get_or l.part j 0)
