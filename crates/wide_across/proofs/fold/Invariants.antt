use Rattle.std.proofs.Common.{◌≡◌, ℕ, ◌≤◌, ◌<◌, get_or}
use Rattle.binary_field.specs.Xor.{◌⊕◌}
use Rattle.binary_field.specs.Product.{double}
use Rattle.wide_across.proofs.fold.Given as goal

abbrev pub invariant-loop-i : goal.invariant-loop-i
invariant-loop-i l =
    ((k : ℕ) → k < l.i → get_or l.x k 0 ≡ get_or l.initial.x k 0 ⊕ get_or l.part k 0)
    × ((k : ℕ) → l.i ≤ k → get_or l.x k 0 ≡ get_or l.initial.x k 0)
    × ((k : ℕ) → k < l.i → get_or l.y k 0 ≡ double 16 69643 (get_or l.initial.y k 0) ⊕ get_or l.part k 0)
    × ((k : ℕ) → l.i ≤ k → get_or l.y k 0 ≡ get_or l.initial.y k 0)
