use Rattle.std.proofs.Common.{◌≡◌, ℕ, ◌+◌, ◌≤◌, ◌<◌, length, get_or}
use Rattle.binary_field.specs.Xor.{◌⊕◌}
use Rattle.binary_field.specs.Product.{double}
use Rattle.block_sums.proofs.step.Given as goal

abbrev pub invariant-loop-i : goal.invariant-loop-i
invariant-loop-i l =
    (length l.r ≡ length l.initial.r)
    × ((j : ℕ) → j < l.i → get_or l.r j 0 ≡ double 8 285 (get_or l.initial.r j 0) ⊕ get_or l.t (l.a + j) 0 ⊕ get_or l.t (l.b + j) 0
    ⊕ get_or l.t (l.c + j) 0 ⊕ get_or l.t (l.d + j) 0)
    × ((k : ℕ) → l.i ≤ k → get_or l.r k 0 ≡ get_or l.initial.r k 0)
