use Rattle.std.proofs.Common.{◌≡◌, ℕ, ◌≤◌, ◌<◌, length, get_or}
use Rattle.binary_field.specs.Xor.{◌⊕◌}
use Rattle.code.specs.Edition.{times}
use Rattle.byte_edition.specs.Edition.{byte_edition}
use Rattle.edit.proofs.add_rows.Given as goal

abbrev pub invariant-loop-i : goal.invariant-loop-i
invariant-loop-i l =
    (length l.part ≡ length l.initial.part)
    × ((p : ℕ) → p < l.i → get_or l.part p 0 ≡ get_or l.initial.part p 0 ⊕ (times byte_edition l.u (get_or l.h p 0) ⊕ times byte_edition l.v (get_or l.k p 0)))
    × ((p : ℕ) → l.i ≤ p → get_or l.part p 0 ≡ get_or l.initial.part p 0)
