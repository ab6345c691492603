use Rattle.std.proofs.Common.{◌≡◌, ℕ, ◌<◌, get_or}
use Rattle.binary_field.specs.Xor.{◌⊕◌}
use Rattle.code.specs.Edition.{times}
use Rattle.byte_edition.specs.Edition.{byte_edition}
use Rattle.block_constants.proofs.add.Given as goal

abbrev pub invariant-loop-j : goal.invariant-loop-j
invariant-loop-j l = (k : ℕ) → k < l.j → get_or l.x-items k 0 ≡ (get_or l.row k 0 ⊕ times byte_edition (get_or l.b k 0) l.f)
