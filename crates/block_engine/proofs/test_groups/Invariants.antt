use Rattle.std.proofs.Common.{ℕ, ◌<◌, ◌+◌, ◌*◌}
use Rattle.code.specs.Stretch.{stretch}
use Rattle.block_laws.specs.Group.{Mendable}
use Rattle.block_laws.specs.Steps.{Limit, place_symbol}
use Rattle.block_engine.proofs.test_groups.Given as goal

abbrev pub invariant-loop-g : goal.invariant-loop-g
invariant-loop-g l =
    Limit l.size l.limit (λ x. (h : ℕ) → h < l.g → Mendable l.w l.c h (stretch l.w h l.bound) (λ j. place_symbol l.size l.blocks x (h * l.w + j)))
