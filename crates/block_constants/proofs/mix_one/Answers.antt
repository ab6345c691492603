use Rattle.std.proofs.Common.{refl}
use Rattle.block_constants.specs.FreeRowsLaws.{row_made}
use Rattle.block_constants.proofs.mix_one.Goals as goal

pub returns : goal.returns
returns c = row_made _ _ _ _ _ _ _ _ _ c.clear_place-rows.ensures refl refl c.mix.ensures
