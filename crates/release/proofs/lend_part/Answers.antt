use Rattle.std.proofs.Common.{rules}
use Rattle.release.specs.Texts.{texts}
use Rattle.release.specs.Joined.{joined_texts}
use Rattle.release.proofs.lend_part.Goals as goal

pub returns : goal.returns
unfolding joined_texts texts
returns c = search rules
