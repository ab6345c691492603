use Rattle.std.proofs.Common.{ℕ}
use Rattle.wide_across.proofs.Laws.{zeros}
use Rattle.wide_across.proofs.across.Goals as goal

pub folded_sums-requires-clause-x_value : goal.folded_sums-requires-clause-x_value
folded_sums-requires-clause-x_value c =
    let w : ℕ = c.args.w in
    (zeros w 256 c.requires.good.narrow, zeros w 256 c.requires.good.narrow)
