use Rattle.std.proofs.Common.{sym, ap, ◌∙◌, List, ℕ, ◌<◌, length, get_or, get_or-take, arith}
use Rattle.wide_field.specs.LocatorRowLaws.{row_at}
use Rattle.wide_sums.proofs.gather_in.Goals as goal

pub gather-requires-clause-row : goal.gather-requires-clause-row
gather-requires-clause-row c = λ j l.
    let part : List ℕ = c.args.part.now in
    let k : j < length part = omega (arith, ap length (c.copy.ensures.to_after (sym c.requires.x_len))) in
    get_or-take (length part) _ j 0 k ∙ ap (λ r. get_or r j 0) c.locators-row.ensures ∙ row_at j (omega (arith, c.requires.part_len_bound))
