use Rattle.std.proofs.Common.{sym, ap, ◌∙◌, ◌≤◌, arith, length}
use lib.ListN.{get_or-eq_default}
use Rattle.wide_field.specs.LocatorRow.{locator_row}
use Rattle.wide_field.specs.LocatorRowLaws.{row-length}
use Rattle.wide_solve.proofs.locator.Goals as goal

pub bounds-row-j : goal.bounds-row-j
bounds-row-j c = let l = ap length c.requires ∙ row-length in omega arith

pub returns-else-j-lt-MAX_WIDTH : goal.returns-else-j-lt-MAX_WIDTH
returns-else-j-lt-MAX_WIDTH c =
    let l = row-length in
    let h : length locator_row ≤ c.args.j = omega arith in
    sym (get_or-eq_default locator_row 0 h)
