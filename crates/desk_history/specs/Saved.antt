-- "A saved copy lent again counts as the desk it was then."
-- A call answers by the desk lent and by nothing else, so what was called between, on the original or on another copy, plays no part:
-- calls on the copy answer and leave what they would have, had they come right after those that had grown the desk when it was saved.
-- So all that `history` says holds of the copy too, with its own ledger: the one of the time it was saved, carried on by its own answers.
-- A number issued afterwards on the original is unknown to the copy,
-- which can issue the same: as of any two desks, such handles can't be told apart.
use Rattle.std.specs.Prelude.{◌≡◌, List, ◌++◌}
use Rattle.desk_record.specs.Desks.{fresh_desk}
use Rattle.desk_history.specs.History.{DeskCall, desk_after, grown, desk_answers, noted, ledger_of}
use Rattle.desk_history.specs.Theorem.{DeskAgrees}

-- calls on a copy saved after `before`
pub record Saved (before calls : List DeskCall) : Type 0 where
  pub desk : desk_after (grown before) calls ≡ grown (before ++ calls)
  pub told : desk_answers fresh_desk (before ++ calls) ≡ desk_answers fresh_desk before ++ desk_answers (grown before) calls
  pub ledger : noted (ledger_of before) (desk_answers (grown before) calls) ≡ ledger_of (before ++ calls)
  pub agrees : DeskAgrees (desk_after (grown before) calls) (noted (ledger_of before) (desk_answers (grown before) calls))
