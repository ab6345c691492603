-- Laws: "A saved copy lent again counts as the desk it was then."
-- A call answers by the desk lent and by nothing else, so what was called between, on the original or on another copy, plays no part:
-- calls on the copy answer and leave what they would have, had they come right after those that had grown the desk when it was saved.
-- So all that `history` says holds of the copy too, with its own ledger: the one of the time it was saved, carried on by its own answers.
-- A number issued afterwards on the original is unknown to the copy,
-- which can issue the same: as of any two desks, such handles can't be told apart.
use Rattle.std.specs.Prelude.{◌≡◌, refl, List, [], ◌∷◌, ◌++◌}
use Rattle.std.proofs.Common.{sym, ap, ◌∙◌}
use Rattle.desk_record.specs.declared.Desk.{Desk}
use Rattle.desk_record.specs.Desks.{fresh_desk}
use Rattle.desk_history.specs.History.{DeskCall, step, desk_after, grown, Answered, desk_answers, Ledger, empty_ledger, note, noted, ledger_of}
use Rattle.desk_history.specs.TheoremLaws.{fresh_kept, kept-all, agrees}
use Rattle.desk_history.specs.Saved.{Saved}

after-append : (desk : Desk) (before calls : List DeskCall) → desk_after (desk_after desk before) calls ≡ desk_after desk (before ++ calls)
unfolding desk_after
after-append desk [] calls = refl
after-append desk (call ∷ before) calls = after-append (step call desk).desk before calls

answers-append : (desk : Desk) (before calls : List DeskCall)
    → desk_answers desk (before ++ calls) ≡ desk_answers desk before ++ desk_answers (desk_after desk before) calls
unfolding desk_answers desk_after
answers-append desk [] calls = refl
answers-append desk (call ∷ before) calls =
    ap (λ l. record { call = call; number = (step call desk).number; value = (step call desk).value } ∷ l) (answers-append (step call desk).desk before calls)

noted-append : (ledger : Ledger) (x y : List Answered) → noted ledger (x ++ y) ≡ noted (noted ledger x) y
unfolding noted
noted-append ledger [] y = refl
noted-append ledger (a ∷ x) y = noted-append (note a ledger) x y

pub saved : (before calls : List DeskCall) → Saved before calls
saved before calls = record {
  desk = after-append fresh_desk before calls;
  told = answers-append fresh_desk before calls;
  ledger =
      sym (noted-append empty_ledger (desk_answers fresh_desk before) (desk_answers (grown before) calls))
      ∙ ap (noted empty_ledger) (sym (answers-append fresh_desk before calls));
  agrees =
      agrees (desk_after (grown before) calls) (noted (ledger_of before) (desk_answers (grown before) calls))
      (kept-all calls (grown before) (ledger_of before) (kept-all before fresh_desk empty_ledger fresh_kept));
}
