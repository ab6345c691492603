-- What Close answers, and what the desk holds then.
use Rattle.std.specs.Prelude.{ℕ}
use Rattle.desk_record.specs.declared.Desk.{Desk}
use Rattle.desk_job.specs.Jobs.{empty_job}
use Rattle.desk_record.specs.Desks.{with_job, slot_of}
use Rattle.desk_record.specs.Refusal.{handle_refusal}
use Rattle.desk_record.specs.Calls.{Changing, changing_by}

-- by its number: the desk with that slot emptied, or the desk as it was
abbrev pub close_by : ℕ → ℕ → Desk → Changing
close_by r handle desk = changing_by r (with_job desk (slot_of handle) empty_job) desk

-- "Close frees the slot and sets all its fields to zero."
unfoldable pub close_of : ℕ → Desk → Changing
close_of handle desk = close_by (handle_refusal handle desk) handle desk
