-- The refusals of a call on a desk by the desk and the handle alone.
use Rattle.std.specs.Prelude.{not, ℕ}
use Rattle.code.specs.Refusals.{refuse, ◌or_else◌}
use Rattle.desk_record.specs.declared.Desk.{Desk}
use Rattle.desk_record.specs.Desks.{is_sound, is_open}

-- 31: "the lent desk is not sound", before all others
abbrev pub sound_refusal : Desk → ℕ
sound_refusal desk = refuse 31 (not (is_sound desk))

-- 12: "handle not open", after 31
unfoldable pub handle_refusal : ℕ → Desk → ℕ
handle_refusal handle desk = sound_refusal desk or_else refuse 12 (not (is_open desk handle))
