-- Every call keeps a sound desk sound, wherever the desk comes from; on any other all but Fresh answer 31 and leave it as it was.
use Rattle.std.specs.Prelude.{◌≡◌, length}
use Rattle.desk_record.specs.declared.Desk.{Desk}
use Rattle.desk_record.specs.Desks.{SoundRecord}
use Rattle.desk_history.specs.History.{Step}

-- eight slots, and sound
pub record Fit (desk : Desk) : Type 0 where
  pub size : length desk.jobs ≡ 8
  pub sound : SoundRecord desk

-- "Any other record is refused 31", and "On every refusal all lent buffers and the desk stay as they were."
abbrev pub refused31 : Desk → Step
refused31 desk = record { number = 31; value = 0; desk = desk }
