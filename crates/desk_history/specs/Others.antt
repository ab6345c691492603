-- "whatever is done to other jobs": calls on other handles leave an open handle's job as it was, so its answers are the same before and after.
use Rattle.std.specs.Prelude.{◌≡◌, Bool, true, false, not, ◌&&◌, List, [], ◌∷◌, ℕ, eqb}
use Rattle.desk_record.specs.declared.Desk.{Desk}
use Rattle.desk_record.specs.Desks.{job_at, slot_of, is_open}
use Rattle.desk_open.specs.Open.{new_job}
use Rattle.desk_history.specs.History.{DeskCall, Fresh, Open, Serve, Read, Close, Lose, Find}

-- a call that neither starts a new desk nor serves, changes or closes this handle
unfoldable pub is_other : ℕ → DeskCall → Bool
is_other h Fresh = false
is_other h (Open m w c marks) = true
is_other h (Serve g word) = not (eqb h g)
is_other h (Read g) = true
is_other h (Close g) = not (eqb h g)
is_other h (Lose g place) = not (eqb h g)
is_other h (Find g place) = not (eqb h g)

-- every call of a list is one of these
unfoldable pub are_others : ℕ → List DeskCall → Bool
are_others h [] = true
are_others h (call ∷ calls) = is_other h call && are_others h calls

-- Open's handle is open at once, with the shape and the marks given
pub record Given (m w c : ℕ) (marks : List ℕ) (desk : Desk) (h : ℕ) : Type 0 where
  pub held : is_open desk h ≡ true
  pub job : job_at desk (slot_of h) ≡ new_job m w c marks h
