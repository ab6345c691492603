-- "On a sound desk, serve, read and close on one handle depend on that job alone (and the word lent), whatever is done to other jobs."
-- Lose and find on it depend on that job alone too (and the place). "Open also depends on t and on which slots are taken."
use Rattle.std.specs.Prelude.{◌≡◌, List, ℕ}
use Rattle.desk_record.specs.declared.Desk.{Desk}
use Rattle.desk_record.specs.Desks.{job_at, slot_of}
use Rattle.desk_open.specs.Open.{free_slot, open_of}
use Rattle.desk_close.specs.Read.{read_of}
use Rattle.desk_close.specs.Close.{close_of}
use Rattle.desk_serve.specs.Serve.{serve_of}
use Rattle.desk_change.specs.Change.{lose_of, find_of}

-- Two desks answer alike on a handle, and leave the same job in its slot.
pub record Alike (h : ℕ) (word : List ℕ) (d e : Desk) : Type 0 where
  pub serve-number : (serve_of h word d).number ≡ (serve_of h word e).number
  pub serve-group : (serve_of h word d).group ≡ (serve_of h word e).group
  pub serve-word : (serve_of h word d).word ≡ (serve_of h word e).word
  pub serve-job : job_at (serve_of h word d).desk (slot_of h) ≡ job_at (serve_of h word e).desk (slot_of h)
  pub read : read_of h d ≡ read_of h e
  pub close-number : (close_of h d).number ≡ (close_of h e).number
  pub close-job : job_at (close_of h d).desk (slot_of h) ≡ job_at (close_of h e).desk (slot_of h)
  pub lose-number : (place : ℕ) → (lose_of h place d).number ≡ (lose_of h place e).number
  pub lose-job : (place : ℕ) → job_at (lose_of h place d).desk (slot_of h) ≡ job_at (lose_of h place e).desk (slot_of h)
  pub find-number : (place : ℕ) → (find_of h place d).number ≡ (find_of h place e).number
  pub find-job : (place : ℕ) → job_at (find_of h place d).desk (slot_of h) ≡ job_at (find_of h place e).desk (slot_of h)

-- Two desks open alike: the same number and handle, in the same slot, and where it is done the same job there.
pub record OpenAlike (m w c : ℕ) (marks : List ℕ) (d e : Desk) : Type 0 where
  pub slot : free_slot d ≡ free_slot e
  pub number : (open_of m w c marks d).number ≡ (open_of m w c marks e).number
  pub handle : (open_of m w c marks d).handle ≡ (open_of m w c marks e).handle
  pub count : (open_of m w c marks d).desk.t ≡ (open_of m w c marks e).desk.t
  pub job : (open_of m w c marks d).number ≡ 0 → job_at (open_of m w c marks d).desk (free_slot d) ≡ job_at (open_of m w c marks e).desk (free_slot e)
