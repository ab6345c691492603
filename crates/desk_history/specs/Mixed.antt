-- One handle in a mixed list of calls: "On a sound desk, serve, read and close on one handle depend on that job alone (and the word lent), whatever is
-- done to other jobs." So do lose and find on it (and the place).
use Rattle.std.specs.Prelude.{◌≡◌, Bool, true, false, not, ◌&&◌, cond, List, [], ◌∷◌, ℕ, ◌≤◌, eqb, length}
use Rattle.desk_record.specs.declared.Desk.{Desk}
use Rattle.desk_record.specs.Desks.{job_at, issue_of, slot_of, is_sound, is_open}
use Rattle.desk_serve.specs.Serve.{serve_of}
use Rattle.desk_history.specs.History.{DeskCall, Fresh, Open, Serve, Read, Close, Lose, Find, step, desk_after}

-- a call on this handle
unfoldable pub is_on : ℕ → DeskCall → Bool
is_on h Fresh = false
is_on h (Open m w c marks) = false
is_on h (Serve g word) = eqb h g
is_on h (Read g) = eqb h g
is_on h (Close g) = eqb h g
is_on h (Lose g place) = eqb h g
is_on h (Find g place) = eqb h g

-- the calls of a list on this handle, in their order: the list without the other handles' calls, and without opens
unfoldable pub calls_on : ℕ → List DeskCall → List DeskCall
calls_on h [] = []
calls_on h (call ∷ calls) = cond (is_on h call) (call ∷ calls_on h calls) (calls_on h calls)

-- Fresh "starts a new desk, so what was issued before it doesn't count"
unfoldable pub is_fresh : DeskCall → Bool
is_fresh Fresh = true
is_fresh (Open m w c marks) = false
is_fresh (Serve g word) = false
is_fresh (Read g) = false
is_fresh (Close g) = false
is_fresh (Lose g place) = false
is_fresh (Find g place) = false

-- no call of a list starts a new desk
unfoldable pub none_fresh : List DeskCall → Bool
none_fresh [] = true
none_fresh (call ∷ calls) = not (is_fresh call) && none_fresh calls

-- what the word lent with a call holds then; only a serve is lent one
unfoldable pub word_then : DeskCall → Desk → List ℕ
word_then Fresh desk = []
word_then (Open m w c marks) desk = []
word_then (Serve h word) desk = (serve_of h word desk).word
word_then (Read h) desk = []
word_then (Close h) desk = []
word_then (Lose h place) desk = []
word_then (Find h place) desk = []

-- A call with all that its caller gets of it: the number, the value (Read's served count, the group that a Serve's 9 carries), and the word lent.
pub record Heard : Type 0 where
  pub call : DeskCall
  pub number : ℕ
  pub value : ℕ
  pub word : List ℕ

-- a call on a desk, with all that it gets
abbrev pub heard : DeskCall → Desk → Heard
heard call desk = record { call = call; number = (step call desk).number; value = (step call desk).value; word = word_then call desk }

-- what the calls on this handle get, each at its turn among all calls of the list
unfoldable pub heard_on : ℕ → Desk → List DeskCall → List Heard
heard_on h desk [] = []
heard_on h desk (call ∷ calls) =
    cond (is_on h call) (heard call desk ∷ heard_on h (step call desk).desk calls) (heard_on h (step call desk).desk calls)

-- A handle's own calls, among others and without them, from the same desk: each gets the same, the handle is open then or not alike, and if it is,
-- its slot holds the same job.
pub record OwnCalls (h : ℕ) (calls : List DeskCall) (desk : Desk) : Type 0 where
  pub same : heard_on h desk calls ≡ heard_on h desk (calls_on h calls)
  pub held : is_open (desk_after desk calls) h ≡ is_open (desk_after desk (calls_on h calls)) h
  pub job : is_open (desk_after desk calls) h ≡ true → job_at (desk_after desk calls) (slot_of h) ≡ job_at (desk_after desk (calls_on h calls)) (slot_of h)

-- The statement: every list of calls without Fresh, refused ones included, on any sound desk. The handle is any whose issue number is not above t: each
-- that was issued, open or closed since, 0 to 7, and a number of another slot with an issue number that was given. (Another is refused 12 until an open issues it, and from then on the statement speaks of it.)
abbrev pub OwnCallsHold : Type 0
OwnCallsHold =
    (h : ℕ) (calls : List DeskCall) (desk : Desk) → length desk.jobs ≡ 8 → is_sound desk ≡ true → issue_of h ≤ desk.t → none_fresh calls ≡ true
    → OwnCalls h calls desk
