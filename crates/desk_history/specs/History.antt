-- A desk's history: lists of calls, refused ones included, what they answer and leave, and a ledger kept from the calls and their answers alone.
use Rattle.std.specs.Prelude.{Bool, true, not, ◌&&◌, cond, List, [], ◌∷◌, ℕ, zero, suc, ◌+◌, eqb, set}
use Rattle.counting.specs.Count.{one}
use Rattle.counting.specs.Sets.{is_in}
use Rattle.desk_record.specs.declared.Desk.{Desk}
use Rattle.desk_record.specs.Desks.{fresh_desk}
use Rattle.desk_open.specs.Open.{open_of}
use Rattle.desk_close.specs.Read.{read_of}
use Rattle.desk_close.specs.Close.{close_of}
use Rattle.desk_serve.specs.Serve.{serve_of}
use Rattle.desk_change.specs.Change.{lose_of, find_of}

-- The calls on a desk.
pub data DeskCall : Type 0 where
  Fresh : DeskCall
  Open : (m w c : ℕ) → (marks : List ℕ) → DeskCall
  Serve : (handle : ℕ) → (word : List ℕ) → DeskCall
  Read : (handle : ℕ) → DeskCall
  Close : (handle : ℕ) → DeskCall
  Lose : (handle : ℕ) → (place : ℕ) → DeskCall
  Find : (handle : ℕ) → (place : ℕ) → DeskCall

-- What a call answers: a number, 0 for done, and a value: Open's handle, Read's served count, the group that a Serve's 9 carries, else 0; and the desk then.
pub record Step : Type 0 where
  pub number : ℕ
  pub value : ℕ
  pub desk : Desk

-- what one call leaves and answers
unfoldable pub step : DeskCall → Desk → Step
step Fresh desk = record { number = 0; value = 0; desk = fresh_desk }
step (Open m w c marks) desk = record {
  number = (open_of m w c marks desk).number;
  value = (open_of m w c marks desk).handle;
  desk = (open_of m w c marks desk).desk;
}
step (Serve handle word) desk = record {
  number = (serve_of handle word desk).number;
  value = (serve_of handle word desk).group;
  desk = (serve_of handle word desk).desk;
}
step (Read handle) desk = record { number = (read_of handle desk).number; value = (read_of handle desk).served; desk = desk }
step (Close handle) desk = record { number = (close_of handle desk).number; value = 0; desk = (close_of handle desk).desk }
step (Lose handle place) desk = record { number = (lose_of handle place desk).number; value = 0; desk = (lose_of handle place desk).desk }
step (Find handle place) desk = record { number = (find_of handle place desk).number; value = 0; desk = (find_of handle place desk).desk }

-- the desk after a list of calls, the first first
unfoldable pub desk_after : Desk → List DeskCall → Desk
desk_after desk [] = desk
desk_after desk (call ∷ calls) = desk_after (step call desk).desk calls

-- "on a desk grown from fresh by these calls alone"
abbrev pub grown : List DeskCall → Desk
grown calls = desk_after fresh_desk calls

-- A call and what it answered: all that its caller sees of the desk.
pub record Answered : Type 0 where
  pub call : DeskCall
  pub number : ℕ
  pub value : ℕ

-- the calls with what they answered, in order
unfoldable pub desk_answers : Desk → List DeskCall → List Answered
desk_answers desk [] = []
desk_answers desk (call ∷ calls) = record { call = call; number = (step call desk).number; value = (step call desk).value } ∷ desk_answers
    (step call desk).desk calls

-- A handle, and the shape and the marks of its job from then on.
pub record Pattern : Type 0 where
  pub handle : ℕ
  pub m : ℕ
  pub w : ℕ
  pub c : ℕ
  pub marks : List ℕ

-- What the caller writes down: the handles issued, those closed, the handle of each serve answered 0, and the shape and the marks of each
-- handle: those of its opening, and after each lose or find answered 0 the marks changed by it; the last first.
pub record Ledger : Type 0 where
  pub issued : List ℕ
  pub closed : List ℕ
  pub serves : List ℕ
  pub patterns : List Pattern

-- Fresh "starts a new desk, so what was issued before it doesn't count"
abbrev pub empty_ledger : Ledger
empty_ledger = record { issued = []; closed = []; serves = []; patterns = [] }

-- of a handle that was never noted
abbrev pub no_pattern : Pattern
no_pattern = record { handle = 0; m = 0; w = 0; c = 0; marks = [] }

-- what was last noted of a handle
unfoldable pub pattern_in : ℕ → List Pattern → Pattern
pattern_in h [] = no_pattern
pattern_in h (p ∷ ps) = cond (eqb h p.handle) p (pattern_in h ps)

-- the shape of a handle's opening, and its marks: those of its opening, changed by the loses and finds answered 0 since
abbrev pub pattern_of : Ledger → ℕ → Pattern
pattern_of ledger h = pattern_in h ledger.patterns

-- a pattern with the mark of one place set
abbrev pub with_mark : ℕ → ℕ → Pattern → Pattern
with_mark mark place p = record { handle = p.handle; m = p.m; w = p.w; c = p.c; marks = set p.marks place mark }

-- a lose or find answered 0: the mark of that place is set
abbrev pub note_mark : ℕ → ℕ → ℕ → Ledger → Ledger
note_mark mark handle place ledger = record {
  issued = ledger.issued;
  closed = ledger.closed;
  serves = ledger.serves;
  patterns = with_mark mark place (pattern_of ledger handle) ∷ ledger.patterns;
}

-- the first where the number is 0
abbrev pub if_done : ℕ → Ledger → Ledger → Ledger
if_done zero a b = a
if_done (suc r) a b = b

-- what a call that was answered so adds to the ledger
abbrev pub note_by : DeskCall → ℕ → ℕ → Ledger → Ledger
note_by Fresh number value ledger = empty_ledger
note_by (Open m w c marks) number value ledger =
    if_done number (record {
      issued = value ∷ ledger.issued;
      closed = ledger.closed;
      serves = ledger.serves;
      patterns = record { handle = value; m = m; w = w; c = c; marks = marks } ∷ ledger.patterns;
    }) ledger
note_by (Serve handle word) number value ledger =
    if_done number (record { issued = ledger.issued; closed = ledger.closed; serves = handle ∷ ledger.serves; patterns = ledger.patterns }) ledger
note_by (Read handle) number value ledger = ledger
note_by (Close handle) number value ledger =
    if_done number (record { issued = ledger.issued; closed = handle ∷ ledger.closed; serves = ledger.serves; patterns = ledger.patterns }) ledger
note_by (Lose handle place) number value ledger = if_done number (note_mark 1 handle place ledger) ledger
note_by (Find handle place) number value ledger = if_done number (note_mark 0 handle place ledger) ledger

-- the ledger after one more answer: no desk is looked at
abbrev pub note : Answered → Ledger → Ledger
note a ledger = note_by a.call a.number a.value ledger

-- the ledger after some answered calls
unfoldable pub noted : Ledger → List Answered → Ledger
noted ledger [] = ledger
noted ledger (a ∷ rest) = noted (note a ledger) rest

-- the ledger of a list of calls on a desk that starts fresh
abbrev pub ledger_of : List DeskCall → Ledger
ledger_of calls = noted empty_ledger (desk_answers fresh_desk calls)

-- how often a number is in a list
unfoldable pub occurrences : ℕ → List ℕ → ℕ
occurrences h [] = 0
occurrences h (x ∷ xs) = occurrences h xs + one (eqb h x)

-- no number twice in a list
unfoldable pub is_distinct : List ℕ → Bool
is_distinct [] = true
is_distinct (x ∷ xs) = not (is_in x xs) && is_distinct xs

-- "it was issued and not closed"
unfoldable pub is_live : Ledger → ℕ → Bool
is_live ledger h = is_in h ledger.issued && not (is_in h ledger.closed)

-- the serves on a handle answered 0 since Fresh; before a handle is issued they are none, so since its opening
abbrev pub serves_of : Ledger → ℕ → ℕ
serves_of ledger h = occurrences h ledger.serves
