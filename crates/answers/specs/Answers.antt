-- What a service without figures answers, and one that mends, by the paper's numbers.
use Rattle.std.specs.Prelude.{◌≡◌, cond, ℕ, zero, suc, eqb, Result, Ok, Err}
use Rattle.answers.specs.declared.Refusal.{Refusal}

-- "An answer is either done with its figures or a refusal with its number": the number of each refusal
abbrev pub refusal_number : Refusal → ℕ
refusal_number Refusal.Groups = 1
refusal_number Refusal.Checks = 2
refusal_number Refusal.Width = 3
refusal_number Refusal.NoData = 4
refusal_number Refusal.Length = 5
refusal_number Refusal.Mark = 6
refusal_number Refusal.GroupNumber = 7
refusal_number Refusal.Undetermined = 8
refusal_number (Refusal.Contradictory group) = 9
refusal_number Refusal.AllIssued = 10
refusal_number Refusal.DeskFull = 11
refusal_number Refusal.NotOpen = 12
refusal_number Refusal.ServedOut = 13
refusal_number Refusal.CatalogueText = 16
refusal_number Refusal.Name = 17
refusal_number Refusal.NoSuchName = 18
refusal_number Refusal.Revision = 19
refusal_number Refusal.RevisionEnd = 20
refusal_number Refusal.CatalogueFull = 21
refusal_number Refusal.Finished = 22
refusal_number Refusal.Beyond = 23
refusal_number Refusal.CameBefore = 24
refusal_number Refusal.Place = 25
refusal_number Refusal.WidePlaces = 26
refusal_number Refusal.BlocksLength = 27
refusal_number Refusal.NoProfile = 28
refusal_number Refusal.Retired = 29
refusal_number Refusal.DataNumber = 30
refusal_number Refusal.Unsound = 31

-- the group that a 9 carries; 0 with any other number
abbrev pub refusal_group : Refusal → ℕ
refusal_group (Refusal.Contradictory group) = group
refusal_group _ = 0

-- the refusal of a number; "A 9 now carries a group number"
abbrev pub refusal_at : ℕ → ℕ → Refusal
refusal_at r group =
    cond (eqb r 1) Refusal.Groups (cond (eqb r 2) Refusal.Checks (cond (eqb r 3) Refusal.Width (cond (eqb r 4) Refusal.NoData
    (cond (eqb r 5) Refusal.Length (cond (eqb r 6) Refusal.Mark (cond (eqb r 7) Refusal.GroupNumber (cond (eqb r 8) Refusal.Undetermined
    (cond (eqb r 9) (Refusal.Contradictory group) (cond (eqb r 10) Refusal.AllIssued (cond (eqb r 11) Refusal.DeskFull
    (cond (eqb r 12) Refusal.NotOpen (cond (eqb r 13) Refusal.ServedOut (cond (eqb r 16) Refusal.CatalogueText (cond (eqb r 17) Refusal.Name
    (cond (eqb r 18) Refusal.NoSuchName (cond (eqb r 19) Refusal.Revision (cond (eqb r 20) Refusal.RevisionEnd (cond (eqb r 21) Refusal.CatalogueFull
    (cond (eqb r 22) Refusal.Finished (cond (eqb r 23) Refusal.Beyond (cond (eqb r 24) Refusal.CameBefore (cond (eqb r 25) Refusal.Place
    (cond (eqb r 26) Refusal.WidePlaces (cond (eqb r 27) Refusal.BlocksLength (cond (eqb r 28) Refusal.NoProfile (cond (eqb r 29) Refusal.Retired
    (cond (eqb r 30) Refusal.DataNumber Refusal.Unsound)))))))))))))))))))))))))))

-- the number of an answer with figures X, 0 for done
abbrev pub refused_number : {X : Type 0} → Result X Refusal → ℕ
refused_number (Ok x) = 0
refused_number (Err e) = refusal_number e

-- "A 9 now carries a group number": what a service that mends answers, by its number and the group
abbrev pub mending_at : ℕ → ℕ → Result Unit Refusal
mending_at zero group = Ok tt
mending_at (suc r) group = Err (refusal_at (suc r) group)

-- the number given back, 0 for done
abbrev pub mending_number : Result Unit Refusal → ℕ
mending_number = refused_number

-- the group that a 9 carries; 0 with any other number
abbrev pub mending_group : Result Unit Refusal → ℕ
mending_group (Ok x) = 0
mending_group (Err e) = refusal_group e

-- the answer with figures x by its number
abbrev pub given_at : {X : Type 0} → ℕ → X → Result X Refusal
given_at zero x = Ok x
given_at (suc r) x = Err (refusal_at (suc r) 0)

-- the answer by its number
abbrev pub answer_at : ℕ → Result Unit Refusal
answer_at r = mending_at r 0

-- the number given back, 0 for done
abbrev pub answer_number : Result Unit Refusal → ℕ
answer_number = refused_number

-- r is 0 or the number of a refusal
abbrev pub Listed : ℕ → Type 0
Listed r = answer_number (answer_at r) ≡ r

-- and not 9, the one that carries a group
abbrev pub Plain : ℕ → Type 0
Plain r = Listed r × (r ≡ 9 → ⊥)
