-- What the judge of the profile answers.
use Rattle.std.specs.Prelude.{Bool, true, false, List, [], ◌∷◌, ℕ, zero, suc, length, get_or, take, Result, Ok, Err}
use Rattle.std.proofs.Math.Option.{Option, none, some}
use Rattle.code.specs.Refusals.{refuse, ◌or_else◌, unless_refused}
use Rattle.shape.specs.Shapes.{byte_limits}
use Rattle.code_services.specs.Marks.{marks_refusal_in}
use Rattle.profile.specs.declared.PlaceSet.{PlaceSet}
use Rattle.answers.specs.declared.Refusal.{Refusal}
use Rattle.answers.specs.Answers.{refusal_at, refused_number}
use Rattle.profile.specs.Profile.{shown_set}

-- a set of at most four numbers: how many, and each, 0 past the last
abbrev pub place_set_of : List ℕ → PlaceSet
place_set_of s = record { count = length s; first = get_or s 0 0; second = get_or s 1 0; third = get_or s 2 0; fourth = get_or s 3 0 }

-- the numbers that it shows
abbrev pub place_numbers : PlaceSet → List ℕ
place_numbers p = take p.count (p.first ∷ p.second ∷ p.third ∷ p.fourth ∷ [])

-- whether there is no set
abbrev pub no_set : Option (List ℕ) → Bool
no_set none = true
no_set (some s) = false

-- "Refusals: 1 to 6 as in 01, then 28 no such set."
unfoldable pub profiled_number_of : ℕ → ℕ → ℕ → List ℕ → ℕ
profiled_number_of m w c marks = marks_refusal_in byte_limits m w c marks or_else refuse 28 (no_set (shown_set m w c marks))

-- the answer by the refusal and the set
abbrev pub profiled_at : ℕ → Option (List ℕ) → Result PlaceSet Refusal
profiled_at zero none = Err Refusal.NoProfile
profiled_at zero (some s) = Ok (place_set_of s)
profiled_at (suc r) o = Err (refusal_at (suc r) 0)

-- of any call: "yes [..] and shows the set", or a refusal
unfoldable pub profiled_of : ℕ → ℕ → ℕ → List ℕ → Result PlaceSet Refusal
profiled_of m w c marks = profiled_at (marks_refusal_in byte_limits m w c marks) (shown_set m w c marks)

-- the number given back, 0 for yes
abbrev pub profiled_number : Result PlaceSet Refusal → ℕ
profiled_number = refused_number

-- the numbers of a set that is there
abbrev pub set_shown : Option (List ℕ) → List ℕ
set_shown none = []
set_shown (some s) = s

-- "and shows the set", none on a refusal
unfoldable pub places_shown : ℕ → ℕ → ℕ → List ℕ → List ℕ
places_shown m w c marks = unless_refused (profiled_number_of m w c marks) (set_shown (shown_set m w c marks)) []

-- the place numbers of an answer, none on a refusal
abbrev pub profiled_places : Result PlaceSet Refusal → List ℕ
profiled_places (Ok p) = place_numbers p
profiled_places (Err e) = []
