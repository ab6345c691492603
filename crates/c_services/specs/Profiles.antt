-- What the judge of the profile gives to C: the number, 0 for yes, and the set of place numbers that shows it; on a refusal all else is 0.
use Rattle.std.specs.Prelude.{Result, Ok, Err}
use Rattle.answers.specs.declared.Refusal.{Refusal}
use Rattle.answers.specs.Answers.{refusal_number}
use Rattle.profile.specs.declared.PlaceSet.{PlaceSet}
use Rattle.c_services.specs.declared.ProfileAnswer.{ProfileAnswer}

-- how many places the set has, and each, 0 past the last
abbrev pub profile_answer : Result PlaceSet Refusal → ProfileAnswer
profile_answer (Ok p) =
    record { number = 0; count = p.count; first = p.first; second = p.second; third = p.third; fourth = p.fourth }
profile_answer (Err e) = record { number = refusal_number e; count = 0; first = 0; second = 0; third = 0; fourth = 0 }
