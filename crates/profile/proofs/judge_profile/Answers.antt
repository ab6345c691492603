use Rattle.std.proofs.Common.{◌≡◌, sym, ap, ◌∙◌, List, ℕ, Result, Ok, Err}
use Rattle.shape.specs.Shapes.{byte_limits}
use Rattle.code_services.specs.MarksLaws.{good-of-marks}
use Rattle.answers.specs.declared.Refusal.{Refusal}
use Rattle.answers.specs.AnswersLaws.{passed}
use Rattle.code_services.specs.PlainLaws.{marks-plain}
use Rattle.profile.specs.declared.PlaceSet.{PlaceSet}
use Rattle.profile.specs.Profile.{shown_set}
use Rattle.profile.specs.Profiled.{profiled_number_of, profiled_of, profiled_number, places_shown, profiled_places}
use Rattle.profile.specs.Search.{found_at}
use Rattle.profile.specs.SearchLaws.{search-shown}
use Rattle.profile.specs.Laws.{profiled-refused, profiled-number, profiled-places, answered-set, answered-none}
use Rattle.profile.proofs.judge_profile.Goals as goal

-- the number and the places follow from the answer
whole : (m w c : ℕ) (marks : List ℕ) (r : Result PlaceSet Refusal) → r ≡ profiled_of m w c marks
    → (r ≡ profiled_of m w c marks) × ((profiled_number r ≡ profiled_number_of m w c marks) × (profiled_places r ≡ places_shown m w c marks))
whole m w c marks r e = (e, (ap profiled_number e ∙ profiled-number m w c marks, ap profiled_places e ∙ profiled-places m w c marks))

pub returns-in_err-marks_refusal : goal.returns-in_err-marks_refusal
unfolding profiled_of
returns-in_err-marks_refusal c =
    let a = c.args in
    let h = whole a.m a.w a.c a.marks.now (Err c.in_err-marks_refusal.field-0.0)
    (sym (profiled-refused _ (shown_set a.m a.w a.c a.marks.now) c.in_err-marks_refusal.ensures (marks-plain byte_limits a.m a.w a.c a.marks.now))) in
    rw (passed c.from_residual.ensures) record { answer = h.0; number = h.1.0; places = h.1.1 }

pub lost_by_place-counts-requires : goal.lost_by_place-counts-requires
lost_by_place-counts-requires c =
    let a = c.args in
    let k = good-of-marks {L = byte_limits} a.m a.w a.c a.marks.now (sym c.in_ok-marks_refusal.ensures) in
    let g = k.good in
    (g.some, g.few, g.narrow, k.size)

pub first_set-requires : goal.first_set-requires
first_set-requires c =
    let a = c.args in
    let g = (good-of-marks {L = byte_limits} a.m a.w a.c a.marks.now (sym c.in_ok-marks_refusal.ensures)).good in
    (g.narrow, g.few-checks)

pub returns-in-Some : goal.returns-in-Some
returns-in-Some c =
    let a = c.args in
    let found : c.first_set.result ≡ found_at (shown_set a.m a.w a.c a.marks.now) =
    c.first_set.ensures ∙ ap found_at (search-shown a.m a.w a.c a.marks.now c.lost_by_place-counts.result c.lost_by_place-counts.ensures) in
    let h = whole a.m a.w a.c a.marks.now (Ok c.in-Some.s)
    (answered-set a.m a.w a.c a.marks.now (sym c.in_ok-marks_refusal.ensures) c.in-Some.s (sym c.in-Some.is ∙ found)) in
    record { answer = h.0; number = h.1.0; places = h.1.1 }

pub returns-in-None : goal.returns-in-None
returns-in-None c =
    let a = c.args in
    let found : c.first_set.result ≡ found_at (shown_set a.m a.w a.c a.marks.now) =
    c.first_set.ensures ∙ ap found_at (search-shown a.m a.w a.c a.marks.now c.lost_by_place-counts.result c.lost_by_place-counts.ensures) in
    let h = whole a.m a.w a.c a.marks.now (Err Refusal.NoProfile)
    (answered-none a.m a.w a.c a.marks.now (sym c.in_ok-marks_refusal.ensures) (sym c.in-None.is ∙ found)) in
    record { answer = h.0; number = h.1.0; places = h.1.1 }
