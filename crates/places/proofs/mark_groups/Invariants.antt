use Rattle.std.proofs.Common.{◌≡◌, ◌++◌, ◌-◌, ◌*◌, take, drop}
use Rattle.code_services.specs.Places.{is_check, marks_from, check_marks}
use Rattle.places.proofs.mark_groups.Given as goal

abbrev pub invariant-loop-g : goal.invariant-loop-g
invariant-loop-g l =
    (take (l.g * l.w) l.marks ++ marks_from (is_check l.m l.w l.c) (l.g * l.w) ((l.m - l.g) * l.w) ≡ check_marks l.m l.w l.c)
    × (drop (l.g * l.w) l.marks ≡ drop (l.g * l.w) l.initial.marks)
