use Rattle.std.proofs.Common.{◌≡◌, sym, ap, ◌∙◌, subst, List, ℕ, suc, ◌+◌, ◌-◌, ◌*◌, ◌/◌, ◌%◌, ◌<◌, ◌≤◌, mul-le-mul_right, arith, length, get_or, take, drop}
use Rattle.code.specs.StretchLaws.{stretch-length}
use Rattle.code.specs.LentLaws.{stretch-lent, with-lent}
use Rattle.code_engine.specs.CandidateStepsLaws.{stretch-end}
use Rattle.edit.specs.PlacesLaws.{group-less, place-less}
use Rattle.edit.specs.Steps.{Refilled, corrected_of}
use Rattle.edit.specs.ChangeLaws.{changed}
use Rattle.edit.proofs.change.Goals as goal

pub overflow_mul-a : goal.overflow_mul-a
overflow_mul-a c =
    let ends : let a = c.args in let g = a.number / (a.w - a.c) in (g * a.w + a.w ≤ a.m * a.w) × (a.m * a.w ≤ 240) =
    let a = c.args in (stretch-end a.m a.w (a.number / (a.w - a.c)) (group-less c.requires.good_in a.number c.requires.number_bound), c.requires.good_in.fits) in
    let e = ends in omega arith

pub overflow_add-e : goal.overflow_add-e
overflow_add-e c =
    let ends : let a = c.args in let g = a.number / (a.w - a.c) in (g * a.w + a.w ≤ a.m * a.w) × (a.m * a.w ≤ 240) =
    let a = c.args in (stretch-end a.m a.w (a.number / (a.w - a.c)) (group-less c.requires.good_in a.number c.requires.number_bound), c.requires.good_in.fits) in
    let e = ends in omega arith

pub slice_bounds-refill-end : goal.slice_bounds-refill-end
slice_bounds-refill-end c =
    let ends : let a = c.args in let g = a.number / (a.w - a.c) in (g * a.w + a.w ≤ a.m * a.w) × (a.m * a.w ≤ 240) =
    let a = c.args in (stretch-end a.m a.w (a.number / (a.w - a.c)) (group-less c.requires.good_in a.number c.requires.number_bound), c.requires.good_in.fits) in
    let e = ends in omega arith

pub refill-s-requires : goal.refill-s-requires
refill-s-requires c =
    let long : let a = c.args in let g = a.number / (a.w - a.c) in length (take (g * a.w + a.w - g * a.w) (drop (g * a.w) a.word.now)) ≡ a.w =
    let a = c.args in let g = a.number / (a.w - a.c) in ap length (stretch-lent a.w g a.word.now) ∙ stretch-length a.w g a.word.now (subst (λ n. suc g * a.w ≤ n) (sym c.requires.word_len) (mul-le-mul_right a.w (group-less c.requires.good_in a.number c.requires.number_bound))) in
    let a = c.args in
    let good = c.requires.good_in in
    let e = long in
    let l = group-less good a.number c.requires.number_bound in
    let k = place-less good a.number c.requires.number_bound in record { le_c = (good.checked, c.requires.c_bound); c_in_bounds = (omega (arith, good.wide), omega (arith, good.narrow)); g_bound = omega (arith, good.few); c_in_bounds_2 = omega arith }

pub returns : goal.returns
returns c =
    let long : let a = c.args in let g = a.number / (a.w - a.c) in length (take (g * a.w + a.w - g * a.w) (drop (g * a.w) a.word.now)) ≡ a.w =
    let a = c.args in let g = a.number / (a.w - a.c) in ap length (stretch-lent a.w g a.word.now) ∙ stretch-length a.w g a.word.now (subst (λ n. suc g * a.w ≤ n) (sym c.requires.word_len) (mul-le-mul_right a.w (group-less c.requires.good_in a.number c.requires.number_bound))) in
    let a = c.args in
    let g = a.number / (a.w - a.c) in
    let after : List ℕ = c.refill-s.new.part in
    let e = with-lent a.w g a.word.now after in
    c.correct.ensures
    ∙ ap (corrected_of a.m a.w a.c c.refill-s.result.first c.refill-s.result.second) e
    ∙ changed a.m a.w a.c c.requires.good_in c.requires.c_bound a.word.now
    (record { symbols = record { size = c.requires.word_len; each = λ p. (c.slice_known-1.given p).fits }; zero = c.requires.t })
    a.number a.byte c.requires.number_bound c.ranges.byte.fits after c.refill-s.result
    (subst (λ x. Refilled a.w a.c g (a.number % (a.w - a.c)) a.byte x after c.refill-s.result) (stretch-lent a.w g a.word.now)
    (subst (λ n. Refilled n a.c g (a.number % (a.w - a.c)) a.byte (take (g * a.w + a.w - g * a.w) (drop (g * a.w) a.word.now)) after
    c.refill-s.result)
    long c.refill-s.ensures))
    (λ p. subst (λ x. get_or x p 0 < 256) e (c.slice_known-2-1.given p).fits)
