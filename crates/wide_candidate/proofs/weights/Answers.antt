use Rattle.std.proofs.Common.{arith, ◌≡◌, sym, ap, ap₂, ◌∙◌, List, ℕ, length}
use Rattle.code.specs.Word.{group_sum, coefficient, second_coefficient}
use Rattle.code.specs.LoneLaws.{lone-word}
use Rattle.wide_shape.specs.Edition.{wide_edition}
use Rattle.wide_candidate.proofs.weights.Goals as goal

pub returns : goal.returns
returns c =
    let a = c.args in
    let h : List ℕ = a.h.now in
    let long : length h ≡ a.w = c.requires.h_len in
    ap₂ (λ x y. record { first = x; second = y })
    (c.group_sums.ensures.first_value (omega arith) (omega arith) ∙ ap (λ n. group_sum wide_edition n h 0 (coefficient wide_edition a.c)) long
    ∙ sym (lone-word a.m a.w a.g h c.requires.g_lt_m long wide_edition _))
    (c.group_sums.ensures.second_value (omega arith) (omega arith) ∙ ap (λ n. group_sum wide_edition n h 0 (second_coefficient wide_edition a.c a.g)) long
    ∙ sym (lone-word a.m a.w a.g h c.requires.g_lt_m long wide_edition _))
