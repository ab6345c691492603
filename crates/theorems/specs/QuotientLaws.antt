-- Formula (2) of source document 001 beside the sure count (request 2).
use Rattle.std.specs.Prelude.{◌≡◌, ℕ, ◌+◌, ◌-◌, ◌*◌, ◌/◌, ◌≤◌, ◌<◌}
use Rattle.std.proofs.Common.{ap, ◌∙◌, zero-mul, one-mul, arith}
use Rattle.std.proofs.Math.Nat.{add-div_right, div-eq_of_lt}
use Rattle.code.specs.Limits.{sure_count}
use Rattle.code.specs.LimitsLaws.{sure-quotient}

-- a quotient rounded up
abbrev pub rounded_up : ℕ → ℕ → ℕ
rounded_up a b = (a + (b - 1)) / b

-- "Formula (2) in source document 001 rounds its quotient up and is too high for wider groups", less one, as the formula gives a distance
pub rounded-up-too-high : (w c : ℕ) → 0 < c → c + 2 < w → sure_count w c < c + 2 + rounded_up 2 (w - c) * c
rounded-up-too-high w c some wide =
    let d : ℕ = w - c in
    let pos : 0 < d = omega arith in
    let sum : 2 + (d - 1) ≡ 1 + d = omega arith in
    let none : 1 / d ≡ 0 = div-eq_of_lt (omega arith) in
    let down : 2 / d ≡ 0 = div-eq_of_lt (omega arith) in
    let up : rounded_up 2 d ≡ 1 = ap (λ x. x / d) sum ∙ add-div_right 1 pos ∙ ap (λ x. x + 1) none in
    let s : sure_count w c ≡ c + 2 + 2 / d * c = sure-quotient w c (omega arith) in
    let low : 2 / d * c ≡ 0 = ap (λ x. x * c) down ∙ zero-mul c in
    let high : rounded_up 2 d * c ≡ c = ap (λ x. x * c) up ∙ one-mul c in
    omega arith
