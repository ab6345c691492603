use Rattle.std.proofs.Common.{arith, ◌∷◌, ◌+◌, sym, ◌∙◌, refl, ap}
use Rattle.text.proofs.CellSteps.{number_put}
use Rattle.text.specs.WrittenLaws.{put-none}
use Rattle.text.specs.Decimal.{digits_of}
use Rattle.text.proofs.put_number.Goals as goal

pub returns-then-out-at : goal.returns-then-out-at
returns-then-out-at c =
    let a = c.args in
    let p = put-none a.out.now a.at (9 ∷ digits_of 9 a.x) (omega arith) in
    record { next = sym p.0; out = sym p.1 }

pub returns-then-out-start : goal.returns-then-out-start
returns-then-out-start c =
    let a = c.args in
    let p = put-none a.out.now a.at (9 ∷ digits_of 9 a.x) (omega arith) in
    record { next = sym p.0; out = sym p.1 }

pub returns : goal.returns
returns c =
    let a = c.args in
    let n = c.digit_count-n.ensures.0 in
    let p = number_put a.out.now _ _ a.at a.x (omega arith) refl c.write_digits.ensures in
    record { next = ap (λ k. a.at + 1 + k) n ∙ p.0; out = p.1 }
