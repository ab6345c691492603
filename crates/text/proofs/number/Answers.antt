use Rattle.std.proofs.Common.{arith, sym, ◌∙◌, ◌≡◌, ◌<◌, length, get_or}
use Rattle.std.proofs.lemmas.Bool.{eqb-true, eqb-false}
use Rattle.text.specs.DecimalLaws.{number-none, number-zero, number_digits}
use Rattle.text.proofs.number.Goals as goal

pub returns-then-is_empty : goal.returns-then-is_empty
returns-then-is_empty c = let a = c.args in
    let z = eqb-true _ _ (sym c.is_empty.ensures ∙ c.if-is_empty.true) in
    record { value = sym (number-none a.bound a.field.now (omega arith)); most = omega arith }

pub returns-then-field-eq48 : goal.returns-then-field-eq48
returns-then-field-eq48 c =
    let a = c.args in record { value = sym (number-zero a.bound a.field.now (omega arith) c.if-field-eq48.true); most = omega arith }

pub returns : goal.returns
returns c =
    let a = c.args in
    let e = c.digits.ensures in
    let z = eqb-false _ _ (sym c.is_empty.ensures ∙ c.if-is_empty.false) in
    let plain : 1 < length a.field.now → get_or a.field.now 0 0 ≡ 48 → ⊥ = λ l z. grind arith in
    record { value = e.value ∙ sym (number_digits a.bound a.field.now (omega arith) plain); most = e.most }
