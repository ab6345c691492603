use Rattle.std.proofs.Common.{false, ap, ◌≡◌, ◌<◌, sym, ◌∙◌, arith}
use Rattle.catalogue_scan.proofs.Steps.{one-test, head-one, head-named, head-high, head-two}
use Rattle.text.specs.Decimal.{number_of}
use Rattle.catalogue_text.specs.Catalogue.{is_one}
use Rattle.catalogue_scan.proofs.read_head.Goals as goal

pub returns-then-is_same : goal.returns-then-is_same
returns-then-is_same c =
    let line = c.args.line.now in sym (head-one line (one-test line ∙ sym c.is_same.ensures ∙ c.if-is_same.true))

pub returns-in_err-digits : goal.returns-in_err-digits
returns-in_err-digits c =
    let two : is_one c.args.line.now ≡ false = one-test c.args.line.now ∙ sym c.is_same.ensures ∙ c.if-is_same.false in
    let h = c.in_err-digits.ensures in
    c.from_residual.ensures ∙ sym (head-named c.args.line.now two h.cases)

pub returns-in_default : goal.returns-in_default
returns-in_default c =
    let two : is_one c.args.line.now ≡ false = one-test c.args.line.now ∙ sym c.is_same.ensures ∙ c.if-is_same.false in
    let h = c.in_ok-digits.ensures in
    let high : c.number.result < 65536 → ⊥ = c.in_default.ensures in
    sym (head-high c.args.line.now two h.cases.0 _ (sym (c.number.ensures.value ∙ ap (number_of 65536) h.cases.1)) (omega arith))

pub returns : goal.returns
returns c =
    let two : is_one c.args.line.now ≡ false = one-test c.args.line.now ∙ sym c.is_same.ensures ∙ c.if-is_same.false in
    let h = c.in_ok-digits.ensures in
    let k : (c.number.result < 65536) × (c.in-Ok.floor ≡ c.number.result) = c.in-Ok.ensures in
    sym (head-two c.args.line.now two h.cases.0 _ (sym (k.1 ∙ c.number.ensures.value ∙ ap (number_of 65536) h.cases.1)) (omega arith))
