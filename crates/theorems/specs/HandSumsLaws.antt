-- Laws: The sums done by hand that are shown of the definitions: one list of pairs, what the definition gives and what the paper has, under one claim.
use Rattle.std.specs.Prelude.{◌≡◌, refl}
use Rattle.std.proofs.Common.{ap}
use Rattle.binary_field.specs.Xor.{◌⊕◌, masked}
use Rattle.binary_field.specs.Product.{double, bit_sum, product}
use Rattle.binary_field.specs.Power.{power}
use Rattle.code.specs.Limits.{sure_count, shape_refusal_in}
use Rattle.answers.specs.Figures.{described_in}
use Rattle.theorems.specs.WordSumsLaws.{encoded-first, encoded-second, three-lost, three-done, three-excess, five-lost, five-excess, last_byte}
use Rattle.wide_field.specs.SymbolsLaws.{at-257}
use Rattle.theorems.specs.WordSums.{number}
use Rattle.theorems.specs.WideSumsLaws.{locator-inverse, wide-first, wide-second}
use Rattle.theorems.specs.HandSums.{AllSame, hand_sums}

at-257-number : number (power 16 69643 2 257) ≡ number 5726
at-257-number = ap number at-257

pub hand-sums : AllSame hand_sums
unfolding power product bit_sum double masked ◌⊕◌ sure_count shape_refusal_in described_in
hand-sums = (
  refl,
  (
    refl,
    (
      refl,
      (
        refl,
        (
          refl,
          (
            refl,
            (
              refl,
              (
                encoded-first,
                (
                  encoded-second,
                  (
                    three-excess,
                    (
                      three-done,
                      (
                        three-lost,
                        (
                          five-excess,
                          (
                            five-lost,
                            (
                              last_byte,
                              (refl, (at-257-number, (locator-inverse, (wide-first, (wide-second, tt))))),
                            ),
                          ),
                        ),
                      ),
                    ),
                  ),
                ),
              ),
            ),
          ),
        ),
      ),
    ),
  ),
)
