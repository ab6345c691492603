use Rattle.std.proofs.Common.{◌≡◌, refl, sym, ap, ◌∙◌, List, [], ◌∷◌, ℕ, zero, suc, ◌%◌, ◌<◌, mod-eq_of_lt, arith, get_or}
use Rattle.binary_field.specs.PowerLaws.{power_zero}
use Rattle.code.specs.Edition.{raised}
use Rattle.byte_edition.specs.Edition.{byte_edition}
use Rattle.byte_edition.specs.Rows.{power_rows, no_row}
use Rattle.byte_edition.specs.RowsLaws.{power_at}
use Rattle.fill.proofs.Laws.{syndrome}
use Rattle.fill.proofs.equation.Goals as goal

-- four ones at the front
ones : (rest : List ℕ) (i : ℕ) → i < 4 → get_or (1 ∷ 1 ∷ 1 ∷ 1 ∷ rest) i 0 ≡ 1
ones rest zero l = refl
ones rest (suc zero) l = refl
ones rest (suc (suc zero)) l = refl
ones rest (suc (suc (suc zero))) l = refl
ones rest (suc (suc (suc (suc i)))) l = absurd (omega arith)

pub returns-then-e-eq0 : goal.returns-then-e-eq0
returns-then-e-eq0 c =
    record {
      left = λ i l.
          ones (c.power_sum-syndrome.result ∷ 0 ∷ 0 ∷ 0 ∷ 0 ∷ 0 ∷ 0 ∷ 0 ∷ 0 ∷ 0 ∷ 0 ∷ 0 ∷ []) i (omega arith)
          ∙ sym (ap (raised byte_edition _) c.if-e-eq0.true ∙ power_zero 8 285 _);
      right = c.power_sum-syndrome.ensures ∙ syndrome c.args.part.now c.args.e (omega arith) (omega arith);
    }

-- the entries of a row at four positions below 16
at-four : (powers at rest : List ℕ) (i : ℕ) → i < 4 → get_or at i 0 < 16
    → get_or (get_or powers (get_or at 0 0 % 16) 0 ∷ get_or powers (get_or at 1 0 % 16) 0 ∷ get_or powers (get_or at 2 0 % 16) 0 ∷ get_or powers (get_or at 3 0 % 16) 0 ∷ rest) i
    0
    ≡ get_or powers (get_or at i 0) 0
at-four powers at rest zero l h = ap (λ p. get_or powers p 0) (mod-eq_of_lt h)
at-four powers at rest (suc zero) l h = ap (λ p. get_or powers p 0) (mod-eq_of_lt h)
at-four powers at rest (suc (suc zero)) l h = ap (λ p. get_or powers p 0) (mod-eq_of_lt h)
at-four powers at rest (suc (suc (suc zero))) l h = ap (λ p. get_or powers p 0) (mod-eq_of_lt h)
at-four powers at rest (suc (suc (suc (suc i)))) l h = absurd (omega arith)

pub returns : goal.returns
returns c =
    let r : c.power_row-powers.result ≡ get_or power_rows c.args.e no_row = c.power_row-powers.ensures in record {
      left = λ i l.
          let h = c.requires.3 i l in
          at-four c.power_row-powers.result c.args.at (c.power_sum-syndrome.result ∷ 0 ∷ 0 ∷ 0 ∷ 0 ∷ 0 ∷ 0 ∷ 0 ∷ 0 ∷ 0 ∷ 0 ∷ 0 ∷ []) i (omega arith)
          (omega arith)
          ∙ rw r (power_at c.args.e (get_or c.args.at i 0) (omega arith) (omega arith));
      right = c.power_sum-syndrome.ensures ∙ syndrome c.args.part.now c.args.e (omega arith) (omega arith);
    }
