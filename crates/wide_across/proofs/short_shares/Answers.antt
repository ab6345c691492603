use Rattle.std.proofs.Common.{ap, ◌∙◌, ℕ, ◌+◌, ◌-◌, ◌*◌, ◌≤◌, arith, length}
use Rattle.binary_field.specs.Product.{product}
use Rattle.code.specs.Edition.{raised}
use Rattle.wide_shape.specs.Edition.{wide_edition}
use Rattle.code_engine.specs.PartsLaws.{second-coefficient-group}
use Rattle.wide_across.specs.PairsLaws.{coefficients-of, sum-with, first-at, second_at}
use Rattle.wide_across.proofs.short_shares.Goals as goal

pub returns : goal.returns
returns c =
    let w : ℕ = length c.args.part.now in
    let a : ℕ = (c.args.c - 1) * 32 in
    let few : w ≤ 16 = c.requires.part_len_bound in
    let C = coefficients-of c.coefficients-all.ensures c.args.c c.requires.c_nonzero.0 c.requires.c_nonzero.1 in record {
      first_value = ap (λ u. u.first) c.sparse_sums-s.ensures ∙ sum-with w c.args.part.now _ _ (λ j l. first-at C (a + 32) j (omega arith) (omega arith));
      second_value = c.doubled-second.ensures
          ∙ ap (product 16 69643 (raised wide_edition 2 c.args.g))
          (ap (λ u. u.second) c.sparse_sums-s.ensures ∙ sum-with w c.args.part.now _ _ (λ j l. second_at C (a + 32) j (omega arith) (omega arith)))
          ∙ second-coefficient-group wide_edition w c.args.c c.args.g c.args.part.now;
    }
