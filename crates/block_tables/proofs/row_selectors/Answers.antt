use Rattle.std.proofs.Common.{◌≡◌, sym, ◌∙◌, List, ℕ, ◌<◌, length, length-set, get_or-set_same, get_or-set_other, arith}
use native.Mathlib.Decide.{dec_lt, ℕ_discrete}
use Rattle.block_tables.specs.SelectorLaws.{selector-past}
use Rattle.block_tables.specs.Table.{selector_at}
use Rattle.block_tables.proofs.row_selectors.Goals as goal

pub loop-s-preserved : goal.loop-s-preserved
unfolding selector_at
loop-s-preserved c =
    let l = c.loop-s in
    let i : ℕ = l.s in
    let w : i < length l.found = omega arith in
    let value : c.selector.result ≡ selector_at c.args.k.now i = cc in (
      (λ j h. elim (ℕ_discrete j i) [
        | yes e ↦ (rw e (get_or-set_same l.found i _ 0 w ∙ value))
        | no e ↦ get_or-set_other l.found i j _ 0 e ∙ l.invariant.0 j (omega arith)
      ]),
      λ j h b. get_or-set_other l.found i j _ 0 (λ e. omega arith) ∙ l.invariant.1 j (omega arith) b,
    )

pub returns : goal.returns
returns c =
    let l = c.loop-s in
    let k : List ℕ = c.args.k.now in
    λ s h. elim (dec_lt s l.s) [
      | yes e ↦ l.invariant.0 s e
      | no e ↦ l.invariant.1 s (omega arith) h ∙ sym (selector-past k s (omega arith))
    ]
