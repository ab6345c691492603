use Rattle.std.proofs.Common.{◌≡◌, sym, ap, ◌∙◌, List, ◌++◌, ℕ, ◌+◌, ◌*◌, ◌-◌, ◌^◌, ◌≤◌, ◌<◌, add-mul, pow_mono, length, get_or, take, drop, arith}
use Rattle.block_tables.specs.TableLaws.{stays, tables-with, table-lent}
use native.Mathlib.Decide.{ℕ_discrete}
use Rattle.block_tables.specs.StoreLaws.{lent-long, back_long, back-here, back_below, back_above}
use Rattle.block_sums.proofs.make_tables.Goals as goal

pub make_table-requires : goal.make_table-requires
make_table-requires c =
    let l = c.loop-s in
    let size : ℕ = c.args.size in
    let fit : l.s * 1536 + 1536 ≤ length l.t = omega arith in record {
      n_bound = (c.requires.n_bound.0, lent-long 1536 l.s l.t fit, c.requires.n_bound.3);
      by_index = (λ e h b.
          let p = c.requires.by_index (l.s * 4 + e) (omega arith) in
          let q : (l.s * 4 + e) * size ≡ l.s * 4 * size + e * size = add-mul (l.s * 4) e size in
          omega arith);
      table = table-lent l.t l.s fit (omega arith) l.invariant.1;
    }

pub loop-s-preserved : goal.loop-s-preserved
loop-s-preserved c =
    let l = c.loop-s in
    let x : List ℕ = l.t in
    let size : ℕ = c.args.size in
    let at : ℕ = c.args.at in
    let few = c.requires.n_bound.0 in
    let m = c.make_table.ensures in
    let part : List ℕ = c.make_table.new.t in
    let fit : l.s * 1536 + 1536 ≤ length x = omega arith in
    let k : l.s < 4 = omega arith in
    let y : List ℕ = take (l.s * 1536) x ++ (part ++ drop (l.s * 1536 + 1536 - l.s * 1536) (drop (l.s * 1536) x)) in
    let here = back-here 1536 l.s x fit part m.long in
    let below = back_below 1536 l.s x fit part m.long in
    let above = back_above 1536 l.s x fit part m.long in (
      back_long 1536 l.s x fit part m.long ∙ l.invariant.0,
      tables-with l.s k x part y l.invariant.1 m.table here below above,
      λ q e i h b d f. elim (ℕ_discrete q l.s) [
        | yes z ↦ (rw z
            (let p : e ≤ 3 = omega arith in
            let n : 2 ^ e ≤ 2 ^ 3 = pow_mono p in
            let w : at + (l.s * 4 + e) * size + i ≡ at + l.s * 4 * size + e * size + i = (let v = add-mul (l.s * 4) e size in omega arith) in
            let u : i < 96 = omega arith in
            here (2 ^ e * 96 + i) (omega arith) ∙ m.here e i b (omega arith) f ∙ ap (λ j. get_or c.args.blocks.now j 0) (sym w)))
        | no z ↦
            (let p : e ≤ 3 = omega arith in
            let n : 2 ^ e ≤ 2 ^ 3 = pow_mono p in
            let u : i < 96 = omega arith in
            stays l.s k x part y l.invariant.1 m.table here below above q (2 ^ e * 96 + i) z (omega arith)
            ∙ l.invariant.2 q e i (omega arith) b d f)
      ],
    )
