use Rattle.std.proofs.Common.{◌≡◌, sym, ap, ◌∙◌, subst, List, ℕ, ◌+◌, ◌*◌, ◌-◌, ◌/◌, min, add-mul, length, get_or, arith}
use Rattle.block_tables.specs.StoreLaws.{row-end, zeros-at}
use lib.ListN.{length-replicate}
use Rattle.binary_field.specs.Sum.{sum_below}
use Rattle.binary_field.specs.SumLaws.{sum-none}
use Rattle.code.specs.Stretch.{stretch}
use Rattle.code.specs.StretchLaws.{stretch-below}
use Rattle.block_tables.specs.Table.{TablesMade}
use Rattle.block_sums.specs.StripLaws.{term_at, chunk-added, row-long, sum-all, found-row}
use Rattle.block_sums.proofs.strip_sums.Goals as goal

pub loop-s-init : goal.loop-s-init
loop-s-init c =
    let e = c.fill.ensures.after (λ y q. q) in (
      c.requires.found_len.1,
      c.requires.found_len.3,
      ap length e ∙ length-replicate (length c.args.sums.now) 0 ∙ c.requires.found_len.2,
      λ constants laid byte S r i h b. ap (λ s. get_or s (r * 96 + i) 0) e ∙ zeros-at (length c.args.sums.now) (r * 96 + i) ∙ sym (sum-none _),
    )

pub make_tables-requires : goal.make_tables-requires
make_tables-requires c =
    let l = c.loop-s in
    let size : ℕ = c.args.size in
    let f : ℕ = c.args.first + l.s * 16 in
    let r = c.requires.n_bound.0 in record {
      n_bound = (c.requires.n_bound.1, omega arith, l.invariant.0, c.requires.blocks_len_bound.0);
      by_index = (λ k h.
          let p = row-end (f + k) (c.args.first + c.args.count) size _ (omega arith) c.requires.blocks_len_bound.1 in
          let q : (f + k) * size ≡ f * size + k * size = add-mul f k size in
          omega arith);
      tables = l.invariant.1;
    }

pub loop-s-preserved : goal.loop-s-preserved
loop-s-preserved c =
    let l = c.loop-s in
    let e = c.min-have.ensures in
    let m = c.make_tables.ensures in
    let d = c.add_every_row.ensures in
    let z : List ℕ = c.args.blocks.now in
    let f : List ℕ = c.args.found.now in
    let count : ℕ = c.args.count in
    let size : ℕ = c.args.size in
    let j : ℕ = l.s * 16 in
    let y : List ℕ = c.make_tables.new.t in
    let made : TablesMade size ((c.args.first + j) * size + c.args.x) (min (count - j) 16) c.args.n z y =
    subst (λ h. TablesMade size ((c.args.first + j) * size + c.args.x) h c.args.n z y) e m in
    let next : j + 16 ≡ (l.s + 1) * 16 = omega arith in
    let quarter : j / 4 * 4 ≡ j = omega arith in
    let few = c.requires.n_bound.1 in (
      m.long,
      m.tables,
      d.long ∙ l.invariant.2,
      λ constants laid byte S r i h b.
          chunk-added size z c.args.first count (stretch count r constants)
          (row-long size z c.args.first count c.args.rows constants r (c.args.x + i) h laid)
          (stretch-below count r constants 256 byte) c.args.x c.args.n i b few j quarter y (λ p. (c.slice_known-in-loop-s-1.given p).fits) made
          (get_or l.sums (r * 96 + i) 0) _ (l.invariant.3 constants laid byte S r i h b)
          (d.here r i h (omega arith)
          ∙ found-row f (stretch count r constants) r (j / 4) y i (get_or l.sums (r * 96 + i) 0) (λ s q. S.each r (j / 4 + s) h (omega arith)))
          ∙ ap (λ k. sum_below k (term_at size z c.args.first (stretch count r constants) (c.args.x + i))) next,
    )

pub returns : goal.returns
returns c =
    let l = c.loop-s in
    let a = c.args in record {
      t_len = (l.invariant.0, l.invariant.1, l.invariant.2);
      by_index = λ constants laid byte S. record {
        long = l.invariant.2;
        here = λ r i h b.
            l.invariant.3 constants laid byte S r i h b
            ∙ sum-all a.size a.blocks.now a.first a.count a.rows constants r (a.x + i) h laid (l.s * 16) (omega arith);
      };
    }
