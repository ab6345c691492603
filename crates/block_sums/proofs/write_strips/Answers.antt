use Rattle.std.proofs.Common.{◌≡◌, refl, subst, ◌+◌, ◌*◌, min, arith}
use Rattle.block_tables.specs.TableLaws.{zero-tables}
use Rattle.block_sums.specs.Sums.{WrittenBelow}
use Rattle.block_sums.specs.WriteLaws.{written_none, written-more}
use Rattle.block_sums.proofs.write_strips.Goals as goal

pub loop-q-init : goal.loop-q-init
loop-q-init c =
    let a = c.args in
    let z : 0 ≡ min 0 a.size = omega arith in (
      refl,
      zero-tables 6144,
      refl,
      subst (λ x. WrittenBelow a.size a.blocks.now a.first a.count a.rows a.constants.now a.to x a.blocks.now) z
          (written_none a.size a.first a.count a.rows a.blocks.now a.constants.now a.to),
    )

pub loop-q-preserved : goal.loop-q-preserved
loop-q-preserved c =
    let l = c.loop-q in
    let a = c.args in
    let s = c.strip_sums.ensures in
    let e : min (l.q * 96) a.size ≡ l.q * 96 = omega arith in
    let f : l.q * 96 + c.min-n.result ≡ min ((l.q + 1) * 96) a.size = omega arith in (
      s.t_len.0,
      s.t_len.1,
      s.t_len.2,
      subst (λ x. WrittenBelow a.size a.blocks.now a.first a.count a.rows a.constants.now a.to x c.write_strip.new.blocks) f
          (written-more a.size a.first a.count a.rows a.blocks.now a.constants.now a.to (l.q * 96) c.min-n.result l.blocks _ _ (omega arith)
          (rw e at l.invariant.3)
          (s.by_index c.args.constants.now c.requires.named.laid (λ i. (c.shared_slice_known-1.given i).fits)
          (c.selectors-found.ensures.selectors c.requires.named.few c.requires.named.rows_few c.requires.named.laid))
          c.write_strip.ensures),
    )
