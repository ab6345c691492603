use Rattle.std.proofs.Common.{◌≡◌, refl, ◌*◌, arith}
use Rattle.block_tables.specs.TableLaws.{zero-tables}
use Rattle.block_sums.specs.WriteLaws.{zero_more, zero-found}
use Rattle.block_sums.proofs.zero_strips.Goals as goal

pub loop-q-init : goal.loop-q-init
loop-q-init c = (refl, zero-tables 6144, refl, λ y h. absurd (omega arith))

pub returns-then-i-n : goal.returns-then-i-n
returns-then-i-n c =
    let l = c.loop-q in
    let p = c.requires.named in
    zero-found c.args.size c.args.blocks.now c.args.first c.args.count c.args.rows c.args.constants.now c.args.limit (l.q * 96)
    c.min-n.result _ c.zero_strip-i.result (omega arith) (λ y h. l.invariant.3 y (omega arith))
    (c.strip_sums.ensures.by_index c.args.constants.now p.laid
    (λ i. (c.shared_slice_known-2-1.given i).fits) (c.selectors-found.ensures.selectors p.few p.rows_few p.laid))
    c.zero_strip-i.ensures (omega arith)

pub loop-q-preserved : goal.loop-q-preserved
loop-q-preserved c =
    let l = c.loop-q in
    let p = c.requires.named in
    let s = c.strip_sums.ensures in
    let z = c.zero_strip-i.ensures in
    let m = z.most in
    let r : c.zero_strip-i.result ≡ c.min-n.result = omega arith in (
      s.t_len.0,
      s.t_len.1,
      s.t_len.2,
      λ y h i b.
          zero_more c.args.size c.args.blocks.now c.args.first c.args.count c.args.rows c.args.constants.now c.args.limit (l.q * 96)
          c.min-n.result _ c.zero_strip-i.result (omega arith) (λ y h. l.invariant.3 y (omega arith))
          (s.by_index c.args.constants.now p.laid
          (λ i. (c.shared_slice_known-2-1.given i).fits) (c.selectors-found.ensures.selectors p.few p.rows_few p.laid))
          z y (omega arith) i b,
    )
