use Rattle.std.proofs.Common.{◌%◌, ◌/◌, arith, length-set}
use Rattle.text_lines.proofs.ReadSteps.{count-more, count-end, write-more, write-end}
use Rattle.text_lines.proofs.write_values.Goals as goal

pub loop-at-preserved : goal.loop-at-preserved
loop-at-preserved c =
    let line = c.args.line.now in
    let m = count-more line c.loop-at.at (omega arith) in (
      omega arith,
      omega arith,
      simp length-set (omega arith),
      simp length-set (omega arith),
      rw c.part_end-at.ensures.end (omega arith),
      cc (write-more line c.loop-at.at (omega arith) (λ v. v % 256) c.loop-at.bytes c.loop-at.count),
      cc (write-more line c.loop-at.at (omega arith) (λ v. v / 256) c.loop-at.marks c.loop-at.count),
    )

pub returns : goal.returns
returns c =
    let line = c.args.line.now in
    let k = count-end line c.loop-at.at (omega arith) in record { value = omega arith; bytes_after = cc (write-end line c.loop-at.at (omega arith) (λ v. v % 256) c.loop-at.bytes c.loop-at.count); marks_after = cc (write-end line c.loop-at.at (omega arith) (λ v. v / 256) c.loop-at.marks c.loop-at.count) }
