use Rattle.std.proofs.Common.{◌≡◌, ◌+◌, ◌-◌, ◌≤◌, arith, length}
use borrow.Rule.Slice.PartMut.{Post-is}
use Rattle.text.specs.Written.{written}
use Rattle.text.proofs.write.Goals as goal

pub returns : goal.returns
unfolding written
returns c =
    let a = c.args.at in
    let text = c.args.text.now in
    let out = c.args.out.now in
    let h : a + length text ≤ length out = c.requires in
    let n : a + length text - a ≡ length text = omega arith in
    rw (c.copy_from_slice.ensures.after, Post-is a (a + length text) out (omega arith))
