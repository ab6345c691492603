use Rattle.std.proofs.Common.{le-leb, lt-ltb, le-ltb, ◌+◌, ◌*◌, ◌-◌, arith}
use borrow.Author.Tests.{lt-leb}
use Rattle.text.specs.Decimal.{digit_after}
use Rattle.text.proofs.digit_after.Goals as goal

pub returns-then-x-lt48 : goal.returns-then-x-lt48
unfolding digit_after
returns-then-x-lt48 c = let x = c.args.x in simp (lt-leb 48 x (omega arith))

pub returns-then-x-gt57 : goal.returns-then-x-gt57
unfolding digit_after
returns-then-x-gt57 c = let x = c.args.x in simp (le-leb 48 x (omega arith), le-ltb x 58 (omega arith))

pub returns-then-n-bound : goal.returns-then-n-bound
unfolding digit_after
returns-then-n-bound c =
    let x = c.args.x in
    let a = c.args.a in
    let b = c.args.bound in
    simp (le-leb 48 x (omega arith), lt-ltb x 58 (omega arith), lt-ltb (10 * a + (x - 48)) b (omega arith))

pub returns-else-n-bound : goal.returns-else-n-bound
unfolding digit_after
returns-else-n-bound c =
    let x = c.args.x in
    let a = c.args.a in
    let b = c.args.bound in
    simp (le-leb 48 x (omega arith), lt-ltb x 58 (omega arith), le-ltb (10 * a + (x - 48)) b (omega arith))
