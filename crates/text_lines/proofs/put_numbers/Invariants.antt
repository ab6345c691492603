use Rattle.std.proofs.Common.{length, take, ◌+◌, ◌≡◌}
use Rattle.text.specs.Written.{written}
use Rattle.text.specs.Lines.{cells}
use Rattle.text_lines.proofs.put_numbers.Given as goal

abbrev pub invariant-loop-x : goal.invariant-loop-x
invariant-loop-x l =
    (length l.out ≡ length l.initial.out) × (l.next ≡ l.at + length (cells (take l.x-index l.numbers))) × (l.out ≡ written l.initial.out l.at (cells (take l.x-index l.numbers)))
