-- Laws: The line length, by the tests of the code.
use Rattle.std.specs.Prelude.{◌≡◌, true, false, List, ℕ, ◌≤◌, ◌<◌, length, take, drop}
use Rattle.std.proofs.Common.{arith, le-leb}
use Rattle.std.proofs.lemmas.Bool.{lt-leb}
use Rattle.std.proofs.Math.ListN.{length-take}
use Rattle.text.specs.Decimal.{number_of}
use Rattle.text.specs.Fields.{same}
use Rattle.text.specs.FieldLaws.{other_length}
use Rattle.block_input.specs.Length.{length_start, length_of}

pub length-long : (line : List ℕ) → 1024 < length line → 65538 ≡ length_of line
unfolding length_of
length-long line l = rw (lt-leb (length line) 1024 l)

module _ (line : List ℕ) (few : length line ≤ 1024) where
  pub length-short : length line < 7 → 65538 ≡ length_of line
  unfolding length_of
  length-short l = rw (le-leb (length line) 1024 few, other_length (take 7 line) length_start (λ e. let k = length-take 7 line in omega arith))

  pub length-unnamed : same (take 7 line) length_start ≡ false → 65538 ≡ length_of line
  unfolding length_of
  length-unnamed e = rw (le-leb (length line) 1024 few, e)

  pub length-named : same (take 7 line) length_start ≡ true → number_of 65537 (drop 7 line) ≡ length_of line
  unfolding length_of
  length-named e = rw (le-leb (length line) 1024 few, e)
