-- Laws: a line that was read, with its count, its bytes and its marks.
use Rattle.std.specs.Prelude.{◌≡◌, refl, List, [], ◌∷◌, ◌++◌, ℕ, zero, suc, ◌-◌, ◌≤◌, length, get_or, take, replicate}
use Rattle.std.proofs.Common.{sym, ◌∙◌, arith, take_at}
use Rattle.std.proofs.Math.ListN.{length-map}
use Rattle.code.specs.BlankLaws.{blank-at}
use Rattle.text.specs.Padded.{padded}
use Rattle.text.specs.Records.{line_bytes, line_marks}
use Rattle.text.specs.PaddedLaws.{padded-length}
use Rattle.text_lines.specs.declared.Record.{Record}
use Rattle.text_lines.specs.Held.{HoldsRecord}

pub get_d-padded : (xs : List ℕ) (k i : ℕ) → get_or (xs ++ replicate k 0) i 0 ≡ get_or xs i 0
get_d-padded [] k i = blank-at k i
get_d-padded (x ∷ xs) k zero = refl
get_d-padded (x ∷ xs) k (suc i) = get_d-padded xs k i

-- what the record's arrays hold
module _ (line : List ℕ) (read : Record) (h : HoldsRecord read line) where
  pub marks-count : read.count ≡ length (line_marks line)
  unfolding line_bytes line_marks
  marks-count = h.count ∙ simp length-map

  pub room : (xs : List ℕ) → read.count ≡ length xs → read.count ≤ length (padded 1024 xs)
  room xs e = let f = h.fits in rw (padded-length 1024 xs (omega arith)) f

  pub rooms : (read.count ≤ length read.bytes) × (read.count ≤ length read.marks)
  rooms = (rw h.bytes (room (line_bytes line) h.count), rw h.marks (room (line_marks line) marks-count))

  pub bytes-taken : take read.count read.bytes ≡ line_bytes line
  bytes-taken = rw h.bytes (take_at (line_bytes line) _ read.count (sym h.count))

  pub marks-taken : take read.count read.marks ≡ line_marks line
  marks-taken = rw h.marks (take_at (line_marks line) _ read.count (sym marks-count))

  pub byte_at : (i : ℕ) → get_or read.bytes i 0 ≡ get_or (line_bytes line) i 0
  byte_at i = rw h.bytes (get_d-padded (line_bytes line) (1024 - length (line_bytes line)) i)
