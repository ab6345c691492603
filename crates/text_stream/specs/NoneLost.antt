-- Recover of n bytes with no place lost: a codeword is given back, and every other word is refused 9.
use Rattle.std.specs.Prelude.{List, ℕ, length, replicate}

-- the marks of a word with every place present
abbrev pub none_lost : List ℕ → List ℕ
none_lost word = replicate (length word) 0
