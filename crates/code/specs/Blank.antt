-- The zero word: every sum of it is zero.
use Rattle.std.specs.Prelude.{List, ℕ, replicate}

abbrev pub blank : ℕ → List ℕ
blank n = replicate n 0
