-- The number of a refusal, 0 for done, and what a refusal leaves of a buffer.
use Rattle.std.specs.Prelude.{Bool, true, false, List, ℕ, zero, suc}

infixr 30 ◌or_else◌
-- the number of a refusal where it applies
abbrev pub refuse : ℕ → Bool → ℕ
refuse r true = r
refuse r false = 0

-- "The lowest number that applies is given": the first that is not 0
abbrev pub ◌or_else◌ : ℕ → ℕ → ℕ
zero or_else s = s
suc r or_else s = suc r

-- "On every refusal all lent buffers [..] stay as they were": what a buffer holds at the end, or what is answered beside the number
abbrev pub unless_refused : {A : Type 0} → ℕ → List A → List A → List A
unless_refused zero written lent = written
unless_refused (suc r) written lent = lent
