-- What writing to an output did, where its bytes are known.
use Rattle.std.specs.Prelude.{◌≡◌, List, ◌++◌, ℕ, suc, false, Option}
use Rattle.std.specs.Io.KnownBytes.{Appends}
use Rattle.text.specs.Lines.{refused_line}
use Rattle.block_input.specs.Head.{head_refusal}

-- The front of a text was written, and no other byte.
abbrev pub WritesFront : Option (List ℕ) → Option (List ℕ) → List ℕ → Type 0
WritesFront output output₂ text = (front rest : List ℕ) × (text ≡ front ++ rest) × Appends output output₂ front

-- The line of the refusal that some bytes settle was written, all of it.
abbrev pub Refuses : Option (List ℕ) → Option (List ℕ) → List ℕ → Type 0
Refuses output output₂ came = (q : ℕ) × (head_refusal false came ≡ suc q) × Appends output output₂ (refused_line (suc q))

-- The front of that line was written.
abbrev pub RefusesFront : Option (List ℕ) → Option (List ℕ) → List ℕ → Type 0
RefusesFront output output₂ came = (q : ℕ) × (head_refusal false came ≡ suc q) × WritesFront output output₂ (refused_line (suc q))
