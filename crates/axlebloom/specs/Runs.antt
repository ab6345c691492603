-- What reading from an input and writing to an output did, where their bytes are known.
use Rattle.std.specs.Prelude.{◌≡◌, List, ◌++◌, ℕ, Option}
use Rattle.std.specs.Io.KnownBytes.{Appends, Consumes, IsAtEnd}
use Rattle.text_stream.specs.Points.{Point, after_bytes, adds, closing, kept_point}

-- Bytes came, and all that they add to the output was written. The point after them is known as far as it is kept.
abbrev pub GoesOn : Option (List ℕ) → Option (List ℕ) → Option (List ℕ) → Option (List ℕ) → Point → Point → Type 0
GoesOn input input₂ output output₂ p q =
    (part : List ℕ) × Consumes input input₂ part × Appends output output₂ (adds p part) × (q ≡ kept_point (after_bytes p part))

-- The input was at its end, and all that the end adds to the output was written.
abbrev pub Ends : Option (List ℕ) → Option (List ℕ) → Option (List ℕ) → Point → Type 0
Ends input output output₂ p = IsAtEnd input × Appends output output₂ (closing p)

-- The front of a text was written, and no other byte.
abbrev pub WritesFront : Option (List ℕ) → Option (List ℕ) → List ℕ → Type 0
WritesFront output output₂ text = (front rest : List ℕ) × (text ≡ front ++ rest) × Appends output output₂ front
