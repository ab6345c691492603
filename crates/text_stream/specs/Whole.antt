-- Whatever parts the input comes in, the output is that of the whole session.
use Rattle.std.specs.Prelude.{◌≡◌, List, [], ◌∷◌, ◌++◌, ℕ, length, take}
use Rattle.text.specs.Written.{written}
use Rattle.text_stream.specs.declared.State.{State}
use Rattle.text_stream.specs.declared.Step.{Step}
use Rattle.text_stream.specs.States.{point_of}
use Rattle.text_stream.specs.Points.{Point, after_bytes, adds, closing, kept_point}

-- the output of parts of an input, one after the other and then its end, by what is kept between them
unfoldable pub in_parts : Point → List (List ℕ) → List ℕ
in_parts p [] = closing p
in_parts p (part ∷ rest) = adds p part ++ in_parts (kept_point (after_bytes p part)) rest

-- the same for a whole input
abbrev pub at_once : Point → List ℕ → List ℕ
at_once p input = adds p input ++ closing (after_bytes p input)

-- A run of start, take and finish whose caller writes the first `length` bytes of out each time; the contract of the program's `run_all` says
-- that its output is the same, where the bytes of its input and output are known. Here: a state, the parts of the input that come then, and all
-- that is written; the premises are the contracts of take and finish.
pub data SessionRun : State → List (List ℕ) → List ℕ → Type 0 where
  ended : {s : State} (n : ℕ) (before out : List ℕ) → n ≡ length (closing (point_of s)) → out ≡ written before 0 (closing (point_of s))
      → SessionRun s [] (take n out)
  took : {s : State} {part : List ℕ} {rest : List (List ℕ)} {more : List ℕ} (step : Step) (before out : List ℕ)
      → point_of step.state ≡ kept_point (after_bytes (point_of s) part) → step.length ≡ length (adds (point_of s) part)
      → out ≡ written before 0 (adds (point_of s) part) → SessionRun step.state rest more → SessionRun s (part ∷ rest) (take step.length out ++ more)
