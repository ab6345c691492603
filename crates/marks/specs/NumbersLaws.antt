-- The numbers of the refusals of marks, of bytes.
use Rattle.std.specs.Prelude.{not, List, ℕ, ◌≤◌, length}
use Rattle.std.proofs.Common.{arith}
use Rattle.shape.specs.Laws.{word-most}
use Rattle.shape.specs.Shapes.{byte_limits}
use Rattle.code.specs.RefusalsLaws.{refuse-most, or_else-most}
use Rattle.code.specs.Limits.{word_refusal_in}
use Rattle.code_services.specs.Marks.{are_marks, marks_refusal_in}

-- the numbers of these refusals, of bytes
module _ (m w c : ℕ) (marks : List ℕ) where
  pub marks-most : marks_refusal_in byte_limits m w c marks ≤ 6
  unfolding marks_refusal_in
  marks-most =
      or_else-most 6 (word_refusal_in byte_limits m w c (length marks)) _ (let h = word-most m w c (length marks) in omega arith)
      (refuse-most 6 6 (not (are_marks marks)) (omega arith))
