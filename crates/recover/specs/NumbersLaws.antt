-- The numbers of the refusals of a recovery, of bytes.
use Rattle.std.specs.Prelude.{List, ℕ, ◌≤◌, length}
use Rattle.std.proofs.Common.{arith}
use Rattle.shape.specs.Shapes.{byte_limits}
use Rattle.shape.specs.Laws.{word-most}
use Rattle.code.specs.RefusalsLaws.{or_else-most}
use Rattle.code.specs.Limits.{word_refusal_in}
use Rattle.marks.specs.NumbersLaws.{marks-most}
use Rattle.code_services.specs.Recover.{recover_refusal_in}

-- the numbers of these refusals
pub recover-most : (m w c : ℕ) (word marks : List ℕ) → recover_refusal_in byte_limits m w c word marks ≤ 6
unfolding recover_refusal_in
recover-most m w c word marks =
    or_else-most 6 (word_refusal_in byte_limits m w c (length word)) _ (let h = word-most m w c (length word) in omega arith) (marks-most m w c marks)
