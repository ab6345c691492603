-- A bad shape of bytes.
use Rattle.std.specs.Prelude.{◌≡◌, ℕ}
use Rattle.code.specs.Limits.{shape_refusal_in, sale_refusal_in}
use Rattle.shape.specs.Shapes.{byte_limits}
use Rattle.answers.specs.declared.Refusal.{Refusal}
use Rattle.answers.specs.Answers.{refusal_number}
use Rattle.answers.specs.AnswersLaws.{else-first}
use Rattle.code_services.specs.Encode.{encode_refusal_in}

-- of bytes
pub encode-unshaped : (m w c n k : ℕ) (e : Refusal) → refusal_number e ≡ shape_refusal_in byte_limits m w c
    → refusal_number e ≡ encode_refusal_in byte_limits m w c n k
unfolding encode_refusal_in sale_refusal_in
encode-unshaped m w c n k e is = else-first e (else-first e is _) _
