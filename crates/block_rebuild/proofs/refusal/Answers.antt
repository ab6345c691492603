use Rattle.std.proofs.Common.{refl, sym, ap, ◌∙◌}
use Rattle.answers.specs.Answers.{refused_number}
use Rattle.answers.specs.AnswersLaws.{refusal-some, passed}
use Rattle.block_rebuild.proofs.RebuildLaws.{refused-marks, refused-blocks, refused-judged, marks-few}
use Rattle.block_rebuild.proofs.refusal.Goals as goal

pub returns-in_err-marks_refusal : goal.returns-in_err-marks_refusal
returns-in_err-marks_refusal c =
    let a = c.args in
    ap refused_number (passed c.from_residual.ensures)
    ∙ refused-marks a.m a.w a.c a.size a.lent a.marks.now _ c.in_err-marks_refusal.ensures (refusal-some _)

-- past the first test marks and shape are good
pub blocks_refusal-requires : goal.blocks_refusal-requires
blocks_refusal-requires c = let a = c.args in marks-few a.m a.w a.c a.size a.lent a.marks.now (sym c.in_ok-marks_refusal.ensures)

pub returns-in_err-blocks_refusal : goal.returns-in_err-blocks_refusal
returns-in_err-blocks_refusal c =
    let a = c.args in
    ap refused_number (passed c.from_residual-in_err-blocks_refusal.ensures)
    ∙ refused-blocks a.m a.w a.c a.size a.lent a.marks.now (sym c.in_ok-marks_refusal.ensures) _ c.in_err-blocks_refusal.ensures (refusal-some _)

-- past the second, the number is that of Judge
pub returns : goal.returns
returns c =
    let a = c.args in
    c.judge.ensures.number
    ∙ refused-judged a.m a.w a.c a.size a.lent a.marks.now (sym c.in_ok-marks_refusal.ensures) _ c.in_ok-blocks_refusal.ensures refl
