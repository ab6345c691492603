use Rattle.std.proofs.Common.{ℕ, sym, ap, ◌∙◌, Err}
use Rattle.c_blocks.specs.RebuildAnswer.{rebuilt_answer}
use Rattle.c_blocks.specs.RebuildAnswerLaws.{answer-is}
use Rattle.c_blocks.proofs.axlebloom_rebuild.Goals as goal

pub returns-in-Ok : goal.returns-in-Ok
returns-in-Ok c =
    let a = c.args in
    let e = c.rebuild.ensures in record {
      answer = ap rebuilt_answer (sym c.in-Ok.is ∙ e.answer) ∙ answer-is a.m a.w a.c a.length a.blocks.now a.marks.now;
      blocks = e.blocks;
      marks = e.marks;
    }

pub returns-in-Err-Contradictory : goal.returns-in-Err-Contradictory
returns-in-Err-Contradictory c =
    let a = c.args in
    let e = c.rebuild.ensures in record {
      answer = ap rebuilt_answer (sym (c.in-Err-Contradictory.is ∙ ap Err c.in-Err-Contradictory.field-0-is)) ∙ ap rebuilt_answer e.answer
          ∙ answer-is a.m a.w a.c a.length a.blocks.now a.marks.now;
      blocks = e.blocks;
      marks = e.marks;
    }

pub returns-in-Err-Refused : goal.returns-in-Err-Refused
returns-in-Err-Refused c =
    let a = c.args in
    let e = c.rebuild.ensures in record {
      answer = ap (λ (n : ℕ). record { word = 0; number = n; group = 0 }) c.number.ensures
          ∙ ap rebuilt_answer (sym (c.in-Err-Refused.is ∙ ap Err c.in-Err-Refused.field-0-is)) ∙ ap rebuilt_answer e.answer
          ∙ answer-is a.m a.w a.c a.length a.blocks.now a.marks.now;
      blocks = e.blocks;
      marks = e.marks;
    }
