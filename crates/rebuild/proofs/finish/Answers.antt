-- What is written is what the verdict says, which is the output.
use Rattle.std.proofs.Common.{sym, ap, ◌∙◌, subst, Err}
use Rattle.std.specs.Io.KnownBytes.{Appends}
use Rattle.rebuild.specs.Runs.{WritesFront}
use Rattle.rebuild.proofs.Parts.{output_is, mended}
use Rattle.rebuild.proofs.WordLaws.{word_low}
use Rattle.rebuild.proofs.finish.Goals as goal

pub returns-then-start-input-clause-all : goal.returns-then-start-input-clause-all
returns-then-start-input-clause-all g c = λ t.
    subst (Appends _ _) (mended _ _ c.in-Ok.start (sym c.in-Ok.ensures.verdict) c.in-Ok.ensures.input) (c.put.ensures.all t)

pub returns-then-start-input-clause-front : goal.returns-then-start-input-clause-front
returns-then-start-input-clause-front g c =
    subst (WritesFront _ _) (mended _ _ c.in-Ok.start (sym c.in-Ok.ensures.verdict) c.in-Ok.ensures.input) c.put.ensures.front

pub returns-in-Err-Line-clause-all : goal.returns-in-Err-Line-clause-all
returns-in-Err-Line-clause-all g c = λ t.
    let e = sym c.answer.ensures.verdict ∙ c.in-Err-Line.is ∙ ap Err c.in-Err-Line.field-0-is in
    subst (Appends _ _) (output_is _ _ e) (c.refuse.ensures.all t _ c.refused.ensures)

pub returns-in-Err-Line-clause-front : goal.returns-in-Err-Line-clause-front
returns-in-Err-Line-clause-front g c =
    let e = sym c.answer.ensures.verdict ∙ c.in-Err-Line.is ∙ ap Err c.in-Err-Line.field-0-is in
    subst (WritesFront _ _) (output_is _ _ e) (c.refuse.ensures.front _ c.refused.ensures)

pub refuse_blocks-requires : goal.refuse_blocks-requires
refuse_blocks-requires g c = word_low _ _ (sym c.answer.ensures.verdict ∙ c.in-Err-Blocks.is ∙ ap Err c.in-Err-Blocks.field-0-is)

pub returns-in-Err-Blocks-clause-all : goal.returns-in-Err-Blocks-clause-all
returns-in-Err-Blocks-clause-all g c = λ t.
    let e = sym c.answer.ensures.verdict ∙ c.in-Err-Blocks.is ∙ ap Err c.in-Err-Blocks.field-0-is in
    subst (Appends _ _) (output_is _ _ e) (c.refuse_blocks.ensures.all t _)

pub returns-in-Err-Blocks-clause-front : goal.returns-in-Err-Blocks-clause-front
returns-in-Err-Blocks-clause-front g c =
    let e = sym c.answer.ensures.verdict ∙ c.in-Err-Blocks.is ∙ ap Err c.in-Err-Blocks.field-0-is in
    subst (WritesFront _ _) (output_is _ _ e) (c.refuse_blocks.ensures.front _)
