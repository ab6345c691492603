use Rattle.std.proofs.Common.{sym}
use Rattle.answers.specs.AnswersLaws.{passed}
use Rattle.desk_record.specs.Refusal.{handle_refusal}
use Rattle.desk_close.specs.Read.{read_of}
use Rattle.desk_close.specs.ReadLaws.{reads-refused, reads-done}
use Rattle.desk_close.proofs.read.Goals as goal

pub returns-in_err-handle_refusal : goal.returns-in_err-handle_refusal
unfolding read_of
returns-in_err-handle_refusal c =
    let a = c.args in
    rw (passed c.from_residual.ensures) (reads-refused (handle_refusal a.handle a.desk) a.handle a.desk _ c.in_err-handle_refusal.ensures)

pub returns : goal.returns
unfolding read_of
returns c =
    let a = c.args in
    reads-done (handle_refusal a.handle a.desk) a.handle a.desk (sym c.in_ok-handle_refusal.ensures)
