use Rattle.std.proofs.Common.{sym, length}
use Rattle.code.specs.LimitsLaws.{good-of-buffers}
use Rattle.answers.specs.AnswersLaws.{passed}
use Rattle.answers.specs.PlainLaws.{buffer-plain}
use Rattle.code_services.specs.Places.{extract_over, extracted_in, extracted_data_over}
use Rattle.code_loops.specs.EndsLaws.{leaves-refused, leaves-done}
use Rattle.places.proofs.extract.Goals as goal

pub returns-in_err-buffer_refusal : goal.returns-in_err-buffer_refusal
unfolding extracted_in extracted_data_over
returns-in_err-buffer_refusal g c =
    let a = c.args in
    let h = leaves-refused (extract_over g.E.Edition.ZERO a.m a.w a.c a.word.now) a.symbols.now c.in_err-buffer_refusal.ensures (buffer-plain g.E.Edition.limits a.m a.w a.c _ _) in
    rw (passed c.from_residual.ensures) record { answer = h.0; number = h.1.0; buffer = h.1.1 }

pub copy_data-requires : goal.copy_data-requires
copy_data-requires g c =
    let a = c.args in
    let z = good-of-buffers {L = g.E.Edition.limits} a.m a.w a.c (length a.word.now) (length a.symbols.now) (sym c.in_ok-buffer_refusal.ensures) in
    record { good_in = z.0; word_len = z.1; symbols_len = z.2 }

pub returns : goal.returns
unfolding extracted_in extracted_data_over
returns g c =
    let a = c.args in
    let h = leaves-done a.symbols.now (sym c.in_ok-buffer_refusal.ensures) c.copy_data.ensures in
    record { answer = h.0; number = h.1.0; buffer = h.1.1 }
