use Rattle.std.proofs.Common.{◌≡◌, ap, ◌∙◌, length, sym}
use Rattle.wide_shape.specs.Edition.{wide_limits}
use Rattle.wide_shape.specs.EditionLaws.{wide-sound}
use Rattle.wide_shape.specs.Edition.{wide_edition}
use Rattle.code.specs.Limits.{place_count, data_count, GoodIn}
use Rattle.code_services.specs.Encode.{encode_in, encoded_buffer_in, encode_refusal_in}
use Rattle.code_services.specs.Places.{check_marks}
use Rattle.code_services.specs.PlacesLaws.{placed-length}
use Rattle.code_services.specs.Recover.{recover_in}
use Rattle.code_services.specs.EncodeLaws.{good-of-encode, buffer-end}
use Rattle.code_loops.specs.EndsLaws.{leaves-refused, leaves_by}
use Rattle.answers.specs.AnswersLaws.{passed}
use Rattle.code_services.specs.PlainLaws.{encode-plain}
use Rattle.wide_services.proofs.encode.Goals as goal

pub returns-in_err-refusal : goal.returns-in_err-refusal
unfolding encode_in encoded_buffer_in
returns-in_err-refusal c =
    let a = c.args in
    let q = leaves-refused _ _ c.in_err-refusal.ensures (encode-plain wide_limits a.m a.w a.c _ _) in
    rw (passed c.from_residual.ensures) record { answer = q.0; number = q.1.0; buffer = q.1.1 }

pub spread_data-requires : goal.spread_data-requires
spread_data-requires c =
    let a = c.args in
    let g = good-of-encode {L = wide_limits} a.m a.w a.c (length a.word.now) (length a.symbols.now) (sym c.in_ok-refusal.ensures) in
    record { good_in = g.0; word_len = g.1; symbols_len = g.2 }

pub complete-requires : goal.complete-requires
complete-requires c =
    let fair : let a = c.args in GoodIn wide_limits a.m a.w a.c × (length a.word.now ≡ place_count a.m a.w) × (length a.symbols.now ≡ data_count a.m a.w a.c) =
    let a = c.args in good-of-encode {L = wide_limits} a.m a.w a.c (length a.word.now) (length a.symbols.now) (sym c.in_ok-refusal.ensures) in
    record { good_in = fair.0; word_len = ap length c.spread_data.ensures ∙ placed-length _ _ _ _ }

pub returns : goal.returns
unfolding encode_in
returns c =
    let a = c.args in
    let z : encode_refusal_in wide_limits a.m a.w a.c (length a.word.now) (length a.symbols.now) ≡ 0 = sym c.in_ok-refusal.ensures in
    let q = leaves_by z (buffer-end wide-sound a.m a.w a.c a.symbols.now a.word.now _ z (λ i. (c.shared_slice_known-1.given i).fits)
    (c.complete.ensures ∙ ap (λ u. (recover_in wide_edition a.m a.w a.c u (check_marks a.m a.w a.c)).word) c.spread_data.ensures)) in
    record { answer = q.0; number = q.1.0; buffer = q.1.1 }
