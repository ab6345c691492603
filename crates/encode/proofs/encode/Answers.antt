use Rattle.std.proofs.Common.{◌≡◌, sym, ap, ◌∙◌, subst, ◌≤◌, length, length-take, arith}
use Rattle.shape.specs.Shapes.{byte_limits}
use Rattle.byte_edition.specs.EditionLaws.{bytes-sound}
use Rattle.byte_edition.specs.Edition.{byte_edition}
use Rattle.code.specs.Limits.{place_count, data_count, GoodIn}
use Rattle.code.specs.LimitsLaws.{places-most}
use Rattle.code_services.specs.Encode.{encode_in, encoded_buffer_in, encode_refusal_in}
use Rattle.code_services.specs.Places.{check_marks}
use Rattle.code_services.specs.PlacesLaws.{placed-length}
use Rattle.code_services.specs.Recover.{recover_in}
use Rattle.code_services.specs.EncodeLaws.{good-of-encode, buffer-end}
use Rattle.code_loops.specs.EndsLaws.{leaves-refused, leaves_by}
use Rattle.answers.specs.AnswersLaws.{passed}
use Rattle.code_services.specs.PlainLaws.{encode-plain}
use Rattle.encode.proofs.encode.Goals as goal

pub returns-in_err-refusal : goal.returns-in_err-refusal
unfolding encode_in encoded_buffer_in
returns-in_err-refusal c =
    let a = c.args in
    let q = leaves-refused _ _ c.in_err-refusal.ensures (encode-plain byte_limits a.m a.w a.c _ _) in
    rw (passed c.from_residual.ensures) record { answer = q.0; number = q.1.0; buffer = q.1.1 }

pub spread_data-requires : goal.spread_data-requires
spread_data-requires c =
    let a = c.args in
    let g = good-of-encode {L = byte_limits} a.m a.w a.c (length a.word.now) (length a.bytes.now) (sym c.in_ok-refusal.ensures) in
    record { good_in = g.0; word_len = g.1; symbols_len = g.2 }

pub slice_bounds-marks-end : goal.slice_bounds-marks-end
slice_bounds-marks-end c =
    let fair : let a = c.args in GoodIn byte_limits a.m a.w a.c × (length a.word.now ≡ place_count a.m a.w) × (length a.bytes.now ≡ data_count a.m a.w a.c) =
    let a = c.args in good-of-encode {L = byte_limits} a.m a.w a.c (length a.word.now) (length a.bytes.now) (sym c.in_ok-refusal.ensures) in
    let placed : let a = c.args in length c.spread_data.new.word ≡ place_count a.m a.w =
    ap length c.spread_data.ensures ∙ placed-length _ _ _ _ in
    subst (λ n. n ≤ 240) (sym placed) (places-most fair.0)

pub slice_bounds-fill_checks-end : goal.slice_bounds-fill_checks-end
slice_bounds-fill_checks-end c =
    let fair : let a = c.args in GoodIn byte_limits a.m a.w a.c × (length a.word.now ≡ place_count a.m a.w) × (length a.bytes.now ≡ data_count a.m a.w a.c) =
    let a = c.args in good-of-encode {L = byte_limits} a.m a.w a.c (length a.word.now) (length a.bytes.now) (sym c.in_ok-refusal.ensures) in
    let placed : let a = c.args in length c.spread_data.new.word ≡ place_count a.m a.w =
    ap length c.spread_data.ensures ∙ placed-length _ _ _ _ in
    let most = places-most fair.0 in
    simp length-take (omega arith)

pub fill_checks-requires : goal.fill_checks-requires
fill_checks-requires c =
    let fair : let a = c.args in GoodIn byte_limits a.m a.w a.c × (length a.word.now ≡ place_count a.m a.w) × (length a.bytes.now ≡ data_count a.m a.w a.c) =
    let a = c.args in good-of-encode {L = byte_limits} a.m a.w a.c (length a.word.now) (length a.bytes.now) (sym c.in_ok-refusal.ensures) in
    let placed : let a = c.args in length c.spread_data.new.word ≡ place_count a.m a.w =
    ap length c.spread_data.ensures ∙ placed-length _ _ _ _ in
    record { good_in = fair.0; word_len = placed; marks_len = let most = places-most fair.0 in simp length-take (omega arith) }

pub returns : goal.returns
unfolding encode_in
returns c =
    let a = c.args in
    let z : encode_refusal_in byte_limits a.m a.w a.c (length a.word.now) (length a.bytes.now) ≡ 0 = sym c.in_ok-refusal.ensures in
    let q = leaves_by z (buffer-end bytes-sound a.m a.w a.c a.bytes.now a.word.now _ z (λ i. (c.shared_slice_known-1.given i).fits)
    (c.fill_checks.ensures ∙ ap (λ u. (recover_in byte_edition a.m a.w a.c u (check_marks a.m a.w a.c)).word) c.spread_data.ensures)) in
    record { answer = q.0; number = q.1.0; buffer = q.1.1 }
