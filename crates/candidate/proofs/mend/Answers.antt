use Rattle.std.proofs.Common.{◌≡◌, refl, ◌<◌, arith}
use Rattle.code_engine.specs.Mended.{MendedIn}
use Rattle.code_engine.specs.WeightsLaws.{few-at}
use Rattle.candidate.proofs.mend.Goals as goal

pub mend_one-requires : goal.mend_one-requires
mend_one-requires c =
    let P = c.free_places-f.ensures.free_places in
    let wide : 0 < c.args.w = (let h = c.requires.good_in.wide in omega arith) in
    let l = P.less 0 (omega arith) in record { good_in = c.requires.good_in; word_len = c.requires.word_len; p_bound = omega arith; bound_few = few-at wide c.requires.bound_all P c.requires.marks_len 0 (omega arith); s_value = c.across-s.ensures.value c.requires.good_in c.requires.word_len }

pub returns-then-f-eq1 : goal.returns-then-f-eq1
returns-then-f-eq1 c =
    record { mended_in = MendedIn.one (rw c.if-f-eq1.true at c.free_places-f.ensures.free_places) c.mend_one.ensures.mended_one_in; value = c.mend_one.ensures.value }

pub mend_two-requires : goal.mend_two-requires
mend_two-requires c =
    let P = c.free_places-f.ensures.free_places in
    let wide : 0 < c.args.w = (let h = c.requires.good_in.wide in omega arith) in
    let l = P.less 0 (omega arith) in
    let k = P.less 1 (omega arith) in record { good_in = c.requires.good_in; word_len = c.requires.word_len; p_bound = (omega arith, omega arith, λ e. let z = P.apart 0 1 (omega arith) (omega arith) e in omega arith); bound_few = few-at wide c.requires.bound_all P c.requires.marks_len 0 (omega arith); bound_few_2 = few-at wide c.requires.bound_all P c.requires.marks_len 1 (omega arith); s_value = c.across-s.ensures.value c.requires.good_in c.requires.word_len }

pub returns-then-f-eq2 : goal.returns-then-f-eq2
returns-then-f-eq2 c =
    record { mended_in = MendedIn.two (rw c.if-f-eq2.true at c.free_places-f.ensures.free_places) c.mend_two.ensures.mended_two_in; value = c.mend_two.ensures.value }

pub returns : goal.returns
returns c =
    let k = c.free_places-f.ensures.free_places.most in
    let e : c.free_places-f.result.count ≡ 0 = omega arith in
    record { mended_in = MendedIn.none (rw e at c.free_places-f.ensures.free_places) refl; value = c.across-s.ensures.value c.requires.good_in c.requires.word_len }
