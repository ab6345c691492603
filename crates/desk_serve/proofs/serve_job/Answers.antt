use Rattle.std.proofs.Common.{◌≡◌, refl, sym, ◌∙◌, ◌*◌, arith, rules, length, length-take-le}
use Rattle.desk_job.specs.Jobs.{job_marks}
use Rattle.desk_serve.specs.Serve.{job_recovery, job_number}
use Rattle.desk_job.specs.JobLaws.{good-places}
use Rattle.desk_serve.specs.ServeLaws.{recover-unchanged, unless-same, job-length, job-end, job-recovery}
use Rattle.code_services.specs.AnsweredLaws.{answers_at}
use Rattle.desk_serve.proofs.serve_job.Goals as goal

pub overflow_mul-n : goal.overflow_mul-n
overflow_mul-n c =
    let l = good-places c.args.job c.requires in
    omega arith

pub returns-then-word-n : goal.returns-then-word-n
returns-then-word-n c =
    let a = c.args in
    let e = job-length a.job a.word.now c.if-word-n.true in
    record { answer = rw e refl; number = sym e; word = rw e refl }

pub returns-then-job-eq-MAX_SERVED : goal.returns-then-job-eq-MAX_SERVED
returns-then-job-eq-MAX_SERVED c =
    let a = c.args in
    let e = job-end a.job a.word.now c.if-word-n.false c.if-job-eq-MAX_SERVED.true in
    record { answer = rw e refl; number = sym e; word = rw e refl }

pub slice_bounds-marks-end : goal.slice_bounds-marks-end
slice_bounds-marks-end c =
    let l : length c.args.job.marks ≡ 240 = search rules in
    let k = good-places c.args.job c.requires in
    omega arith

pub slice_bounds-recover-end : goal.slice_bounds-recover-end
slice_bounds-recover-end c =
    let j = c.args.job in
    let l : length j.marks ≡ 240 = search rules in
    let k = good-places j c.requires in
    sym (length-take-le (j.m * j.w) j.marks (omega arith))

pub returns : goal.returns
returns c =
    let a = c.args in
    let n : job_number a.job a.word.now ≡ (job_recovery a.job a.word.now).number =
    job-recovery a.job a.word.now c.if-word-n.false c.if-job-eq-MAX_SERVED.false in
    record {
      answer = rw n (answers_at c.recover.ensures.answer);
      number = c.recover.ensures.answer.number ∙ sym n;
      word = rw n (c.recover.ensures.word
          ∙ unless-same (job_recovery a.job a.word.now).number (job_recovery a.job a.word.now).word a.word.now
          (recover-unchanged a.job.m a.job.w a.job.c a.word.now (job_marks a.job)));
    }
