use Rattle.std.proofs.Common.{◌≡◌, refl, sym, ap, ◌∙◌, ℕ, true, false, arith, Result, Ok, Err}
use Rattle.std.specs.Result.{is_ok}
use Rattle.answers.specs.declared.Refusal.{Refusal}
use Rattle.answers.specs.Answers.{refused_number, mending_at, mending_group}
use Rattle.answers.specs.AnswersLaws.{refusal-some}
use Rattle.code.specs.Refusals.{unless_refused}
use Rattle.desk_record.specs.Desks.{slot_of, job_at, with_job}
use Rattle.desk_serve.specs.Serve.{job_recovery, job_number, serve_by, serve_of}
use Rattle.desk_serve.specs.ServeLaws.{job-room, gives-handle, gives-job, serve-job}
use Rattle.desk_record.specs.RefusalLaws.{open-good}
use Rattle.desk_serve.proofs.serve.Goals as goal

-- whether an answer is no refusal, by its number
ok-zero : (r : Result Unit Refusal) → is_ok r ≡ true → refused_number r ≡ 0
ok-zero (Ok tt) e = refl
ok-zero (Err f) e = let z : ◌≡◌ {A = ℕ} 0 1 = cc in absurd (omega arith)

ok-some : (r : Result Unit Refusal) → is_ok r ≡ false → refused_number r ≡ 0 → ⊥
ok-some (Ok tt) e z = let y : ◌≡◌ {A = ℕ} 0 1 = cc in absurd (omega arith)
ok-some (Err f) e z = refusal-some f z

pub returns-in-Err : goal.returns-in-Err
returns-in-Err c =
    let a = c.args in
    gives-handle a.handle a.word.now a.desk _ (sym (ap refused_number c.in-Err.is) ∙ c.handle_refusal.ensures)

pub serve_job-answer-requires : goal.serve_job-answer-requires
serve_job-answer-requires c =
    let a = c.args in
    open-good a.handle a.desk (sym c.handle_refusal.ensures ∙ ap refused_number c.in_default.is)

pub served_once-requires : goal.served_once-requires
served_once-requires c =
    let a = c.args in
    let j = job_at a.desk (slot_of a.handle) in
    let z : job_number j a.word.now ≡ 0
    = sym c.serve_job-answer.ensures.number ∙ ok-zero c.serve_job-answer.result (sym c.is_ok.ensures.value ∙ c.if-is_ok.true) in
    job-room j a.word.now z

pub returns-then-is_ok : goal.returns-then-is_ok
returns-then-is_ok c =
    let a = c.args in
    let r = c.serve_job-answer.result in
    let E = c.serve_job-answer.ensures in
    let j = job_at a.desk (slot_of a.handle) in
    let R = job_recovery j a.word.now in
    let k = ok-zero r (sym c.is_ok.ensures.value ∙ c.if-is_ok.true) in
    let z : job_number j a.word.now ≡ 0 = sym E.number ∙ k in
    let is : r ≡ Ok tt = E.answer ∙ ap (λ n. mending_at n R.group) z in
    let e : serve_of a.handle a.word.now a.desk ≡ serve_by 0 a.handle a.word.now a.desk
    = serve-job a.handle a.word.now a.desk (sym c.handle_refusal.ensures ∙ ap refused_number c.in_default.is)
    ∙ ap (λ n. serve_by n a.handle a.word.now a.desk) z in
    rw e
    (record {
      word-is = E.word ∙ ap (λ n. unless_refused n R.word a.word.now) z;
      desk-is = ap (with_job a.desk (slot_of a.handle)) c.served_once.ensures;
      answer-is = is;
      number_is = k;
      group-is = ap mending_group is;
    })

pub returns-else-is_ok : goal.returns-else-is_ok
returns-else-is_ok c =
    let a = c.args in
    let r = c.serve_job-answer.result in
    let E = c.serve_job-answer.ensures in
    let some = ok-some r (sym c.is_ok.ensures.value ∙ c.if-is_ok.false) in
    gives-job a.handle a.word.now a.desk (sym c.handle_refusal.ensures ∙ ap refused_number c.in_default.is) (λ z. some (E.number ∙ z)) _
    E.word r E.answer
