use Rattle.std.proofs.Common.{◌≡◌, refl, sym, ap, ◌∙◌, ◌*◌, ◌≤◌, mul-le-mul_left, le_of_lt, arith, rules, eqb, ne_eqb, Result, Ok, Err}
use Rattle.std.specs.Result.{is_ok}
use Rattle.answers.specs.declared.Refusal.{Refusal}
use Rattle.answers.specs.Answers.{refusal_number, refused_number}
use Rattle.answers.specs.AnswersLaws.{refusal-some}
use Rattle.desk_job.specs.Jobs.{is_good}
use Rattle.desk_job.specs.JobLaws.{large-job}
use Rattle.desk_job.proofs.is_good.Goals as goal

pub returns-then-n-gt-MAX_PLACES : goal.returns-then-n-gt-MAX_PLACES
returns-then-n-gt-MAX_PLACES c = sym (large-job c.args.job c.if-n-gt-MAX_PLACES.true)

-- whether an answer is no refusal, by its number
ok-number : (r : Result Unit Refusal) → is_ok r ≡ eqb (refused_number r) 0
ok-number (Ok tt) = refl
ok-number (Err e) = sym (ne_eqb (refusal_number e) 0 (refusal-some e))

pub returns : goal.returns
unfolding is_good
returns c = c.is_ok.ensures.value ∙ ok-number c.judged.result ∙ ap (λ n. eqb n 0) c.judged.ensures
