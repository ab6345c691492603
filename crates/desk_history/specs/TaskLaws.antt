-- Laws: From its opening to its closing a handle's job keeps the shape that Open was given, and its marks are those of its opening changed by the
-- loses and finds answered 0 since.
use Rattle.std.specs.Prelude.{◌≡◌, Bool, true, false, not, cond, ◌&&◌, List, [], ◌∷◌, ◌++◌, eqb, length, set, replicate}
use Rattle.std.proofs.Math.Path.{refl, ap}
use Rattle.std.proofs.Common.{sym, ap₂, ◌∙◌, subst, true≢false, arith, length-set, take_at}
use Rattle.std.proofs.Math.Bool.{and-false}
use Prim.Native.Nat.{ℕ, zero, suc, ◌*◌, ◌-◌, ◌<◌}
use Rattle.std.proofs.Math.Decide.{ℕ_discrete}
use borrow.Author.Tests.{eq-eqb, ne_eqb, not-true}
use Rattle.std.proofs.lemmas.List.{set-append_left}
use Rattle.shape.specs.Shapes.{byte_limits}
use Rattle.byte_edition.specs.Edition.{byte_edition}
use Rattle.code_services.specs.Judge.{judged_number_in}
use Rattle.code_services.specs.Recover.{recover_in}
use Rattle.desk_job.specs.declared.Job.{Job}
use Rattle.desk_record.specs.declared.Desk.{Desk}
use Rattle.desk_job.specs.Jobs.{with_marks}
use Rattle.desk_record.specs.Desks.{job_at, slot_of, is_open}
use Rattle.desk_record.specs.Refusal.{handle_refusal}
use Rattle.desk_open.specs.Open.{open_number, open_by, open_of, new_job}
use Rattle.desk_close.specs.Close.{close_of}
use Rattle.desk_serve.specs.Serve.{job_recovery, job_number, group_of_nine, Serving, serve_number, serve_by, serve_of, served_once}
use Rattle.desk_serve.specs.ServeLaws.{serve-job}
use Rattle.desk_record.specs.Laws.{sound-of}
use Rattle.code.specs.Outcome.{Outcome}
use Rattle.code.specs.Refusals.{refuse, ◌or_else◌}
use Rattle.desk_change.specs.Change.{changed, place_number, change_number, change_by, change_of}
use Rattle.desk_change.proofs.ChangeLaws.{place-parts}
use Rattle.desk_job.specs.JobLaws.{judged-marked}
use Rattle.desk_open.specs.OpenLaws.{open-parts}
use Rattle.desk_history.specs.History.{DeskCall, Fresh, Open, Serve, Read, Close, Lose, Find, step, desk_after, desk_answers}
use Rattle.desk_history.specs.PutLaws.{and-of, put_other}
use Rattle.desk_history.specs.Effects.{holds_handle}
use Rattle.desk_history.specs.EffectsLaws.{slot-below, open-by-slot, served-job, replaced-job, handle-done}
use Rattle.desk_history.specs.Sound.{Fit}
use Rattle.desk_history.specs.SoundLaws.{serve-parts, change-parts, fit-step}
use Rattle.desk_history.specs.OthersLaws.{other-than, open-other, close_other, change-other, given}
use Rattle.desk_history.specs.Task.{is_keeping, are_keeping, marked_by, marks_after, task_of, Works, ServesBy, is_unmarking, are_unmarking}

-- a place of a new job's marks set
new-change : (m w c : ℕ) (marks : List ℕ) (h mark place : ℕ) → place < length marks
    → changed mark place (new_job m w c marks h) ≡ new_job m w c (set marks place mark) h
unfolding new_job
new-change m w c marks h mark place l =
    ap (with_marks (record { taken = 1; m = m; w = w; c = c; served = 0; handle = h; marks = []; lost = []; excess = 0 }))
    (set-append_left marks (replicate (240 - length marks) 0) place mark l
    ∙ ap (λ n. set marks place mark ++ replicate (240 - n) 0) (sym (length-set marks place mark)))

new-shape : (m w c : ℕ) (marks : List ℕ) (h : ℕ) → ((new_job m w c marks h).m ≡ m) × ((new_job m w c marks h).w ≡ w)
unfolding new_job
new-shape m w c marks h = (refl, refl)

marked-length : (h : ℕ) (call : DeskCall) (number : ℕ) (marks : List ℕ) → length (marked_by h call number marks) ≡ length marks
unfolding marked_by
marked-length h Fresh number marks = refl
marked-length h (Open m w c other) number marks = refl
marked-length h (Serve g word) number marks = refl
marked-length h (Read g) number marks = refl
marked-length h (Close g) number marks = refl
marked-length h (Lose g place) number marks = go (eqb h g && eqb number 0)
  where
    go : (b : Bool) → length (cond b (set marks place 1) marks) ≡ length marks
    go true = length-set marks place 1
    go false = refl
marked-length h (Find g place) number marks = go (eqb h g && eqb number 0)
  where
    go : (b : Bool) → length (cond b (set marks place 0) marks) ≡ length marks
    go true = length-set marks place 0
    go false = refl

module _ (m w c h : ℕ) (desk : Desk) (F : Fit desk) (o : is_open desk h ≡ true)
    (marks : List ℕ) (size : length marks ≡ m * w) (task : task_of (job_at desk (slot_of h)) ≡ new_job m w c marks h) where
  serve-task : (g : ℕ) (word : List ℕ) (r : ℕ) → serve_number g word desk ≡ r
      → task_of (job_at (serve_by r g word desk).desk (slot_of h)) ≡ task_of (job_at desk (slot_of h))
  serve-task g word zero e = elim (ℕ_discrete (slot_of h) (slot_of g)) [
    | yes q ↦
        ap (λ s. task_of (job_at (serve_by 0 g word desk).desk s)) q
        ∙ ap task_of (served-job desk F.size F.sound g (serve-parts g word desk e).0)
        ∙ ap (λ s. task_of (job_at desk s)) (sym q)
    | no n ↦ ap task_of (put_other desk F.size desk.t (slot_of g) (slot-below g) (served_once (job_at desk (slot_of g))) (slot_of h) n)
  ]
  serve-task g word (suc r) e = refl

  -- a place that its job takes is one of its marks
  task-place : (mark place : ℕ) → place_number mark place (job_at desk (slot_of h)) ≡ 0 → place < length marks
  task-place mark place e =
      let N = new-shape m w c marks h in
      let j = job_at desk (slot_of h) in
      let a : j.m ≡ m = ap (λ (x : Job). x.m) task ∙ N.0 in
      let b : j.w ≡ w = ap (λ (x : Job). x.w) task ∙ N.1 in
      subst (λ n. place < n) (ap₂ ◌*◌ a b ∙ sym size) (place-parts mark place j e).0

  change-task : (mark g place : ℕ) (r : ℕ) → change_number mark g place desk ≡ r
      → task_of (job_at (change_by r mark g place desk).desk (slot_of h))
      ≡ new_job m w c (cond (eqb h g && eqb (change_by r mark g place desk).number 0) (set marks place mark) marks) h
  change-task mark g place zero e = elim (ℕ_discrete h g) [
    | yes q ↦ (
        let P = change-parts mark g place desk e in
        ap (λ x. task_of (job_at (change_by 0 mark g place desk).desk (slot_of x))) q
        ∙ ap task_of (replaced-job desk F.size F.sound g P.0 (changed mark place (job_at desk (slot_of g))))
        ∙ ap (λ x. changed mark place (task_of (job_at desk (slot_of x)))) (sym q)
        ∙ ap (changed mark place) task
        ∙ new-change m w c marks h mark place (task-place mark place (ap (λ x. place_number mark place (job_at desk (slot_of x))) q ∙ P.1))
        ∙ ap (λ b. new_job m w c (cond (b && true) (set marks place mark) marks) h) (sym (eq-eqb h g q)))
    | no n ↦
        ap task_of (change-other h desk F o mark g place n 0 e)
        ∙ task
        ∙ ap (λ b. new_job m w c (cond (b && true) (set marks place mark) marks) h) (sym (ne_eqb h g n))
  ]
  change-task mark g place (suc r) e =
      task
      ∙ ap (λ b. new_job m w c (cond b (set marks place mark) marks) h)
      (sym (ap (λ b. eqb h g && b) (ne_eqb (suc r) 0 (λ z. omega arith)) ∙ and-false (eqb h g)))

  task-step : (call : DeskCall) → is_keeping h call ≡ true
      → task_of (job_at (step call desk).desk (slot_of h)) ≡ new_job m w c (marked_by h call (step call desk).number marks) h
  unfolding is_keeping marked_by step open_of serve_of close_of change_of
  task-step Fresh e = absurd (true≢false (sym e))
  task-step (Open m' w' c' other) e = ap task_of (open-other h desk F o m' w' c' other (open_number m' w' c' other desk) refl) ∙ task
  task-step (Serve g word) e = serve-task g word (serve_number g word desk) refl ∙ task
  task-step (Read g) e = task
  task-step (Close g) e = ap task_of (close_other h desk F o g (other-than h g e) (handle_refusal g desk) refl) ∙ task
  task-step (Lose g place) e = change-task 1 g place (change_number 1 g place desk) refl
  task-step (Find g place) e = change-task 0 g place (change_number 0 g place desk) refl

  new-held : (other : List ℕ) → holds_handle (new_job m w c other h) h ≡ true
  unfolding new_job
  new-held other = eq-eqb h h refl

  still_open : (call : DeskCall) → is_keeping h call ≡ true → is_open (step call desk).desk h ≡ true
  still_open call e =
      open-by-slot (step call desk).desk (fit-step desk F call).sound h
      ∙ ap (λ j. holds_handle j h) (task-step call e)
      ∙ new-held (marked_by h call (step call desk).number marks)

pub task-follows : (m w c h : ℕ) (calls : List DeskCall) (desk : Desk) → Fit desk → is_open desk h ≡ true → (marks : List ℕ) → length marks ≡ m * w
    → task_of (job_at desk (slot_of h)) ≡ new_job m w c marks h → are_keeping h calls ≡ true
    → (is_open (desk_after desk calls) h ≡ true) × (length (marks_after h marks (desk_answers desk calls)) ≡ m * w)
    × (task_of (job_at (desk_after desk calls) (slot_of h)) ≡ new_job m w c (marks_after h marks (desk_answers desk calls)) h)
unfolding desk_after are_keeping desk_answers marks_after
task-follows m w c h [] desk F o marks size task e = (o, size, task)
task-follows m w c h (call ∷ calls) desk F o marks size task e =
    let p = and-of (is_keeping h call) (are_keeping h calls) e in
    task-follows m w c h calls (step call desk).desk (fit-step desk F call) (still_open m w c h desk F o marks size task call p.0)
    (marked_by h call (step call desk).number marks) (marked-length h call (step call desk).number marks ∙ size)
    (task-step m w c h desk F o marks size task call p.0) p.1

new-task : (m w c : ℕ) (marks : List ℕ) (h : ℕ) → task_of (new_job m w c marks h) ≡ new_job m w c marks h
unfolding new_job
new-task m w c marks h = refl

new-recovery : (m w c : ℕ) (marks word : List ℕ) (h : ℕ) → length marks ≡ m * w
    → job_recovery (new_job m w c marks h) word ≡ recover_in byte_edition m w c word marks
unfolding new_job
new-recovery m w c marks word h e =
    ap (recover_in byte_edition m w c word) (take_at marks (replicate (240 - length marks) 0) (m * w) e)

open-judged : (m w c : ℕ) (marks : List ℕ) (desk : Desk) → Fit desk → (open_of m w c marks desk).number ≡ 0 → judged_number_in byte_limits m w c marks ≡ 0
unfolding open_of
open-judged m w c marks desk F z = (open-parts m w c marks desk F.size (go (open_number m w c marks desk) z)).judged
  where
    go : (r : ℕ) → (open_by r m w c marks desk).number ≡ 0 → r ≡ 0
    go zero z = refl
    go (suc r) z = z

open-fit-of : (m w c : ℕ) (marks : List ℕ) (desk : Desk) → Fit desk → Fit (open_of m w c marks desk).desk
unfolding step
open-fit-of m w c marks desk F = fit-step desk F (Open m w c marks)

-- after an Open answered 0, for as long as no call starts a new desk or closes its handle: the marks are those of the opening, changed by the
-- loses and finds answered 0 since
pub works : (m w c : ℕ) (marks : List ℕ) (desk : Desk) → Fit desk → (open_of m w c marks desk).number ≡ 0 → (calls : List DeskCall)
    → are_keeping (open_of m w c marks desk).handle calls ≡ true
    → Works m w c (marks_after (open_of m w c marks desk).handle marks (desk_answers (open_of m w c marks desk).desk calls))
    (open_of m w c marks desk).handle (desk_after (open_of m w c marks desk).desk calls)
works m w c marks desk F z calls e =
    let h = (open_of m w c marks desk).handle in
    let d = (open_of m w c marks desk).desk in
    let now = marks_after h marks (desk_answers d calls) in
    let G = given m w c marks desk F z in
    let size = (judged-marked m w c marks (open-judged m w c marks desk F z)).size in
    let q = task-follows m w c h calls d (open-fit-of m w c marks desk F) G.held marks size (ap task_of G.job ∙ new-task m w c marks h) e in
    record {
      held = q.0;
      task = q.2;
      recovery = λ word. ap (λ j. job_recovery j word) q.2 ∙ new-recovery m w c now word h q.1;
    }

-- ---- what it means for a serve

module _ (m w c : ℕ) (marks : List ℕ) (h : ℕ) (desk : Desk) (F : Fit desk) (W : Works m w c marks h desk) (word : List ℕ) where
  abbrev job : Job
  job = job_at desk (slot_of h)

  serve-number : (r : ℕ) → (serve_by r h word desk).number ≡ r
  serve-number zero = refl
  serve-number (suc r) = refl

  serve-word : (r : ℕ) → r ≡ 0 → (serve_by r h word desk).word ≡ (job_recovery job word).word
  serve-word zero e = refl
  serve-word (suc r) e = absurd (omega arith)

  serve-group : (r : ℕ) → (serve_by r h word desk).group ≡ group_of_nine (serve_by r h word desk).number (job_recovery job word).group
  serve-group zero = refl
  serve-group (suc r) = refl

  serve-kept : (r : ℕ) → ((serve_by r h word desk).number ≡ 0 → ⊥) → (serve_by r h word desk).word ≡ word
  serve-kept zero n = absurd (n refl)
  serve-kept (suc r) n = refl

  by-job : serve_of h word desk ≡ serve_by (job_number job word) h word desk
  by-job = serve-job h word desk (handle-done h desk (sound-of desk F.sound) W.held)

  job-by : job_number job word
      ≡ (refuse 5 (not (eqb (length word) (m * w))) or_else refuse 13 (eqb job.served 4294967295) or_else (recover_in byte_edition m w c word marks).number)
  unfolding job_number
  job-by =
      let N = new-shape m w c marks h in
      let a : job.m ≡ m = ap (λ (x : Job). x.m) W.task ∙ N.0 in
      let b : job.w ≡ w = ap (λ (x : Job). x.w) W.task ∙ N.1 in
      ap (λ n. refuse 5 (not (eqb (length word) n)) or_else refuse 13 (eqb job.served 4294967295) or_else (job_recovery job word).number) (ap₂ ◌*◌ a b)
      ∙ ap (λ (o : Outcome). refuse 5 (not (eqb (length word) (m * w))) or_else refuse 13 (eqb job.served 4294967295) or_else o.number) (W.recovery word)

  -- "Serves use the marks at the time of the call"
  pub serves_by : ServesBy m w c marks h word desk
  serves_by = record {
    number = ap (λ (o : Serving). o.number) by-job ∙ serve-number (job_number job word) ∙ job-by;
    group =
        subst (λ (o : Serving). o.group ≡ group_of_nine o.number (recover_in byte_edition m w c word marks).group) (sym by-job)
        (subst (λ (o : Outcome). (serve_by (job_number job word) h word desk).group ≡ group_of_nine (serve_by (job_number job word) h word desk).number o.group)
        (W.recovery word) (serve-group (job_number job word)));
    refused = subst (λ (o : Serving). ¬ (o.number ≡ 0) → o.word ≡ word) (sym by-job) (serve-kept (job_number job word));
    done = λ e.
        ap (λ (o : Serving). o.word) by-job
        ∙ serve-word (job_number job word) (sym (ap (λ (o : Serving). o.number) by-job ∙ serve-number (job_number job word)) ∙ e)
        ∙ ap (λ (o : Outcome). o.word) (W.recovery word);
  }

unmarked : (h : ℕ) (call : DeskCall) (number : ℕ) (marks : List ℕ) → is_unmarking h call ≡ true → marked_by h call number marks ≡ marks
unfolding is_unmarking marked_by
unmarked h Fresh number marks e = refl
unmarked h (Open m w c other) number marks e = refl
unmarked h (Serve g word) number marks e = refl
unmarked h (Read g) number marks e = refl
unmarked h (Close g) number marks e = refl
unmarked h (Lose g place) number marks e = ap (λ b. cond (b && eqb number 0) (set marks place 1) marks) (not-true (eqb h g) e)
unmarked h (Find g place) number marks e = ap (λ b. cond (b && eqb number 0) (set marks place 0) marks) (not-true (eqb h g) e)

-- "the job's marks, which stay", without a lose or find of the handle
pub marks_stay : (h : ℕ) (calls : List DeskCall) (desk : Desk) (marks : List ℕ) → are_unmarking h calls ≡ true
    → marks_after h marks (desk_answers desk calls) ≡ marks
unfolding are_unmarking desk_answers marks_after
marks_stay h [] desk marks e = refl
marks_stay h (call ∷ calls) desk marks e =
    let p = and-of (is_unmarking h call) (are_unmarking h calls) e in
    marks_stay h calls (step call desk).desk (marked_by h call (step call desk).number marks) p.1 ∙ unmarked h call (step call desk).number marks p.0
