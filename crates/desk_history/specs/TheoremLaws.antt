-- Laws: On a desk grown from fresh by any list of calls, refused ones included, the desk and the ledger agree.
use Rattle.std.specs.Prelude.{◌≡◌, Bool, cond, ◌&&◌, ◌||◌, List, [], ◌∷◌, ℕ, zero, suc, ◌+◌, ◌-◌, ◌*◌, ◌≤◌, ◌<◌, replicate}
use Rattle.std.proofs.Math.Path.{refl, sym, ap, subst}
use Rattle.std.proofs.Common.{◌∙◌, true≢false, arith, eqb-true, eq-eqb, ne_eqb, take_at}
use Rattle.std.proofs.Math.Bool.{true, false, not, and-true, and-false, or-true}
use Rattle.std.proofs.lemmas.Bool.{false≢true, eqb-false, not-true}
use Rattle.std.proofs.Math.Nat.{add-zero}
use Rattle.std.proofs.Math.Decide.{ℕ_discrete}
use Rattle.std.proofs.Math.Dec.{eqb}
use Rattle.std.proofs.Math.ListN.{length}
use Rattle.counting.specs.Sets.{is_in}
use Rattle.code.specs.Marks.{excess}
use Rattle.code.specs.Refusals.{refuse, ◌or_else◌}
use Rattle.byte_edition.specs.Edition.{byte_edition}
use Rattle.code_services.specs.Recover.{recover_in}
use Rattle.desk_record.specs.declared.Desk.{Desk}
use Rattle.desk_record.specs.Desks.{fresh_desk, job_at, issue_of, slot_of, is_open}
use Rattle.desk_job.specs.declared.Job.{Job}
use Rattle.desk_job.specs.Figures.{lost_counts}
use Rattle.desk_job.specs.Jobs.{empty_job, has_figures}
use Rattle.desk_job.specs.JobLaws.{judged-marked, figures-iff}
use Rattle.desk_record.specs.Refusal.{handle_refusal}
use Rattle.desk_open.specs.Open.{free_slot, new_handle, new_job, open_number, open_by, open_of}
use Rattle.desk_close.specs.Read.{read_by, read_of}
use Rattle.desk_close.specs.Close.{close_by, close_of}
use Rattle.desk_serve.specs.Serve.{serve_number, serve_by, serve_of, served_once}
use Rattle.desk_change.specs.Change.{changed, place_number, change_number, change_by, change_of}
use Rattle.desk_change.proofs.ChangeLaws.{place-parts, changed-marks}
use Rattle.desk_record.specs.Laws.{sound-of, false_of, taken_of}
use Rattle.desk_open.specs.OpenLaws.{Openable, open-parts}
use Rattle.desk_serve.specs.ServeLaws.{job-room}
use Rattle.desk_history.specs.History.{DeskCall, Fresh, Open, Serve, Read, Close, Lose, Find, step, desk_after, grown, desk_answers}
use Rattle.desk_history.specs.History.{Ledger, empty_ledger, if_done, note_mark, note_by, note, noted, ledger_of}
use Rattle.counting.specs.Count.{one}
use Rattle.desk_history.specs.History.{occurrences, is_distinct, is_live, serves_of, Pattern, pattern_in, pattern_of, with_mark}
use Rattle.desk_history.specs.SoundLaws.{serve-parts, change-parts}
use Rattle.desk_history.specs.PutLaws.{and-of, and-to, put-size}
use Rattle.desk_history.specs.Effects.{holds_handle, opened, closed, replaced, served, SameKey}
use Rattle.desk_history.specs.EffectsLaws.{slot-below, fresh-size, fresh-zero, fresh-free, fresh-sound, empty-not, open-by-slot}
use Rattle.desk_history.specs.EffectsLaws.{opened-sound, opened-open, opened-new, opened-job, new-issue, handle-parts, handle-done, closed-sound}
use Rattle.desk_history.specs.EffectsLaws.{closed-open, other-job, served-sound, served-open, served-job, open-held}
use Rattle.desk_history.specs.EffectsLaws.{replaced-sound, replaced-open, replaced-job, changed-key}
use Rattle.desk_history.specs.Theorem.{pattern_for, Kept, DeskAgrees}

or_right : (a b : Bool) → a || b ≡ false → b ≡ false
or_right true b e = absurd (true≢false e)
or_right false b e = e

fresh-shut : (h : ℕ) → is_open fresh_desk h ≡ false
fresh-shut h =
    open-by-slot fresh_desk fresh-sound h
    ∙ ap (λ j. holds_handle j h) (fresh-free (slot_of h) (slot-below h))
    ∙ ap (λ b. b && eqb empty_job.handle h) empty-not

pub fresh_kept : Kept fresh_desk empty_ledger
unfolding is_live occurrences is_distinct
fresh_kept = record {
  size = fresh-size;
  sound = fresh-sound;
  live = fresh-shut;
  numbers = λ h e. absurd (false≢true e);
  distinct = refl;
  count = sym fresh-zero;
  shut = λ h e. absurd (false≢true e);
  counted = λ h o. absurd (true≢false (sym o ∙ fresh-shut h));
  early = λ h e. refl;
  most = λ h o. absurd (true≢false (sym o ∙ fresh-shut h));
  marked = λ h o. absurd (true≢false (sym o ∙ fresh-shut h));
}

-- what was noted last
noted_here : (p : Pattern) (ps : List Pattern) (g : ℕ) → g ≡ p.handle → pattern_in g (p ∷ ps) ≡ p
unfolding pattern_in
noted_here p ps g e = ap (λ b. cond b p (pattern_in g ps)) (eq-eqb g p.handle e)

noted-there : (p : Pattern) (ps : List Pattern) (g : ℕ) → (g ≡ p.handle → ⊥) → pattern_in g (p ∷ ps) ≡ pattern_in g ps
unfolding pattern_in
noted-there p ps g n = ap (λ b. cond b p (pattern_in g ps)) (ne_eqb g p.handle n)

-- ---- Open
module _ (m w c : ℕ) (marks : List ℕ) (desk : Desk) (ledger : Ledger) (K : Kept desk ledger) (P : Openable m w c marks desk) where
  abbrev H : ℕ
  H = new_handle desk

  abbrev then : Desk
  then = opened m w c marks desk K.size K.sound P.judged P.early P.room

  abbrev new_pattern : Pattern
  new_pattern = record { handle = H; m = m; w = w; c = c; marks = marks }

  abbrev open_ledger : Ledger
  open_ledger = record {
    issued = H ∷ ledger.issued;
    closed = ledger.closed;
    serves = ledger.serves;
    patterns = new_pattern ∷ ledger.patterns;
  }

  H-issue : issue_of H ≡ desk.t + 1
  H-issue = new-issue m w c marks desk K.size K.sound P.judged P.early P.room

  is_open_lem : (h : ℕ) → is_open then h ≡ (eqb h H || is_open desk h)
  is_open_lem = opened-open m w c marks desk K.size K.sound P.judged P.early P.room

  not-issued : is_in H ledger.issued ≡ false
  not-issued = false_of _ (λ e. let n = (K.numbers H e).1 in let i = H-issue in omega arith)

  not-closed : is_in H ledger.closed ≡ false
  not-closed = false_of _ (λ e. true≢false (sym (K.shut H e) ∙ not-issued))

  open-live : (h : ℕ) → is_open then h ≡ is_live open_ledger h
  unfolding is_live
  open-live h = is_open_lem h ∙ ap (λ b. eqb h H || b) (K.live h) ∙ go (eqb h H) refl
    where
      go : (b : Bool) → eqb h H ≡ b
          → (b || is_in h ledger.issued && not (is_in h ledger.closed)) ≡ ((b || is_in h ledger.issued) && not (is_in h ledger.closed))
      go true e = sym (ap (λ x. not (is_in x ledger.closed)) (eqb-true h H e) ∙ ap not not-closed)
      go false e = refl

  open-numbers : (h : ℕ) → is_in h (H ∷ ledger.issued) ≡ true → (1 ≤ issue_of h) × (issue_of h ≤ desk.t + 1)
  open-numbers h = go (eqb h H) refl
    where
      go : (b : Bool) → eqb h H ≡ b → (b || is_in h ledger.issued) ≡ true → (1 ≤ issue_of h) × (issue_of h ≤ desk.t + 1)
      go true e k = let i : issue_of h ≡ desk.t + 1 = ap issue_of (eqb-true h H e) ∙ H-issue in (omega arith, omega arith)
      go false e k = let n = K.numbers h k in let a = n.0 in let b = n.1 in (a, omega arith)

  -- an open handle is the new one, or was open
  was-open : (h : ℕ) → (h ≡ H → ⊥) → is_open then h ≡ true → is_open desk h ≡ true
  was-open h n o = sym (is_open_lem h ∙ ap (λ b. b || is_open desk h) (ne_eqb h H n)) ∙ o

  new-served : (new_job m w c marks H).served ≡ 0
  unfolding new_job
  new-served = refl

  new-count : (job_at then (slot_of H)).served ≡ 0
  new-count = ap (λ j. j.served) (opened-new m w c marks desk K.size K.sound P.judged P.early P.room) ∙ new-served

  old-count : (h : ℕ) → is_open desk h ≡ true → (job_at then (slot_of h)).served ≡ (job_at desk (slot_of h)).served
  old-count h o = ap (λ j. j.served) (opened-job m w c marks desk K.size K.sound P.judged P.early P.room h o)

  new-marks : pattern_for H (new_job m w c marks H) ≡ new_pattern
  unfolding new_job
  new-marks =
      ap (λ x. record { handle = H; m = m; w = w; c = c; marks = x })
      (take_at marks (replicate (240 - length marks) 0) (m * w) (judged-marked m w c marks P.judged).size)

  old-marks : (h : ℕ) → is_open desk h ≡ true → pattern_for h (job_at then (slot_of h)) ≡ pattern_for h (job_at desk (slot_of h))
  old-marks h o = ap (pattern_for h) (opened-job m w c marks desk K.size K.sound P.judged P.early P.room h o)

  open_kept : Kept then open_ledger
  unfolding is_distinct
  open_kept = record {
    size = put-size desk K.size (desk.t + 1) (free_slot desk) P.room (new_job m w c marks H);
    sound = opened-sound m w c marks desk K.size K.sound P.judged P.early P.room;
    live = open-live;
    numbers = open-numbers;
    distinct = and-to (not (is_in H ledger.issued)) (is_distinct ledger.issued) (ap not not-issued) K.distinct;
    count = let e = K.count in omega arith;
    shut = λ h e. ap (λ b. eqb h H || b) (K.shut h e) ∙ or-true (eqb h H);
    counted = λ h o. elim (ℕ_discrete h H) [
      | yes e ↦ ap (λ x. (job_at then (slot_of x)).served) e ∙ new-count ∙ sym (ap (λ x. serves_of ledger x) e ∙ K.early H not-issued)
      | no n ↦ old-count h (was-open h n o) ∙ K.counted h (was-open h n o)
    ];
    early = λ h e. K.early h (or_right (eqb h H) _ e);
    most = λ h o. elim (ℕ_discrete h H) [
      | yes e ↦ subst (λ n. n ≤ 4294967295) (sym (ap (λ x. (job_at then (slot_of x)).served) e ∙ new-count)) (omega arith)
      | no n ↦ subst (λ n. n ≤ 4294967295) (sym (old-count h (was-open h n o))) (K.most h (was-open h n o))
    ];
    marked = λ h o. elim (ℕ_discrete h H) [
      | yes e ↦
          ap (λ x. pattern_for x (job_at then (slot_of x))) e
          ∙ ap (pattern_for H) (opened-new m w c marks desk K.size K.sound P.judged P.early P.room)
          ∙ new-marks
          ∙ sym (noted_here new_pattern ledger.patterns h e)
      | no n ↦ old-marks h (was-open h n o) ∙ K.marked h (was-open h n o) ∙ sym (noted-there new_pattern ledger.patterns h n)
    ];
  }

open_step : (m w c : ℕ) (marks : List ℕ) (desk : Desk) (ledger : Ledger) → Kept desk ledger → (r : ℕ) → open_number m w c marks desk ≡ r
    → Kept (open_by r m w c marks desk).desk (note_by (Open m w c marks) (open_by r m w c marks desk).number (open_by r m w c marks desk).handle ledger)
open_step m w c marks desk ledger K zero e = open_kept m w c marks desk ledger K (open-parts m w c marks desk K.size e)
open_step m w c marks desk ledger K (suc r) e = K

-- ---- Serve, Close, Lose and Find
module _ (desk : Desk) (ledger : Ledger) (K : Kept desk ledger) (H : ℕ) (o : is_open desk H ≡ true) where
  live-parts : (is_in H ledger.issued ≡ true) × (not (is_in H ledger.closed) ≡ true)
  unfolding is_live
  live-parts = and-of (is_in H ledger.issued) (not (is_in H ledger.closed)) (sym (K.live H) ∙ o)

  abbrev close_ledger : Ledger
  close_ledger = record { issued = ledger.issued; closed = H ∷ ledger.closed; serves = ledger.serves; patterns = ledger.patterns }

  close-live : (h : ℕ) → is_open (closed desk K.size K.sound H o) h ≡ is_live close_ledger h
  unfolding is_live
  close-live h = closed-open desk K.size K.sound H o h ∙ ap (λ b. b && not (eqb h H)) (K.live h) ∙ go (eqb h H)
    where
      go : (b : Bool) → (is_in h ledger.issued && not (is_in h ledger.closed) && not b) ≡ (is_in h ledger.issued && not (b || is_in h ledger.closed))
      go true = and-false (is_in h ledger.issued && not (is_in h ledger.closed)) ∙ sym (and-false (is_in h ledger.issued))
      go false = and-true (is_in h ledger.issued && not (is_in h ledger.closed))

  close-shut : (h : ℕ) → is_in h (H ∷ ledger.closed) ≡ true → is_in h ledger.issued ≡ true
  close-shut h = go (eqb h H) refl
    where
      go : (b : Bool) → eqb h H ≡ b → (b || is_in h ledger.closed) ≡ true → is_in h ledger.issued ≡ true
      go true e k = ap (λ x. is_in x ledger.issued) (eqb-true h H e) ∙ live-parts.0
      go false e k = K.shut h k

  close-parts : (h : ℕ) → is_open (closed desk K.size K.sound H o) h ≡ true → (is_open desk h ≡ true) × (not (eqb h H) ≡ true)
  close-parts h p = and-of (is_open desk h) (not (eqb h H)) (sym (closed-open desk K.size K.sound H o h) ∙ p)

  close-job : (h : ℕ) → is_open (closed desk K.size K.sound H o) h ≡ true → job_at (closed desk K.size K.sound H o) (slot_of h) ≡ job_at desk (slot_of h)
  close-job h p =
      let q = close-parts h p in
      other-job desk K.size K.sound H o desk.t empty_job h q.0 (eqb-false h H (not-true _ q.1))

  close-kept : Kept (closed desk K.size K.sound H o) close_ledger
  close-kept = record {
    size = put-size desk K.size desk.t (slot_of H) (slot-below H) empty_job;
    sound = closed-sound desk K.size K.sound H o;
    live = close-live;
    numbers = K.numbers;
    distinct = K.distinct;
    count = K.count;
    shut = close-shut;
    counted = λ h p. ap (λ j. j.served) (close-job h p) ∙ K.counted h (close-parts h p).0;
    early = K.early;
    most = λ h p. subst (λ n. n ≤ 4294967295) (sym (ap (λ j. j.served) (close-job h p))) (K.most h (close-parts h p).0);
    marked = λ h p. ap (pattern_for h) (close-job h p) ∙ K.marked h (close-parts h p).0;
  }

  abbrev serve_ledger : Ledger
  serve_ledger = record { issued = ledger.issued; closed = ledger.closed; serves = H ∷ ledger.serves; patterns = ledger.patterns }

  serve-live : (h : ℕ) → is_open (served desk K.size K.sound H o) h ≡ is_live serve_ledger h
  unfolding is_live
  serve-live h = served-open desk K.size K.sound H o h ∙ K.live h

  serve-was : (h : ℕ) → is_open (served desk K.size K.sound H o) h ≡ true → is_open desk h ≡ true
  serve-was h p = sym (served-open desk K.size K.sound H o h) ∙ p

  -- the handle served, and another
  serve-this : (h : ℕ) → h ≡ H → (job_at (served desk K.size K.sound H o) (slot_of h)).served ≡ (job_at desk (slot_of h)).served + 1
  serve-this h e =
      ap (λ x. (job_at (served desk K.size K.sound H o) (slot_of x)).served) e
      ∙ ap (λ j. j.served) (served-job desk K.size K.sound H o)
      ∙ ap (λ x. (job_at desk (slot_of x)).served + 1) (sym e)

  serve-other : (h : ℕ) → (h ≡ H → ⊥) → is_open desk h ≡ true → (job_at (served desk K.size K.sound H o) (slot_of h)).served ≡ (job_at desk (slot_of h)).served
  serve-other h n p = ap (λ j. j.served) (other-job desk K.size K.sound H o desk.t (served_once (job_at desk (slot_of H))) h p n)

  -- its shape and marks stay
  serve-marks : (h : ℕ) → is_open desk h ≡ true → pattern_for h (job_at (served desk K.size K.sound H o) (slot_of h)) ≡ pattern_for h (job_at desk (slot_of h))
  serve-marks h p = elim (ℕ_discrete h H) [
    | yes e ↦
        ap (λ x. pattern_for h (job_at (served desk K.size K.sound H o) (slot_of x))) e
        ∙ ap (pattern_for h) (served-job desk K.size K.sound H o)
        ∙ ap (λ x. pattern_for h (job_at desk (slot_of x))) (sym e)
    | no n ↦ ap (pattern_for h) (other-job desk K.size K.sound H o desk.t (served_once (job_at desk (slot_of H))) h p n)
  ]

  one_more : (h : ℕ) → h ≡ H → serves_of serve_ledger h ≡ serves_of ledger h + 1
  unfolding occurrences
  one_more h e = ap (λ b. occurrences h ledger.serves + one b) (eq-eqb h H e)

  no_more : (h : ℕ) → (h ≡ H → ⊥) → serves_of serve_ledger h ≡ serves_of ledger h
  unfolding occurrences
  no_more h n = ap (λ b. occurrences h ledger.serves + one b) (ne_eqb h H n) ∙ add-zero _

  serve-kept : ((job_at desk (slot_of H)).served ≡ 4294967295 → ⊥) → Kept (served desk K.size K.sound H o) serve_ledger
  serve-kept room = record {
    size = put-size desk K.size desk.t (slot_of H) (slot-below H) (served_once (job_at desk (slot_of H)));
    sound = served-sound desk K.size K.sound H o;
    live = serve-live;
    numbers = K.numbers;
    distinct = K.distinct;
    count = K.count;
    shut = K.shut;
    counted = λ h p. elim (ℕ_discrete h H) [
      | yes e ↦ serve-this h e ∙ ap (λ n. n + 1) (K.counted h (serve-was h p)) ∙ sym (one_more h e)
      | no n ↦ serve-other h n (serve-was h p) ∙ K.counted h (serve-was h p) ∙ sym (no_more h n)
    ];
    early = λ h e. no_more h (λ k. true≢false (sym live-parts.0 ∙ ap (λ x. is_in x ledger.issued) (sym k) ∙ e)) ∙ K.early h e;
    most = λ h p. elim (ℕ_discrete h H) [
      | yes e ↦ subst (λ n. n ≤ 4294967295) (sym (serve-this h e)) (
          let a = K.most h (serve-was h p) in
          let b : (job_at desk (slot_of h)).served ≡ 4294967295 → ⊥ = λ k. room (ap (λ x. (job_at desk (slot_of x)).served) (sym e) ∙ k) in
          omega arith)
      | no n ↦ subst (λ n. n ≤ 4294967295) (sym (serve-other h n (serve-was h p))) (K.most h (serve-was h p))
    ];
    marked = λ h p. serve-marks h (serve-was h p) ∙ K.marked h (serve-was h p);
  }

  module _ (mark place : ℕ) (b : mark < 2) (e : place_number mark place (job_at desk (slot_of H)) ≡ 0) where
    abbrev changed_job : Job
    changed_job = changed mark place (job_at desk (slot_of H))

    abbrev changed_desk : Desk
    changed_desk = replaced desk K.size K.sound H o changed_job

    key : SameKey desk K.size K.sound H o changed_job
    key = changed-key desk K.size K.sound H o mark place b e

    change-was : (h : ℕ) → is_open changed_desk h ≡ true → is_open desk h ≡ true
    change-was h p = sym (replaced-open desk K.size K.sound H o changed_job key h) ∙ p

    change-here : (h : ℕ) → h ≡ H → job_at changed_desk (slot_of h) ≡ changed_job
    change-here h q = ap (λ x. job_at changed_desk (slot_of x)) q ∙ replaced-job desk K.size K.sound H o changed_job

    change-there : (h : ℕ) → (h ≡ H → ⊥) → is_open desk h ≡ true → job_at changed_desk (slot_of h) ≡ job_at desk (slot_of h)
    change-there h n p = other-job desk K.size K.sound H o desk.t changed_job h p n

    -- served counts stay
    change-served : (h : ℕ) → is_open desk h ≡ true → (job_at changed_desk (slot_of h)).served ≡ (job_at desk (slot_of h)).served
    change-served h p = elim (ℕ_discrete h H) [
      | yes q ↦ ap (λ j. j.served) (change-here h q) ∙ ap (λ x. (job_at desk (slot_of x)).served) (sym q)
      | no n ↦ ap (λ j. j.served) (change-there h n p)
    ]

    abbrev noted-now : Pattern
    noted-now = with_mark mark place (pattern_of ledger H)

    noted-handle : H ≡ noted-now.handle
    noted-handle = ap (λ (p : Pattern). p.handle) (K.marked H o)

    change-pattern : pattern_for H changed_job ≡ noted-now
    change-pattern =
        let j = job_at desk (slot_of H) in
        ap (λ x. record { handle = H; m = j.m; w = j.w; c = j.c; marks = x }) (changed-marks mark place j (place-parts mark place j e).0)
        ∙ ap (with_mark mark place) (K.marked H o)

    change-kept : Kept changed_desk (note_mark mark H place ledger)
    unfolding is_live
    change-kept = record {
      size = put-size desk K.size desk.t (slot_of H) (slot-below H) changed_job;
      sound = replaced-sound desk K.size K.sound H o changed_job key;
      live = λ h. replaced-open desk K.size K.sound H o changed_job key h ∙ K.live h;
      numbers = K.numbers;
      distinct = K.distinct;
      count = K.count;
      shut = K.shut;
      counted = λ h p. change-served h (change-was h p) ∙ K.counted h (change-was h p);
      early = K.early;
      most = λ h p. subst (λ n. n ≤ 4294967295) (sym (change-served h (change-was h p))) (K.most h (change-was h p));
      marked = λ h p. elim (ℕ_discrete h H) [
        | yes q ↦
            ap (λ x. pattern_for x (job_at changed_desk (slot_of h))) q
            ∙ ap (pattern_for H) (change-here h q)
            ∙ change-pattern
            ∙ sym (noted_here noted-now ledger.patterns h (q ∙ noted-handle))
        | no n ↦
            ap (pattern_for h) (change-there h n (change-was h p))
            ∙ K.marked h (change-was h p)
            ∙ sym (noted-there noted-now ledger.patterns h (λ q. n (q ∙ sym noted-handle)))
      ];
    }

close-step : (H : ℕ) (desk : Desk) (ledger : Ledger) → Kept desk ledger → (r : ℕ) → handle_refusal H desk ≡ r
    → Kept (close_by r H desk).desk (note_by (Close H) (close_by r H desk).number 0 ledger)
close-step H desk ledger K zero e = close-kept desk ledger K H (handle-parts H desk e).1
close-step H desk ledger K (suc r) e = K

serve-step : (H : ℕ) (word : List ℕ) (desk : Desk) (ledger : Ledger) → Kept desk ledger → (r : ℕ) → serve_number H word desk ≡ r
    → Kept (serve_by r H word desk).desk (note_by (Serve H word) (serve_by r H word desk).number 0 ledger)
serve-step H word desk ledger K zero e = let p = serve-parts H word desk e in serve-kept desk ledger K H p.0 (job-room (job_at desk (slot_of H)) word p.1)
serve-step H word desk ledger K (suc r) e = K

change-step : (mark H place : ℕ) (desk : Desk) (ledger : Ledger) → mark < 2 → Kept desk ledger → (r : ℕ) → change_number mark H place desk ≡ r
    → Kept (change_by r mark H place desk).desk (if_done (change_by r mark H place desk).number (note_mark mark H place ledger) ledger)
change-step mark H place desk ledger b K zero e = let p = change-parts mark H place desk e in change-kept desk ledger K H p.0 mark place b p.1
change-step mark H place desk ledger b K (suc r) e = K

-- ---- every call, and every list of calls
pub kept_step : (call : DeskCall) (desk : Desk) (ledger : Ledger) → Kept desk ledger
    → Kept (step call desk).desk (note (record { call = call; number = (step call desk).number; value = (step call desk).value }) ledger)
unfolding step open_of close_of serve_of change_of
kept_step Fresh desk ledger K = fresh_kept
kept_step (Open m w c marks) desk ledger K = open_step m w c marks desk ledger K (open_number m w c marks desk) refl
kept_step (Serve H word) desk ledger K = serve-step H word desk ledger K (serve_number H word desk) refl
kept_step (Read H) desk ledger K = K
kept_step (Close H) desk ledger K = close-step H desk ledger K (handle_refusal H desk) refl
kept_step (Lose H place) desk ledger K = change-step 1 H place desk ledger (omega arith) K (change_number 1 H place desk) refl
kept_step (Find H place) desk ledger K = change-step 0 H place desk ledger (omega arith) K (change_number 0 H place desk) refl

pub kept-all : (calls : List DeskCall) (desk : Desk) (ledger : Ledger) → Kept desk ledger → Kept (desk_after desk calls) (noted ledger (desk_answers desk calls))
unfolding desk_after desk_answers noted
kept-all [] desk ledger K = K
kept-all (call ∷ calls) desk ledger K = kept-all calls (step call desk).desk _ (kept_step call desk ledger K)

pub agrees : (desk : Desk) (ledger : Ledger) → Kept desk ledger → DeskAgrees desk ledger
unfolding read_of handle_refusal
agrees desk ledger K =
    let s = sound-of desk K.sound in
    record {
      sound = s;
      exact = K.live;
      refusal = λ h. ap (λ b. refuse 31 (not b) or_else refuse 12 (not (is_open desk h))) s ∙ ap (λ b. refuse 12 (not b)) (K.live h);
      once = K.distinct;
      never = λ h l. false_of _ (λ e. let n = (K.numbers h e).0 in omega arith);
      count = sym K.count;
      shut = K.shut;
      read = λ h o. ap (λ r. read_by r h desk) (handle-done h desk s o) ∙ ap (λ n. record { number = 0; served = n }) (K.counted h o);
      before = K.early;
      most = λ h o. subst (λ n. n ≤ 4294967295) (K.counted h o) (K.most h o);
      pattern = K.marked;
      recovery = λ h o word. ap (λ (p : Pattern). recover_in byte_edition p.m p.w p.c word p.marks) (K.marked h o);
      counts = λ h o.
          ((figures-iff (job_at desk (slot_of h))).0 (figures h o)).0 ∙ ap (λ (p : Pattern). lost_counts p.m p.w p.marks) (K.marked h o);
      excess-is = λ h o.
          ((figures-iff (job_at desk (slot_of h))).0 (figures h o)).1 ∙ ap (λ (p : Pattern). excess p.m p.w p.c p.marks) (K.marked h o);
    }
  where
    figures : (h : ℕ) → is_open desk h ≡ true → has_figures (job_at desk (slot_of h)) ≡ true
    figures h o = (taken_of desk.t (slot_of h) (job_at desk (slot_of h)) (K.sound.slots (slot_of h) (slot-below h)) (open-held desk h o).taken).figures

-- "on a desk grown from fresh by these calls alone": every list of calls, refused ones included, any numbers given
pub history : (calls : List DeskCall) → DeskAgrees (grown calls) (ledger_of calls)
history calls = agrees (grown calls) (ledger_of calls) (kept-all calls fresh_desk empty_ledger fresh_kept)
