-- Laws: What an accepted Open, Serve, Close, Lose or Find does to a sound desk: it stays sound, and which handles are open then.
use Rattle.std.specs.Prelude.{◌≡◌, Bool, true, false, not, ◌&&◌, ◌||◌, cond, List, [], ◌∷◌, ℕ, zero, suc, ◌+◌, ◌*◌, ◌-◌, ◌<◌, ◌≤◌, eqb, length, get_or, replicate}
use Rattle.std.proofs.Math.Path.{refl}
use Rattle.std.proofs.Common.{sym, ap, ◌∙◌, subst, true≢false, le_trans, le_refl, le_of_suc-le-suc, arith, eqb-true, eq-eqb, ne_eqb, take_at}
use Rattle.std.proofs.Math.Bool.{and-true, or-false}
use Rattle.std.proofs.Math.Decide.{ℕ_discrete, dec_lt}
use Rattle.std.proofs.lemmas.Bool.{eqb-false, not-true, not-false}
use Rattle.std.proofs.lemmas.List.{get_or-replicate, length-replicate}
use Rattle.code.specs.Refusals.{refuse, ◌or_else◌}
use Rattle.code.specs.RefusalsLaws.{refuse-zero, or_else-zero}
use Rattle.shape.specs.Shapes.{byte_limits}
use Rattle.code_services.specs.Judge.{judged_number_in}
use Rattle.desk_job.specs.declared.Job.{Job}
use Rattle.desk_record.specs.declared.Desk.{Desk}
use Rattle.desk_record.specs.Desks.{fresh_desk, job_at, issue_of, slot_of, is_issued, is_sound_slot, is_sound, is_open, SoundRecord}
use Rattle.desk_job.specs.Jobs.{empty_job, no_job, is_free, is_taken, is_good, has_figures, is_sound_job}
use Rattle.desk_record.specs.Refusal.{handle_refusal}
use Rattle.desk_open.specs.Open.{free_from, free_slot, new_job}
use Rattle.desk_serve.specs.Serve.{served_once}
use Rattle.desk_record.specs.Laws.{sound-parts, false_of, taken_of, open-slot}
use Rattle.desk_job.specs.JobLaws.{judged-marked, figures-iff, sound-job-iff}
use Rattle.desk_change.specs.Change.{changed, place_number}
use Rattle.desk_change.proofs.ChangeLaws.{changed-sound}
use Rattle.desk_history.specs.Put.{put}
use Rattle.desk_history.specs.PutLaws.{and-of, and-to, slot-of-free, slot-of-taken, issued-of, issued-to, unique-of, once-of, put_same, put_other}
use Rattle.desk_history.specs.PutLaws.{sound-put}
use Rattle.desk_history.specs.Meaning.{HeldIn}
use Rattle.desk_history.specs.Effects.{holds_handle, Spot, H, job, opened, closed, replaced, served, SameKey}

pub bool_same : (a b : Bool) → (a ≡ true → b ≡ true) → (b ≡ true → a ≡ true) → a ≡ b
bool_same true b f g = sym (f refl)
bool_same false true f g = g refl
bool_same false false f g = refl

pub slot-below : (h : ℕ) → slot_of h < 8
slot-below h = omega arith

-- an open handle is held by the slot that it names
pub open-held : (desk : Desk) (h : ℕ) → is_open desk h ≡ true → HeldIn desk h (slot_of h)
open-held desk h e = let p = open-slot desk h e in record { below = slot-below h; taken = p.0; held = p.1 }

empty-free : is_free empty_job ≡ true
unfolding empty_job
empty-free = refl

pub empty-not : is_taken empty_job ≡ false
unfolding empty_job
empty-not = refl

-- the desk that Fresh gives
pub fresh-size : length fresh_desk.jobs ≡ 8
unfolding fresh_desk
fresh-size = length-replicate 8 empty_job

pub fresh-free : (s : ℕ) → s < 8 → job_at fresh_desk s ≡ empty_job
unfolding fresh_desk
fresh-free s l = get_or-replicate 8 s empty_job no_job l

pub fresh-zero : fresh_desk.t ≡ 0
unfolding fresh_desk
fresh-zero = refl

pub fresh-sound : SoundRecord fresh_desk
fresh-sound = record {
  few = subst (λ t. t ≤ 65535) (sym fresh-zero) (omega arith);
  slots = λ s l. ap (is_sound_slot fresh_desk.t s) (fresh-free s l) ∙ slot-of-free fresh_desk.t s empty_job empty-free;
  once = once-of fresh_desk (λ r s h l a b e. true≢false (sym a ∙ ap is_taken (fresh-free r (le_trans h (omega arith))) ∙ empty-not));
}

-- two open handles of one slot are one
pub one-slot : (desk : Desk) (g h : ℕ) → is_open desk g ≡ true → is_open desk h ≡ true → slot_of g ≡ slot_of h → g ≡ h
one-slot desk g h a b e = sym (open-held desk g a).held ∙ ap (λ s. (job_at desk s).handle) e ∙ (open-held desk h b).held

-- "A handle is open exactly if a taken slot holds it": on a sound desk the slot alone decides
pub open-by-slot : (desk : Desk) → SoundRecord desk → (h : ℕ) → is_open desk h ≡ holds_handle (job_at desk (slot_of h)) h
unfolding is_open
open-by-slot desk S h = bool_same _ _
    (λ e. let H = open-held desk h e in and-to (is_taken (job_at desk (slot_of h))) (eqb (job_at desk (slot_of h)).handle h) H.taken (eq-eqb _ h H.held))
    (λ e.
    let p = and-of (is_taken (job_at desk (slot_of h))) (eqb (job_at desk (slot_of h)).handle h) e in
    let T = taken_of desk.t (slot_of h) (job_at desk (slot_of h)) (S.slots (slot_of h) (slot-below h)) p.0 in
    let i = subst (λ x. is_issued desk.t (issue_of x) ≡ true) (eqb-true _ h p.1) T.issue in
    and-to (is_issued desk.t (issue_of h) && is_taken (job_at desk (slot_of h))) (eqb (job_at desk (slot_of h)).handle h)
    (and-to (is_issued desk.t (issue_of h)) (is_taken (job_at desk (slot_of h))) i p.0) p.1)

module _ (desk : Desk) (size : length desk.jobs ≡ 8) (S : SoundRecord desk) (t s : ℕ) (l : s < 8) (job : Job) (S' : SoundRecord (put desk t s job))
    (h : ℕ) where
  pub open-here : slot_of h ≡ s → is_open (put desk t s job) h ≡ holds_handle job h
  open-here e = open-by-slot (put desk t s job) S' h ∙ ap (λ j. holds_handle j h) (ap (job_at (put desk t s job)) e ∙ put_same desk size t s l job)

  pub open-there : (slot_of h ≡ s → ⊥) → is_open (put desk t s job) h ≡ is_open desk h
  open-there n = open-by-slot (put desk t s job) S' h ∙ ap (λ j. holds_handle j h) (put_other desk size t s l job (slot_of h) n) ∙ sym (open-by-slot desk S h)

pub spot_of : (jobs : List Job) (i : ℕ) → Spot jobs i
unfolding free_from
spot_of [] i = record { place = 0; found = omega arith; free = λ h. absurd (omega arith); lower = λ r h. absurd (omega arith) }
spot_of (job ∷ jobs) i = go (spot_of jobs (i + 1)) (is_taken job) refl
  where
    before : (P : Spot jobs (i + 1)) → is_taken job ≡ true → (r : ℕ) → r < suc P.place → is_taken (get_or (job ∷ jobs) r no_job) ≡ true
    before P e zero h = e
    before P e (suc r) h = P.lower r (le_of_suc-le-suc h)

    go : Spot jobs (i + 1) → (b : Bool) → is_taken job ≡ b → Spot (job ∷ jobs) i
    go P true e = let f = P.found in record {
      place = suc P.place;
      found = ap (λ b. cond b (free_from jobs (i + 1)) i) e ∙ (omega arith);
      free = λ h. P.free (omega arith);
      lower = before P e;
    }
    go P false e = record {
      place = 0;
      found = ap (λ b. cond b (free_from jobs (i + 1)) i) e ∙ (omega arith);
      free = λ h. e;
      lower = λ r h. absurd (omega arith);
    }

pub free-slot : (desk : Desk) → length desk.jobs ≡ 8 → free_slot desk < 8 → is_taken (job_at desk (free_slot desk)) ≡ false
free-slot desk size l =
    let P = spot_of desk.jobs 0 in
    let f = P.found in
    let e : free_slot desk ≡ P.place = omega arith in
    ap (λ s. is_taken (job_at desk s)) e ∙ P.free (omega arith)

-- a new job is good, for Judge answered 0
pub new-good : (m w c : ℕ) (marks : List ℕ) (h : ℕ) → judged_number_in byte_limits m w c marks ≡ 0 → is_good (new_job m w c marks h) ≡ true
unfolding is_good new_job
new-good m w c marks h e =
    eq-eqb _ 0 (ap (judged_number_in byte_limits m w c) (take_at marks (replicate (240 - length marks) 0) (m * w) (judged-marked m w c marks e).size) ∙ e)

-- and its figures are worked from its marks
pub new-figures : (m w c : ℕ) (marks : List ℕ) (h : ℕ) → has_figures (new_job m w c marks h) ≡ true
unfolding new_job
new-figures m w c marks h = (figures-iff (new_job m w c marks h)).1 (refl, refl)

module _ (m w c : ℕ) (marks : List ℕ) (desk : Desk) (size : length desk.jobs ≡ 8) (S : SoundRecord desk)
    (judged : judged_number_in byte_limits m w c marks ≡ 0) (early : desk.t < 65535) (room : free_slot desk < 8) where
  pub new-slot : slot_of (H m w c marks desk size S judged early room) ≡ free_slot desk
  new-slot = omega arith

  pub new-issue : issue_of (H m w c marks desk size S judged early room) ≡ desk.t + 1
  new-issue = omega arith

  job-taken : is_taken (job m w c marks desk size S judged early room) ≡ true
  unfolding new_job
  job-taken = refl

  job-handle : (job m w c marks desk size S judged early room).handle ≡ H m w c marks desk size S judged early room
  unfolding new_job
  job-handle = refl

  pub opened-sound : SoundRecord (opened m w c marks desk size S judged early room)
  opened-sound =
      sound-put desk size (desk.t + 1) (free_slot desk) room (job m w c marks desk size S judged early room) S (omega arith) (omega arith)
      (slot-of-taken (desk.t + 1) (free_slot desk) (job m w c marks desk size S judged early room) job-taken (record {
        good = new-good m w c marks (H m w c marks desk size S judged early room) judged;
        figures = new-figures m w c marks (H m w c marks desk size S judged early room);
        place = ap slot_of job-handle ∙ new-slot;
        issue = issued-to (desk.t + 1) (issue_of (job m w c marks desk size S judged early room).handle) (rw (job-handle, new-issue) (omega arith))
            (rw (job-handle, new-issue) (omega arith));
      }))
      (λ r k n a b e.
      let i = issued-of desk.t (issue_of (job_at desk r).handle) (taken_of desk.t r (job_at desk r) (S.slots r k) b).issue in
      let f : issue_of (job_at desk r).handle ≡ desk.t + 1 = e ∙ ap issue_of job-handle ∙ new-issue in
      omega arith)

  pub opened-open : (h : ℕ) → is_open (opened m w c marks desk size S judged early room) h
      ≡ (eqb h (H m w c marks desk size S judged early room) || is_open desk h)
  opened-open h = elim (ℕ_discrete (slot_of h) (free_slot desk)) [
    | yes e ↦ (
        let before : is_open desk h ≡ false =
        open-by-slot desk S h ∙ ap (λ s. is_taken (job_at desk s) && eqb (job_at desk (slot_of h)).handle h) e
        ∙ ap (λ b. b && eqb (job_at desk (slot_of h)).handle h) (free-slot desk size room) in
        open-here desk size S (desk.t + 1) (free_slot desk) room (job m w c marks desk size S judged early room) opened-sound h e
        ∙ ap (λ b. b && eqb (job m w c marks desk size S judged early room).handle h) job-taken
        ∙ ap (λ x. eqb x h) job-handle
        ∙ bool_same (eqb (H m w c marks desk size S judged early room) h) (eqb h (H m w c marks desk size S judged early room))
        (λ a. eq-eqb h (H m w c marks desk size S judged early room) (sym (eqb-true (H m w c marks desk size S judged early room) h a)))
        (λ a. eq-eqb (H m w c marks desk size S judged early room) h (sym (eqb-true h (H m w c marks desk size S judged early room) a)))
        ∙ sym (or-false (eqb h (H m w c marks desk size S judged early room)))
        ∙ ap (λ b. eqb h (H m w c marks desk size S judged early room) || b) (sym before))
    | no n ↦
        open-there desk size S (desk.t + 1) (free_slot desk) room (job m w c marks desk size S judged early room) opened-sound h n
        ∙ ap (λ b. b || is_open desk h) (sym (ne_eqb h (H m w c marks desk size S judged early room) (λ e. n (ap slot_of e ∙ new-slot))))
  ]

  pub opened-new : job_at (opened m w c marks desk size S judged early room) (slot_of (H m w c marks desk size S judged early room))
      ≡ job m w c marks desk size S judged early room
  opened-new = ap (job_at (opened m w c marks desk size S judged early room)) new-slot
      ∙ put_same desk size (desk.t + 1) (free_slot desk) room (job m w c marks desk size S judged early room)

  -- an open handle's job stays as it was
  pub opened-job : (h : ℕ) → is_open desk h ≡ true → job_at (opened m w c marks desk size S judged early room) (slot_of h) ≡ job_at desk (slot_of h)
  opened-job h o =
      put_other desk size (desk.t + 1) (free_slot desk) room (job m w c marks desk size S judged early room) (slot_of h)
      (λ e. true≢false (sym (open-held desk h o).taken ∙ ap (λ s. is_taken (job_at desk s)) e ∙ free-slot desk size room))

pub handle-parts : (h : ℕ) (desk : Desk) → handle_refusal h desk ≡ 0 → SoundRecord desk × (is_open desk h ≡ true)
unfolding handle_refusal
handle-parts h desk e =
    let p = or_else-zero _ _ e in
    (sound-parts desk (not-false _ (refuse-zero 30 _ p.0)), not-false _ (refuse-zero 11 _ p.1))

-- on a sound desk the slot that the handle names decides the refusal
pub handle-refusal : (h : ℕ) (desk : Desk) → is_sound desk ≡ true → handle_refusal h desk ≡ refuse 12 (not (holds_handle (job_at desk (slot_of h)) h))
unfolding handle_refusal
handle-refusal h desk s =
    ap (λ b. refuse 31 (not b) or_else refuse 12 (not (is_open desk h))) s ∙ ap (λ b. refuse 12 (not b)) (open-by-slot desk (sound-parts desk s) h)

pub handle-done : (h : ℕ) (desk : Desk) → is_sound desk ≡ true → is_open desk h ≡ true → handle_refusal h desk ≡ 0
unfolding handle_refusal
handle-done h desk s o = ap (λ b. refuse 31 (not b) or_else refuse 12 (not (is_open desk h))) s ∙ ap (λ b. refuse 12 (not b)) o

-- one word more served changes nothing that soundness asks
served-slot : (t s : ℕ) (job : Job) → is_sound_slot t s (served_once job) ≡ is_sound_slot t s job
unfolding is_sound_slot is_sound_job is_good has_figures
served-slot t s job = refl

module _ (desk : Desk) (size : length desk.jobs ≡ 8) (S : SoundRecord desk) (H : ℕ) (o : is_open desk H ≡ true) where
  pub closed-sound : SoundRecord (closed desk size S H o)
  closed-sound =
      sound-put desk size desk.t (slot_of H) (slot-below H) empty_job S (le_refl desk.t) S.few
      (slot-of-free desk.t (slot_of H) empty_job empty-free) (λ r k n a b e. true≢false (sym a ∙ empty-not))

  pub closed-open : (h : ℕ) → is_open (closed desk size S H o) h ≡ (is_open desk h && not (eqb h H))
  closed-open h = elim (ℕ_discrete (slot_of h) (slot_of H)) [
    | yes e ↦
        open-here desk size S desk.t (slot_of H) (slot-below H) empty_job closed-sound h e
        ∙ ap (λ b. b && eqb empty_job.handle h) empty-not
        ∙ sym (false_of (is_open desk h && not (eqb h H)) (λ p.
        let q = and-of (is_open desk h) (not (eqb h H)) p in
        eqb-false h H (not-true _ q.1) (one-slot desk h H q.0 o e)))
    | no n ↦
        open-there desk size S desk.t (slot_of H) (slot-below H) empty_job closed-sound h n
        ∙ sym (and-true (is_open desk h))
        ∙ ap (λ b. is_open desk h && not b) (sym (ne_eqb h H (λ e. n (ap slot_of e))))
  ]

  -- the job of another open handle stays as it was
  pub other-job : (t : ℕ) (job : Job) (h : ℕ) → is_open desk h ≡ true → (h ≡ H → ⊥) → job_at (put desk t (slot_of H) job) (slot_of h) ≡ job_at desk (slot_of h)
  other-job t job h p n = put_other desk size t (slot_of H) (slot-below H) job (slot_of h) (λ e. n (one-slot desk h H p o e))

  module _ (job : Job) (K : SameKey desk size S H o job) where
    same_taken : is_taken job ≡ is_taken (job_at desk (slot_of H))
    same_taken = ap (λ x. eqb x 1) K.taken

    -- a sound job put under the same taken byte and handle keeps the desk sound, and the same handles open
    pub replaced-sound : SoundRecord (replaced desk size S H o job)
    replaced-sound =
        sound-put desk size desk.t (slot_of H) (slot-below H) job S (le_refl desk.t) S.few K.slot
        (λ r k n a b e.
        let a' = sym same_taken ∙ a in
        let e' = e ∙ ap issue_of K.handle in
        elim (dec_lt r (slot_of H)) [
          | yes l ↦ unique-of desk S r (slot_of H) l (slot-below H) b a' e'
          | no l ↦ (let g : slot_of H < r = omega arith in unique-of desk S (slot_of H) r g k a' b (sym e'))
        ])

    pub replaced-open : (h : ℕ) → is_open (replaced desk size S H o job) h ≡ is_open desk h
    replaced-open h = elim (ℕ_discrete (slot_of h) (slot_of H)) [
      | yes e ↦
          open-here desk size S desk.t (slot_of H) (slot-below H) job replaced-sound h e
          ∙ ap (λ b. b && eqb job.handle h) same_taken
          ∙ ap (λ x. is_taken (job_at desk (slot_of H)) && eqb x h) K.handle
          ∙ ap (λ s. holds_handle (job_at desk s) h) (sym e)
          ∙ sym (open-by-slot desk S h)
      | no n ↦ open-there desk size S desk.t (slot_of H) (slot-below H) job replaced-sound h n
    ]

  pub replaced-job : (job : Job) → job_at (replaced desk size S H o job) (slot_of H) ≡ job
  replaced-job job = put_same desk size desk.t (slot_of H) (slot-below H) job

  -- Serve
  pub served-key : SameKey desk size S H o (served_once (job_at desk (slot_of H)))
  served-key = record {
    taken = refl;
    handle = refl;
    slot = served-slot desk.t (slot_of H) (job_at desk (slot_of H)) ∙ S.slots (slot_of H) (slot-below H);
  }

  pub served-sound : SoundRecord (served desk size S H o)
  served-sound = replaced-sound (served_once (job_at desk (slot_of H))) served-key

  pub served-open : (h : ℕ) → is_open (served desk size S H o) h ≡ is_open desk h
  served-open = replaced-open (served_once (job_at desk (slot_of H))) served-key

  pub served-job : job_at (served desk size S H o) (slot_of H) ≡ served_once (job_at desk (slot_of H))
  served-job = replaced-job (served_once (job_at desk (slot_of H)))

  -- Lose and Find: a place below n is marked 0 or 1, and the excess stays at most 2
  pub changed-key : (mark place : ℕ) → mark < 2 → place_number mark place (job_at desk (slot_of H)) ≡ 0
      → SameKey desk size S H o (changed mark place (job_at desk (slot_of H)))
  changed-key mark place l e =
      let j = job_at desk (slot_of H) in
      let k = (open-held desk H o).taken in
      let T = taken_of desk.t (slot_of H) j (S.slots (slot_of H) (slot-below H)) k in
      let G = (sound-job-iff (changed mark place j)).0 (changed-sound mark place j l ((sound-job-iff j).1 (T.good, T.figures)) e) in
      record {
        taken = refl;
        handle = refl;
        slot = slot-of-taken desk.t (slot_of H) (changed mark place j) k (record { good = G.0; figures = G.1; place = T.place; issue = T.issue });
      }
