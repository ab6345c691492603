-- Laws: one handle in a mixed list of calls.
use Rattle.std.specs.Prelude.{◌≡◌, Bool, true, false, not, ◌&&◌, ◌||◌, ℕ, zero, suc, ◌≤◌, eqb, length}
use Rattle.std.proofs.Math.Path.{refl, ap, subst}
use Rattle.std.proofs.Common.{sym, ap₂, ◌∙◌, true≢false, le_refl, le_trans, arith, eqb-true, ne_eqb}
use Rattle.std.proofs.Math.Bool.{cond}
use mathlib.Core.List.{List, [], ◌∷◌}
use Rattle.std.proofs.lemmas.Bool.{not-true}
use Rattle.code.specs.Refusals.{refuse, ◌or_else◌}
use Rattle.desk_record.specs.declared.Desk.{Desk}
use Rattle.desk_record.specs.Calls.{Changing}
use Rattle.desk_job.specs.Jobs.{is_taken}
use Rattle.desk_record.specs.Desks.{job_at, issue_of, slot_of, is_issued, is_sound, is_open}
use Rattle.desk_record.specs.Refusal.{handle_refusal}
use Rattle.desk_record.specs.Laws.{sound-parts, sound-of}
use Rattle.desk_open.specs.Open.{open_number, open_by, open_of, new_handle}
use Rattle.desk_open.specs.OpenLaws.{open-parts}
use Rattle.desk_close.specs.Read.{Reading, read_by, read_of}
use Rattle.desk_close.specs.Close.{close_by, close_of}
use Rattle.desk_serve.specs.Serve.{job_number, Serving, serve_number, serve_by, serve_of}
use Rattle.desk_change.specs.Change.{changed, place_number, change_number, change_by, change_of}
use Rattle.desk_history.specs.History.{DeskCall, Fresh, Open, Serve, Read, Close, Lose, Find, step, desk_after}
use Rattle.desk_history.specs.PutLaws.{and-of, issued-of}
use Rattle.desk_history.specs.Effects.{holds_handle}
use Rattle.desk_history.specs.EffectsLaws.{open-by-slot, opened-open, new-issue, closed-open, served-open, replaced-open, changed-key, handle-parts}
use Rattle.desk_history.specs.Sound.{Fit}
use Rattle.desk_history.specs.SoundLaws.{serve-parts, change-parts, fit-step}
use Rattle.desk_history.specs.Alone.{Alike}
use Rattle.desk_history.specs.AloneLaws.{alone, serve-count, change-count, close-count}
use Rattle.desk_history.specs.Others.{is_other}
use Rattle.desk_history.specs.OthersLaws.{other_step}
use Rattle.desk_history.specs.Mixed.{is_on, calls_on, is_fresh, none_fresh, word_then, heard, heard_on, OwnCalls, OwnCallsHold}

-- the word lent with a call
lent_with : DeskCall → List ℕ
lent_with Fresh = []
lent_with (Open m w c marks) = []
lent_with (Serve h word) = word
lent_with (Read h) = []
lent_with (Close h) = []
lent_with (Lose h place) = []
lent_with (Find h place) = []

-- ---- a handle that is not open

module _ (h : ℕ) (desk : Desk) (F : Fit desk) (shut : is_open desk h ≡ false) where
  shut-refusal : handle_refusal h desk ≡ 12
  unfolding handle_refusal
  shut-refusal =
      ap (λ b. refuse 31 (not b) or_else refuse 12 (not (is_open desk h))) (sound-of desk F.sound) ∙ ap (λ b. refuse 12 (not b)) shut

  shut-serve : (word : List ℕ) → serve_of h word desk ≡ record { number = 12; group = 0; word = word; desk = desk }
  unfolding serve_of serve_number
  shut-serve word = ap (λ r. serve_by (r or_else job_number (job_at desk (slot_of h)) word) h word desk) shut-refusal

  shut-read : read_of h desk ≡ record { number = 12; served = 0 }
  unfolding read_of
  shut-read = ap (λ r. read_by r h desk) shut-refusal

  shut-close : close_of h desk ≡ record { number = 12; desk = desk }
  unfolding close_of
  shut-close = ap (λ r. close_by r h desk) shut-refusal

  shut-change : (mark place : ℕ) → change_of mark h place desk ≡ record { number = 12; desk = desk }
  unfolding change_of change_number
  shut-change mark place = ap (λ r. change_by (r or_else place_number mark place (job_at desk (slot_of h))) mark h place desk) shut-refusal

  -- what a call on it gets, and that it leaves the desk as it was
  shut-on : (call : DeskCall) → is_on h call ≡ true
      → (heard call desk ≡ record { call = call; number = 12; value = 0; word = lent_with call }) × ((step call desk).desk ≡ desk)
  unfolding is_on step word_then lent_with
  shut-on Fresh e = absurd (true≢false (sym e))
  shut-on (Open m w c marks) e = absurd (true≢false (sym e))
  shut-on (Serve g word) e = subst
      (λ x. (heard (Serve x word) desk ≡ record { call = Serve x word; number = 12; value = 0; word = word }) × ((serve_of x word desk).desk ≡ desk))
      (eqb-true h g e) (
        ap (λ (o : Serving). record { call = Serve h word; number = o.number; value = o.group; word = o.word }) (shut-serve word),
        ap (λ (o : Serving). o.desk) (shut-serve word),
      )
  shut-on (Read g) e = (
    subst (λ x. heard (Read x) desk ≡ record { call = Read x; number = 12; value = 0; word = [] }) (eqb-true h g e)
        (ap (λ (o : Reading). record { call = Read h; number = o.number; value = o.served; word = [] }) shut-read),
    refl,
  )
  shut-on (Close g) e = subst
      (λ x. (heard (Close x) desk ≡ record { call = Close x; number = 12; value = 0; word = [] }) × ((close_of x desk).desk ≡ desk)) (eqb-true h g e) (
        ap (λ (o : Changing). record { call = Close h; number = o.number; value = 0; word = [] }) shut-close,
        ap (λ (o : Changing). o.desk) shut-close,
      )
  shut-on (Lose g place) e = subst
      (λ x. (heard (Lose x place) desk ≡ record { call = Lose x place; number = 12; value = 0; word = [] }) × ((change_of 1 x place desk).desk ≡ desk))
      (eqb-true h g e) (
        ap (λ (o : Changing). record { call = Lose h place; number = o.number; value = 0; word = [] }) (shut-change 1 place),
        ap (λ (o : Changing). o.desk) (shut-change 1 place),
      )
  shut-on (Find g place) e = subst
      (λ x. (heard (Find x place) desk ≡ record { call = Find x place; number = 12; value = 0; word = [] }) × ((change_of 0 x place desk).desk ≡ desk))
      (eqb-true h g e) (
        ap (λ (o : Changing). record { call = Find h place; number = o.number; value = 0; word = [] }) (shut-change 0 place),
        ap (λ (o : Changing). o.desk) (shut-change 0 place),
      )

  open-shut : issue_of h ≤ desk.t → (m w c : ℕ) (marks : List ℕ) (r : ℕ) → open_number m w c marks desk ≡ r → is_open (open_by r m w c marks desk).desk h ≡ false
  open-shut early m w c marks zero e =
      let P = open-parts m w c marks desk F.size e in
      let n : (h ≡ new_handle desk → ⊥) = λ q.
      let i = ap issue_of q ∙ new-issue m w c marks desk F.size F.sound P.judged P.early P.room in omega arith in
      opened-open m w c marks desk F.size F.sound P.judged P.early P.room h ∙ ap (λ b. b || is_open desk h) (ne_eqb h (new_handle desk) n) ∙ shut
  open-shut early m w c marks (suc r) e = shut

  serve-shut : (g : ℕ) (word : List ℕ) (r : ℕ) → serve_number g word desk ≡ r → is_open (serve_by r g word desk).desk h ≡ false
  serve-shut g word zero e = served-open desk F.size F.sound g (serve-parts g word desk e).0 h ∙ shut
  serve-shut g word (suc r) e = shut

  close-shut : (g : ℕ) (r : ℕ) → handle_refusal g desk ≡ r → is_open (close_by r g desk).desk h ≡ false
  close-shut g zero e = closed-open desk F.size F.sound g (handle-parts g desk e).1 h ∙ ap (λ b. b && not (eqb h g)) shut
  close-shut g (suc r) e = shut

  change-shut : (mark g place : ℕ) → mark ≤ 1 → (r : ℕ) → change_number mark g place desk ≡ r → is_open (change_by r mark g place desk).desk h ≡ false
  change-shut mark g place l zero e =
      let P = change-parts mark g place desk e in
      replaced-open desk F.size F.sound g P.0 (changed mark place (job_at desk (slot_of g)))
      (changed-key desk F.size F.sound g P.0 mark place (omega arith) P.1) h
      ∙ shut
  change-shut mark g place l (suc r) e = shut

  -- no call but Fresh opens it again
  shut-stays : issue_of h ≤ desk.t → (call : DeskCall) → is_fresh call ≡ false → is_open (step call desk).desk h ≡ false
  unfolding is_fresh step open_of serve_of close_of change_of
  shut-stays early Fresh e = absurd (true≢false e)
  shut-stays early (Open m w c marks) e = open-shut early m w c marks (open_number m w c marks desk) refl
  shut-stays early (Serve g word) e = serve-shut g word (serve_number g word desk) refl
  shut-stays early (Read g) e = shut
  shut-stays early (Close g) e = close-shut g (handle_refusal g desk) refl
  shut-stays early (Lose g place) e = change-shut 1 g place (omega arith) (change_number 1 g place desk) refl
  shut-stays early (Find g place) e = change-shut 0 g place (omega arith) (change_number 0 g place desk) refl

-- no call but Fresh lowers t
count-rises : (desk : Desk) (call : DeskCall) → is_fresh call ≡ false → desk.t ≤ (step call desk).desk.t
unfolding is_fresh step open_of
count-rises desk Fresh e = absurd (true≢false e)
count-rises desk (Open m w c marks) e = go (open_number m w c marks desk)
  where
    go : (r : ℕ) → desk.t ≤ (open_by r m w c marks desk).desk.t
    go zero = omega arith
    go (suc r) = le_refl desk.t
count-rises desk (Serve g word) e = subst (λ t. desk.t ≤ t) (sym (serve-count g word desk)) (le_refl desk.t)
count-rises desk (Read g) e = le_refl desk.t
count-rises desk (Close g) e = subst (λ t. desk.t ≤ t) (sym (close-count g desk)) (le_refl desk.t)
count-rises desk (Lose g place) e = subst (λ t. desk.t ≤ t) (sym (change-count 1 g place desk)) (le_refl desk.t)
count-rises desk (Find g place) e = subst (λ t. desk.t ≤ t) (sym (change-count 0 g place desk)) (le_refl desk.t)

-- ---- a call on an open handle, on two desks with the same job in its slot

module _ (h : ℕ) (d e : Desk) (alike : (word : List ℕ) → Alike h word d e) (same : job_at d (slot_of h) ≡ job_at e (slot_of h)) where
  abbrev OnBoth : DeskCall → Type 0
  OnBoth call = (heard call d ≡ heard call e) × (job_at (step call d).desk (slot_of h) ≡ job_at (step call e).desk (slot_of h))

  serve-both : (word : List ℕ) → OnBoth (Serve h word)
  unfolding step word_then
  serve-both word =
      let A = alike word in
      let n = A.serve-number in
      let v = A.serve-group in
      let w = A.serve-word in
      (cc, A.serve-job)

  read-both : OnBoth (Read h)
  unfolding step word_then
  read-both = (ap (λ (o : Reading). record { call = Read h; number = o.number; value = o.served; word = [] }) (alike []).read, same)

  close-both : OnBoth (Close h)
  unfolding step word_then
  close-both = (ap (λ n. record { call = Close h; number = n; value = 0; word = [] }) (alike []).close-number, (alike []).close-job)

  lose-both : (place : ℕ) → OnBoth (Lose h place)
  unfolding step word_then
  lose-both place = (ap (λ n. record { call = Lose h place; number = n; value = 0; word = [] }) ((alike []).lose-number place), (alike []).lose-job place)

  find-both : (place : ℕ) → OnBoth (Find h place)
  unfolding step word_then
  find-both place = (ap (λ n. record { call = Find h place; number = n; value = 0; word = [] }) ((alike []).find-number place), (alike []).find-job place)

  on_both : (call : DeskCall) → is_on h call ≡ true → OnBoth call
  unfolding is_on
  on_both Fresh q = absurd (true≢false (sym q))
  on_both (Open m w c marks) q = absurd (true≢false (sym q))
  on_both (Serve g word) q = subst (λ x. OnBoth (Serve x word)) (eqb-true h g q) (serve-both word)
  on_both (Read g) q = subst (λ x. OnBoth (Read x)) (eqb-true h g q) read-both
  on_both (Close g) q = subst (λ x. OnBoth (Close x)) (eqb-true h g q) close-both
  on_both (Lose g place) q = subst (λ x. OnBoth (Lose x place)) (eqb-true h g q) (lose-both place)
  on_both (Find g place) q = subst (λ x. OnBoth (Find x place)) (eqb-true h g q) (find-both place)

-- a call that is not on this handle and starts no new desk is another's
other-of : (h : ℕ) (call : DeskCall) → is_on h call ≡ false → is_fresh call ≡ false → is_other h call ≡ true
unfolding is_on is_fresh is_other
other-of h Fresh n f = absurd (true≢false f)
other-of h (Open m w c marks) n f = refl
other-of h (Serve g word) n f = ap not n
other-of h (Read g) n f = refl
other-of h (Close g) n f = ap not n
other-of h (Lose g place) n f = ap not n
other-of h (Find g place) n f = ap not n

-- ---- two desks side by side: all calls on the first, those on the handle alone on the second

record Beside (h : ℕ) (d e : Desk) : Type 0 where
  first : Fit d
  second : Fit e
  early : issue_of h ≤ d.t
  held : is_open d h ≡ is_open e h
  job : is_open d h ≡ true → job_at d (slot_of h) ≡ job_at e (slot_of h)

module _ (h : ℕ) (d e : Desk) (B : Beside h d e) (call : DeskCall) (f : is_fresh call ≡ false) where
  still-early : issue_of h ≤ (step call d).desk.t
  still-early = le_trans B.early (count-rises d call f)

  -- the slot alone decides whether the handle is open
  by-job : (x : Desk) → Fit x → job_at (step call d).desk (slot_of h) ≡ job_at x (slot_of h) → Beside h (step call d).desk x
  by-job x G q = record {
    first = fit-step d B.first call;
    second = G;
    early = still-early;
    held = open-by-slot (step call d).desk (fit-step d B.first call).sound h ∙ ap (λ j. holds_handle j h) q ∙ sym (open-by-slot x G.sound h);
    job = λ o. q;
  }

  by-shut : (x : Desk) → Fit x → is_open (step call d).desk h ≡ false → is_open x h ≡ false → Beside h (step call d).desk x
  by-shut x G a b = record {
    first = fit-step d B.first call;
    second = G;
    early = still-early;
    held = a ∙ sym b;
    job = λ o. absurd (true≢false (sym o ∙ a));
  }

  beside-on : is_on h call ≡ true → (heard call d ≡ heard call e) × Beside h (step call d).desk (step call e).desk
  beside-on q = go (is_open d h) refl
    where
      go : (b : Bool) → is_open d h ≡ b → (heard call d ≡ heard call e) × Beside h (step call d).desk (step call e).desk
      go true o =
          let same = B.job o in
          let A : (word : List ℕ) → Alike h word d e = λ word.
          alone h word d e B.first.size B.second.size (sound-of d B.first.sound) (sound-of e B.second.sound) same in
          let p = on_both h d e A same call q in
          (p.0, by-job (step call e).desk (fit-step e B.second call) p.1)
      go false o =
          let z = sym B.held ∙ o in
          let p = shut-on h d B.first o call q in
          let s = shut-on h e B.second z call q in
          (p.0 ∙ sym s.0, by-shut (step call e).desk (fit-step e B.second call) (ap (λ x. is_open x h) p.1 ∙ o) (ap (λ x. is_open x h) s.1 ∙ z))

  beside-other : is_on h call ≡ false → Beside h (step call d).desk e
  beside-other q = go (is_open d h) refl
    where
      go : (b : Bool) → is_open d h ≡ b → Beside h (step call d).desk e
      go true o = by-job e B.second (other_step h d B.first o call (other-of h call q f) ∙ B.job o)
      go false o = by-shut e B.second (shut-stays h d B.first o B.early call f) (sym B.held ∙ o)

-- what is heard on two desks side by side
record Follows (h : ℕ) (calls : List DeskCall) (d e : Desk) : Type 0 where
  same : heard_on h d calls ≡ heard_on h e (calls_on h calls)
  then : Beside h (desk_after d calls) (desk_after e (calls_on h calls))

module _ (h : ℕ) (call : DeskCall) (calls : List DeskCall) where
  heard-on : (desk : Desk) → is_on h call ≡ true → heard_on h desk (call ∷ calls) ≡ heard call desk ∷ heard_on h (step call desk).desk calls
  unfolding heard_on
  heard-on desk q = ap (λ b. cond b (heard call desk ∷ heard_on h (step call desk).desk calls) (heard_on h (step call desk).desk calls)) q

  heard-other : (desk : Desk) → is_on h call ≡ false → heard_on h desk (call ∷ calls) ≡ heard_on h (step call desk).desk calls
  unfolding heard_on
  heard-other desk q = ap (λ b. cond b (heard call desk ∷ heard_on h (step call desk).desk calls) (heard_on h (step call desk).desk calls)) q

  calls-on : is_on h call ≡ true → calls_on h (call ∷ calls) ≡ call ∷ calls_on h calls
  unfolding calls_on
  calls-on q = ap (λ b. cond b (call ∷ calls_on h calls) (calls_on h calls)) q

  calls-other : is_on h call ≡ false → calls_on h (call ∷ calls) ≡ calls_on h calls
  unfolding calls_on
  calls-other q = ap (λ b. cond b (call ∷ calls_on h calls) (calls_on h calls)) q

follow-step : (h : ℕ) (call : DeskCall) (calls : List DeskCall) (d e : Desk) → Beside h d e → is_fresh call ≡ false
    → ((x y : Desk) → Beside h x y → Follows h calls x y) → Follows h (call ∷ calls) d e
unfolding desk_after
follow-step h call calls d e B f next = go (is_on h call) refl
  where
    go : (b : Bool) → is_on h call ≡ b → Follows h (call ∷ calls) d e
    go true q =
        let P = beside-on h d e B call f q in
        let R = next (step call d).desk (step call e).desk P.1 in
        record {
          same = heard-on h call calls d q
              ∙ ap₂ ◌∷◌ P.0 R.same
              ∙ sym (ap (heard_on h e) (calls-on h call calls q) ∙ heard-on h call (calls_on h calls) e q);
          then = subst (λ x. Beside h (desk_after (step call d).desk calls) (desk_after e x)) (sym (calls-on h call calls q)) R.then;
        }
    go false q =
        let R = next (step call d).desk e (beside-other h d e B call f q) in
        record {
          same = heard-other h call calls d q ∙ R.same ∙ sym (ap (heard_on h e) (calls-other h call calls q));
          then = subst (λ x. Beside h (desk_after (step call d).desk calls) (desk_after e x)) (sym (calls-other h call calls q)) R.then;
        }

follows : (h : ℕ) (calls : List DeskCall) (d e : Desk) → Beside h d e → none_fresh calls ≡ true → Follows h calls d e
unfolding heard_on calls_on desk_after none_fresh
follows h [] d e B n = record { same = refl; then = B }
follows h (call ∷ calls) d e B n =
    let p = and-of (not (is_fresh call)) (none_fresh calls) n in
    follow-step h call calls d e B (not-true _ p.0) (λ x y C. follows h calls x y C p.1)

-- "whatever is done to other jobs", over every list of calls
pub own-calls : OwnCallsHold
own-calls h calls desk size s early n =
    let F : Fit desk = record { size = size; sound = sound-parts desk s } in
    let f = follows h calls desk desk (record { first = F; second = F; early = early; held = refl; job = λ o. refl }) n in
    record { same = f.same; held = f.then.held; job = f.then.job }

open-issued : (desk : Desk) (h : ℕ) → is_open desk h ≡ true → issue_of h ≤ desk.t
unfolding is_open
open-issued desk h o =
    let j = job_at desk (slot_of h) in
    let p = and-of (is_issued desk.t (issue_of h) && is_taken j) (eqb j.handle h) o in
    (issued-of desk.t (issue_of h) (and-of (is_issued desk.t (issue_of h)) (is_taken j) p.0).0).1

-- of an open handle
pub own-calls-open : (h : ℕ) (calls : List DeskCall) (desk : Desk) → length desk.jobs ≡ 8 → is_sound desk ≡ true → is_open desk h ≡ true
    → none_fresh calls ≡ true → OwnCalls h calls desk
own-calls-open h calls desk size s o n = own-calls h calls desk size s (open-issued desk h o) n
