-- Laws: "whatever is done to other jobs": calls on other handles leave an open handle's job as it was, so its answers are the same before and after.
use Rattle.std.specs.Prelude.{◌≡◌, true, not, ◌||◌, List, [], ◌∷◌, ℕ, zero, suc, eqb, length}
use Rattle.std.proofs.Math.Path.{refl}
use Rattle.std.proofs.Common.{sym, ap, ◌∙◌, true≢false, arith, eq-eqb}
use Rattle.std.proofs.lemmas.Bool.{not-true}
use Rattle.desk_record.specs.declared.Desk.{Desk}
use Rattle.desk_job.specs.Jobs.{empty_job}
use Rattle.desk_record.specs.Desks.{job_at, slot_of, is_sound, is_open}
use Rattle.desk_record.specs.Refusal.{handle_refusal}
use Rattle.desk_open.specs.Open.{open_number, open_by, open_of, new_handle}
use Rattle.desk_close.specs.Close.{close_by, close_of}
use Rattle.desk_serve.specs.Serve.{serve_number, serve_by, serve_of, served_once}
use Rattle.desk_change.specs.Change.{changed, change_number, change_by, change_of}
use Rattle.desk_record.specs.Laws.{sound-parts, sound-of}
use Rattle.desk_open.specs.OpenLaws.{open-parts}
use Rattle.desk_history.specs.History.{DeskCall, Fresh, Open, Serve, Read, Close, Lose, Find, step, desk_after}
use Rattle.desk_history.specs.PutLaws.{and-of}
use Rattle.desk_history.specs.Effects.{holds_handle}
use Rattle.desk_history.specs.EffectsLaws.{open-by-slot, opened-open, opened-new, opened-job, other-job, handle-parts}
use Rattle.desk_history.specs.Sound.{Fit}
use Rattle.desk_history.specs.SoundLaws.{serve-parts, change-parts, fit-step, fit_all}
use Rattle.desk_history.specs.Alone.{Alike}
use Rattle.desk_history.specs.AloneLaws.{alone}
use Rattle.desk_history.specs.Others.{is_other, are_others, Given}

pub other-than : (h g : ℕ) → not (eqb h g) ≡ true → h ≡ g → ⊥
other-than h g e k = true≢false (sym (eq-eqb h g k) ∙ not-true (eqb h g) e)

module _ (h : ℕ) (desk : Desk) (F : Fit desk) (o : is_open desk h ≡ true) where
  pub open-other : (m w c : ℕ) (marks : List ℕ) (r : ℕ) → open_number m w c marks desk ≡ r
      → job_at (open_by r m w c marks desk).desk (slot_of h) ≡ job_at desk (slot_of h)
  open-other m w c marks zero e =
      let P = open-parts m w c marks desk F.size e in
      opened-job m w c marks desk F.size F.sound P.judged P.early P.room h o
  open-other m w c marks (suc r) e = refl

  serve-other : (g : ℕ) (word : List ℕ) → (h ≡ g → ⊥) → (r : ℕ) → serve_number g word desk ≡ r
      → job_at (serve_by r g word desk).desk (slot_of h) ≡ job_at desk (slot_of h)
  serve-other g word n zero e =
      other-job desk F.size F.sound g (serve-parts g word desk e).0 desk.t (served_once (job_at desk (slot_of g))) h o n
  serve-other g word n (suc r) e = refl

  pub close_other : (g : ℕ) → (h ≡ g → ⊥) → (r : ℕ) → handle_refusal g desk ≡ r → job_at (close_by r g desk).desk (slot_of h) ≡ job_at desk (slot_of h)
  close_other g n zero e = other-job desk F.size F.sound g (handle-parts g desk e).1 desk.t empty_job h o n
  close_other g n (suc r) e = refl

  pub change-other : (mark g place : ℕ) → (h ≡ g → ⊥) → (r : ℕ) → change_number mark g place desk ≡ r
      → job_at (change_by r mark g place desk).desk (slot_of h) ≡ job_at desk (slot_of h)
  change-other mark g place n zero e =
      other-job desk F.size F.sound g (change-parts mark g place desk e).0 desk.t (changed mark place (job_at desk (slot_of g))) h o n
  change-other mark g place n (suc r) e = refl

  pub other_step : (call : DeskCall) → is_other h call ≡ true → job_at (step call desk).desk (slot_of h) ≡ job_at desk (slot_of h)
  unfolding is_other step open_of serve_of close_of change_of
  other_step Fresh e = absurd (true≢false (sym e))
  other_step (Open m w c marks) e = open-other m w c marks (open_number m w c marks desk) refl
  other_step (Serve g word) e = serve-other g word (other-than h g e) (serve_number g word desk) refl
  other_step (Read g) e = refl
  other_step (Close g) e = close_other g (other-than h g e) (handle_refusal g desk) refl
  other_step (Lose g place) e = change-other 1 g place (other-than h g e) (change_number 1 g place desk) refl
  other_step (Find g place) e = change-other 0 g place (other-than h g e) (change_number 0 g place desk) refl

  still_open : (call : DeskCall) → is_other h call ≡ true → is_open (step call desk).desk h ≡ true
  still_open call e =
      open-by-slot (step call desk).desk (fit-step desk F call).sound h
      ∙ ap (λ j. holds_handle j h) (other_step call e)
      ∙ sym (open-by-slot desk F.sound h)
      ∙ o

pub others : (h : ℕ) (calls : List DeskCall) (desk : Desk) → Fit desk → is_open desk h ≡ true → are_others h calls ≡ true
    → (is_open (desk_after desk calls) h ≡ true) × (job_at (desk_after desk calls) (slot_of h) ≡ job_at desk (slot_of h))
unfolding desk_after are_others
others h [] desk F o e = (o, refl)
others h (call ∷ calls) desk F o e =
    let p = and-of (is_other h call) (are_others h calls) e in
    let q = others h calls (step call desk).desk (fit-step desk F call) (still_open h desk F o call p.0) p.1 in
    (q.0, q.1 ∙ other_step h desk F o call p.0)

-- serve, read, close, lose and find on an open handle answer after such calls as before them
pub unmoved : (h : ℕ) (word : List ℕ) (calls : List DeskCall) (desk : Desk) → length desk.jobs ≡ 8 → is_sound desk ≡ true → is_open desk h ≡ true
    → are_others h calls ≡ true → Alike h word (desk_after desk calls) desk
unmoved h word calls desk size s o e =
    let F : Fit desk = record { size = size; sound = sound-parts desk s } in
    let G = fit_all calls desk F in
    alone h word (desk_after desk calls) desk G.size size (sound-of (desk_after desk calls) G.sound) s (others h calls desk F o e).1

open-given : (m w c : ℕ) (marks : List ℕ) (desk : Desk) → Fit desk → (r : ℕ) → open_number m w c marks desk ≡ r → (open_by r m w c marks desk).number ≡ 0
    → Given m w c marks (open_by r m w c marks desk).desk (open_by r m w c marks desk).handle
open-given m w c marks desk F zero e z =
    let P = open-parts m w c marks desk F.size e in
    record {
      held = opened-open m w c marks desk F.size F.sound P.judged P.early P.room (new_handle desk)
          ∙ ap (λ b. b || is_open desk (new_handle desk)) (eq-eqb (new_handle desk) (new_handle desk) refl);
      job = opened-new m w c marks desk F.size F.sound P.judged P.early P.room;
    }
open-given m w c marks desk F (suc r) e z = let k : suc r ≡ 0 = z in absurd (omega arith)

pub given : (m w c : ℕ) (marks : List ℕ) (desk : Desk) → Fit desk → (open_of m w c marks desk).number ≡ 0
    → Given m w c marks (open_of m w c marks desk).desk (open_of m w c marks desk).handle
unfolding open_of
given m w c marks desk F z = open-given m w c marks desk F (open_number m w c marks desk) refl z
