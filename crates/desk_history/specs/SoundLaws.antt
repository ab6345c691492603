-- Laws: Every call keeps a sound desk sound, wherever the desk comes from; on any other all but Fresh answer 31 and leave it as it was.
use Rattle.std.specs.Prelude.{◌≡◌, true, false, not, List, [], ◌∷◌, ℕ, zero, suc, ◌+◌, ◌<◌, eqb}
use Rattle.std.proofs.Math.Path.{refl, ap}
use Rattle.std.proofs.Common.{arith}
use Rattle.shape.specs.Shapes.{byte_limits}
use Rattle.code_services.specs.Judge.{judged_number_in}
use Rattle.desk_record.specs.declared.Desk.{Desk}
use Rattle.desk_job.specs.Jobs.{empty_job}
use Rattle.desk_record.specs.Desks.{job_at, slot_of, is_sound, is_open}
use Rattle.desk_record.specs.Refusal.{handle_refusal}
use Rattle.desk_open.specs.Open.{free_slot, new_handle, new_job, open_number, open_by, open_of}
use Rattle.desk_close.specs.Read.{read_by, read_of}
use Rattle.desk_close.specs.Close.{close_by, close_of}
use Rattle.desk_serve.specs.Serve.{job_number, serve_number, serve_by, serve_of, served_once}
use Rattle.desk_change.specs.Change.{changed, place_number, change_number, change_by, change_of}
use Rattle.desk_open.specs.OpenLaws.{open-parts}
use Rattle.code.specs.Refusals.{refuse, ◌or_else◌}
use Rattle.code.specs.RefusalsLaws.{or_else-zero}
use Rattle.desk_history.specs.History.{DeskCall, Fresh, Open, Serve, Read, Close, Lose, Find, Step, step, desk_after}
use Rattle.desk_history.specs.PutLaws.{put-size}
use Rattle.desk_history.specs.EffectsLaws.{slot-below, fresh-size, fresh-sound, opened-sound, handle-parts, closed-sound, served-sound}
use Rattle.desk_history.specs.EffectsLaws.{replaced-sound, changed-key}
use Rattle.desk_history.specs.Sound.{Fit, refused31}

-- a serve answered 0 is on an open handle
pub serve-parts : (H : ℕ) (word : List ℕ) (desk : Desk) → serve_number H word desk ≡ 0
    → (is_open desk H ≡ true) × (job_number (job_at desk (slot_of H)) word ≡ 0)
unfolding serve_number
serve-parts H word desk e =
    let p = or_else-zero (handle_refusal H desk) (job_number (job_at desk (slot_of H)) word) e in
    ((handle-parts H desk p.0).1, p.1)

-- and so is a lose or find, of a place that its job takes
pub change-parts : (mark H place : ℕ) (desk : Desk) → change_number mark H place desk ≡ 0
    → (is_open desk H ≡ true) × (place_number mark place (job_at desk (slot_of H)) ≡ 0)
unfolding change_number
change-parts mark H place desk e =
    let p = or_else-zero (handle_refusal H desk) (place_number mark place (job_at desk (slot_of H))) e in
    ((handle-parts H desk p.0).1, p.1)

pub change-handle : (mark H place : ℕ) (desk : Desk) → change_number mark H place desk ≡ 0 → handle_refusal H desk ≡ 0
unfolding change_number
change-handle mark H place desk e = (or_else-zero (handle_refusal H desk) (place_number mark place (job_at desk (slot_of H))) e).0

module _ (desk : Desk) (F : Fit desk) where
  open-fit : (m w c : ℕ) (marks : List ℕ) (r : ℕ) → open_number m w c marks desk ≡ r → Fit (open_by r m w c marks desk).desk
  open-fit m w c marks zero e =
      let P = open-parts m w c marks desk F.size e in
      record {
        size = put-size desk F.size (desk.t + 1) (free_slot desk) P.room (new_job m w c marks (new_handle desk));
        sound = opened-sound m w c marks desk F.size F.sound P.judged P.early P.room;
      }
  open-fit m w c marks (suc r) e = F

  serve-fit : (H : ℕ) (word : List ℕ) (r : ℕ) → serve_number H word desk ≡ r → Fit (serve_by r H word desk).desk
  serve-fit H word zero e = record {
    size = put-size desk F.size desk.t (slot_of H) (slot-below H) (served_once (job_at desk (slot_of H)));
    sound = served-sound desk F.size F.sound H (serve-parts H word desk e).0;
  }
  serve-fit H word (suc r) e = F

  close-fit : (H : ℕ) (r : ℕ) → handle_refusal H desk ≡ r → Fit (close_by r H desk).desk
  close-fit H zero e = record {
    size = put-size desk F.size desk.t (slot_of H) (slot-below H) empty_job;
    sound = closed-sound desk F.size F.sound H (handle-parts H desk e).1;
  }
  close-fit H (suc r) e = F

  pub change-fit : (mark H place : ℕ) → mark < 2 → (r : ℕ) → change_number mark H place desk ≡ r → Fit (change_by r mark H place desk).desk
  change-fit mark H place l zero e =
      let P = change-parts mark H place desk e in
      let j = changed mark place (job_at desk (slot_of H)) in
      record {
        size = put-size desk F.size desk.t (slot_of H) (slot-below H) j;
        sound = replaced-sound desk F.size F.sound H P.0 j (changed-key desk F.size F.sound H P.0 mark place l P.1);
      }
  change-fit mark H place l (suc r) e = F

  pub fit-step : (call : DeskCall) → Fit (step call desk).desk
  unfolding step open_of serve_of close_of change_of
  fit-step Fresh = record { size = fresh-size; sound = fresh-sound }
  fit-step (Open m w c marks) = open-fit m w c marks (open_number m w c marks desk) refl
  fit-step (Serve H word) = serve-fit H word (serve_number H word desk) refl
  fit-step (Read H) = F
  fit-step (Close H) = close-fit H (handle_refusal H desk) refl
  fit-step (Lose H place) = change-fit 1 H place (omega arith) (change_number 1 H place desk) refl
  fit-step (Find H place) = change-fit 0 H place (omega arith) (change_number 0 H place desk) refl

pub fit_all : (calls : List DeskCall) (desk : Desk) → Fit desk → Fit (desk_after desk calls)
unfolding desk_after
fit_all [] desk F = F
fit_all (call ∷ calls) desk F = fit_all calls (step call desk).desk (fit-step desk F call)

module _ (desk : Desk) (e : is_sound desk ≡ false) where
  handle-31 : (h : ℕ) → handle_refusal h desk ≡ 31
  unfolding handle_refusal
  handle-31 h = ap (λ b. refuse 31 (not b) or_else refuse 12 (not (is_open desk h))) e

  open-31 : (m w c : ℕ) (marks : List ℕ) → open_number m w c marks desk ≡ 31
  unfolding open_number
  open-31 m w c marks =
      ap (λ b. refuse 31 (not b) or_else judged_number_in byte_limits m w c marks or_else refuse 10 (eqb desk.t 65535) or_else refuse 11 (eqb (free_slot desk) 8)) e

  serve-31 : (h : ℕ) (word : List ℕ) → serve_number h word desk ≡ 31
  unfolding serve_number
  serve-31 h word = ap (λ r. r or_else job_number (job_at desk (slot_of h)) word) (handle-31 h)

  pub unsound-open : (m w c : ℕ) (marks : List ℕ) → step (Open m w c marks) desk ≡ refused31 desk
  unfolding step open_of
  unsound-open m w c marks =
      ap (λ r. record { number = (open_by r m w c marks desk).number; value = (open_by r m w c marks desk).handle; desk = (open_by r m w c marks desk).desk })
      (open-31 m w c marks)

  pub unsound-serve : (h : ℕ) (word : List ℕ) → step (Serve h word) desk ≡ refused31 desk
  unfolding step serve_of
  unsound-serve h word =
      ap (λ r. record { number = (serve_by r h word desk).number; value = (serve_by r h word desk).group; desk = (serve_by r h word desk).desk }) (serve-31 h word)

  pub unsound-read : (h : ℕ) → step (Read h) desk ≡ refused31 desk
  unfolding step read_of
  unsound-read h = ap (λ r. record { number = (read_by r h desk).number; value = (read_by r h desk).served; desk = desk }) (handle-31 h)

  pub unsound-close : (h : ℕ) → step (Close h) desk ≡ refused31 desk
  unfolding step close_of
  unsound-close h = ap (λ r. record { number = (close_by r h desk).number; value = 0; desk = (close_by r h desk).desk }) (handle-31 h)

  change-31 : (mark h place : ℕ) → change_number mark h place desk ≡ 31
  unfolding change_number
  change-31 mark h place = ap (λ r. r or_else place_number mark place (job_at desk (slot_of h))) (handle-31 h)

  unsound-change : (mark h place : ℕ)
      → ◌≡◌ {A = Step} (record { number = (change_of mark h place desk).number; value = 0; desk = (change_of mark h place desk).desk }) (refused31 desk)
  unfolding change_of
  unsound-change mark h place =
      ap (λ r. record { number = (change_by r mark h place desk).number; value = 0; desk = (change_by r mark h place desk).desk }) (change-31 mark h place)

  pub unsound-lose : (h place : ℕ) → step (Lose h place) desk ≡ refused31 desk
  unfolding step
  unsound-lose h place = unsound-change 1 h place

  pub unsound-find : (h place : ℕ) → step (Find h place) desk ≡ refused31 desk
  unfolding step
  unsound-find h place = unsound-change 0 h place
