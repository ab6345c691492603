-- Laws of Open: a refusal leaves the desk as it was, and what an accepted Open knows.
use Rattle.std.specs.Prelude.{◌≡◌, refl, true, false, cond, List, [], ◌∷◌, ◌++◌, ℕ, zero, suc, ◌+◌, ◌-◌, ◌*◌, ◌≤◌, ◌<◌, length, get_or, take, set, replicate, Result, Ok, Err}
use Rattle.std.proofs.Common.{sym, ap, ◌∙◌, subst, append_assoc, add-one, arith, length-take-le, take-suc, take_at}
use Rattle.std.proofs.lemmas.Bool.{eqb-false, not-false}
use Rattle.std.proofs.lemmas.List.{set_at}
use Rattle.answers.specs.declared.Refusal.{Refusal}
use Rattle.code.specs.RefusalsLaws.{refuse-zero, or_else-zero}
use Rattle.shape.specs.Shapes.{byte_limits}
use Rattle.desk_record.specs.Desks.{SoundRecord}
use Rattle.code_services.specs.Judge.{judged_number_in}
use Rattle.desk_job.specs.declared.Job.{Job}
use Rattle.desk_record.specs.declared.Desk.{Desk}
use Rattle.desk_job.specs.declared.Figures.{Figures}
use Rattle.desk_job.specs.Figures.{loss_figures}
use Rattle.desk_job.specs.Jobs.{is_taken}
use Rattle.desk_open.specs.Open.{free_from, free_slot, open_number, open_by, new_job}
use Rattle.desk_record.specs.Laws.{sound-parts}

-- "On every refusal all lent buffers and the desk stay as they were."
pub open-refused : (r : ℕ) → (r ≡ 0 → ⊥) → (m w c : ℕ) (marks : List ℕ) (desk : Desk)
    → open_by r m w c marks desk ≡ record { number = r; handle = 0; desk = desk }
open-refused zero some m w c marks desk = absurd (some refl)
open-refused (suc r) some m w c marks desk = refl

pub handle-apart : (handle : ℕ) (e : Refusal) → ¬ (◌≡◌ {A = Result ℕ Refusal} (Ok handle) (Err e))
handle-apart handle e q = let z : ◌≡◌ {A = ℕ} 0 1 = cc in omega arith

-- the lowest free slot is in the row, or just past it
pub free-most : (jobs : List Job) (i : ℕ) → free_from jobs i ≤ i + length jobs
unfolding free_from
free-most [] i = omega arith
free-most (job ∷ jobs) i = let h = free-most jobs (i + 1) in go (is_taken job) h
  where
    go : (b : _) → free_from jobs (i + 1) ≤ i + 1 + length jobs → cond b (free_from jobs (i + 1)) i ≤ i + suc (length jobs)
    go true h = omega arith
    go false h = omega arith

-- what an accepted Open knows
pub record Openable (m w c : ℕ) (marks : List ℕ) (desk : Desk) : Type 0 where
  pub sound : SoundRecord desk
  pub judged : judged_number_in byte_limits m w c marks ≡ 0
  pub early : desk.t < 65535
  pub room : free_slot desk < 8

pub open-parts : (m w c : ℕ) (marks : List ℕ) (desk : Desk) → length desk.jobs ≡ 8 → open_number m w c marks desk ≡ 0 → Openable m w c marks desk
unfolding open_number
open-parts m w c marks desk l e =
    let e₁ = or_else-zero _ _ e in
    let e₂ = or_else-zero _ _ e₁.1 in
    let e₃ = or_else-zero _ _ e₂.1 in
    let S = sound-parts desk (not-false _ (refuse-zero 30 _ e₁.0)) in
    let t = eqb-false desk.t 65535 (refuse-zero 9 _ e₃.0) in
    let f = eqb-false (free_slot desk) 8 (refuse-zero 10 _ e₃.1) in
    let k = free-most desk.jobs 0 in
    let b = S.few in
    record { sound = S; judged = e₂.0; early = omega arith; room = omega arith }

-- one turn of the copying of marks
pub kept-turn : (marks : List ℕ) (i : ℕ) → i < length marks → i < 240
    → set (take i marks ++ replicate (240 - i) 0) i (get_or marks i 0) ≡ take (i + 1) marks ++ replicate (240 - (i + 1)) 0
kept-turn marks i l h =
    let e : 240 - i ≡ suc (240 - (i + 1)) = omega arith in
    ap (λ n. set (take i marks ++ replicate n 0) i (get_or marks i 0)) e
    ∙ set_at (take i marks) 0 (replicate (240 - (i + 1)) 0) (get_or marks i 0) i (length-take-le i marks (omega arith))
    ∙ sym (append_assoc (take i marks) (get_or marks i 0 ∷ []) (replicate (240 - (i + 1)) 0))
    ∙ ap (λ x. x ++ replicate (240 - (i + 1)) 0) (sym (take-suc marks i 0 l))
    ∙ ap (λ n. take n marks ++ replicate (240 - (i + 1)) 0) (sym (add-one i))

-- a new job by its figures
abbrev pub job_with : ℕ → ℕ → ℕ → List ℕ → ℕ → Figures → Job
job_with m w c marks handle figures =
    record { taken = 1; m = m; w = w; c = c; served = 0; handle = handle; marks = marks; lost = figures.lost; excess = figures.excess }

-- its figures are those of the marks given
pub new-job : (m w c : ℕ) (marks : List ℕ) (handle : ℕ) → length marks ≡ m * w
    → new_job m w c marks handle ≡ job_with m w c (marks ++ replicate (240 - length marks) 0) handle (loss_figures m w c marks)
unfolding new_job
new-job m w c marks handle size =
    ap (λ x. job_with m w c (marks ++ replicate (240 - length marks) 0) handle (loss_figures m w c x))
    (take_at marks (replicate (240 - length marks) 0) (m * w) size)
