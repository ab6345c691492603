-- Laws: "On a sound desk, serve, read and close on one handle depend on that job alone (and the word lent), whatever is done to other jobs."
-- Lose and find on it depend on that job alone too (and the place). "Open also depends on t and on which slots are taken."
use Rattle.std.specs.Prelude.{◌≡◌, true, not, cond, List, [], ◌∷◌, ℕ, zero, suc, ◌+◌, ◌*◌, ◌<◌, eqb, length, get_or, set}
use Rattle.std.proofs.Math.Path.{refl, sym, ap}
use Rattle.std.proofs.Common.{◌∙◌, subst, arith, get_or-set_same, get_or-set_other}
use Rattle.code.specs.Refusals.{refuse, ◌or_else◌}
use Rattle.shape.specs.Shapes.{byte_limits}
use Rattle.code_services.specs.Judge.{judged_number_in}
use Rattle.desk_job.specs.declared.Job.{Job}
use Rattle.desk_record.specs.declared.Desk.{Desk}
use Rattle.desk_job.specs.Jobs.{empty_job, no_job, is_taken}
use Rattle.desk_record.specs.Desks.{job_at, slot_of, is_sound}
use Rattle.desk_open.specs.Open.{free_from, free_slot, open_number, open_by, open_of, new_job, new_handle}
use Rattle.desk_open.specs.OpenLaws.{open-parts}
use Rattle.desk_close.specs.Read.{read_by, read_of}
use Rattle.desk_close.specs.Close.{close_by, close_of}
use Rattle.desk_record.specs.Refusal.{handle_refusal}
use Rattle.desk_serve.specs.Serve.{job_recovery, job_number, serve_number, group_of_nine, serve_by, serve_of, served_once}
use Rattle.desk_change.specs.Change.{changed, place_number, change_number, change_by, change_of}
use Rattle.desk_history.specs.PutLaws.{put_same}
use Rattle.desk_history.specs.Effects.{holds_handle}
use Rattle.desk_history.specs.EffectsLaws.{slot-below, handle-refusal}
use Rattle.desk_history.specs.Alone.{Alike, OpenAlike}

module _ (h : ℕ) (word : List ℕ) (d e : Desk) (size-d : length d.jobs ≡ 8) (size-e : length e.jobs ≡ 8)
    (sound-d : is_sound d ≡ true) (sound-e : is_sound e ≡ true) (same : job_at d (slot_of h) ≡ job_at e (slot_of h)) where
  same-refusal : handle_refusal h d ≡ handle_refusal h e
  same-refusal = handle-refusal h d sound-d ∙ ap (λ j. refuse 12 (not (holds_handle j h))) same ∙ sym (handle-refusal h e sound-e)

  same_number : serve_number h word d ≡ serve_number h word e
  unfolding serve_number
  same_number =
      ap (λ r. r or_else job_number (job_at d (slot_of h)) word) same-refusal ∙ ap (λ j. handle_refusal h e or_else job_number j word) same

  same-put : (j k : Job) → j ≡ k → get_or (set d.jobs (slot_of h) j) (slot_of h) no_job ≡ get_or (set e.jobs (slot_of h) k) (slot_of h) no_job
  same-put j k q =
      get_or-set_same d.jobs (slot_of h) j no_job (subst (λ n. slot_of h < n) (sym size-d) (slot-below h))
      ∙ q
      ∙ sym (get_or-set_same e.jobs (slot_of h) k no_job (subst (λ n. slot_of h < n) (sym size-e) (slot-below h)))

  serve-numbers : (r : ℕ) → (serve_by r h word d).number ≡ (serve_by r h word e).number
  serve-numbers zero = refl
  serve-numbers (suc r) = refl

  serve-groups : (r : ℕ) → (serve_by r h word d).group ≡ (serve_by r h word e).group
  serve-groups zero = refl
  serve-groups (suc r) = ap (λ j. group_of_nine (suc r) (job_recovery j word).group) same

  serve-words : (r : ℕ) → (serve_by r h word d).word ≡ (serve_by r h word e).word
  serve-words zero = ap (λ j. (job_recovery j word).word) same
  serve-words (suc r) = refl

  serve-jobs : (r : ℕ) → job_at (serve_by r h word d).desk (slot_of h) ≡ job_at (serve_by r h word e).desk (slot_of h)
  serve-jobs zero = same-put (served_once (job_at d (slot_of h))) (served_once (job_at e (slot_of h))) (ap served_once same)
  serve-jobs (suc r) = same

  reads : (r : ℕ) → read_by r h d ≡ read_by r h e
  reads zero = ap (λ j. record { number = 0; served = j.served }) same
  reads (suc r) = refl

  close-numbers : (r : ℕ) → (close_by r h d).number ≡ (close_by r h e).number
  close-numbers zero = refl
  close-numbers (suc r) = refl

  close-jobs : (r : ℕ) → job_at (close_by r h d).desk (slot_of h) ≡ job_at (close_by r h e).desk (slot_of h)
  close-jobs zero = same-put empty_job empty_job refl
  close-jobs (suc r) = same

  module _ (mark place : ℕ) where
    same-change : change_number mark h place d ≡ change_number mark h place e
    unfolding change_number
    same-change =
        ap (λ r. r or_else place_number mark place (job_at d (slot_of h))) same-refusal ∙ ap (λ j. handle_refusal h e or_else place_number mark place j) same

    change-numbers : (r : ℕ) → (change_by r mark h place d).number ≡ (change_by r mark h place e).number
    change-numbers zero = refl
    change-numbers (suc r) = refl

    change-jobs : (r : ℕ) → job_at (change_by r mark h place d).desk (slot_of h) ≡ job_at (change_by r mark h place e).desk (slot_of h)
    change-jobs zero = same-put (changed mark place (job_at d (slot_of h))) (changed mark place (job_at e (slot_of h))) (ap (changed mark place) same)
    change-jobs (suc r) = same

    change-number : (change_of mark h place d).number ≡ (change_of mark h place e).number
    unfolding change_of
    change-number = ap (λ r. (change_by r mark h place d).number) same-change ∙ change-numbers (change_number mark h place e)

    change-job : job_at (change_of mark h place d).desk (slot_of h) ≡ job_at (change_of mark h place e).desk (slot_of h)
    unfolding change_of
    change-job = ap (λ r. job_at (change_by r mark h place d).desk (slot_of h)) same-change ∙ change-jobs (change_number mark h place e)

  -- sound desks with the same job in the slot that a handle names, whatever else they hold
  pub alone : Alike h word d e
  unfolding serve_of read_of close_of
  alone = record {
    serve-number = ap (λ r. (serve_by r h word d).number) same_number ∙ serve-numbers (serve_number h word e);
    serve-group = ap (λ r. (serve_by r h word d).group) same_number ∙ serve-groups (serve_number h word e);
    serve-word = ap (λ r. (serve_by r h word d).word) same_number ∙ serve-words (serve_number h word e);
    serve-job = ap (λ r. job_at (serve_by r h word d).desk (slot_of h)) same_number ∙ serve-jobs (serve_number h word e);
    read = ap (λ r. read_by r h d) same-refusal ∙ reads (handle_refusal h e);
    close-number = ap (λ r. (close_by r h d).number) same-refusal ∙ close-numbers (handle_refusal h e);
    close-job = ap (λ r. job_at (close_by r h d).desk (slot_of h)) same-refusal ∙ close-jobs (handle_refusal h e);
    lose-number = change-number 1;
    lose-job = change-job 1;
    find-number = change-number 0;
    find-job = change-job 0;
  }

free-same : (x y : List Job) (i : ℕ) → length x ≡ length y → ((s : ℕ) → s < length x → is_taken (get_or x s no_job) ≡ is_taken (get_or y s no_job))
    → free_from x i ≡ free_from y i
unfolding free_from
free-same [] [] i l f = refl
free-same [] (k ∷ y) i l f = absurd (omega arith)
free-same (j ∷ x) [] i l f = absurd (omega arith)
free-same (j ∷ x) (k ∷ y) i l f =
    ap (λ b. cond b (free_from x (i + 1)) i) (f 0 (omega arith))
    ∙ ap (λ n. cond (is_taken k) n i) (free-same x y (i + 1) (omega arith) (λ s h. f (suc s) (omega arith)))

module _ (m w c : ℕ) (marks : List ℕ) (d e : Desk) (size-d : length d.jobs ≡ 8) (size-e : length e.jobs ≡ 8)
    (sound-d : is_sound d ≡ true) (sound-e : is_sound e ≡ true) (same-t : d.t ≡ e.t)
    (same : (s : ℕ) → s < 8 → is_taken (job_at d s) ≡ is_taken (job_at e s)) where
  same-slot : free_slot d ≡ free_slot e
  same-slot = free-same d.jobs e.jobs 0 (size-d ∙ sym size-e) (λ s l. same s (subst (λ n. s < n) size-d l))

  same-handle : new_handle d ≡ new_handle e
  same-handle = ap (λ t. 8 * (t + 1) + free_slot d) same-t ∙ ap (λ s. 8 * (e.t + 1) + s) same-slot

  same-open : open_number m w c marks d ≡ open_number m w c marks e
  unfolding open_number
  same-open =
      ap (λ b. refuse 31 (not b) or_else judged_number_in byte_limits m w c marks or_else refuse 10 (eqb d.t 65535) or_else refuse 11 (eqb (free_slot d) 8))
      (sound-d ∙ sym sound-e)
      ∙ ap (λ t. refuse 31 (not (is_sound e)) or_else judged_number_in byte_limits m w c marks or_else refuse 10 (eqb t 65535)
      or_else refuse 11 (eqb (free_slot d) 8)) same-t
      ∙ ap (λ s. refuse 31 (not (is_sound e)) or_else judged_number_in byte_limits m w c marks or_else refuse 10 (eqb e.t 65535) or_else refuse 11 (eqb s 8))
      same-slot

  open-numbers : (r : ℕ) → (open_by r m w c marks d).number ≡ (open_by r m w c marks e).number
  open-numbers zero = refl
  open-numbers (suc r) = refl

  open-handles : (r : ℕ) → (open_by r m w c marks d).handle ≡ (open_by r m w c marks e).handle
  open-handles zero = same-handle
  open-handles (suc r) = refl

  open-counts : (r : ℕ) → (open_by r m w c marks d).desk.t ≡ (open_by r m w c marks e).desk.t
  open-counts zero = ap (λ t. t + 1) same-t
  open-counts (suc r) = same-t

  open-jobs : (r : ℕ) → open_number m w c marks d ≡ r → (open_by r m w c marks d).number ≡ 0
      → job_at (open_by r m w c marks d).desk (free_slot d) ≡ job_at (open_by r m w c marks e).desk (free_slot e)
  open-jobs zero q z =
      let room = (open-parts m w c marks d size-d q).room in
      put_same d size-d (d.t + 1) (free_slot d) room (new_job m w c marks (new_handle d))
      ∙ ap (new_job m w c marks) same-handle
      ∙ sym (put_same e size-e (e.t + 1) (free_slot e) (subst (λ s. s < 8) same-slot room) (new_job m w c marks (new_handle e)))
  open-jobs (suc r) q z = absurd (omega arith)

  -- sound desks with the same t and the same slots taken, whatever jobs they hold
  pub open-alone : OpenAlike m w c marks d e
  unfolding open_of
  open-alone = record {
    slot = same-slot;
    number = ap (λ r. (open_by r m w c marks d).number) same-open ∙ open-numbers (open_number m w c marks e);
    handle = ap (λ r. (open_by r m w c marks d).handle) same-open ∙ open-handles (open_number m w c marks e);
    count = ap (λ r. (open_by r m w c marks d).desk.t) same-open ∙ open-counts (open_number m w c marks e);
    job = λ z. open-jobs (open_number m w c marks d) refl z ∙ ap (λ r. job_at (open_by r m w c marks e).desk (free_slot e)) same-open;
  }

pub serve-leaves : (h : ℕ) (word : List ℕ) (desk : Desk) (s : ℕ) → (s ≡ slot_of h → ⊥) → job_at (serve_of h word desk).desk s ≡ job_at desk s
unfolding serve_of
serve-leaves h word desk s n = go (serve_number h word desk)
  where
    go : (r : ℕ) → job_at (serve_by r h word desk).desk s ≡ job_at desk s
    go zero = get_or-set_other desk.jobs (slot_of h) s (served_once (job_at desk (slot_of h))) no_job n
    go (suc r) = refl

pub serve-count : (h : ℕ) (word : List ℕ) (desk : Desk) → (serve_of h word desk).desk.t ≡ desk.t
unfolding serve_of
serve-count h word desk = go (serve_number h word desk)
  where
    go : (r : ℕ) → (serve_by r h word desk).desk.t ≡ desk.t
    go zero = refl
    go (suc r) = refl

-- of Lose by mark 1, of Find by mark 0
pub change-leaves : (mark h place : ℕ) (desk : Desk) (s : ℕ) → (s ≡ slot_of h → ⊥) → job_at (change_of mark h place desk).desk s ≡ job_at desk s
unfolding change_of
change-leaves mark h place desk s n = go (change_number mark h place desk)
  where
    go : (r : ℕ) → job_at (change_by r mark h place desk).desk s ≡ job_at desk s
    go zero = get_or-set_other desk.jobs (slot_of h) s (changed mark place (job_at desk (slot_of h))) no_job n
    go (suc r) = refl

pub change-count : (mark h place : ℕ) (desk : Desk) → (change_of mark h place desk).desk.t ≡ desk.t
unfolding change_of
change-count mark h place desk = go (change_number mark h place desk)
  where
    go : (r : ℕ) → (change_by r mark h place desk).desk.t ≡ desk.t
    go zero = refl
    go (suc r) = refl

pub close-leaves : (h : ℕ) (desk : Desk) (s : ℕ) → (s ≡ slot_of h → ⊥) → job_at (close_of h desk).desk s ≡ job_at desk s
unfolding close_of
close-leaves h desk s n = go (handle_refusal h desk)
  where
    go : (r : ℕ) → job_at (close_by r h desk).desk s ≡ job_at desk s
    go zero = get_or-set_other desk.jobs (slot_of h) s empty_job no_job n
    go (suc r) = refl

pub close-count : (h : ℕ) (desk : Desk) → (close_of h desk).desk.t ≡ desk.t
unfolding close_of
close-count h desk = go (handle_refusal h desk)
  where
    go : (r : ℕ) → (close_by r h desk).desk.t ≡ desk.t
    go zero = refl
    go (suc r) = refl

pub open-leaves : (m w c : ℕ) (marks : List ℕ) (desk : Desk) (s : ℕ) → (s ≡ free_slot desk → ⊥) → job_at (open_of m w c marks desk).desk s ≡ job_at desk s
unfolding open_of
open-leaves m w c marks desk s n = go (open_number m w c marks desk)
  where
    go : (r : ℕ) → job_at (open_by r m w c marks desk).desk s ≡ job_at desk s
    go zero = get_or-set_other desk.jobs (free_slot desk) s (new_job m w c marks (new_handle desk)) no_job n
    go (suc r) = refl
