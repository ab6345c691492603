-- Laws of the search for a free slot.
use Rattle.std.specs.Prelude.{◌≡◌, Bool, true, false, not, cond, List, [], ◌∷◌, ℕ, ◌+◌, ◌<◌, ◌≤◌, eqb, nat_lt, length, get_or, drop, Some, None, IfOk}
use Rattle.std.specs.List.{position, position_or_len}
use Rattle.std.specs.Option.{ok_or}
use Rattle.std.proofs.Math.Numerals.{add-one}
use Rattle.std.proofs.Math.ListN.{drop_of_length-le}
use Rattle.std.proofs.Common.{drop-cons, refl, sym, ap, ◌∙◌, arith, eq-eqb, ne_eqb, ltb-true, ltb-false}
use Rattle.std.proofs.lemmas.List.Sums.{prefix_len-le-length}
use Rattle.answers.specs.declared.Refusal.{Refusal}
use Rattle.answers.specs.Answers.{refused_number}
use Rattle.code.specs.Refusals.{refuse}
use Rattle.desk_job.specs.declared.Job.{Job}
use Rattle.desk_job.specs.Jobs.{no_job, is_taken}
use Rattle.desk_open.specs.Open.{free_from}

module _ (jobs : List Job) (i : ℕ) where
  pub free-here : i < length jobs → is_taken (get_or jobs i no_job) ≡ false → free_from (drop i jobs) i ≡ i
  unfolding free_from
  free-here l e = rw (drop-cons jobs i no_job, e)

  pub free-later : i < length jobs → is_taken (get_or jobs i no_job) ≡ true → free_from (drop (i + 1) jobs) (i + 1) ≡ free_from (drop i jobs) i
  unfolding free_from
  free-later l e = rw (drop-cons jobs i no_job, add-one, e)

  pub free-end : length jobs ≤ i → free_from (drop i jobs) i ≡ i
  unfolding free_from
  free-end l = rw drop_of_length-le

-- the first free slot by its place in the row
pub free-place : (jobs : List Job) (i : ℕ) → free_from jobs i ≡ i + position_or_len (λ job. not (is_taken job)) jobs
unfolding free_from
free-place [] i = omega arith
free-place (job ∷ jobs) i = go (is_taken job) (position_or_len (λ job. not (is_taken job)) jobs) (free-place jobs (i + 1))
  where
    go : (b : Bool) (n : ℕ) → free_from jobs (i + 1) ≡ i + 1 + n → cond b (free_from jobs (i + 1)) i ≡ i + cond (not (not b)) (1 + n) 0
    go true n e = omega arith
    go false n e = omega arith

-- a row without a free slot is refused as 11
pub slot-number : (jobs : List Job) → length jobs ≡ 8
    → refused_number (ok_or (position (λ job. not (is_taken job)) jobs) Refusal.DeskFull) ≡ refuse 11 (eqb (free_from jobs 0) 8)
slot-number jobs long =
    let n = position_or_len (λ job. not (is_taken job)) jobs in
    let e : free_from jobs 0 ≡ n = omega (arith, free-place jobs 0) in
    go n (length jobs) (prefix_len-le-length _ jobs) long (nat_lt n (length jobs)) refl ∙ ap (λ k. refuse 11 (eqb k 8)) (sym e)
  where
    go : (n l : ℕ) → n ≤ l → l ≡ 8 → (v : Bool) → nat_lt n l ≡ v
        → refused_number (ok_or (cond v (Some n) None) Refusal.DeskFull) ≡ refuse 11 (eqb n 8)
    go n l h k true t = let s = ltb-true n l t in sym (ap (refuse 11) (ne_eqb n 8 (λ z. omega arith)))
    go n l h k false t = let s = ltb-false n l t in sym (ap (refuse 11) (eq-eqb n 8 (omega arith)))

-- and the slot found is the first one
pub slot-found : (jobs : List Job) → IfOk (ok_or (position (λ job. not (is_taken job)) jobs) Refusal.DeskFull) (λ s. s ≡ free_from jobs 0)
slot-found jobs =
    let n = position_or_len (λ job. not (is_taken job)) jobs in
    let e : free_from jobs 0 ≡ n = omega (arith, free-place jobs 0) in
    go n (free_from jobs 0) e (nat_lt n (length jobs))
  where
    go : (n f : ℕ) → f ≡ n → (v : Bool) → IfOk (ok_or (cond v (Some n) None) Refusal.DeskFull) (λ s. s ≡ f)
    go n f e true = sym e
    go n f e false = tt
