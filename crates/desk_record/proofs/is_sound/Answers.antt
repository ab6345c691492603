use Rattle.std.proofs.Common.{◌≡◌, refl, sym, ap, ap₂, ◌∙◌, subst, Bool, true, false, cond, not, ◌&&◌, ◌||◌, true≢false, List, ℕ, zero, suc, ◌+◌, ◌≤◌, ◌<◌, arith, below_more, ne_eqb, leb-true, eqb, leb, get_or, set, length-set, get_or-set_same, get_or-set_other}
use mathlib.Core.Bool.{and-eq-true_iff, and-false}
use Rattle.counting.specs.Test.{any_below}
use Rattle.desk_job.specs.declared.Job.{Job}
use Rattle.desk_job.specs.Jobs.{is_taken}
use Rattle.desk_record.specs.declared.Desk.{Desk}
use Rattle.desk_record.specs.Desks.{issue_of, is_issued, is_sound_slot, has_issue, is_twice, job_at}
use Rattle.desk_record.specs.Laws.{taken_of, sound-of, unsound}
use Rattle.desk_record.proofs.is_sound.Invariants.{issue_in, Kept}
use Rattle.desk_record.proofs.is_sound.Goals as goal

kept_more : (desk : Desk) (s : ℕ) (issues : List ℕ) → Kept desk s issues → s < 8 → {u : ℕ} → u ≡ issue_in (job_at desk s)
    → Kept desk (s + 1) (set issues s u)
kept_more desk s issues K l {u} e = (
  length-set issues s u ∙ K.0,
  below_more _ _ (λ k h. get_or-set_other issues s k u 0 (λ z. omega arith) ∙ K.1 k h)
      (get_or-set_same issues s u 0 (subst (λ n. s < n) (sym K.0) l) ∙ e),
)

any-ext : (n : ℕ) (f h : ℕ → Bool) → ((i : ℕ) → i < n → f i ≡ h i) → any_below n f ≡ any_below n h
any-ext zero f h same = refl
any-ext (suc n) f h same = ap₂ ◌||◌ (same n (omega arith)) (any-ext n f h (λ i l. same i (omega arith)))

-- an issue number, which is not 0, stands in a slot exactly if the number kept for it is the same
stands : (u : ℕ) → 1 ≤ u → (job : Job) → eqb (issue_in job) u ≡ has_issue u job
unfolding has_issue
stands u l job = go (is_taken job)
  where
    go : (b : Bool) → eqb (cond b (issue_of job.handle) 0) u ≡ (b && eqb (issue_of job.handle) u)
    go true = refl
    go false = ne_eqb 0 u (λ z. omega arith)

issued-some : (t u : ℕ) → is_issued t u ≡ true → 1 ≤ u
unfolding is_issued
issued-some t u e = leb-true 1 u ((and-eq-true_iff (leb 1 u) (leb u t)).0 e).0

-- the numbers kept tell whether the issue number of a sound slot stands in a lower one
told : (desk : Desk) (t s : ℕ) (issues : List ℕ) → Kept desk (s + 1) issues → is_sound_slot t s (job_at desk s) ≡ true
    → (not (eqb (get_or issues s 0) 0) && any_below s (λ k. eqb (get_or issues k 0) (get_or issues s 0))) ≡ is_twice desk s
unfolding is_twice
told desk t s issues K sound = ap test (K.1 s (omega arith)) ∙ go (is_taken (job_at desk s)) refl
  where
    job : Job
    job = job_at desk s

    test : ℕ → Bool
    test u = not (eqb u 0) && any_below s (λ k. eqb (get_or issues k 0) u)

    go : (b : Bool) → is_taken job ≡ b → test (cond b (issue_of job.handle) 0) ≡ (b && any_below s (λ r. has_issue (issue_of job.handle) (job_at desk r)))
    go true e =
        let u = issue_of job.handle in
        let l = issued-some t u (taken_of t s job sound e).issue in
        ap (λ b. not b && any_below s (λ k. eqb (get_or issues k 0) u)) (ne_eqb u 0 (λ z. omega arith))
        ∙ any-ext s (λ k. eqb (get_or issues k 0) u) (λ r. has_issue u (job_at desk r))
        (λ k h. ap (λ n. eqb n u) (K.1 k (omega arith)) ∙ stands u l (job_at desk k))
    go false e = refl

-- slot 0 has no lower one
lowest : (desk : Desk) → is_twice desk 0 ≡ false
unfolding is_twice
lowest desk = and-false (is_taken (job_at desk 0))

pub returns-then-t-gt-MAX_ISSUED : goal.returns-then-t-gt-MAX_ISSUED
returns-then-t-gt-MAX_ISSUED c = sym (unsound c.args.desk.now (λ S. let k = S.few in omega (arith, c.if-t-gt-MAX_ISSUED.true)))

pub returns-then-not-is_sound_slot : goal.returns-then-not-is_sound_slot
returns-then-not-is_sound_slot c =
    let d = c.args.desk.now in
    let h : is_sound_slot d.t 0 (job_at d 0) ≡ false = sym c.is_sound_slot.ensures ∙ c.if-not-is_sound_slot.true in
    sym (unsound d (λ S. true≢false (sym (S.slots 0 (omega arith)) ∙ h)))

pub loop-s-init : goal.loop-s-init
loop-s-init c =
    let d = c.args.desk.now in
    let g : is_sound_slot d.t 0 (job_at d 0) ≡ true = sym c.is_sound_slot.ensures ∙ c.if-not-is_sound_slot.false in (
      (refl, below_more _ _ (λ k l. absurd (omega arith)) c.issue_in.ensures),
      below_more _ _ (λ k l. absurd (omega arith)) g,
      below_more _ _ (λ k l. absurd (omega arith)) (lowest d),
    )

pub returns-then-not-is_sound_slot-2 : goal.returns-then-not-is_sound_slot-2
returns-then-not-is_sound_slot-2 c =
    let d = c.args.desk.now in
    let h : is_sound_slot d.t c.loop-s.s (job_at d c.loop-s.s) ≡ false = sym c.is_sound_slot-in-loop-s.ensures ∙ c.if-not-is_sound_slot-2.true in
    sym (unsound d (λ S. true≢false (sym (S.slots c.loop-s.s (omega arith)) ∙ h)))

pub returns-then-is_twice : goal.returns-then-is_twice
returns-then-is_twice c =
    let d = c.args.desk.now in
    let x = set c.loop-s.issues c.loop-s.s c.issue_in-in-loop-s.result in
    let K : Kept d (c.loop-s.s + 1) x = kept_more d c.loop-s.s c.loop-s.issues c.loop-s.invariant.0 (omega arith) c.issue_in-in-loop-s.ensures in
    let g : is_sound_slot d.t c.loop-s.s (job_at d c.loop-s.s) ≡ true = sym c.is_sound_slot-in-loop-s.ensures ∙ c.if-not-is_sound_slot-2.false in
    let h : is_twice d c.loop-s.s ≡ true = sym (told d d.t c.loop-s.s x K g) ∙ sym c.is_twice.ensures ∙ c.if-is_twice.true in
    sym (unsound d (λ S. true≢false (sym h ∙ S.once c.loop-s.s (omega arith))))

pub loop-s-preserved : goal.loop-s-preserved
loop-s-preserved c =
    let d = c.args.desk.now in
    let x = set c.loop-s.issues c.loop-s.s c.issue_in-in-loop-s.result in
    let K : Kept d (c.loop-s.s + 1) x = kept_more d c.loop-s.s c.loop-s.issues c.loop-s.invariant.0 (omega arith) c.issue_in-in-loop-s.ensures in
    let g : is_sound_slot d.t c.loop-s.s (job_at d c.loop-s.s) ≡ true = sym c.is_sound_slot-in-loop-s.ensures ∙ c.if-not-is_sound_slot-2.false in
    let h : is_twice d c.loop-s.s ≡ false = sym (told d d.t c.loop-s.s x K g) ∙ sym c.is_twice.ensures ∙ c.if-is_twice.false in
    (K, below_more _ _ c.loop-s.invariant.1 g, below_more _ _ c.loop-s.invariant.2 h)

pub returns : goal.returns
returns c =
    let d = c.args.desk.now in
    sym (sound-of d (record {
      few = c.if-t-gt-MAX_ISSUED.false;
      slots = λ s k. c.loop-s.invariant.1 s (omega arith);
      once = λ s k. c.loop-s.invariant.2 s (omega arith);
    }))
