-- Laws of Take.
use Rattle.std.specs.Prelude.{◌≡◌, refl, Bool, true, false, ◌||◌, List, ◌++◌, ℕ, zero, suc, ◌+◌, ◌-◌, ◌<◌, ◌≤◌, eqb, drop, get_or, replicate, Ok}
use Rattle.std.proofs.Common.{sym, ap₂, ◌∙◌, subst, le_refl, le_trans, get_or-take, drop-drop}
use Rattle.std.proofs.Math.Path.{ap}
use Rattle.std.proofs.Math.Bool.{not}
use Rattle.std.proofs.Math.Nat.{le-suc}
use native.Mathlib.Omega.{arith}
use borrow.Author.Tests.{lt-ltb, le-ltb, ltb-false}
use Rattle.std.proofs.Math.Dec.{T}
use Rattle.std.specs.Float.Ieee.Bits.{is_true}
use Rattle.std.proofs.Math.ListN.{length, take, length-drop}
use Rattle.std.proofs.Math.Seq.{get_or-drop, length-take-le}
use Rattle.counting.specs.Test.{any_below}
use Rattle.counting.specs.TestLaws.{any-intro}
use Rattle.code.specs.Marks.{lost}
use Rattle.code.specs.Refusals.{refuse}
use Rattle.code.specs.RefusalsLaws.{refuse-zero, or_else-zero, or_else-first}
use Rattle.gather_record.specs.declared.Gather.{Gather}
use Rattle.gather_record.specs.Record.{gather_places, gather_refusal, GatherGives}
use Rattle.gather_record.specs.RecordLaws.{gives-done, Open, open-parts}
use Rattle.gather_take.specs.Take.{some_came, take_refusal, put_at, taken, take_of}

-- ---- a test below a bound

any-ext : (n : ℕ) (f h : ℕ → Bool) → ((i : ℕ) → i < n → f i ≡ h i) → any_below n f ≡ any_below n h
any-ext zero f h e = refl
any-ext (suc n) f h e = ap₂ ◌||◌ (e n (le_refl (suc n))) (any-ext n f h (λ i l. e i (le_trans l (le-suc n))))

any_none : (n : ℕ) (f : ℕ → Bool) → ((i : ℕ) → i < n → f i ≡ false) → any_below n f ≡ false
any_none zero f e = refl
any_none (suc n) f e = ap₂ ◌||◌ (e n (le_refl (suc n))) (any_none n f (λ i l. e i (le_trans l (le-suc n))))

-- ---- the search for a place that came

module _ (marks : List ℕ) where
  pub here-came : (i : ℕ) → i < length marks → eqb (get_or marks i 0) 1 ≡ false → some_came marks 0 (length marks) ≡ true
  unfolding some_came
  here-came i l e =
      let z : i ≡ 0 + i = omega arith in
      is_true _ (any-intro (length marks) (λ i. not (lost marks (0 + i))) i l (subst (λ p. T (not (eqb (get_or marks p 0) 1))) z (rw e tt)))

  pub none_came : ((i : ℕ) → i < length marks → eqb (get_or marks i 0) 1 ≡ true) → some_came marks 0 (length marks) ≡ false
  unfolding some_came
  none_came h =
      any_none (length marks) (λ i. not (lost marks (0 + i)))
      (λ i l. let z : 0 + i ≡ i = omega arith in ap (λ p. not (eqb (get_or marks p 0) 1)) z ∙ ap not (h i l))

  -- the part that is lent is the stretch
  pub some-part : (first count : ℕ) → first + count ≤ length marks → (part : List ℕ) → part ≡ take (first + count - first) (drop first marks)
      → some_came part 0 (length part) ≡ some_came marks first count
  unfolding some_came
  some-part first count h part is =
      let z : first + count - first ≡ count = omega arith in
      let q : part ≡ take count (drop first marks) = is ∙ ap (λ n. take n (drop first marks)) z in
      let k : length (take count (drop first marks)) ≡ count = length-take-le count (drop first marks) (omega (arith, length-drop first marks)) in
      ap (λ x. any_below (length x) (λ i. not (lost x (0 + i)))) q
      ∙ ap (λ n. any_below n (λ i. not (lost (take count (drop first marks)) (0 + i)))) k
      ∙ any-ext count _ _ (λ i l. let y : 0 + i ≡ i = omega arith in
      ap (λ p. not (lost (take count (drop first marks)) p)) y
      ∙ ap (λ b. not (eqb b 1)) (get_or-take count (drop first marks) i 0 l ∙ get_or-drop first marks i 0))

-- ---- the refusal of a stretch, case by case

module _ (first count : ℕ) (g : Gather) where
  pub take-record : (gather_refusal g ≡ 0 → ⊥) → take_refusal first count g ≡ gather_refusal g
  unfolding take_refusal
  take-record h = or_else-first _ _ h

  pub take_beyond : gather_refusal g ≡ 0 → gather_places g < first + count → take_refusal first count g ≡ 23
  unfolding take_refusal
  take_beyond e h = simp (e, lt-ltb (gather_places g) (first + count) h)

  pub take_within : gather_refusal g ≡ 0 → first + count ≤ gather_places g → take_refusal first count g ≡ refuse 24 (some_came g.marks first count)
  unfolding take_refusal
  take_within e h = simp (e, le-ltb (gather_places g) (first + count) h)

-- a stretch that is not refused
pub record Takeable (first count : ℕ) (g : Gather) : Type 0 where
  pub unrefused : gather_refusal g ≡ 0
  pub opened : Open g
  pub inside : first + count ≤ gather_places g
  pub new : some_came g.marks first count ≡ false

pub take-parts : (first count : ℕ) (g : Gather) → take_refusal first count g ≡ 0 → Takeable first count g
unfolding take_refusal
take-parts first count g e =
    let e₁ = or_else-zero _ _ e in
    let e₂ = or_else-zero _ _ e₁.1 in
    record {
      unrefused = e₁.0;
      opened = open-parts g e₁.0;
      inside = ltb-false (gather_places g) (first + count) (refuse-zero 22 _ e₂.0);
      new = refuse-zero 23 _ e₂.1;
    }

-- ---- a stretch put into a list

-- the part that came back stands in the list, with what lay before and after it
pub put-part : (first : ℕ) (part xs ys : List ℕ) (count : ℕ) → length part ≡ count → ys ≡ part
    → take first xs ++ (ys ++ drop (first + count - first) (drop first xs)) ≡ put_at first part xs
unfolding put_at
put-part first part xs ys count l e =
    let z : first + count - first ≡ length part = omega arith in
    ap₂ (λ y n. take first xs ++ (y ++ drop n (drop first xs))) e z
    ∙ ap (λ x. take first xs ++ (part ++ x)) (drop-drop (length part) first xs)

pub part_length : (first count : ℕ) (xs : List ℕ) → first + count ≤ length xs → length (take (first + count - first) (drop first xs)) ≡ count
part_length first count xs h =
    let z : first + count - first ≡ count = omega arith in
    ap (λ n. length (take n (drop first xs))) z ∙ length-take-le count (drop first xs) (omega (arith, length-drop first xs))

-- what a stretch that is not refused gives
pub gives-taken : (first : ℕ) (bytes : List ℕ) (g : Gather) → take_refusal first (length bytes) g ≡ 0
    → (b k : List ℕ) → b ≡ put_at first bytes g.bytes → k ≡ put_at first (replicate (length bytes) 0) g.marks
    → GatherGives (take_of first bytes g) (record { m = g.m; w = g.w; c = g.c; finished = g.finished; bytes = b; marks = k }) (Ok tt)
unfolding take_of taken
gives-taken first bytes g e b k p q =
    subst (λ x. GatherGives (take_of first bytes g) x (Ok tt))
    (sym (ap₂ (λ x y. record { m = g.m; w = g.w; c = g.c; finished = g.finished; bytes = x; marks = y }) p q))
    (gives-done _ e (taken first bytes g) g)
