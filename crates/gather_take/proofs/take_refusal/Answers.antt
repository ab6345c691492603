use Rattle.std.proofs.Common.{◌≡◌, refl, sym, ap, ◌∙◌, Bool, true, false, List, ℕ, ◌+◌, ◌-◌, ◌≤◌, ◌<◌, arith, length, drop, get_or, eq-eqb, ne_eqb}
use Rattle.std.specs.Prelude.{◌↔◌, IsTrue}
use Rattle.std.proofs.Math.Decide.{ℕ_discrete}
use Rattle.std.proofs.lemmas.Bool.{false≢true}
use Rattle.std.proofs.Math.ListN.{take}
use Rattle.code.specs.Refusals.{refuse}
use Rattle.code.specs.LimitsLaws.{places-most}
use Rattle.answers.specs.Answers.{refused_number}
use Rattle.answers.specs.AnswersLaws.{refusal-some, passed}
use Rattle.gather_record.specs.declared.Gather.{Gather}
use Rattle.gather_record.specs.Record.{gather_places, gather_refusal, Whole}
use Rattle.gather_record.specs.RecordLaws.{Open, open-parts}
use Rattle.gather_record.proofs.Laws.{whole}
use Rattle.gather_take.specs.Take.{take_refusal, some_came}
use Rattle.gather_take.specs.TakeLaws.{here-came, none_came, some-part, take-record, take_beyond, take_within}
use Rattle.gather_take.proofs.take_refusal.Goals as goal

-- what a record that is not refused tells
opened : (g : Gather) {r : ℕ} → r ≡ gather_refusal g → r ≡ 0 → Open g
opened g e z = open-parts g (sym e ∙ z)

-- its marks have room for a stretch that ends within n
room : (g : Gather) (first count : ℕ) → Open g → Whole g → first + count ≤ gather_places g → first + count ≤ length g.marks
room g first count O W l = let k = places-most O.good in omega (arith, W.marks-long)

-- what the search for a place that came tells
came : (part : List ℕ) (v : Bool) → (IsTrue v ↔ ((p : ℕ) × (p < length part) × ¬ (get_or part p 0 ≡ 1))) → some_came part 0 (length part) ≡ v
came part true h = let w = h.0 refl in here-came part w.0 w.1 (ne_eqb _ _ w.2)
came part false h =
    none_came part (λ p l. elim (ℕ_discrete (get_or part p 0) 1) [
      | yes e ↦ eq-eqb _ _ e
      | no n ↦ absurd (false≢true (h.1 (p, l, n)))
    ])

-- none of 1 to 4, 6, 22 and 23: 24 by what was told of the stretch
told : (g : Gather) (first count : ℕ) {r : ℕ} → r ≡ gather_refusal g → r ≡ 0 → Whole g → first + count ≤ gather_places g
    → (v : Bool) → some_came (take (first + count - first) (drop first g.marks)) 0 (length (take (first + count - first) (drop first g.marks))) ≡ v
    → take_refusal first count g ≡ refuse 24 v
told g first count e z W l v h =
    take_within first count g (sym e ∙ z) l
    ∙ ap (refuse 24) (sym (some-part g.marks first count (room g first count (opened g e z) W l) _ refl) ∙ h)

pub returns-in_err-refusal : goal.returns-in_err-refusal
returns-in_err-refusal c =
    let a = c.args in
    let e = c.in_err-refusal.ensures in
    ap refused_number (passed c.from_residual.ensures) ∙ e ∙ sym (take-record a.first a.count a.gather (λ z. refusal-some _ (e ∙ z)))

pub returns-then-n-first : goal.returns-then-n-first
returns-then-n-first c =
    let a = c.args in
    sym (take_beyond a.first a.count a.gather (sym c.in_ok-refusal.ensures) (omega arith))

pub returns-then-n-count : goal.returns-then-n-count
returns-then-n-count c =
    let a = c.args in
    sym (take_beyond a.first a.count a.gather (sym c.in_ok-refusal.ensures) (omega arith))

pub returns-then-n-end : goal.returns-then-n-end
returns-then-n-end c =
    let a = c.args in
    sym (take_beyond a.first a.count a.gather (sym c.in_ok-refusal.ensures) (omega arith))

pub slice_bounds-some_came-end : goal.slice_bounds-some_came-end
slice_bounds-some_came-end c =
    let a = c.args in
    room a.gather a.first a.count (opened a.gather c.in_ok-refusal.ensures refl) (whole a.gather _ c.well_formed.0) (omega arith)

pub returns-then-some_came : goal.returns-then-some_came
returns-then-some_came c =
    let a = c.args in
    sym (told a.gather a.first a.count c.in_ok-refusal.ensures refl (whole a.gather _ c.well_formed.0) (omega arith) true
    (came _ _ c.some_came.ensures ∙ c.if-some_came.true))

pub returns-else-some_came : goal.returns-else-some_came
returns-else-some_came c =
    let a = c.args in
    sym (told a.gather a.first a.count c.in_ok-refusal.ensures refl (whole a.gather _ c.well_formed.0) (omega arith) false
    (came _ _ c.some_came.ensures ∙ c.if-some_came.false))
