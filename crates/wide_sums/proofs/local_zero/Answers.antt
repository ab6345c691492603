use Rattle.std.proofs.Common.{◌≡◌, sym, ap, ◌∙◌, ◌&&◌, List, ℕ, zero, suc, ◌≤◌, arith, eqb, length, get_or, take, refl, add-one}
use Rattle.std.specs.List.{list_all}
use Rattle.std.proofs.Math.Bool.{and_comm}
use Rattle.std.proofs.lemmas.List.Folds.{list_all_more}
use Rattle.counting.specs.Test.{all_below}
use Rattle.wide_sums.specs.PowerSumsLaws.{sums-local, sum-local}
use Rattle.wide_sums.proofs.local_zero.Goals as goal

-- the first c of the sums, one by one
front : (s : List ℕ) (c : ℕ) → c ≤ length s → list_all (λ x. eqb x 0) (take c s) ≡ all_below c (λ e. eqb (get_or s e 0) 0)
front s zero l = refl
front s (suc c) l =
    ap (λ n. list_all (λ x. eqb x 0) (take n s)) (sym (add-one c)) ∙ list_all_more (λ x. eqb x 0) s c 0 (omega arith)
    ∙ ap (λ b. b && eqb (get_or s c 0) 0) (front s c (omega arith)) ∙ and_comm (all_below c (λ e. eqb (get_or s e 0) 0)) (eqb (get_or s c 0) 0)

pub returns-then-c-eq1-clause-value : goal.returns-then-c-eq1-clause-value
returns-then-c-eq1-clause-value c = λ _ _.
    let a = c.args in
    sum-local a.part.now _ a.c (λ j. (c.shared_slice_known-1.given j).fits) c.sum.ensures c.if-c-eq1.true

pub returns-clause-value : goal.returns-clause-value
returns-clause-value c =
    let a = c.args in
    let s : List ℕ = c.power_sums-sums.result in
    λ narrow few. c.all_zero.ensures ∙ front s a.c (omega arith) ∙ sums-local a.part.now s a.c a.c
    (c.power_sums-sums.ensures.power_sums narrow (omega arith)) (omega arith)
