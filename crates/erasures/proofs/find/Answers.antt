use Rattle.std.proofs.Common.{◌≡◌, refl, sym, ap, ◌∙◌, true, false, List, [], ◌++◌, ℕ, ◌+◌, ◌-◌, ◌≤◌, arith, length, get_or, set, take, drop, replicate, length-set, drop_of_length-le, eq-eqb, ne_eqb}
use Rattle.counting.specs.CountLaws.{count-le, total-none}
use Rattle.code.specs.Marks.{lost}
use Rattle.code_engine.specs.Positions.{first_lost}
use Rattle.code_engine.specs.PositionsLaws.{lost-below, count_next, found-next, found_none, first-none, first_next, rest-zero, first-all, first-full}
use Rattle.erasures.proofs.find.Goals as goal
use Rattle.erasures.proofs.find.Goals.{then-mark-eq1, then-n-lt4, else-n-lt4, else-mark-eq1}

pub loop-i-init : goal.loop-i-init
loop-i-init c = (
  refl,
  sym (total-none _),
  λ _. record { inside = λ j l. absurd (omega arith); erased = λ j l. absurd (omega arith); ascending = λ j k l b. absurd (omega arith) },
  refl,
  refl,
)

pub overflow_add-n : goal.overflow_add-n
overflow_add-n c = omega (arith, count-le c.loop-i.i (lost c.args.marks.now))

pub loop-i-preserved : goal.loop-i-preserved
loop-i-preserved c =
    let m : List ℕ = c.args.marks.now in
    let at : List ℕ = c.loop-i.at in
    let n : ℕ = c.loop-i.n in
    let i : ℕ = c.loop-i.i in
    elim c.if-mark-eq1.branch [
      | then-mark-eq1 w ↦ (let e : lost m i ≡ true = eq-eqb (get_or m i 0) 1 w.if-mark-eq1.true in
          let k = count_next m i true e in
          let q : c.if-mark-eq1.n ≡ n + 1 = w.n-is in
          elim w.if-n-lt4.branch [
            | then-n-lt4 v ↦ (
                let a : c.if-mark-eq1.at ≡ set at n i = w.at-is ∙ v.at-is in (
                  rw (a, length-set) c.loop-i.invariant.0,
                  omega arith,
                  λ h. rw (a, q) (found-next m at i n (c.loop-i.invariant.2 (omega arith)) (omega arith) e),
                  rw (a, q) (first_next m at i n (omega arith) e v.if-n-lt4.true c.loop-i.invariant.0 ∙ c.loop-i.invariant.3),
                  rw (a, q) (rest-zero at i n v.if-n-lt4.true c.loop-i.invariant.0 c.loop-i.invariant.4),
                ))
            | else-n-lt4 v ↦ (
                let a : c.if-mark-eq1.at ≡ at = w.at-is ∙ v.at-is in
                let f : 4 ≤ n = v.if-n-lt4.false in
                let past : length at ≤ n + 1 = (let b = c.loop-i.invariant.0 in omega arith) in
                let none : 0 ≡ 4 - (n + 1) = omega arith in (
                  ap length a ∙ c.loop-i.invariant.0,
                  omega arith,
                  λ h. absurd (omega arith),
                  rw (a, q) (first-full (drop (i + 1) m) at (i + 1) (n + 1) (omega arith) c.loop-i.invariant.0
                      ∙ sym (first-full (drop i m) at i n f c.loop-i.invariant.0) ∙ c.loop-i.invariant.3),
                  rw (a, q) (drop_of_length-le at past ∙ ap (λ k. replicate k 0) none),
                ))
          ])
      | else-mark-eq1 w ↦ (let k = count_next m i false (ne_eqb (get_or m i 0) 1 w.if-mark-eq1.false) in
          let a : c.if-mark-eq1.at ≡ at = w.at-is in
          let q : c.if-mark-eq1.n ≡ n = w.n-is in
          let o = ne_eqb (get_or m i 0) 1 w.if-mark-eq1.false in (
            ap length a ∙ c.loop-i.invariant.0,
            omega arith,
            λ h. rw (a, q) (found_none m at i n (c.loop-i.invariant.2 (omega arith))),
            rw (a, q) (ap (λ t. take n at ++ t) (first-none m at i n (omega arith) o) ∙ c.loop-i.invariant.3),
            rw (a, q) c.loop-i.invariant.4,
          ))
    ]

pub returns : goal.returns
returns c =
    let m : List ℕ = c.args.marks.now in
    let e : c.loop-i.i ≡ length m = omega arith in
    let n = c.loop-i.n in
    let b : length m ≤ c.loop-i.i = omega arith in
    let end : drop c.loop-i.i m ≡ [] = drop_of_length-le m b in
    record {
      all = rw e at c.loop-i.invariant.1 ∙ lost-below m (length m);
      first = sym (first-all c.loop-i.at c.loop-i.i n c.loop-i.invariant.4) ∙ ap (λ t. take n c.loop-i.at ++ first_lost (4 - n) c.loop-i.i t) (sym end)
          ∙ c.loop-i.invariant.3;
      few = rw e at c.loop-i.invariant.2;
    }
