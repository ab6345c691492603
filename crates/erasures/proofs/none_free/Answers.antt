use Rattle.std.proofs.Common.{◌≡◌, sym, ◌∙◌, subst, false, List, ℕ, ◌+◌, ◌-◌, ◌*◌, ◌<◌, ◌≤◌, arith, length, get_or, take, drop, length-drop, get_or-take, get_or-drop, length-take-le}
use native.Mathlib.Decide.{dec_lt}
use Rattle.code_engine.specs.Bound.{free}
use Rattle.erasures.proofs.Laws.{bound-not-free}
use Rattle.erasures.proofs.none_free.Goals as goal

-- sixteen places whose marks are bound
sixteen : (marks bound : List ℕ) (i : ℕ) → i + 16 ≤ length marks
    → ((q : ℕ) → q < length (take (i + 16 - i) (drop i marks)) → get_or (take (i + 16 - i) (drop i marks)) q 0 ≡ get_or (take (i + 16 - i) (drop i bound)) q 0)
    → (p : ℕ) → i ≤ p → p < i + 16 → free marks bound p ≡ false
sixteen marks bound i h same p l u =
    let e : i + (p - i) ≡ p = omega arith in
    let k : p - i < i + 16 - i = omega arith in
    let o : i + 16 - i ≤ length (drop i marks) = omega (arith, length-drop i marks) in
    let n : p - i < length (take (i + 16 - i) (drop i marks)) = omega (arith, length-take-le (i + 16 - i) (drop i marks) o) in
    bound-not-free marks bound p
    (subst (λ n. get_or marks n 0 ≡ get_or bound n 0) e
    (sym (get_or-take (i + 16 - i) (drop i marks) (p - i) 0 k ∙ get_or-drop i marks (p - i) 0) ∙ same (p - i) n
    ∙ get_or-take (i + 16 - i) (drop i bound) (p - i) 0 k ∙ get_or-drop i bound (p - i) 0))

pub loop-k-preserved : goal.loop-k-preserved
loop-k-preserved c =
    let a = c.args in (
      omega arith,
      c.loop-k.invariant.1,
      λ p l. elim (dec_lt p (16 * c.loop-k.k)) [
        | yes h ↦ c.loop-k.invariant.2 p h
        | no h ↦ sixteen a.marks.now a.bound.now (16 * c.loop-k.k) (omega arith) (c.all_bound.ensures c.if-not-all_bound.false) p
            (omega arith) (omega arith)
      ],
    )
