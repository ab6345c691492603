use Rattle.std.proofs.Common.{sym, List, ℕ, ◌≤◌, arith, below_more, get_or, inl, inr, ◌∙◌}
use Rattle.std.proofs.lemmas.Bool.Decides.{leb_tells}
use native.Mathlib.Decide.{dec_lt}
use Rattle.code_services.specs.MarksLaws.{marks-each, other-mark}
use Rattle.marks.proofs.are_marks.Goals as goal

pub loop-mark-preserved : goal.loop-mark-preserved
loop-mark-preserved c =
    let m : List ℕ = c.args.marks.now in
    let i : ℕ = c.loop-mark.mark-index in
    let v : ℕ = c.max-most.result in (
      below_more (λ p. get_or m p 0 ≤ v) i (λ p l. let k = c.loop-mark.invariant.0 p l in omega arith) (omega arith),
      λ h. elim (dec_lt 1 (get_or m i 0)) [
        | yes g ↦ (i, g)
        | no n ↦ c.loop-mark.invariant.1 (omega arith)
      ],
    )

pub returns : goal.returns
returns c =
    let m : List ℕ = c.args.marks.now in
    elim (leb_tells c.loop-mark.most 1) [
      | inl y ↦ (y.0 ∙ sym (marks-each m (λ p l. let k = c.loop-mark.invariant.0 p (omega arith) in omega arith)))
      | inr n ↦ (let o = c.loop-mark.invariant.1 n.1 in n.0 ∙ sym (other-mark m o.0 o.1))
    ]
