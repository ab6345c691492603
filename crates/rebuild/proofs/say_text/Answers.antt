-- A number's text is shorter than the buffer.
use Rattle.std.proofs.Common.{◌≡◌, ℕ, ◌≤◌, ◌<◌, length, sym, subst, arith, length-take-le}
use Rattle.release.specs.Texts.{number_text}
use Rattle.release.specs.JoinedLaws.{text-short}
use Rattle.rebuild.proofs.say_text.Goals as goal

within : (number n room : ℕ) → n ≡ length (number_text number) → room ≡ 64 → n ≤ room
within number n room size e =
    let h : n < 64 = subst (λ k. k < 64) (sym size) (text-short number) in
    omega arith

pub slice_bounds-text-end : goal.slice_bounds-text-end
slice_bounds-text-end g c =
    let t = c.number_text-length in
    within _ t.result _ t.ensures.size t.auto.out

pub slice_bounds-tell-end : goal.slice_bounds-tell-end
slice_bounds-tell-end g c =
    let t = c.number_text-length in
    sym (length-take-le _ _ (within _ t.result _ t.ensures.size t.auto.out))
