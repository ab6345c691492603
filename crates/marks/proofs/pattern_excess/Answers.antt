use Rattle.std.proofs.Common.{◌≡◌, sym, ap, ◌∙◌, ℕ, ◌+◌, ◌-◌, ◌/◌, ◌≤◌, ◌++◌, arith, List, length, take, drop, length-append, length-drop, drop-drop}
use Rattle.std.proofs.Math.Seq.{take-append_seam, drop-append_seam}
use native.Mathlib.Nat.{div-zero}
use Rattle.code.specs.Marks.{excess}
use Rattle.code_engine.specs.GroupsLaws.{excess-none, excess-turn, group-next, groups-passed, lost-most}
use Rattle.marks.proofs.pattern_excess.Goals as goal

pub returns-then-w-eq0 : goal.returns-then-w-eq0
returns-then-w-eq0 c =
    let a = c.args in
    let e : length a.marks.now / a.w ≡ 0 = ap (λ w. length a.marks.now / w) c.if-w-eq0.true ∙ div-zero (length a.marks.now) in
    sym (ap (λ m. excess m a.w a.c a.marks.now) e ∙ excess-none a.w a.c a.marks.now)

pub loop-group-init : goal.loop-group-init
loop-group-init c =
    let a = c.args in
    let z = excess-none a.w a.c a.marks.now in
    let s = c.into_iter-group-iterator.ensures in
    let t = c.chunks_exact-group-items.ensures in
    (0, omega arith, omega arith, cc, cc, omega arith, omega arith, omega arith)

-- the group x that comes next, and what is left after it
module _ (m x rest : List ℕ) (a w : ℕ) (next : drop a m ≡ x ++ rest) (size : length x ≡ w) where
  own : x ≡ take (a + w - a) (drop a m)
  own = let e : a + w - a ≡ length x = omega arith in rw (e, next) (sym (take-append_seam x rest))

  left : rest ≡ drop (a + w) m
  left = sym (drop-append_seam x rest) ∙ ap (drop (length x)) (sym next) ∙ drop-drop (length x) a m ∙ ap (λ n. drop (a + n) m) size

  room : a ≤ length m → a + w ≤ length m
  room h =
      let e = length-drop a m in
      let f : length (drop a m) ≡ length (x ++ rest) = ap length next in
      let g = length-append x rest in omega arith

pub overflow_add-lost : goal.overflow_add-lost
overflow_add-lost c =
    let i = c.loop-group.invariant in
    let n = c.in-Some.ensures.steps in
    let x = c.in-Some.group.now in
    let k = lost-most (length x) x 0 in
    let r = room c.args.marks.now x _ i.0 c.args.w (sym i.4 ∙ n.1.0) (n.1.1 ∙ i.3) i.2 in
    omega (arith, i.2, i.5, n.1.1 ∙ i.3)

pub overflow_add-own : goal.overflow_add-own
overflow_add-own c =
    let i = c.loop-group.invariant in
    let n = c.in-Some.ensures.steps in
    let x = c.in-Some.group.now in
    let k = lost-most (length x) x 0 in
    let r = room c.args.marks.now x _ i.0 c.args.w (sym i.4 ∙ n.1.0) (n.1.1 ∙ i.3) i.2 in
    omega (arith, i.2, i.6, n.1.1 ∙ i.3)

pub loop-group-preserved : goal.loop-group-preserved
loop-group-preserved c =
    let a = c.args in
    let m = a.marks.now in
    let l = c.loop-group in
    let i = l.invariant in
    let n = c.in-Some.ensures.steps in
    let x = c.in-Some.group.now in
    let g : ℕ = length l.yielded in
    let next = sym i.4 ∙ n.1.0 in
    let size = n.1.1 ∙ i.3 in
    let fits = room m x _ i.0 a.w next size i.2 in
    let e = excess-turn a.w a.c m g i.0 i.1 fits (own m x _ i.0 a.w next size) in
    let k = lost-most (length x) x 0 in
    simp length-append (
      i.0 + a.w,
      group-next a.w g i.0 i.1,
      fits,
      n.0 ∙ i.3,
      left m x _ i.0 a.w next size,
      omega (arith, i.5, size),
      omega (arith, i.6, size),
      omega (arith, i.7, c.lost_in-l.ensures),
    )

pub returns : goal.returns
returns c =
    let a = c.args in
    let i = c.loop-group.invariant in
    let n = c.in-None.ensures.steps in
    let d = length-drop i.0 a.marks.now in
    let e = groups-passed a.w (length a.marks.now) (length c.loop-group.yielded) i.0 i.1 i.2 (omega (arith, i.2, ap length i.4, i.3, n.1.0)) in
    let x = ap (λ n. excess n a.w a.c a.marks.now) e in
    omega (arith, i.7)
