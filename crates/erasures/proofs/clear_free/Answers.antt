use Rattle.std.proofs.Common.{◌≡◌, refl, sym, ap, ◌∙◌, ◌*◌, ◌/◌, arith, length}
use native.Mathlib.Nat.{div-zero}
use Rattle.code_engine.specs.BoundGroups.{bound_groups}
use Rattle.code_engine.specs.BoundGroupsLaws.{upto-none}
use Rattle.erasures.proofs.Laws.{group-room, group-step}
use Rattle.erasures.proofs.clear_free.Goals as goal

pub returns-then-w-eq0 : goal.returns-then-w-eq0
unfolding bound_groups
returns-then-w-eq0 c =
    let a = c.args in
    let e : length a.marks.now / a.w ≡ 0 = ap (λ w. length a.marks.now / w) c.if-w-eq0.true ∙ div-zero (length a.marks.now) in
    sym (ap (λ m. bound_groups m a.w a.c a.marks.now) e)

pub loop-g-init : goal.loop-g-init
loop-g-init c = upto-none c.args.w c.args.c c.args.marks.now

pub loop-g-preserved : goal.loop-g-preserved
loop-g-preserved c =
    let a = c.args in
    let l = c.loop-g in
    let r = c.clear_free_part in
    let room = group-room (length a.marks.now) a.w l.g c.if-w-eq0.false (omega arith) in
    group-step l.g a.w a.c (l.g * a.w) a.marks.now l.marks r.new.part refl r.ensures room l.invariant

pub returns : goal.returns
returns c =
    let a = c.args in
    let e : c.loop-g.g ≡ length a.marks.now / a.w = omega arith in
    c.loop-g.invariant.equal ∙ ap (λ m. bound_groups m a.w a.c a.marks.now) e
