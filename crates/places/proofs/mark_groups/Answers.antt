use Rattle.std.proofs.Common.{◌≡◌, List, refl, sym, ap, ap₂, ◌∙◌, subst, ◌++◌, ℕ, ◌+◌, ◌-◌, ◌*◌, ◌/◌, ◌≤◌, ◌<◌, arith, rules, length, take, drop, replicate, length-drop, take-append-drop, length-take-le}
use Rattle.std.proofs.Math.Nat.{div-mul-le_self}
use Rattle.code_services.specs.PlacesRuns.{data_in, with_checks}
use Rattle.code_services.specs.PlacesLaws.{no-groups}
use Rattle.code_loops.specs.RunsLaws.{Runs, runs_of, marks-turn, marks-first, marks-last, stays, group-end, group-room}
use Rattle.places.proofs.mark_groups.Goals as goal

pub returns-then-w-eq0 : goal.returns-then-w-eq0
returns-then-w-eq0 c = sym (no-groups c.args.w c.args.c c.args.marks.now c.if-w-eq0.true)

pub loop-g-init : goal.loop-g-init
loop-g-init c =
    let a = c.args in
    let z : 0 * a.w ≡ 0 = omega arith in
    rw z (marks-first (length a.marks.now / a.w) a.w a.c a.marks.now, refl)

-- group g lies within n marks, and its part is of w places, the first d of which carry data
own : (w c n g d : ℕ) (marks : List ℕ) → g < n / w → length marks ≡ n → d ≡ data_in (n / w) w c g
    → (g * w + w ≤ length marks) × (length (take (g * w + w - g * w) (drop (g * w) marks)) ≡ w) × Runs (n / w) w c (g * w) d
own w c n g d marks l size e =
    let r = group-room (n / w) w g l in
    let h = div-mul-le_self n w in
    let k = length-drop (g * w) marks in
    let room : g * w + w ≤ length marks = omega arith in (
      room,
      length-take-le (g * w + w - g * w) (drop (g * w) marks) (omega arith) ∙ omega arith,
      subst (Runs (n / w) w c (g * w)) (sym e) (runs_of (n / w) w c g l),
    )

pub mark_part-requires : goal.mark_part-requires
mark_part-requires c =
    let a = c.args in
    let o = own a.w a.c (length a.marks.now) c.loop-g.g c.data_in.result c.loop-g.marks c.loop-g-test.true c.loop-g.auto.marks c.data_in.ensures in
    let k = o.1 in
    let f = o.2.fits in
    omega arith

pub loop-g-preserved : goal.loop-g-preserved
loop-g-preserved c =
    let a = c.args in
    let l = c.loop-g in
    let n : ℕ = length a.marks.now in
    let m : ℕ = n / a.w in
    let g : ℕ = l.g in
    let x = l.marks in
    let d : ℕ = c.data_in.result in
    let p : ℕ = g * a.w in
    let part = c.mark_part.new.part in
    let o = own a.w a.c n g d x c.loop-g-test.true l.auto.marks c.data_in.ensures in
    let e : part ≡ replicate d 0 ++ replicate (a.w - d) 1 =
    c.mark_part.ensures ∙ ap (λ q. replicate d 0 ++ replicate (q - d) 1) o.1 in
    let h = o.0 in
    rw (group-end m a.w g c.loop-g-test.true) (
      marks-turn m a.w g c.loop-g-test.true a.c p d o.2 x part (drop (p + a.w - p) (drop p x)) h e ∙ l.invariant.0,
      stays p a.w x part (omega arith) (search rules) a.marks.now l.invariant.1,
    )

pub returns : goal.returns
unfolding with_checks
returns c =
    let a = c.args in
    let l = c.loop-g in
    let x = l.marks in
    let m : ℕ = length a.marks.now / a.w in
    let e : l.g ≡ m = omega arith in
    sym (take-append-drop (l.g * a.w) x)
    ∙ ap₂ ◌++◌ (sym (marks-last m a.w a.c l.g e x (l.g * a.w)) ∙ l.invariant.0) (l.invariant.1 ∙ ap (λ k. drop (k * a.w) a.marks.now) e)
