use Rattle.std.proofs.Common.{◌≡◌, sym, ◌∙◌, List, ℕ, ◌-◌, arith, length}
use Rattle.code.specs.Marks.{lost_in}
use Rattle.block_laws.specs.PassLaws.{group-all, group-limit-at, kept-end, kept-laid, kept_from, group-named}
use Rattle.block_engine.proofs.test_group.Goals as goal

pub returns-then-t-c : goal.returns-then-t-c
returns-then-t-c c =
    let l = c.before in
    let b = l.before.before.before.before in
    let a = b.args in
    let k : List ℕ = a.bound.now in
    let p = b.requires.in_bounds in
    group-all (length k) a.c a.g p.0 p.1 k p.2 p.3 a.size a.blocks.now
    (λ i. (l.shared_slice_known-1.given i).fits) (sym l.lost_in-t.ensures ∙ c.if-t-c.true) a.limit

pub slice_bounds-zero_until-end : goal.slice_bounds-zero_until-end
slice_bounds-zero_until-end c =
    let l = c.before in
    let b = l.before.before.before.before in
    let a = b.args in
    let w : ℕ = length a.bound.now in
    let t : ℕ = l.lost_in-t.result in
    let e : t ≡ lost_in w a.bound.now 0 = l.lost_in-t.ensures in
    kept-end w a.kept.now b.requires.group_kept.long t (a.c - t) (omega arith)

pub returns : goal.returns
returns c =
    let l = c.before.before.before in
    let b = l.before.before.before.before in
    let a = b.args in
    let k : List ℕ = a.bound.now in
    let w : ℕ = length k in
    let p = b.requires.in_bounds in
    let P = b.requires.group_kept in
    let t : ℕ = l.lost_in-t.result in
    let e : t ≡ lost_in w k 0 = l.lost_in-t.ensures in
    group-limit-at w a.c a.g p.0 p.1 k p.2 p.3 a.size a.blocks.now
    (λ i. (l.shared_slice_known-1.given i).fits) P.rows P.reduced _ t e
    (kept_from w a.c a.g k a.kept.now P t (a.c - t) (omega arith)) a.limit c.zero_until.result
    (c.zero_until.ensures.zero_until
    (group-named w a.g a.size (a.c - t) a.blocks.now _ p.0 p.1 b.requires.g_bound.1 b.requires.g_bound.2 (omega arith)
    (kept-laid w a.kept.now P.long t (a.c - t) (omega arith))) b.requires.g_bound.3)
