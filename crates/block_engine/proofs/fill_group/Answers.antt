use Rattle.std.proofs.Common.{◌≡◌, sym, ◌∙◌, List, ℕ, ◌<◌, arith, length, get_or}
use Rattle.code.specs.Marks.{lost_in}
use Rattle.block_laws.specs.PassLaws.{group-filled-at, group-named, aimed-at, group-whole, none-lost}
use Rattle.block_laws.specs.StepsLaws.{mul-within}
use Rattle.block_engine.proofs.fill_group.Goals as goal

pub returns-then-t-eq0 : goal.returns-then-t-eq0
returns-then-t-eq0 c =
    let a = c.args in
    let k : List ℕ = a.bound.now in
    let e : lost_in (length k) k 0 ≡ 0 = sym c.lost_in-t.ensures ∙ c.if-t-eq0.true in
    group-whole (length k) a.c a.size a.g k a.blocks.now e (none-lost (length k) k e)

pub returns : goal.returns
returns c =
    let a = c.args in
    let k : List ℕ = a.bound.now in
    let w : ℕ = length k in
    let p = c.requires.in_bounds in
    let P = c.requires.group_kept in
    let t : ℕ = c.lost_in-t.result in
    let e : t ≡ lost_in w k 0 = c.lost_in-t.ensures in
    let h = mul-within t w 4 w (omega arith) (omega arith) in
    let z = P.long in
    let T = c.targets-to.ensures (omega arith) in
    let small : (i : ℕ) → get_or a.blocks.now i 0 < 256 = λ i. (c.slice_known-1.given i).fits in
    group-filled-at w a.c a.g p.0 p.1 k p.2 p.3 a.size a.blocks.now small
    P.rows P.reduced _ c.targets-to.result _ t e (λ i d. P.here i (omega arith)) T
    (c.write_sums.ensures.sums_written
    (group-named w a.g a.size t a.blocks.now _ p.0 p.1 c.requires.g_bound.1 c.requires.g_bound.2 (omega arith) (omega arith))
    (aimed-at w a.g k a.size a.blocks.now c.targets-to.result t e T c.requires.g_bound.1))
