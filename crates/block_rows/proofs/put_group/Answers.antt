use Rattle.std.proofs.Common.{◌≡◌, ap, ◌∙◌, List, ℕ, suc, ◌≤◌, ◌<◌, ◌+◌, ◌*◌, ◌-◌, suc-mul, arith, length, take, drop}
use Rattle.code.specs.Stretch.{with_stretch}
use Rattle.code.specs.StretchLaws.{stretch-length, with-length}
use Rattle.code.specs.LentLaws.{stretch-lent, with-lent}
use Rattle.code_engine.specs.Elimination.{entry}
use Rattle.block_laws.specs.StepsLaws.{mul-within, add-mul}
use Rattle.block_laws.specs.PassLaws.{across-put}
use Rattle.block_rows.proofs.put_group.Goals as goal

pub group_rows-rows-requires : goal.group_rows-rows-requires
group_rows-rows-requires c = let r = c.requires.in_bounds in record { in_bounds = (r.0, r.1, r.2); coefficients = c.requires.coefficients }

pub pack-requires : goal.pack-requires
pack-requires c = (c.requires.in_bounds.1, c.requires.kept_len)

-- the places of the group, and those of its second row across
own : (g w : ℕ) → g < 15 → w ≤ 16 → g * w + w ≤ 240
own g w l n =
    let i = mul-within (g + 1) w 15 16 (omega arith) (omega arith) in
    let e = add-mul g w in
    omega arith

far : (m g w : ℕ) → m ≤ 15 → g < m → w ≤ 16 → (m + g) * w + w ≤ 480
far m g w n l h =
    let i = mul-within (m + g + 1) w 30 16 (omega arith) (omega arith) in
    let e = add-mul (m + g) w in
    omega arith

pub overflow_mul-a : goal.overflow_mul-a
overflow_mul-a c = let h = own c.args.g (length c.args.bound.now) (omega arith) c.requires.in_bounds.1 in omega arith

pub overflow_add-a : goal.overflow_add-a
overflow_add-a c = let h = own c.args.g (length c.args.bound.now) (omega arith) c.requires.in_bounds.1 in omega arith

pub slice_bounds-pack_row-end : goal.slice_bounds-pack_row-end
slice_bounds-pack_row-end c = let h = own c.args.g (length c.args.bound.now) (omega arith) c.requires.in_bounds.1 in omega arith

pub overflow_mul-b : goal.overflow_mul-b
overflow_mul-b c = let h = far c.args.m c.args.g (length c.args.bound.now) (omega arith) (omega arith) c.requires.in_bounds.1 in omega arith

pub overflow_add-b : goal.overflow_add-b
overflow_add-b c = let h = far c.args.m c.args.g (length c.args.bound.now) (omega arith) (omega arith) c.requires.in_bounds.1 in omega arith

pub slice_bounds-pack_row-end-2 : goal.slice_bounds-pack_row-end-2
slice_bounds-pack_row-end-2 c =
    let h = far c.args.m c.args.g (length c.args.bound.now) (omega arith) (omega arith) c.requires.in_bounds.1 in
    omega arith

pub returns : goal.returns
returns c =
    let a = c.args in
    let k : List ℕ = a.bound.now in
    let w : ℕ = length k in
    let g : ℕ = a.g in
    let x : List ℕ = a.out.now in
    let u : List ℕ = c.pack_row.new.out in
    let v : List ℕ = c.pack_row-2.new.out in
    let h = mul-within (a.m + g + 1) w 30 16 (omega arith) (omega arith) in
    let e = add-mul (a.m + g) w in
    let s = suc-mul (a.m + g) w in
    let t = suc-mul g w in
    let i = mul-within (g + 1) w (a.m + g + 1) w (omega arith) (omega arith) in
    let j = add-mul g w in
    let fits : suc g * w ≤ length x = omega arith in
    let fits' : suc (a.m + g) * w ≤ length x = omega arith in
    let long : length u ≡ w = c.pack_row.ensures.out_len_unchanged ∙ ap length (stretch-lent w g x) ∙ stretch-length w g x fits in
    let z : List ℕ = with_stretch w g x u in
    let fits'' : suc (a.m + g) * w ≤ length z = (let y = with-length w g x fits u long in omega arith) in
    let long' : length v ≡ w = c.pack_row-2.ensures.out_len_unchanged ∙ ap length (ap (λ o. take ((a.m + g) * w + w - (a.m + g) * w) (drop ((a.m + g) * w) o))
    (with-lent w g x u)
    ∙ stretch-lent w (a.m + g) z) ∙ stretch-length w (a.m + g) z fits'' in
    let M : ℕ → ℕ → ℕ = entry c.group_rows-rows.result in record {
      group_kept = record { long = c.pack.ensures.out_len; rows = M; reduced = c.group_rows-rows.ensures; here = c.pack.ensures.by_index };
      across_put = rw (with-lent w g x u, with-lent w (a.m + g) z v)
          (across-put a.m w a.c g k M c.group_rows-rows.ensures c.requires.in_bounds.2 x u v (omega arith) fits fits' long long' c.pack_row.ensures.by_index
          c.pack_row-2.ensures.by_index);
    }
