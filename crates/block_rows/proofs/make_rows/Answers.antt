use Rattle.std.proofs.Common.{◌≡◌, List, ℕ, suc, ◌≤◌, ◌*◌, suc-mul, mul-le-mul_right, arith, length}
use Rattle.code.specs.StretchLaws.{stretch-length, stretch-count}
use Rattle.code.specs.LentLaws.{stretch-lent, with-lent}
use Rattle.block_laws.specs.PassLaws.{across-more, kept_more, kept-inside, PartsFit, parts-fit}
use Rattle.block_rows.proofs.make_rows.Goals as goal

pub overflow_mul-v : goal.overflow_mul-v
overflow_mul-v c = let q = c.requires.good_in in omega arith

pub loop-g-init : goal.loop-g-init
loop-g-init c = (
  record {
    long = omega arith;
    first = λ g l. absurd (omega arith);
    second = λ g l. absurd (omega arith);
    small = λ i. (c.slice_known-2-1.given i).fits;
  },
  record { long = omega arith; here = λ g l. absurd (omega arith) },
)

pub overflow_mul-a : goal.overflow_mul-a
overflow_mul-a c = let p : PartsFit c.args.m c.args.w c.loop-g.g = parts-fit _ _ _ _ c.requires.good_in (omega arith) in omega arith

pub overflow_add-a : goal.overflow_add-a
overflow_add-a c = let p : PartsFit c.args.m c.args.w c.loop-g.g = parts-fit _ _ _ _ c.requires.good_in (omega arith) in omega arith

pub overflow_mul-b : goal.overflow_mul-b
overflow_mul-b c = let p : PartsFit c.args.m c.args.w c.loop-g.g = parts-fit _ _ _ _ c.requires.good_in (omega arith) in omega arith

pub overflow_add-b : goal.overflow_add-b
overflow_add-b c = let p : PartsFit c.args.m c.args.w c.loop-g.g = parts-fit _ _ _ _ c.requires.good_in (omega arith) in omega arith

pub slice_bounds-put_group-end : goal.slice_bounds-put_group-end
slice_bounds-put_group-end c =
    let p : PartsFit c.args.m c.args.w c.loop-g.g = parts-fit _ _ _ _ c.requires.good_in (omega arith) in
    omega arith

pub slice_bounds-put_group-end-in-loop-g : goal.slice_bounds-put_group-end-in-loop-g
slice_bounds-put_group-end-in-loop-g c =
    let p : PartsFit c.args.m c.args.w c.loop-g.g = parts-fit _ _ _ _ c.requires.good_in (omega arith) in
    let k = c.loop-g.invariant.1.long in
    omega arith

pub put_group-requires : goal.put_group-requires
put_group-requires c =
    let a = c.args in
    let k : List ℕ = a.bound.now in
    let x : List ℕ = c.loop-g.kept in
    let g : ℕ = c.loop-g.g in
    let q = c.requires.good_in in
    let z = c.requires.bound_len.0 in
    let fits : suc g * a.w ≤ length k = (let h : suc g * a.w ≤ a.m * a.w = mul-le-mul_right a.w (omega arith) in omega arith) in
    let i = kept-inside a.m a.w a.c g q (omega arith) in
    let o = c.loop-g.invariant.1.long in
    let d = suc-mul g (4 * a.w) in
    let n = stretch-count a.w g k in
    let l = c.requires.bound_len.1 g (omega arith) in
    record {
      in_bounds =
          rw (stretch-lent a.w g k, stretch-length a.w g k fits)
          (omega arith, omega arith, omega arith, omega arith, omega arith, c.loop-g.invariant.0.long);
      kept_len = rw (stretch-lent a.w g k, stretch-lent (4 * a.w) g x, stretch-length a.w g k fits) (stretch-length (4 * a.w) g x (omega arith));
      coefficients = c.requires.coefficients;
    }

pub loop-g-preserved : goal.loop-g-preserved
loop-g-preserved c =
    let a = c.args in
    let k : List ℕ = a.bound.now in
    let x : List ℕ = c.loop-g.kept in
    let y : List ℕ = c.put_group.new.kept in
    let g : ℕ = c.loop-g.g in
    let z = c.requires.bound_len.0 in
    let fits : suc g * a.w ≤ length k = (let h : suc g * a.w ≤ a.m * a.w = mul-le-mul_right a.w (omega arith) in omega arith) in
    let i = kept-inside a.m a.w a.c g c.requires.good_in (omega arith) in
    let o = c.loop-g.invariant.1.long in
    let d = suc-mul g (4 * a.w) in (
      across-more a.m a.w a.c g k c.loop-g.out _ (omega arith) c.loop-g.invariant.0
          (rw (stretch-lent a.w g k, stretch-length a.w g k fits) at c.put_group.ensures.across_put) (λ i. (c.slice_known-in-loop-g-2-1.given i).fits),
      rw (with-lent (4 * a.w) g x y)
          (kept_more a.w a.c g k x y (omega arith) c.loop-g.invariant.1
          (rw (stretch-lent a.w g k, stretch-length a.w g k fits) at c.put_group.ensures.group_kept)),
    )

pub shape_of-kept : goal.shape_of-kept
shape_of-kept c =
    let l = c.loop-g.invariant.1.long in let z = c.requires.bound_len.3 in omega arith

pub shape_of-out : goal.shape_of-out
shape_of-out c =
    let l = c.loop-g.invariant.0.long in let z = c.requires.bound_len.2 in omega arith

pub returns : goal.returns
returns c =
    let e : c.loop-g.g ≡ c.args.m = omega arith in
    record { kept_up_to = (rw e at c.loop-g.invariant.1); across_rows = (rw e at c.loop-g.invariant.0) }
