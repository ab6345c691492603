use Rattle.std.proofs.Common.{pow_pos, ◌≡◌, sym, ap, ◌∙◌, List, ℕ, ◌+◌, ◌*◌, ◌^◌, ◌≤◌, ◌<◌, pow-suc, add-one, pow_mono, get_or, arith}
use native.Mathlib.Decide.{ℕ_discrete}
use lib.Pow.{pow-lt}
use Rattle.block_sums.proofs.load.Goals as goal

pub copy_part-requires : goal.copy_part-requires
copy_part-requires c =
    let l = c.loop-e in
    let p = c.requires.by_index l.e (omega arith) (omega arith) in
    let q : l.e ≤ 3 = omega arith in
    let m : 2 ^ l.e ≤ 2 ^ 3 = pow_mono q in
    let t = l.invariant.1 in
    let u = c.requires.n_bound.1 in
    record { t_len_bound = (omega arith, c.requires.n_bound.2); n_in_bounds = (p, omega arith) }

pub loop-e-preserved : goal.loop-e-preserved
loop-e-preserved c =
    let l = c.loop-e in
    let a = c.args in
    let m = c.copy_part.ensures in
    let x : List ℕ = c.copy_part.new.t in
    let n = c.requires.n_bound.0 in
    let z : 0 < 2 ^ l.e = pow_pos l.e in (
      (let p = pow-suc 2 l.e in
          let q : 2 ^ l.e * 96 * 2 ≡ 2 ^ l.e * 2 * 96 = omega arith in
          ap (λ k. k * 2) l.invariant.0 ∙ q ∙ ap (λ k. k * 96) (sym p ∙ ap (λ k. 2 ^ k) (sym (add-one l.e)))),
      m.long ∙ l.invariant.1,
      (λ f i h b. elim (ℕ_discrete f l.e) [
        | yes q ↦ (rw q (ap (λ k. get_or x (k + i) 0) (sym l.invariant.0) ∙ m.here i b))
        | no q ↦
            (let p : 2 ^ f < 2 ^ l.e = pow-lt (let r : f < l.e = omega arith in r) in
            m.below (2 ^ f * 96 + i) (omega arith) ∙ l.invariant.2 f i (omega arith) b)
      ]),
      λ i h. m.below i (omega arith) ∙ l.invariant.3 i h,
    )
