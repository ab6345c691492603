use Rattle.std.proofs.Common.{◌≡◌, sym, ap, ◌∙◌, List, ℕ, ◌+◌, ◌-◌, ◌*◌, ◌/◌, ◌≤◌, ◌<◌, arith, length, take, drop, length-take-le}
use Rattle.wide_across.specs.PairsLaws.{part-size, coefficients-of, first-at, second_at, first-sum, second-sum}
use Rattle.wide_across.proofs.paired_sums.Goals as goal

-- the numbers of w pairs, in steps of eight
room : (w : ℕ) → w ≤ 16 → (2 * w ≤ (w + 3) / 4 * 8) × ((w + 3) / 4 * 8 ≤ 32)
room w l = (omega arith, omega arith)

-- the part of the row of all is as long as the front of the pairs
same_size : (c w : ℕ) (all z : List ℕ) → length all ≡ 128 → length z ≡ 32 → 0 < c → c ≤ 4 → w ≤ 16
    → length (take ((c - 1) * 32 + (w + 3) / 4 * 8 - (c - 1) * 32) (drop ((c - 1) * 32) all)) ≡ length (take ((w + 3) / 4 * 8) z)
same_size c w all z ha hz h l k =
    let r = (room w k).1 in
    part-size all ((c - 1) * 32) ((w + 3) / 4 * 8) (omega (arith, r)) ∙ sym (length-take-le ((w + 3) / 4 * 8) z (omega (arith, r)))

pub returns : goal.returns
returns c =
    let k : ℕ = c.args.c in
    let w : ℕ = length c.args.x.now in
    let n : ℕ = (w + 3) / 4 * 8 in
    let r = room w c.requires.x_len_bound in
    let C = coefficients-of c.coefficients-all.ensures k c.requires.c_nonzero.0 c.requires.c_nonzero.1 in
    let few : w ≤ 16 = c.requires.x_len_bound in
    let M = c.multiply.ensures.each_times (same_size k w c.coefficients-all.result c.pairs-z.result
    c.coefficients-all.ensures.size c.pairs-z.ensures.size c.requires.c_nonzero.0 c.requires.c_nonzero.1 few) in
    record {
      first_value = ap (λ u. u.first) c.pair_sums.ensures
          ∙ first-sum c.pairs-z.ensures n r.0 r.1 M _ (λ j l. first-at C ((k - 1) * 32 + n) j (omega arith) (omega (arith, r.0)));
      second_value = ap (λ u. u.second) c.pair_sums.ensures
          ∙ second-sum c.pairs-z.ensures n r.0 r.1 M _ (λ j l. second_at C ((k - 1) * 32 + n) j (omega arith) (omega (arith, r.0)));
    }
