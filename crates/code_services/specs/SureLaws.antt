-- Laws: Losses counted over the whole word against the excess, which is counted by groups.
use Rattle.std.specs.Prelude.{◌≡◌, refl, List, ℕ, zero, suc, ◌+◌, ◌-◌, ◌*◌, ◌<◌, ◌≤◌, length, get_or}
use Rattle.std.proofs.Common.{ap, subst, suc-mul, mul-le-mul_right, arith}
use Rattle.std.proofs.Math.Decide.{dec_lt, ℕ_discrete}
use Rattle.counting.specs.Count.{total_below, count_below, one}
use Rattle.counting.specs.CountLaws.{total-none, total-suc, total-zero, total_first, total-rows, total_mono}
use Rattle.code.specs.Marks.{lost, lost_in, group_excess, excess}
use Rattle.code.specs.Limits.{Limits, sure_count, GoodIn}
use Rattle.code.specs.LimitsLaws.{sure-narrow, sure-wide}
use Rattle.code_engine.specs.GroupsLaws.{lost-most}
use Rattle.code_services.specs.Sure.{first_lost}

-- all lost places, by groups
lost-by-groups : (m w : ℕ) (marks : List ℕ) → count_below (m * w) (lost marks) ≡ total_below m (lost_in w marks)
unfolding lost_in
lost-by-groups m w marks = total-rows m w (λ p. one (lost marks p))

-- what exceeds c group by group is no more than what exceeds c in all
excess-most : (m w c : ℕ) (marks : List ℕ) → excess m w c marks ≤ total_below m (lost_in w marks) - c
unfolding excess
excess-most zero w c marks = let z = total-none (group_excess w c marks) in omega arith
excess-most (suc m) w c marks =
    let h = excess-most m w c marks in
    let a = total-suc m (group_excess w c marks) in
    let b = total-suc m (lost_in w marks) in omega arith

-- "no group can have excess above 2, so a failing pattern needs two groups"
narrow-most : (m w c : ℕ) (marks : List ℕ) → w ≡ c + 2 → 2 < excess m w c marks → 2 * c + excess m w c marks ≤ total_below m (lost_in w marks)
unfolding excess
narrow-most zero w c marks e h = let z = total-none (group_excess w c marks) in absurd (omega arith)
narrow-most (suc m) w c marks e h =
    let ih = narrow-most m w c marks e in
    let k = excess-most m w c marks in
    let l = lost-most w marks m in
    let a = total-suc m (group_excess w c marks) in
    let b = total-suc m (lost_in w marks) in
    elim (dec_lt 2 (excess m w c marks)) [
      | yes q ↦ (let i = ih q in omega arith)
      | no q ↦ omega arith
    ]

-- that many losses leave an excess of at most 2
pub sure-excess : (m w c : ℕ) (marks : List ℕ) → count_below (m * w) (lost marks) ≤ sure_count w c → excess m w c marks ≤ 2
sure-excess m w c marks h =
    let t = lost-by-groups m w marks in
    elim (dec_lt 2 (excess m w c marks)) [
      | no q ↦ omega arith
      | yes q ↦ (elim (ℕ_discrete w (c + 2)) [
        | yes e ↦ (let s = sure-narrow w c e in let l = narrow-most m w c marks e q in omega arith)
        | no e ↦ (let s = sure-wide w c e in let l = excess-most m w c marks in omega arith)
      ])
    ]

pub first-length : (n r : ℕ) → length (first_lost n r) ≡ n
first-length zero r = refl
first-length (suc n) zero = ap suc (first-length n zero)
first-length (suc n) (suc r) = ap suc (first-length n r)

pub first-mark : (n r p : ℕ) → get_or (first_lost n r) p 0 < 2
first-mark zero r p = omega arith
first-mark (suc n) zero zero = omega arith
first-mark (suc n) zero (suc p) = first-mark n zero p
first-mark (suc n) (suc r) zero = omega arith
first-mark (suc n) (suc r) (suc p) = first-mark n r p

pub first_count : (n r p : ℕ) → r ≤ n → r ≤ p → count_below p (lost (first_lost n r)) ≡ r
first_count n zero zero h k = total-none _
first_count n (suc r) zero h k = absurd (omega arith)
first_count zero zero (suc p) h k = total-zero (suc p) _ (λ i l. refl)
first_count zero (suc r) (suc p) h k = absurd (omega arith)
first_count (suc n) zero (suc p) h k =
    let a = total_first p (λ i. one (lost (first_lost (suc n) zero) i)) in
    let b = first_count n zero p (omega arith) (omega arith) in omega arith
first_count (suc n) (suc r) (suc p) h k =
    let a = total_first p (λ i. one (lost (first_lost (suc n) (suc r)) i)) in
    let b = first_count n r p (omega arith) (omega arith) in omega arith

-- what exceeds c in each of i groups is no less than what exceeds i times c in all of them
excess-least : (i w c : ℕ) (marks : List ℕ) → total_below i (lost_in w marks) ≤ excess i w c marks + i * c
unfolding excess
excess-least zero w c marks = let z = total-none (lost_in w marks) in omega arith
excess-least (suc i) w c marks =
    let h = excess-least i w c marks in
    let s = suc-mul i c in
    let a = total-suc i (group_excess w c marks) in
    let b = total-suc i (lost_in w marks) in omega arith

-- so the first ic+3 places lost, or more, all in i groups, are too many
many-lost : (m w c i r : ℕ) → i ≤ m → i * c + 3 ≤ r → r ≤ i * w → (r ≤ m * w) × (2 < excess m w c (first_lost (m * w) r))
unfolding excess
many-lost m w c i r l h k =
    let x = first_lost (m * w) r in
    let n : i * w ≤ m * w = mul-le-mul_right w l in
    let a = first_count (m * w) r (i * w) (omega arith) k in
    let b = lost-by-groups i w x in
    let d = excess-least i w c x in
    let o = total_mono (group_excess w c x) l in
    (omega arith, omega arith)

-- one loss more than the sure count: "two groups, 2c+3 places in all" if w = c+2, one group and c+3 places otherwise
pub first-many : {L : Limits} {m w c : ℕ} → GoodIn L m w c → (sure_count w c + 1 ≤ m * w) × (2 < excess m w c (first_lost (m * w) (sure_count w c + 1)))
first-many {L} {m} {w} {c} g = elim (ℕ_discrete w (c + 2)) [
  | yes e ↦
      (let s = sure-narrow w c e in
      let d : w - c ≡ 2 = omega arith in
      let q : 3 ≤ m * 2 = subst (λ x. 3 ≤ m * x) d g.room in
      many-lost m w c 2 (sure_count w c + 1) (omega arith) (omega arith) (omega arith))
  | no e ↦
      (let s = sure-wide w c e in
      many-lost m w c 1 (sure_count w c + 1) (omega arith) (omega arith) (omega arith))
]
