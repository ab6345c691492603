-- Laws: one place more lost raises its group's count by one, and the excess by one if that count is then above c.
use Rattle.std.specs.Prelude.{◌≡◌, Bool, List, eqb, length, get_or, set}
use Rattle.std.proofs.Math.Path.{sym, ap, subst}
use Rattle.std.proofs.Common.{◌∙◌, suc-mul, mul-le-mul_right, div-add-mod', mod-lt, arith, get_or-set_same, get_or-set_other}
use Rattle.std.proofs.Math.Bool.{true, false}
use Prim.Native.Nat.{ℕ, suc, ◌+◌, ◌-◌, ◌*◌, ◌/◌, ◌%◌, ◌<◌, ◌≤◌}
use Rattle.std.proofs.Math.Decide.{dec_lt, ℕ_discrete}
use borrow.Author.Tests.{ne_eqb, lt-ltb, le-ltb}
use Rattle.std.proofs.Math.Dec.{ltb}
use Rattle.counting.specs.Count.{one}
use Rattle.counting.specs.CountLaws.{total_ext, total-bump}
use Rattle.code.specs.Marks.{lost, lost_in, group_excess, excess}
use Rattle.desk_job.specs.Figures.{lost_count, lost_counts}
use Rattle.desk_job.specs.FiguresLaws.{count-group, count_past, list_set}

-- places of different groups are different
apart : (w h g i j : ℕ) → i < w → j < w → ¬ (h ≡ g) → ¬ (h * w + i ≡ g * w + j)
apart w h g i j a b n e = elim (dec_lt h g) [
  | yes l ↦ (let k : suc h * w ≤ g * w = mul-le-mul_right w l in let s = suc-mul h w in omega arith)
  | no l ↦ (let q : g < h = omega arith in let k : suc g * w ≤ h * w = mul-le-mul_right w q in let s = suc-mul g w in omega arith)
]

module _ (marks : List ℕ) (p v : ℕ) where
  lost-other : (q : ℕ) → ¬ (q ≡ p) → lost (set marks p v) q ≡ lost marks q
  lost-other q n = ap (λ b. eqb b 1) (get_or-set_other marks p q v 0 n)

  lost-same : p < length marks → lost (set marks p v) p ≡ eqb v 1
  lost-same l = ap (λ b. eqb b 1) (get_or-set_same marks p v 0 l)

module _ (w : ℕ) (wide : 0 < w) (marks : List ℕ) (p : ℕ) where
  own : p / w * w + p % w ≡ p
  own = div-add-mod' p w

  -- the count of another group stays
  pub count-other : (v h : ℕ) → ¬ (h ≡ p / w) → lost_in w (set marks p v) h ≡ lost_in w marks h
  unfolding lost_in
  count-other v h n = total_ext w _ _ (λ i l. ap one (lost-other marks p v (h * w + i) (λ e. apart w h (p / w) i (p % w) l (mod-lt p wide) n (e ∙ sym own))))

  module _ (in-range : p < length marks) (present : get_or marks p 0 ≡ 0) where
    -- its own group's count is one more
    pub count-raised : lost_in w (set marks p 1) (p / w) ≡ suc (lost_in w marks (p / w))
    unfolding lost_in
    count-raised =
        total-bump w (p % w) (λ i. one (lost (set marks p 1) (p / w * w + i))) (λ i. one (lost marks (p / w * w + i))) (mod-lt p wide)
        (λ i l n. ap one (lost-other marks p 1 (p / w * w + i) (λ e. n (let o = own in omega arith))))
        (ap (λ q. one (lost (set marks p 1) q)) own ∙ ap one (lost-same marks p 1 in-range)
        ∙ sym (ap (λ q. suc (one (lost marks q))) own ∙ ap (λ b. suc (one b)) (ne_eqb (get_or marks p 0) 1 (λ e. omega arith))))

    -- the excess rises where that count is above c
    pub excess-raised : (m c : ℕ) → p / w < m → excess m w c (set marks p 1) ≡ excess m w c marks + one (ltb c (suc (lost_in w marks (p / w))))
    unfolding excess
    excess-raised m c l = elim (dec_lt (lost_in w marks (p / w)) c) [
      | yes h ↦
          (let a : ltb c (suc (lost_in w marks (p / w))) ≡ false = le-ltb c (suc (lost_in w marks (p / w))) (omega arith) in
          total_ext m (group_excess w c (set marks p 1)) (group_excess w c marks) (λ g k. same g h)
          ∙ (let z = ap one a in omega arith))
      | no h ↦
          (let a : ltb c (suc (lost_in w marks (p / w))) ≡ true = lt-ltb c (suc (lost_in w marks (p / w))) (omega arith) in
          total-bump m (p / w) (group_excess w c (set marks p 1)) (group_excess w c marks) l (λ g k n. ap (λ x. x - c) (count-other 1 g n))
          (let r = count-raised in omega arith)
          ∙ (let z = ap one a in omega arith))
    ]
      where
        same : (g : ℕ) → lost_in w marks (p / w) < c → group_excess w c (set marks p 1) g ≡ group_excess w c marks g
        same g h = elim (ℕ_discrete g (p / w)) [
          | yes e ↦ subst (λ g. group_excess w c (set marks p 1) g ≡ group_excess w c marks g) (sym e) (let r = count-raised in omega arith)
          | no n ↦ ap (λ x. x - c) (count-other 1 g n)
        ]

  -- the fifteen counts, with that of its group set
  pub counts-set : (m v x : ℕ) → m ≤ 15 → p / w < m → lost_in w (set marks p v) (p / w) ≡ x
      → set (lost_counts m w marks) (p / w) x ≡ lost_counts m w (set marks p v)
  counts-set m v x few l e =
      ap (set (lost_counts m w marks) (p / w)) (sym e ∙ sym (count-group m w (set marks p v) (p / w) l))
      ∙ list_set 15 (lost_count m w marks) (lost_count m w (set marks p v)) (p / w) (omega arith) (λ g k n. elim (dec_lt g m) [
        | yes h ↦ count-group m w marks g h ∙ sym (count-other v g n) ∙ sym (count-group m w (set marks p v) g h)
        | no h ↦ (let q : m ≤ g = omega arith in count_past m w marks g q ∙ sym (count_past m w (set marks p v) g q))
      ])

pub one-most : (b : Bool) → one b ≤ 1
one-most true = omega arith
one-most false = omega arith
