-- Laws of the figures of a loss pattern.
use Rattle.std.specs.Prelude.{◌≡◌, refl, Bool, true, false, ◌&&◌, List, ℕ, zero, suc, ◌+◌, ◌-◌, ◌*◌, ◌<◌, ◌≤◌, T, length, get_or, take, drop, set, replicate}
use Rattle.std.proofs.Common.{sym, ap₂, ◌∙◌, subst, add-one, arith, lt-ltb, le-ltb, length-set, ext_get_or, get_or-set_same, get_or-set_other}
use Rattle.std.proofs.Math.Path.{ap}
use Rattle.std.proofs.Math.Bool.{cond}
use Rattle.std.proofs.Math.Decide.{ℕ_discrete, dec_lt}
use Rattle.std.proofs.lemmas.List.{get_or-replicate}
use Rattle.counting.specs.Test.{all_below}
use Rattle.counting.specs.TestLaws.{all-at}
use Rattle.shape.specs.Shapes.{byte_limits}
use Rattle.code.specs.Marks.{lost_in}
use Rattle.code.specs.Determined.{list_of}
use Rattle.code.specs.DeterminedLaws.{list_length, list_at}
use Rattle.code.specs.StretchLaws.{stretch-count}
use Rattle.code.specs.LentLaws.{part-stretch, part_length}
use Rattle.code.specs.Lent.{LentIn}
use Rattle.desk_job.specs.Figures.{lost_count, lost_counts}

module _ (m w : ℕ) (marks : List ℕ) (g : ℕ) where
  pub count-group : g < m → lost_count m w marks g ≡ lost_in w marks g
  unfolding lost_count
  count-group h = ap (λ b. cond b (lost_in w marks g) 0) (lt-ltb g m h)

  pub count_past : m ≤ g → lost_count m w marks g ≡ 0
  unfolding lost_count
  count_past h = ap (λ b. cond b (lost_in w marks g) 0) (le-ltb g m h)

-- a list of values with one value set
pub list_set : (n : ℕ) (f h : ℕ → ℕ) (i : ℕ) → i < n → ((k : ℕ) → k < n → ¬ (k ≡ i) → f k ≡ h k) → set (list_of n f) i (h i) ≡ list_of n h
list_set n f h i l same =
    ext_get_or 0 (set (list_of n f) i (h i)) (list_of n h) (length-set (list_of n f) i (h i) ∙ list_length n f ∙ sym (list_length n h)) λ k q.
    let b : k < n = subst (λ z. k < z) (length-set (list_of n f) i (h i) ∙ list_length n f) q in
    elim (ℕ_discrete k i) [
      | yes e ↦
          ap (λ z. get_or (set (list_of n f) i (h i)) z 0) e
          ∙ get_or-set_same (list_of n f) i (h i) 0 (subst (λ z. i < z) (sym (list_length n f)) l)
          ∙ sym (list_at n h i l)
          ∙ ap (λ z. get_or (list_of n h) z 0) (sym e)
      | no e ↦ get_or-set_other (list_of n f) i k (h i) 0 e ∙ list_at n f k b ∙ same k b e ∙ sym (list_at n h k b)
    ]

-- before the first group all counts are 0
pub counts-none : (w : ℕ) (marks : List ℕ) → replicate 15 0 ≡ lost_counts 0 w marks
counts-none w marks =
    ext_get_or 0 (replicate 15 0) (lost_counts 0 w marks) (sym (list_length 15 (lost_count 0 w marks))) λ k q.
    get_or-replicate 15 k 0 0 q ∙ sym (list_at 15 (lost_count 0 w marks) k q ∙ count_past 0 w marks k (omega arith))

-- one turn of the counts: the part that is lent is the group's stretch
pub counts-turn : {m w c : ℕ} {marks : List ℕ} (L : LentIn byte_limits m w c marks) (g : ℕ) → g < m → {part : List ℕ}
    → part ≡ take (g * w + w - g * w) (drop (g * w) marks)
    → set (lost_counts g w marks) g (lost_in (length part) part 0) ≡ lost_counts (g + 1) w marks
counts-turn {m} {w} {c} {marks} L g l {part} is =
    let few = L.good.few in
    ap (set (lost_counts g w marks) g)
    (ap₂ (λ n x. lost_in n x 0) (part_length L g l is) (part-stretch L g l is) ∙ stretch-count w g marks ∙ sym (count-group (g + 1) w marks g (omega arith)))
    ∙ list_set 15 (lost_count g w marks) (lost_count (g + 1) w marks) g (omega arith) (λ k b n. elim (dec_lt k g) [
      | yes h ↦ count-group g w marks k h ∙ sym (count-group (g + 1) w marks k (omega arith))
      | no h ↦ (let a : g ≤ k = omega arith in let b : g + 1 ≤ k = omega arith in count_past g w marks k a ∙ sym (count_past (g + 1) w marks k b))
    ])

-- ---- tests over the counts

pub all-turn : (n : ℕ) (f : ℕ → Bool) → all_below n f ≡ true → f n ≡ true → all_below (n + 1) f ≡ true
all-turn n f h e = rw (add-one, e, h)

pub all-broken : (n : ℕ) (f : ℕ → Bool) (i : ℕ) → i < n → f i ≡ false → all_below n f ≡ false
all-broken n f i l e = go (all_below n f) refl
  where
    go : (v : Bool) → all_below n f ≡ v → v ≡ false
    go true d = absurd (subst T e (all-at n f (subst T (sym d) tt) i l))
    go false d = refl

pub all-ext : (n : ℕ) (f h : ℕ → Bool) → ((i : ℕ) → i < n → f i ≡ h i) → all_below n f ≡ all_below n h
all-ext zero f h same = refl
all-ext (suc n) f h same = ap₂ ◌&&◌ (same n (omega arith)) (all-ext n f h (λ i l. same i (omega arith)))
