-- Counts of lost places, as the loops gather them.
use Rattle.std.specs.Prelude.{◌≡◌, Bool, List, ℕ, suc, ◌+◌, ◌-◌, ◌*◌, ◌/◌, ◌<◌, ◌≤◌, length, take, drop}
use Rattle.std.proofs.Common.{sym, ap, ap₂, ◌∙◌, suc-mul, mul-div_cancel, add-one, arith}
use Rattle.std.proofs.Math.Nat.{div-eq_of_lt-le}
use Rattle.counting.specs.Count.{total_below, count_below, one}
use Rattle.counting.specs.CountLaws.{total-none, total-suc, total_ext, count-le}
use Rattle.code.specs.Marks.{lost, lost_in, group_excess, excess}
use Rattle.code.specs.Stretch.{stretch}
use Rattle.code.specs.StretchLaws.{own-place, stretch-length, stretch-count}
use Rattle.code.specs.LentLaws.{stretch-lent}

-- the places of one group's stretch, counted
pub lost-whole : (part : List ℕ) → count_below (length part) (lost part) ≡ lost_in (length part) part 0
unfolding lost_in
lost-whole part =
    total_ext (length part) _ _ (λ j _. ap (λ n. one (lost part n)) (sym (own-place (length part) j)))

pub lost-most : (w : ℕ) (marks : List ℕ) (g : ℕ) → lost_in w marks g ≤ w
unfolding lost_in
lost-most w marks g = count-le w (λ j. lost marks (g * w + j))

-- one turn of a count
pub count_turn : (n : ℕ) (f : ℕ → Bool) (v : Bool) → f n ≡ v → count_below (n + 1) f ≡ count_below n f + one v
count_turn n f v e = ap (λ i. count_below i f) (add-one n) ∙ total-suc n _ ∙ ap (λ b. count_below n f + one b) e

pub excess-none : (w c : ℕ) (marks : List ℕ) → excess 0 w c marks ≡ 0
unfolding excess
excess-none w c marks = total-none _

-- one turn of an excess: the part that is lent is the group's stretch
pub excess-turn : (w c : ℕ) (marks : List ℕ) (g a : ℕ) → a ≡ g * w → a + w ≤ length marks → {part : List ℕ} → part ≡ take (a + w - a) (drop a marks)
    → excess (g + 1) w c marks ≡ excess g w c marks + (lost_in (length part) part 0 - c)
unfolding excess
excess-turn w c marks g a at fits {part} is =
    ap (λ n. total_below n (group_excess w c marks)) (add-one g) ∙ total-suc g _
    ∙ ap (λ n. excess g w c marks + (n - c)) (sym (ap₂ (λ n x. lost_in n x 0) (ap length own ∙ stretch-length w g marks room) own ∙ stretch-count w g marks))
  where
    own : part ≡ stretch w g marks
    own = is ∙ ap (λ n. take (n + w - n) (drop n marks)) at ∙ stretch-lent w g marks

    room : suc g * w ≤ length marks
    room = let e = suc-mul g w in omega arith

-- where the next group starts
pub group-next : (w g a : ℕ) → a ≡ g * w → a + w ≡ (g + 1) * w
group-next w g a at = ap (λ n. n + w) at ∙ sym (ap (λ n. n * w) (add-one g) ∙ suc-mul g w)

-- the groups of a list of m·w places, and those of one that ends before another group would
pub groups-whole : (m w : ℕ) {n : ℕ} → 0 < w → n ≡ m * w → n / w ≡ m
groups-whole m w pos e = ap (λ n. n / w) e ∙ mul-div_cancel m pos

pub groups-passed : (w n g a : ℕ) → a ≡ g * w → a ≤ n → n - a < w → n / w ≡ g
groups-passed w n g a at passed left = div-eq_of_lt-le w (omega arith) (let e = group-next w g a at in omega arith)
