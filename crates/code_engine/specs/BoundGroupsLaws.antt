-- Laws: The lost places of a whole word, group by group.
use Rattle.std.specs.Prelude.{◌≡◌, refl, Bool, true, false, not, ◌&&◌, List, eqb, get_or}
use Rattle.std.proofs.Math.Path.{sym, ap₂, subst}
use Rattle.std.proofs.Common.{ap, ◌∙◌, div-lt_iff_lt-mul, mod-lt}
use Prim.Native.Nat.{ℕ, zero, suc, ◌+◌, ◌-◌, ◌*◌, ◌/◌, ◌%◌, ◌≤◌, ◌<◌, min}
use Rattle.std.proofs.Math.Nat.{suc-mul, mul-le-mul_right, div-add-mod', min-le_left}
use native.Mathlib.Omega.{arith}
use Rattle.std.proofs.Math.Decide.{dec_lt}
use Rattle.std.proofs.Math.ListN.{length}
use Rattle.std.proofs.Math.Seq.{ext_get_or}
use Rattle.counting.specs.Count.{one, count_below}
use Rattle.counting.specs.CountLaws.{total_ext, total-sum, total-rows}
use Rattle.code.specs.Marks.{lost, lost_in, excess}
use Rattle.code.specs.Stretch.{stretch, with_stretch}
use Rattle.code.specs.StretchLaws.{stretch-at, stretch-length, stretch-count, with-length, with-inside, with-before, with-after}
use Rattle.code.specs.Limits.{Limits, GoodIn}
use Rattle.code_engine.specs.GroupsLaws.{groups-whole}
use Rattle.code_engine.specs.Bound.{free, bound_of}
use Rattle.code_engine.specs.BoundLaws.{bound-length, bound-present, bound-count, bound-full}
use Rattle.code_engine.specs.BoundGroups.{bound_groups, BoundAll, BoundUpTo}

pub upto-none : (w c : ℕ) (marks : List ℕ) → BoundUpTo 0 w c marks marks
unfolding bound_groups
upto-none w c marks = record { size = refl; done = λ h l. absurd (omega arith); rest = λ p l. refl; equal = refl }

-- two lists that are the same on a group
same-stretch : (w g : ℕ) (xs ys : List ℕ) → suc g * w ≤ length xs → suc g * w ≤ length ys
    → ((j : ℕ) → j < w → get_or xs (g * w + j) 0 ≡ get_or ys (g * w + j) 0) → stretch w g xs ≡ stretch w g ys
same-stretch w g xs ys a b e =
    ext_get_or 0 (stretch w g xs) (stretch w g ys) (stretch-length w g xs a ∙ sym (stretch-length w g ys b))
    (λ j l.
    let k : j < w = subst (λ n. j < n) (stretch-length w g xs a) l in
    stretch-at w g xs j k ∙ e j k ∙ sym (stretch-at w g ys j k))

module _ (g w c : ℕ) (marks held : List ℕ) (fits : suc g * w ≤ length marks) (K : BoundUpTo g w c marks held) where
  room : suc g * w ≤ length held
  room = subst (λ n. suc g * w ≤ n) (sym K.size) fits

  part : List ℕ
  part = bound_of c (stretch w g held)

  part-size : length part ≡ w
  unfolding part
  part-size = bound-length c (stretch w g held) ∙ stretch-length w g held room

  after : List ℕ
  after = with_stretch w g held part

  after-size : length after ≡ length held
  unfolding after
  after-size = with-length w g held room part part-size

  as_before : bound_of c (stretch w g held) ≡ bound_of c (stretch w g marks)
  as_before = ap (bound_of c) (same-stretch w g held marks room fits (λ j k. K.rest (g * w + j) (omega arith)))

  own : stretch w g after ≡ bound_of c (stretch w g marks)
  unfolding after part
  own =
      ext_get_or 0 (stretch w g after) part (stretch-length w g after long ∙ sym part-size)
      (λ j l.
      let k : j < w = subst (λ n. j < n) (stretch-length w g after long) l in
      stretch-at w g after j k ∙ with-inside w g held room part part-size j k)
      ∙ as_before
    where
      long : suc g * w ≤ length after
      long = subst (λ n. suc g * w ≤ n) (sym after-size) room

  earlier : (h : ℕ) → h < g → stretch w h after ≡ stretch w h held
  unfolding after
  earlier h l =
      let z : suc h * w ≤ g * w = mul-le-mul_right w l in
      let e = suc-mul h w in
      let f = suc-mul g w in
      let r = room in
      let s = after-size in
      same-stretch w h after held (omega arith) (omega arith) (λ j k. with-before w g held room part part-size (h * w + j) (omega arith))

  -- one group more
  pub upto-more : BoundUpTo (suc g) w c marks (with_stretch w g held (bound_of c (stretch w g held)))
  unfolding after part bound_groups
  upto-more = record {
    size = after-size ∙ K.size;
    done = λ h l. elim (dec_lt h g) [
      | yes k ↦ earlier h k ∙ K.done h k
      | no k ↦ (let e : h ≡ g = omega arith in subst (λ n. stretch w n after ≡ bound_of c (stretch w n marks)) (sym e) own)
    ];
    rest = λ p l. with-after w g held room part part-size p l ∙ K.rest p (let e = suc-mul g w in omega arith);
    equal = ap₂ (with_stretch w g) K.equal as_before;
  }

module _ (m w c : ℕ) (marks bound : List ℕ) (long : length marks ≡ m * w) (K : BoundUpTo m w c marks bound) where
  inside : (g : ℕ) → g < m → length (stretch w g marks) ≡ w
  inside g l = stretch-length w g marks (subst (λ n. suc g * w ≤ n) (sym long) (mul-le-mul_right w l))

  lost-marks : (g j : ℕ) → j < w → lost (stretch w g marks) j ≡ lost marks (g * w + j)
  lost-marks g j k = ap (λ b. eqb b 1) (stretch-at w g marks j k)

  lost-bound : (g j : ℕ) → g < m → j < w → lost (bound_of c (stretch w g marks)) j ≡ lost bound (g * w + j)
  lost-bound g j l k = ap (λ s. lost s j) (sym (K.done g l)) ∙ ap (λ b. eqb b 1) (stretch-at w g bound j k)

  present : (g j : ℕ) → g < m → j < w → lost marks (g * w + j) ≡ false → lost bound (g * w + j) ≡ false
  present g j l k e = sym (lost-bound g j l k) ∙ bound-present c (stretch w g marks) j (lost-marks g j k ∙ e)

  count_of : (g : ℕ) → g < m → lost_in w bound g ≡ lost_in (length (stretch w g marks)) (bound_of c (stretch w g marks)) 0
  count_of g l =
      sym (stretch-count w g bound) ∙ ap (λ s. lost_in w s 0) (K.done g l) ∙ ap (λ n. lost_in n (bound_of c (stretch w g marks)) 0) (sym (inside g l))

  few : (g : ℕ) → g < m → lost_in w bound g ≡ min c (lost_in w marks g)
  few g l =
      count_of g l ∙ bound-count c (stretch w g marks)
      ∙ ap (min c) (ap (λ n. lost_in n (stretch w g marks) 0) (inside g l) ∙ stretch-count w g marks)

  -- a place is lost as it is bound or free
  split : (a b : Bool) → (a ≡ false → b ≡ false) → one (a && not b) + one b ≡ one a
  split true true h = refl
  split true false h = refl
  split false true h = let z = ap one (h refl) in absurd (omega arith)
  split false false h = refl

  free_in : (g : ℕ) → g < m → count_below w (λ j. free marks bound (g * w + j)) ≡ lost_in w marks g - c
  unfolding lost_in
  free_in g l =
      let s = total-sum w (λ j. one (free marks bound (g * w + j))) (λ j. one (lost bound (g * w + j))) in
      let t = total_ext w _ (λ j. one (lost marks (g * w + j))) (λ j k. split (lost marks (g * w + j)) (lost bound (g * w + j)) (present g j l k)) in
      let f = few g l in
      omega arith

  bound_all : BoundAll m w c marks bound
  unfolding excess
  bound_all = record {
    size = K.size;
    bound-lost = λ p l e.
        let z : 0 < w = wide p l in
        let d = div-add-mod' p w in
        let k = (div-lt_iff_lt-mul z).1 l in
        subst (λ n. lost bound n ≡ false) d (present (p / w) (p % w) k (mod-lt p z) (subst (λ n. lost marks n ≡ false) (sym d) e));
    bound-few = λ g l. subst (λ n. n ≤ c) (sym (few g l)) (min-le_left c (lost_in w marks g));
    bound-full = λ g j l k e f. count_of g l ∙ bound-full c (stretch w g marks) j (lost-marks g j k ∙ e) (lost-bound g j l k ∙ f);
    free-count = total-rows m w (λ p. one (free marks bound p)) ∙ total_ext m _ _ free_in;
  }
    where
      wide : (p : ℕ) → p < m * w → 0 < w
      wide p l = elim (dec_lt 0 w) [
        | yes k ↦ k
        | no k ↦ (let e : w ≡ 0 = omega arith in let q : p < m * 0 = subst (λ n. p < m * n) e l in absurd (omega arith))
      ]

-- the whole groups of a list, bound
pub upto-groups : (w c : ℕ) (marks : List ℕ) (g : ℕ) → g * w ≤ length marks → BoundUpTo g w c marks (bound_groups g w c marks)
unfolding bound_groups
upto-groups w c marks zero fits = upto-none w c marks
upto-groups w c marks (suc g) fits =
    let e = suc-mul g w in
    let K = upto-groups w c marks g (omega arith) in
    subst (λ xs. BoundUpTo (suc g) w c marks xs) (upto-more g w c marks (bound_groups g w c marks) fits K).equal
    (upto-more g w c marks (bound_groups g w c marks) fits K)

-- so are all of them, where the list has m·w places
pub bound-groups : (m w c : ℕ) (marks : List ℕ) → length marks ≡ m * w → BoundAll m w c marks (bound_groups m w c marks)
bound-groups m w c marks long = bound_all m w c marks (bound_groups m w c marks) long (upto-groups w c marks m (omega arith))

-- the marks bound, from a copy of the marks
pub bound-copy : {B : Limits} {m w c : ℕ} {marks from bound : List ℕ} → GoodIn B m w c → length marks ≡ m * w → from ≡ marks
    → bound ≡ bound_groups (length from / w) w c from → BoundAll m w c marks bound
bound-copy {m = m} {w = w} {c = c} {marks = marks} good size e k =
    let pos : 0 < w = (let h = good.wide in omega arith) in
    subst (BoundAll m w c marks) (sym (k ∙ ap₂ (λ n x. bound_groups n w c x) (groups-whole m w pos (ap length e ∙ size)) e)) (bound-groups m w c marks size)
