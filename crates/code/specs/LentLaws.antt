-- Laws: A word or marks that are lent with a good shape, and the part of them that a loop over the groups lends on.
use Rattle.std.specs.Prelude.{◌≡◌, List, ◌++◌, ℕ, suc, ◌+◌, ◌-◌, ◌*◌, ◌<◌, ◌≤◌, length, take, drop}
use Rattle.std.proofs.Common.{sym, ap, ◌∙◌, subst, suc-mul, mul-le-mul_right, arith, drop-drop}
use Rattle.code.specs.Stretch.{stretch, with_stretch}
use Rattle.code.specs.StretchLaws.{stretch-length}
use Rattle.code.specs.Lent.{LentIn}
use Rattle.code.specs.Limits.{Limits, word_refusal_in}
use Rattle.code.specs.LimitsLaws.{good-of-word, word-of-good}

pub lent : {B : Limits} (m w c : ℕ) (xs : List ℕ) → word_refusal_in B m w c (length xs) ≡ 0 → LentIn B m w c xs
lent m w c xs e = let g = good-of-word m w c (length xs) e in record { good = g.0; size = g.1 }

pub not-refused : {B : Limits} (m w c : ℕ) (xs : List ℕ) → LentIn B m w c xs → word_refusal_in B m w c (length xs) ≡ 0
not-refused m w c xs L = word-of-good m w c (length xs) L.good L.size

-- the part from g·w to g·w + w, as it is lent
pub stretch-lent : (w g : ℕ) (xs : List ℕ) → take (g * w + w - g * w) (drop (g * w) xs) ≡ stretch w g xs
unfolding stretch
stretch-lent w g xs = let e : g * w + w - g * w ≡ w = omega arith in ap (λ n. take n (drop (g * w) xs)) e

module _ {B : Limits} {m w c : ℕ} {xs : List ℕ} (L : LentIn B m w c xs) (g : ℕ) (l : g < m) where
  -- the stretch of group g lies within the list
  pub group-fits : suc g * w ≤ length xs
  group-fits = subst (λ n. suc g * w ≤ n) (sym L.size) (mul-le-mul_right w l)

  pub end_fits : g * w + w ≤ length xs
  end_fits = subst (λ n. n ≤ length xs) (suc-mul g w) group-fits

  -- the part from g·w to g·w + w
  module _ {part : List ℕ} (is : part ≡ take (g * w + w - g * w) (drop (g * w) xs)) where
    pub part-stretch : part ≡ stretch w g xs
    part-stretch = is ∙ stretch-lent w g xs

    pub part_length : length part ≡ w
    part_length = ap length part-stretch ∙ stretch-length w g xs group-fits

    pub part-narrow : length part ≤ B.width
    part-narrow = subst (λ n. n ≤ B.width) (sym part_length) L.good.narrow

-- the list with the part from g·w to g·w + w replaced
pub with-lent : (w g : ℕ) (xs part : List ℕ) → take (g * w) xs ++ (part ++ drop (g * w + w - g * w) (drop (g * w) xs)) ≡ with_stretch w g xs part
unfolding with_stretch
with-lent w g xs part =
    let e : g * w + (g * w + w - g * w) ≡ suc g * w = (let s = suc-mul g w in omega arith) in
    ap (λ s. take (g * w) xs ++ (part ++ s)) (drop-drop (g * w + w - g * w) (g * w) xs ∙ ap (λ n. drop n xs) e)
