-- Laws: Four rows of sixteen that lie one after another in a list of 64.
use Rattle.std.specs.Prelude.{◌≡◌, refl, List, [], ℕ, zero, suc, ◌+◌, ◌*◌, ◌≤◌, ◌<◌, length, get_or, set}
use Rattle.std.proofs.Common.{sym, ap, ◌∙◌, arith, length-set, ext_get_or, get_or-set_same, get_or-set_other}
use Rattle.std.proofs.Math.Decide.{ℕ_discrete, dec_lt}
use Rattle.code.specs.Stretch.{stretch, with_stretch}
use Rattle.code.specs.StretchLaws.{stretch-at, stretch-length, with-length, with-inside, with-before, with-after}
use Rattle.code_engine.specs.Elimination.{row, entry}
use Rattle.solve.specs.Flat.{rows_of}

pub rows-length : (x : List ℕ) → length (rows_of x) ≡ 4
unfolding rows_of
rows-length x = refl

pub row-of : (x : List ℕ) (i : ℕ) → i < 4 → row (rows_of x) i ≡ stretch 16 i x
unfolding rows_of
row-of x zero h = refl
row-of x (suc zero) h = refl
row-of x (suc (suc zero)) h = refl
row-of x (suc (suc (suc zero))) h = refl
row-of x (suc (suc (suc (suc i)))) h = absurd (omega arith)

pub entry_of : (x : List ℕ) (i j : ℕ) → i < 4 → j < 16 → entry (rows_of x) i j ≡ get_or x (i * 16 + j) 0
entry_of x i j h l = ap (λ r. get_or r j 0) (row-of x i h) ∙ stretch-at 16 i x j l

module _ (x : List ℕ) (long : length x ≡ 64) (i : ℕ) (hi : i < 4) where
  fits : suc i * 16 ≤ length x
  fits = omega arith

  pub row-long : length (row (rows_of x) i) ≡ 16
  row-long = ap length (row-of x i hi) ∙ stretch-length 16 i x fits

  -- a row put in the place of row i
  module _ (part : List ℕ) (size : length part ≡ 16) where
    abbrev y : List ℕ
    y = with_stretch 16 i x part

    y-long : length y ≡ 64
    y-long = with-length 16 i x fits part size ∙ long

    same : stretch 16 i y ≡ part
    same =
        let n : suc i * 16 ≤ length y = (let l = y-long in omega arith) in
        ext_get_or 0 (stretch 16 i y) part (stretch-length 16 i y n ∙ sym size)
        (λ j l. let k : j < 16 = (let s = stretch-length 16 i y n in omega arith) in stretch-at 16 i y j k ∙ with-inside 16 i x fits part size j k)

    other : (e : ℕ) → e < 4 → (e ≡ i → ⊥) → stretch 16 e y ≡ stretch 16 e x
    other e h ne =
        let n : suc e * 16 ≤ length y = (let l = y-long in omega arith) in
        let o : suc e * 16 ≤ length x = omega arith in
        ext_get_or 0 (stretch 16 e y) (stretch 16 e x) (stretch-length 16 e y n ∙ sym (stretch-length 16 e x o))
        (λ j l. let k : j < 16 = (let s = stretch-length 16 e y n in omega arith) in
        stretch-at 16 e y j k ∙ elim (dec_lt e i) [
          | yes b ↦ with-before 16 i x fits part size (e * 16 + j) (omega arith)
          | no b ↦ with-after 16 i x fits part size (e * 16 + j) (omega arith)
        ] ∙ sym (stretch-at 16 e x j k))

    pub rows-with : rows_of (with_stretch 16 i x part) ≡ set (rows_of x) i part
    rows-with =
        let l = rows-length y in
        let m = rows-length x in
        ext_get_or [] (rows_of y) (set (rows_of x) i part) (l ∙ sym m ∙ sym (length-set (rows_of x) i part))
        (λ e h. elim (ℕ_discrete e i) [
          | yes q ↦ (rw q (row-of y i hi ∙ same ∙ sym (get_or-set_same (rows_of x) i part [] (omega arith))))
          | no q ↦ row-of y e (omega arith) ∙ other e (omega arith) q ∙ sym (row-of x e (omega arith)) ∙ sym (get_or-set_other (rows_of x) i e part [] q)
        ])
