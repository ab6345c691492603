-- Laws: sums of bytes that the bits of a number choose.
use Rattle.std.specs.Prelude.{◌≡◌, refl, ℕ, zero, suc, ◌+◌, ◌*◌, ◌/◌, ◌%◌, ◌^◌, ◌<◌}
use Rattle.std.proofs.Common.{sym, ap, ap₂, ◌∙◌, mod-lt, zero-lt-suc, pow-suc, div-add-mod', arith}
use Rattle.std.proofs.Math.Arith.{digits_div, digits_mod}
use Rattle.binary_field.specs.Xor.{◌⊕◌, masked}
use Rattle.binary_field.specs.XorLaws.{⊕-zero-l, ⊕-zero-r, ⊕-left-comm, masked-zero}
use Rattle.block_tables.specs.Table.{chosen}

pub chosen_none : (n : ℕ) (y : ℕ → ℕ) → chosen n 0 y ≡ 0
unfolding chosen masked
chosen_none zero y = refl
chosen_none (suc n) y = ⊕-zero-l (chosen n 0 (λ e. y (suc e))) ∙ chosen_none n (λ e. y (suc e))

pub chosen-ext : (n v : ℕ) (y z : ℕ → ℕ) → ((e : ℕ) → e < n → y e ≡ z e) → chosen n v y ≡ chosen n v z
unfolding chosen
chosen-ext zero v y z h = refl
chosen-ext (suc n) v y z h =
    ap₂ (λ a b. masked (v % 2) a ⊕ b) (h 0 (omega arith))
    (chosen-ext n (v / 2) (λ e. y (suc e)) (λ e. z (suc e)) (λ e l. h (suc e) (omega arith)))

-- one bit more at the end
pub chosen-cons : (n v p : ℕ) (y : ℕ → ℕ) → p < 2 → chosen (suc n) (v * 2 + p) y ≡ masked p (y 0) ⊕ chosen n v (λ e. y (suc e))
unfolding chosen
chosen-cons n v p y h = ap₂ (λ a b. masked a (y 0) ⊕ chosen n b (λ e. y (suc e))) (digits_mod v h) (digits_div v h)

-- a bit above those of u
pub chosen-high : (n e u : ℕ) (y : ℕ → ℕ) → e < n → u < 2 ^ e → chosen n (2 ^ e + u) y ≡ y e ⊕ chosen n u y
unfolding masked
chosen-high zero e u y l h = absurd (omega arith)
chosen-high (suc n) zero u y l h =
    let z : u ≡ 0 = omega arith in
    rw z (chosen-cons n 0 1 y (omega arith) ∙ ap (λ s. y 0 ⊕ s) (chosen_none n (λ e. y (suc e)) ∙ sym (chosen_none (suc n) y)))
chosen-high (suc n) (suc e) u y l h =
    let p : 2 ^ suc e ≡ 2 ^ e * 2 = pow-suc 2 e in
    let d : u / 2 * 2 + u % 2 ≡ u = div-add-mod' u 2 in
    let b : u % 2 < 2 = mod-lt u (zero-lt-suc 1) in
    let q : 2 ^ suc e + u ≡ (2 ^ e + u / 2) * 2 + u % 2 = omega arith in
    ap (λ v. chosen (suc n) v y) q ∙ chosen-cons n (2 ^ e + u / 2) (u % 2) y b
    ∙ ap (λ s. masked (u % 2) (y 0) ⊕ s) (chosen-high n e (u / 2) (λ i. y (suc i)) (omega arith) (omega arith))
    ∙ ⊕-left-comm (masked (u % 2) (y 0)) (y (suc e)) (chosen n (u / 2) (λ i. y (suc i)))
    ∙ ap (λ s. y (suc e) ⊕ s) (sym (chosen-cons n (u / 2) (u % 2) y b) ∙ ap (λ v. chosen (suc n) v y) d)

pub chosen-one : (n e : ℕ) (y : ℕ → ℕ) → e < n → 0 < 2 ^ e → chosen n (2 ^ e) y ≡ y e
chosen-one n e y l pos =
    let z : 2 ^ e ≡ 2 ^ e + 0 = omega arith in
    ap (λ v. chosen n v y) z ∙ chosen-high n e 0 y l pos ∙ ap (λ s. y e ⊕ s) (chosen_none n y) ∙ ⊕-zero-r (y e)

-- four bits
pub chosen-four : (p q r s : ℕ) (y : ℕ → ℕ) → p < 2 → q < 2 → r < 2 → s < 2
    → chosen 4 (p + q * 2 + r * 4 + s * 8) y ≡ masked p (y 0) ⊕ (masked q (y 1) ⊕ (masked r (y 2) ⊕ masked s (y 3)))
chosen-four p q r s y hp hq hr hs =
    let e : p + q * 2 + r * 4 + s * 8 ≡ (((0 * 2 + s) * 2 + r) * 2 + q) * 2 + p = omega arith in
    ap (λ v. chosen 4 v y) e ∙ chosen-cons 3 (((0 * 2 + s) * 2 + r) * 2 + q) p y hp
    ∙ ap (λ x. masked p (y 0) ⊕ x)
    (chosen-cons 2 ((0 * 2 + s) * 2 + r) q (λ i. y (suc i)) hq
    ∙ ap (λ x. masked q (y 1) ⊕ x)
    (chosen-cons 1 (0 * 2 + s) r (λ i. y (suc (suc i))) hr
    ∙ ap (λ x. masked r (y 2) ⊕ x) (chosen-cons 0 0 s (λ i. y (suc (suc (suc i)))) hs ∙ ⊕-zero-r-chosen)))
  where
    ⊕-zero-r-chosen : masked s (y 3) ⊕ chosen 0 0 (λ i. y (suc (suc (suc (suc i))))) ≡ masked s (y 3)
    ⊕-zero-r-chosen = ap (λ x. masked s (y 3) ⊕ x) (chosen_none 0 (λ i. y (suc (suc (suc (suc i)))))) ∙ ⊕-zero-r (masked s (y 3))

-- of zeros
pub chosen-zeros : (n v : ℕ) → chosen n v (λ _. 0) ≡ 0
unfolding chosen
chosen-zeros zero v = refl
chosen-zeros (suc n) v = ap₂ ◌⊕◌ (masked-zero (v % 2)) (chosen-zeros n (v / 2)) ∙ ⊕-zero-l 0
