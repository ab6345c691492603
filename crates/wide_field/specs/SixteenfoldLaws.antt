-- Laws: Sixteen times a symbol, and a product by the digits of one factor.
use Rattle.std.specs.Prelude.{◌≡◌, Bool, ℕ, ◌+◌, ◌*◌, ◌/◌, ◌%◌, ◌<◌, T, eqb}
use Rattle.std.proofs.Common.{sym, ap, ap₂, ◌∙◌, mod-lt, div-add-mod', div-lt_iff_lt-mul, mod-eq_of_lt, arith, lit<, eqb→eq}
use Rattle.std.proofs.Math.Nat.{add-mul-mod_self_right}
use Rattle.counting.specs.Test.{all_below}
use Rattle.counting.specs.TestLaws.{all-at}
use Rattle.binary_field.specs.Xor.{◌⊕◌, masked}
use Rattle.binary_field.specs.XorLaws.{⊕-comm, ⊕-assoc, ⊕-zero-l}
use Rattle.binary_field.specs.Product.{double, product}
use Rattle.binary_field.specs.ProductLaws.{double-low, double-lt, double-add, double-product, product-comm, product-add, product-one, product-zero}
use Rattle.binary_field.specs.AdditiveLaws.{parts}
use Rattle.wide_field.specs.Sixteenfold.{sixteenfold}

-- twice the one factor
double-right : (a x : ℕ) → x < 65536 → product 16 69643 a (double 16 69643 x) ≡ double 16 69643 (product 16 69643 a x)
double-right a x l =
    product-comm 16 69643 a (double 16 69643 x) ∙ double-product 16 69643 x a l ∙ ap (double 16 69643) (product-comm 16 69643 x a)

-- one digit of the second factor
halved : (a n : ℕ) → a < 65536 → n < 65536 → product 16 69643 a n ≡ product 16 69643 a (n % 2) ⊕ product 16 69643 (double 16 69643 a) (n / 2)
halved a n la ln =
    let h : n / 2 * 2 < 65536 = (let q = div-add-mod' n 2 in omega arith) in
    let l : n / 2 < 65536 = omega arith in
    ap (product 16 69643 a) (parts n 1 (lit< tt)) ∙ product-add 16 69643 a (n / 2 * 2) (n % 2)
    ∙ ⊕-comm (product 16 69643 a (n / 2 * 2)) (product 16 69643 a (n % 2))
    ∙ ap (λ s. product 16 69643 a (n % 2) ⊕ s)
    (ap (product 16 69643 a) (sym (double-low 16 69643 (n / 2) h)) ∙ double-right a (n / 2) l ∙ sym (double-product 16 69643 a (n / 2) la))

pub digit_set : (s a n : ℕ) → a < 65536 → n < 65536 → n % 2 ≡ 1
    → (s ⊕ a) ⊕ product 16 69643 (double 16 69643 a) (n / 2) ≡ s ⊕ product 16 69643 a n
digit_set s a n la ln e =
    ⊕-assoc s a _
    ∙ ap (λ x. s ⊕ x)
    (sym (halved a n la ln ∙ ap (λ x. x ⊕ product 16 69643 (double 16 69643 a) (n / 2)) (ap (product 16 69643 a) e ∙ product-one 16 69643 (lit< tt) a la)))

pub digit_clear : (s a n : ℕ) → a < 65536 → n < 65536 → n % 2 ≡ 0 → s ⊕ product 16 69643 (double 16 69643 a) (n / 2) ≡ s ⊕ product 16 69643 a n
digit_clear s a n la ln e =
    ap (λ x. s ⊕ x)
    (sym (halved a n la ln ∙ ap (λ x. x ⊕ product 16 69643 (double 16 69643 a) (n / 2)) (ap (product 16 69643 a) e ∙ product-zero 16 69643 a) ∙ ⊕-zero-l _))

-- without a bit that is shifted out
sixteen-low : (x : ℕ) → x < 4096 → sixteenfold x ≡ x * 16
sixteen-low x l =
    let a : x * 2 < 65536 = omega arith in
    let b : x * 2 * 2 < 65536 = omega arith in
    let c : x * 2 * 2 * 2 < 65536 = omega arith in
    let d : x * 2 * 2 * 2 * 2 < 65536 = omega arith in
    let e : x * 2 * 2 * 2 * 2 ≡ x * 16 = omega arith in
    ap (λ y. double 16 69643 (double 16 69643 (double 16 69643 y))) (double-low 16 69643 x a)
    ∙ ap (λ y. double 16 69643 (double 16 69643 y)) (double-low 16 69643 (x * 2) b)
    ∙ ap (double 16 69643) (double-low 16 69643 (x * 2 * 2) c) ∙ double-low 16 69643 (x * 2 * 2 * 2) d ∙ e

sixteen-add : (x y : ℕ) → sixteenfold (x ⊕ y) ≡ sixteenfold x ⊕ sixteenfold y
sixteen-add x y =
    ap (λ z. double 16 69643 (double 16 69643 (double 16 69643 z))) (double-add 16 69643 x y)
    ∙ ap (λ z. double 16 69643 (double 16 69643 z)) (double-add 16 69643 _ _) ∙ ap (double 16 69643) (double-add 16 69643 _ _) ∙ double-add 16 69643 _ _

-- what the four highest bits become
high_of : ℕ → ℕ
high_of h = h ⊕ (h * 2 % 65536 ⊕ (h * 8 % 65536 ⊕ h * 4096 % 65536))

high_right : ℕ → Bool
high_right h = eqb (high_of h) (sixteenfold (h * 4096))

high-right : T (all_below 16 high_right)
unfolding high_right high_of double masked ◌⊕◌
high-right = tt

pub sixteen-is : (a : ℕ) → a < 65536
    → a * 16 % 65536 ⊕ (a / 4096 ⊕ (a / 4096 * 2 % 65536 ⊕ (a / 4096 * 8 % 65536 ⊕ a / 4096 * 4096 % 65536))) ≡ sixteenfold a
unfolding high_of high_right
sixteen-is a l =
    let q = div-add-mod' a 4096 in
    let m : a % 4096 < 4096 = mod-lt a (lit< tt) in
    let h : a / 4096 < 16 = (div-lt_iff_lt-mul (lit< tt)).1 l in
    ap₂ ◌⊕◌ (low q m) (eqb→eq (high_of (a / 4096)) (sixteenfold (a / 4096 * 4096)) (all-at 16 high_right high-right (a / 4096) h))
    ∙ ⊕-comm (sixteenfold (a % 4096)) (sixteenfold (a / 4096 * 4096)) ∙ sym (ap sixteenfold (parts a 12 (lit< tt)) ∙ sixteen-add (a / 4096 * 4096) (a % 4096))
  where
    low : a / 4096 * 4096 + a % 4096 ≡ a → a % 4096 < 4096 → a * 16 % 65536 ≡ sixteenfold (a % 4096)
    low q m =
        let e : a * 16 ≡ a % 4096 * 16 + a / 4096 * 65536 = omega arith in
        let b : a % 4096 * 16 < 65536 = omega arith in
        ap (λ n. n % 65536) e ∙ add-mul-mod_self_right (a % 4096 * 16) (a / 4096) 65536 ∙ mod-eq_of_lt b ∙ sym (sixteen-low (a % 4096) m)

-- four digits of the second factor
pub digits-four : (a b : ℕ) → a < 65536 → b < 65536
    → product 16 69643 a b ≡ sixteenfold (product 16 69643 a (b / 16)) ⊕ product 16 69643 a (b % 16)
digits-four a b la lb =
    let x : b / 16 < 4096 = (div-lt_iff_lt-mul (lit< tt)).1 lb in
    ap (product 16 69643 a) (parts b 4 (lit< tt)) ∙ product-add 16 69643 a (b / 16 * 16) (b % 16)
    ∙ ap (λ s. s ⊕ product 16 69643 a (b % 16)) (ap (product 16 69643 a) (sym (sixteen-low (b / 16) x)) ∙ through (b / 16) (omega arith))
  where
    through : (x : ℕ) → x < 65536 → product 16 69643 a (sixteenfold x) ≡ sixteenfold (product 16 69643 a x)
    through x l =
        double-right a _ (double-lt 16 69643 _) ∙ ap (double 16 69643) (double-right a _ (double-lt 16 69643 _))
        ∙ ap (λ z. double 16 69643 (double 16 69643 z)) (double-right a _ (double-lt 16 69643 x))
        ∙ ap (λ z. double 16 69643 (double 16 69643 (double 16 69643 z))) (double-right a x l)
