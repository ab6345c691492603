-- Laws: The numbers of k digits as the elements of a field of `algebra`: the value of an element is a number below 2 ^ k, sums and products
-- of elements are those of their values. With the order of 2 this is a tower over the small field of q = r + 1 elements, q · q = 2 ^ k.
use Rattle.std.specs.Prelude.{◌≡◌, ℕ, zero, suc, ◌-◌, ◌*◌, ◌^◌, ◌<◌, ltb}
use Rattle.std.proofs.Common.{sym, ap, ap₂, ◌∙◌, subst, mul_comm, arith, ltb→lt, pow_pos}
use mathlib.Core.HLevel.{Σ_prop_path, Discrete}
use Rattle.std.proofs.Math.Nat.{mul-lt-mul_of_pos_left}
use Rattle.std.proofs.Math.Decide.{ℕ_discrete}
use Rattle.std.proofs.Math.Dec.{T_prop}
use Rattle.std.proofs.Math.Pow.{pow-lt}
use Rattle.algebra.specs.Field.{Field, pow}
use Rattle.algebra.specs.FieldLaws.{pow-zero, pow-suc}
use Rattle.algebra.specs.Tower.{Tower}
use Rattle.algebra.specs.Sum.{sum}
use Rattle.algebra.specs.SumLaws.{sum-nil, sum-cons}
use Rattle.algebra.specs.Lists.{below}
use Rattle.binary_field.specs.Xor.{◌⊕◌}
use Rattle.binary_field.specs.XorLaws.{⊕-zero-r, ⊕-comm, ⊕-self, ⊕-assoc, ⊕-lt}
use Rattle.binary_field.specs.Product.{product}
use Rattle.binary_field.specs.ProductLaws.{product_lt, product-comm, product-assoc, product-add, product-one}
use Rattle.binary_field.specs.Power.{power}
use Rattle.binary_field.specs.PowerLaws.{power_zero, power-suc, power-one, frobenius}
use Rattle.binary_field.specs.Sum.{sum_below}
use Rattle.binary_field.specs.SumLaws.{sum-none, sum-suc}
use Rattle.binary_field.specs.Inverse.{inverse}
use Rattle.binary_field.specs.InverseLaws.{inverse-lt, product-inverse, power-last}
use Rattle.binary_field.specs.ElementOrderLaws.{powers-differ}
use Rattle.binary_field.specs.Element.{Element, element, Facts}

pub element-lt : (k : ℕ) (x : Element k) → x.0 < 2 ^ k
element-lt k x = ltb→lt x.0 (2 ^ k) x.1

-- two elements of one value are one
pub same-value : (k : ℕ) {x y : Element k} → x.0 ≡ y.0 → x ≡ y
same-value k e = Σ_prop_path (λ n. T_prop (ltb n (2 ^ k))) e

pub discrete : (k : ℕ) → Discrete (Element k)
discrete k x y = go (ℕ_discrete x.0 y.0)
  where
    go : Dec (x.0 ≡ y.0) → Dec (x ≡ y)
    go (yes e) = yes (same-value k e)
    go (no n) = no (λ e. n (ap (λ (z : Element k). z.0) e))

module _ {k m r : ℕ} (I : Facts k m r) where
  pub one-lt : 1 < 2 ^ k
  one-lt = pow-lt I.pos

  abbrev pub field : Field
  field = record {
    K = Element k;
    add = λ x y. element k (x.0 ⊕ y.0) (⊕-lt k x.0 y.0 (element-lt k x) (element-lt k y));
    mul = λ x y. element k (product k m x.0 y.0) (product_lt k m x.0 y.0);
    𝟘 = element k 0 (pow_pos k);
    𝟙 = element k 1 one-lt;
    inv = λ x. element k (inverse k m x.0) (inverse-lt k m I.pos x.0);
    dec = discrete k;
    add_assoc = λ x y z. same-value k (⊕-assoc x.0 y.0 z.0);
    add_comm = λ x y. same-value k (⊕-comm x.0 y.0);
    add-zero = λ x. same-value k (⊕-zero-r x.0);
    add-self = λ x. same-value k (⊕-self x.0);
    mul_assoc = λ x y z. same-value k (product-assoc k m x.0 y.0 z.0);
    mul_comm = λ x y. same-value k (product-comm k m x.0 y.0);
    mul-one = λ x. same-value k (product-one k m I.pos x.0 (element-lt k x));
    distrib = λ x y z. same-value k (product-add k m x.0 y.0 z.0);
    one-ne-zero = λ e. let z : ◌≡◌ {A = ℕ} 1 0 = ap (λ (x : Element k). x.0) e in omega arith;
    mul-inv = λ x n. same-value k (product-inverse k m I.pos I.values I.tested x.0 (element-lt k x) (λ e. n (same-value k e)));
  }

  value : {x y : Element k} → x ≡ y → x.0 ≡ y.0
  value e = ap (λ (x : Element k). x.0) e

  pub pow-value : (x : Element k) (n : ℕ) → (pow field x n).0 ≡ power k m x.0 n
  pow-value x zero = value (pow-zero field x) ∙ sym (power_zero k m x.0)
  pow-value x (suc n) = value (pow-suc field x n) ∙ ap (product k m x.0) (pow-value x n) ∙ sym (power-suc k m x.0 n)

  pub sum-value : (n : ℕ) (f : ℕ → Element k) → (sum field (below n) f).0 ≡ sum_below n (λ i. (f i).0)
  sum-value zero f = value (sum-nil field f) ∙ sym (sum-none _)
  sum-value (suc n) f =
      value (sum-cons field n (below n) f) ∙ ap (λ s. (f n).0 ⊕ s) (sum-value n f) ∙ ⊕-comm (f n).0 _ ∙ sym (sum-suc n (λ i. (f i).0))

  pub small_power : (a : Element k) → (pow field a (suc r)).0 ≡ power k m a.0 (2 ^ I.half_digits)
  small_power a = pow-value a (suc r) ∙ ap (power k m a.0) I.size

  less : (d : ℕ) → d < r → suc (suc r) * d < 2 ^ k - 1
  less d l = subst (λ n. suc (suc r) * d < n) (mul_comm (suc (suc r)) r ∙ I.square) (mul-lt-mul_of_pos_left l (omega arith))

  pub small-order : (d : ℕ) → 0 < d → d < r → ¬ (pow field (element k 2 I.two-lt) (suc (suc r) * d) ≡ field.𝟙)
  small-order d p l e =
      let z : suc (suc r) * d ≡ 0 = I.primitive.first (suc (suc r) * d) (less d l) (sym (pow-value (element k 2 I.two-lt) (suc (suc r) * d)) ∙ value e) in
      let w : suc (suc r) * 0 < suc (suc r) * d = mul-lt-mul_of_pos_left p (omega arith) in
      omega arith

  pub two-outside : ¬ (pow field (element k 2 I.two-lt) (suc r) ≡ element k 2 I.two-lt)
  two-outside e =
      let h = I.large in
      let l : suc (suc r) * 1 < 2 ^ k - 1 = less 1 h in
      let z : suc r ≡ 1 =
      powers-differ k m I.pos 2 (2 ^ k - 1) I.primitive (suc r) 1 (omega arith) (omega arith)
      (sym (pow-value (element k 2 I.two-lt) (suc r)) ∙ value e ∙ sym (power-one k m I.pos 2 I.two-lt)) in
      omega arith

  abbrev pub tower : Tower field
  tower = record {
    r = r;
    g = element k 2 I.two-lt;
    frobenius = λ a b.
        same-value k
        (small_power (field.add a b) ∙ frobenius k m I.pos a.0 b.0 I.half_digits ∙ ap₂ ◌⊕◌ (sym (small_power a)) (sym (small_power b)));
    fermat = λ a n.
        same-value k
        (pow-value a (r * suc (suc r)) ∙ ap (power k m a.0) I.square
        ∙ power-last k m I.pos I.values I.tested a.0 (element-lt k a) (λ e. n (same-value k e)));
    order = small-order;
    outside = two-outside;
  }
