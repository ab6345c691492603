-- Laws: Two equations in two unknowns, by their determinant: it is not 0 where only zeros solve them with zeros on the right, and where it is not 0 what is
-- divided by it meets them.
use Rattle.std.specs.Prelude.{◌≡◌, ℕ, ◌^◌, ◌<◌}
use Rattle.std.proofs.Common.{sym, ap, ap₂, ◌∙◌, subst, arith}
use Rattle.binary_field.specs.Xor.{◌⊕◌}
use Rattle.binary_field.specs.XorLaws.{⊕-lt}
use Rattle.binary_field.specs.ProductLaws.{product_lt, product-one, ring}
use Rattle.binary_field.specs.Inverse.{inverse}
use Rattle.binary_field.specs.InverseLaws.{product-inverse}
use Rattle.binary_field.specs.ElementLaws.{one-lt}
use Rattle.code.specs.Edition.{Edition, Sound, times}
use Rattle.code.specs.Pair.{MetIn}

module _ {E : Edition} (S : Sound E) {a₁ a₂ b₁ b₂ : ℕ} where
  pub determinant-some : a₁ < 2 ^ E.bits → a₂ < 2 ^ E.bits → b₁ < 2 ^ E.bits → b₂ < 2 ^ E.bits
      → ((u v : ℕ) → MetIn E a₁ a₂ b₁ b₂ 0 0 u v → (u ≡ 0) × (v ≡ 0))
      → times E a₁ b₂ ⊕ times E a₂ b₁ ≡ 0 → ⊥
  determinant-some ha₁ ha₂ hb₁ hb₂ only d =
      let a = only a₂ a₁ (record { u-lt = ha₂; v-lt = ha₁; first = simp ring; second = turned ∙ d }) in
      let b = only b₂ b₁ (record { u-lt = hb₂; v-lt = hb₁; first = d; second = simp ring }) in
      let o = only 1 1 (record { u-lt = one-lt S.facts; v-lt = one-lt S.facts; first = none a.1 a.0; second = none b.1 b.0 }) in
      let z = o.0 in
      omega arith
    where
      turned : times E b₁ a₂ ⊕ times E b₂ a₁ ≡ times E a₁ b₂ ⊕ times E a₂ b₁
      turned = simp ring

      none : {x y : ℕ} → x ≡ 0 → y ≡ 0 → times E x 1 ⊕ times E y 1 ≡ 0
      none e f = ap₂ (λ x y. times E x 1 ⊕ times E y 1) e f ∙ simp ring

  pub two-met : {s t : ℕ} → s < 2 ^ E.bits → t < 2 ^ E.bits → (times E a₁ b₂ ⊕ times E a₂ b₁ ≡ 0 → ⊥) → {i u v : ℕ}
      → i ≡ inverse E.bits E.poly (times E a₁ b₂ ⊕ times E a₂ b₁)
      → u ≡ times E i (times E s b₂ ⊕ times E t a₂) → v ≡ times E i (times E a₁ t ⊕ times E b₁ s) → MetIn E a₁ a₂ b₁ b₂ s t u v
  two-met {s} {t} hs ht n {i} {u} {v} hi hu hv = record {
    u-lt = subst (λ u. u < 2 ^ E.bits) (sym hu) (product_lt E.bits E.poly i _);
    v-lt = subst (λ v. v < 2 ^ E.bits) (sym hv) (product_lt E.bits E.poly i _);
    first = ap₂ (λ u v. times E a₁ u ⊕ times E a₂ v) hu hv ∙ first ∙ back s hs;
    second = ap₂ (λ u v. times E b₁ u ⊕ times E b₂ v) hu hv ∙ second ∙ back t ht;
  }
    where
      d : ℕ
      d = times E a₁ b₂ ⊕ times E a₂ b₁

      back : (y : ℕ) → y < 2 ^ E.bits → times E y (times E d i) ≡ y
      back y h =
          ap (λ i. times E y (times E d i)) hi
          ∙ ap (times E y) (product-inverse E.bits E.poly S.facts.pos S.facts.values S.facts.tested d
          (⊕-lt E.bits _ _ (product_lt E.bits E.poly a₁ b₂) (product_lt E.bits E.poly a₂ b₁)) n)
          ∙ product-one E.bits E.poly S.facts.pos y h

      first : times E a₁ (times E i (times E s b₂ ⊕ times E t a₂)) ⊕ times E a₂ (times E i (times E a₁ t ⊕ times E b₁ s)) ≡ times E s (times E d i)
      first = simp ring

      second : times E b₁ (times E i (times E s b₂ ⊕ times E t a₂)) ⊕ times E b₂ (times E i (times E a₁ t ⊕ times E b₁ s)) ≡ times E t (times E d i)
      second = simp ring
