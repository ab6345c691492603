-- Laws: A kind by its number.
use Rattle.std.specs.Prelude.{◌≡◌, refl}
use Rattle.std.proofs.Common.{arith}
use Rattle.text_lines.specs.declared.Kind.{Kind}
use Rattle.text_lines.specs.Kinds.{kind_number}

pub kind-some : (kind : Kind) → kind_number kind ≡ 0 → ⊥
kind-some Kind.Shape z = omega arith
kind-some Kind.Data z = omega arith
kind-some Kind.Word z = omega arith

pub kind-shape : (kind : Kind) → kind_number kind ≡ 1 → kind ≡ Kind.Shape
kind-shape Kind.Shape e = refl
kind-shape Kind.Data e = absurd (omega arith)
kind-shape Kind.Word e = absurd (omega arith)

pub kind-word : (kind : Kind) → (kind ≡ Kind.Shape → ⊥) → (kind ≡ Kind.Data → ⊥) → kind ≡ Kind.Word
kind-word Kind.Shape s d = absurd (s refl)
kind-word Kind.Data s d = absurd (d refl)
kind-word Kind.Word s d = refl
