use Rattle.std.proofs.Common.{refl, ap, ap₂, ◌∙◌, arith, length, length-set, ◌≤◌}
use Rattle.binary_field.specs.Xor.{◌⊕◌}
use Rattle.binary_field.specs.XorLaws.{⊕-bits}
use Rattle.syndrome.specs.declared.Sums.{Sums}
use Rattle.edit.specs.Rows.{tail_marks}
use Rattle.edit.proofs.Laws.{filled, refilled}
use Rattle.edit.proofs.refill.Goals as goal

pub overflow_sub-a : goal.overflow_sub-a
overflow_sub-a c = simp length-set (omega arith)

pub shape_of-part : goal.shape_of-part
shape_of-part c =
    let a = c.args in
    c.fill.ensures.size ∙ length-set a.part.now a.j a.byte

pub returns : goal.returns
unfolding tail_marks
returns c =
    let a = c.args in
    let n : length c.fill.new.part ≤ 16 = omega (arith, c.fill.ensures.size, length-set a.part.now a.j a.byte) in
    let old = c.group_sums-old.ensures.value (omega arith) (omega arith) (omega arith) (omega arith) in
    let new = c.group_sums-new.ensures.value n (omega arith) (omega arith) (omega arith) in
    refilled _ a.c a.g a.j a.byte a.part.now c.fill.new.part _ c.requires.le_c.0 c.requires.le_c.1 c.requires.c_in_bounds.0 c.requires.c_in_bounds.1 refl
    (filled a.c a.j a.byte a.part.now c.fill.new.part (omega arith) c.fill.ensures)
    (⊕-bits _ _ ∙ ap₂ ◌⊕◌ (ap (λ (x : Sums). x.first) old) (ap (λ (x : Sums). x.first) new))
    (⊕-bits _ _ ∙ ap₂ ◌⊕◌ (ap (λ (x : Sums). x.second) old) (ap (λ (x : Sums). x.second) new))
