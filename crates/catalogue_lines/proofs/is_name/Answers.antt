use Rattle.std.proofs.Common.{arith, refl, rules, sym, ◌∙◌}
use Rattle.std.proofs.lemmas.List.Recursion.{and_is}
use Rattle.catalogue_text.specs.Names.{name_byte, name_bytes}
use Rattle.catalogue_lines.proofs.Steps.{name-none, name-long, name-bytes}
use Rattle.catalogue_lines.proofs.is_name.Goals as goal
use Rattle.catalogue_lines.proofs.is_name.Goals.{then-is_empty-via-then-is_empty, then-is_empty-via-else-is_empty+then-name-gt16}

pub returns-then-is_empty : goal.returns-then-is_empty
returns-then-is_empty c =
    elim c.then-is_empty.branch [
      | then-is_empty-via-then-is_empty w ↦ sym (name-none c.args.name.now (grind arith))
      | then-is_empty-via-else-is_empty+then-name-gt16 w ↦ sym (name-long c.args.name.now (omega arith))
    ]

pub returns : goal.returns
unfolding name_bytes
returns c =
    let n = c.args.name.now in
    and_is name_bytes name_byte refl (λ _ _. refl) n 0 c.all.result (search rules) (search rules)
    ∙ sym (name-bytes n (grind arith) c.if-name-gt16.false)
