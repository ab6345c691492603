use Rattle.std.proofs.Common.{◌≡◌, refl, sym, ap, ◌∙◌, List, [], ◌∷◌, ℕ, ◌&&◌, eqb}
use Rattle.std.specs.Prelude.{nat_eq}
use lib.Pointwise.{pointwise}
use Rattle.text.specs.Fields.{same}
use Rattle.block_input.specs.LengthLaws.{length-long, length-unnamed, length-named}
use Rattle.text.specs.Decimal.{number_of}
use Rattle.block_input.proofs.read_length.Goals as goal

-- the library's test of two lists is that of two texts
same-is : (xs ys : List ℕ) → pointwise nat_eq xs ys ≡ same xs ys
unfolding same
same-is [] [] = refl
same-is [] (y ∷ ys) = refl
same-is (x ∷ xs) [] = refl
same-is (x ∷ xs) (y ∷ ys) = ap (λ b. eqb x y && b) (same-is xs ys)

pub returns-then-line-gt1024 : goal.returns-then-line-gt1024
returns-then-line-gt1024 c = length-long c.args.line.now c.if-line-gt1024.true

pub returns-in-Some : goal.returns-in-Some
returns-in-Some c =
    let n = c.args.line.now in
    let h = c.in-Some.ensures.cases in
    c.number.ensures.value ∙ ap (number_of 65537) h.1
    ∙ length-named n c.if-line-gt1024.false (sym (same-is _ _) ∙ h.0)

pub returns-in-None : goal.returns-in-None
returns-in-None c = length-unnamed c.args.line.now c.if-line-gt1024.false (sym (same-is _ _) ∙ c.in-None.ensures.cases)
