-- "The program writes refused, 9 and that number": a line refused, 9 without a group is never written.
use Rattle.std.specs.Prelude.{◌≡◌, List, [], ◌∷◌, ℕ, zero, suc, ◌≤◌, ◌<◌, length, get_or}
use Rattle.std.proofs.Common.{sym, ap, subst, arith}
use Rattle.counting.specs.FirstLaws.{first-most}
use Rattle.byte_edition.specs.Edition.{byte_edition}
use Rattle.code.specs.Contradiction.{is_broken, contradicting_group}
use Rattle.text.specs.Decimal.{without}
use Rattle.code_services.specs.Recover.{recover_in}
use Rattle.text.specs.Records.{line_bytes, line_marks}
use Rattle.text.specs.Lines.{line_with, refused_name, ok_line, refused_line, contradictory_line, word_line}
use Rattle.text.specs.ReadBack.{Bytes}
use Rattle.text.specs.ReadBackLaws.{numbers-same}
use Rattle.text_session.specs.Turn.{turn_of}
use Rattle.text_session.specs.ContradictionLaws.{nine-accepted, nine-names}
use Rattle.text_stream.specs.OutputLinesLaws.{turn-cases}

one_byte : (r : ℕ) → r < 256 → Bytes (r ∷ [])
one_byte r l zero = l
one_byte r l (suc i) = omega arith

two_bytes : (r s : ℕ) → r < 256 → s < 256 → Bytes (r ∷ s ∷ [])
two_bytes r s l k zero = l
two_bytes r s l k (suc i) = one_byte s k i

-- the group of a 9 is m at most, and so a byte
group-most : (m w c : ℕ) (word marks : List ℕ) → (recover_in byte_edition m w c word marks).number ≡ 9 → (recover_in byte_edition m w c word marks).group ≤ 15
unfolding contradicting_group
group-most m w c word marks e =
    let g = (nine-accepted m w c word marks e).good in
    let n = nine-names m w c word marks e in
    let l : contradicting_group byte_edition m w c word marks ≤ m = first-most m (is_broken byte_edition w c word marks) in
    subst (λ x. x ≤ 15) (sym n) (omega arith)

pub no-plain-nine : (line : List ℕ) (m w c : ℕ) → (turn_of line m w c).output ≡ refused_line 9 → ⊥
unfolding line_with ok_line refused_line contradictory_line word_line without
no-plain-nine line m w c =
    turn-cases (λ t. t.output ≡ refused_line 9 → ⊥) line m w c
    (λ r l n e. n (ap (λ xs. get_or xs 0 0) (numbers-same refused_name (r ∷ []) (9 ∷ []) tt (one_byte r (omega arith)) (one_byte 9 (omega arith)) e)))
    (λ z e.
    let l = group-most m w c (line_bytes line) (line_marks line) z in
    let k = ap length (numbers-same refused_name (9 ∷ _ ∷ []) (9 ∷ []) tt (two_bytes 9 _ (omega arith) (omega arith)) (one_byte 9 (omega arith)) e) in
    omega arith)
    (λ a b d e. let z : ◌≡◌ {A = ℕ} 111 114 = first e in absurd (omega arith))
    (λ _ e. let z : ◌≡◌ {A = ℕ} 119 114 = first e in absurd (omega arith))
    (λ _ e. let z : ◌≡◌ {A = ℕ} 119 114 = first e in absurd (omega arith))
  where
    first : {xs ys : List ℕ} → xs ≡ ys → get_or xs 0 0 ≡ get_or ys 0 0
    first e = ap (λ xs. get_or xs 0 0) e
