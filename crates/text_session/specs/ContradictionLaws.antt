-- The line of a 9: when Recover answers 9 to the bytes of a word line, and the group that it names.
use Rattle.std.specs.Prelude.{◌≡◌, List, ltb}
use Rattle.std.proofs.Math.Path.{refl, ap}
use Rattle.std.proofs.Common.{sym, ◌∙◌, ne_eqb}
use Prim.Native.Nat.{ℕ, zero, suc, ◌≤◌, ◌^◌}
use native.Mathlib.Omega.{arith}
use Rattle.shape.specs.Shapes.{byte_limits}
use Rattle.byte_edition.specs.Edition.{byte_edition}
use Rattle.code.specs.Word.{is_codeword}
use Rattle.code.specs.Marks.{excess}
use Rattle.code.specs.Contradiction.{contradicting_group}
use Rattle.code.specs.Outcome.{Outcome, eight, nine, done}
use Rattle.code.specs.OutcomeLaws.{cases, nine-group}
use Rattle.code.specs.Recovery.{recovered}
use Rattle.recover.specs.NumbersLaws.{recover-most}
use Rattle.code_services.specs.Recover.{unless_before, recover_in, recover_refusal_in}
use Rattle.code_services.specs.AttemptLaws.{accepted}
use Rattle.code_services.specs.Attempt.{AcceptedIn}
use Rattle.text.specs.Records.{line_kind, line_bytes, line_marks}
use Rattle.text_session.specs.Turn.{contradictory_turn, word_turn, record_turn, turn_of}

module _ (m w c : ℕ) (word marks : List ℕ) where
  -- the refusals 1 to 6 come before it
  pub nine-accepted : (recover_in byte_edition m w c word marks).number ≡ 9 → AcceptedIn byte_limits m w c word marks
  unfolding recover_in
  nine-accepted = go (recover_refusal_in byte_limits m w c word marks) refl
    where
      go : (r : ℕ) → r ≡ recover_refusal_in byte_limits m w c word marks → (unless_before r (recovered byte_edition m w c word marks) word marks).number ≡ 9
          → AcceptedIn byte_limits m w c word marks
      go zero e _ = accepted m w c word marks 0 e refl
      go (suc r) e n = let h = recover-most m w c word marks in absurd (omega arith)

  pub nine-names : (recover_in byte_edition m w c word marks).number ≡ 9
      → (recover_in byte_edition m w c word marks).group ≡ contradicting_group byte_edition m w c word marks
  unfolding recover_in
  nine-names e =
      let is : recover_in byte_edition m w c word marks ≡ recovered byte_edition m w c word marks =
      ap (λ r. unless_before r (recovered byte_edition m w c word marks) word marks) (nine-accepted e).refusal in
      ap (λ o. o.group) is
      ∙ nine-group (2 ^ byte_edition.bits) (is_codeword byte_edition m w c) (ltb 2 (excess m w c marks)) (contradicting_group byte_edition m w c word marks) word
      marks
      (sym (ap (λ o. o.number) is) ∙ e)

  -- no number of Recover is above 9
  pub recovered-most : (recover_in byte_edition m w c word marks).number ≤ 9
  unfolding recover_in
  recovered-most = go (recover_refusal_in byte_limits m w c word marks) refl
    where
      go : (r : ℕ) → r ≡ recover_refusal_in byte_limits m w c word marks → (unless_before r (recovered byte_edition m w c word marks) word marks).number ≤ 9
      go zero _ = elim (cases (2 ^ byte_edition.bits) (is_codeword byte_edition m w c) (ltb 2 (excess m w c marks))
          (contradicting_group byte_edition m w c word marks) word marks) [
            | eight _ e ↦ (let n = ap (λ (o : Outcome). o.number) e in omega arith)
            | nine _ _ e ↦ (let n = ap (λ (o : Outcome). o.number) e in omega arith)
            | done _ _ _ e ↦ (let n = ap (λ (o : Outcome). o.number) e in omega arith)
          ]
      go (suc r) e = let h = recover-most m w c word marks in omega arith

-- "The program writes refused, 9 and that number"
pub nine-line : (line : List ℕ) (m w c : ℕ) → line_kind line ≡ 3 → (recover_in byte_edition m w c (line_bytes line) (line_marks line)).number ≡ 9
    → turn_of line m w c ≡ contradictory_turn (contradicting_group byte_edition m w c (line_bytes line) (line_marks line)) m w c
unfolding turn_of record_turn word_turn
nine-line line m w c k e =
    let g = (nine-accepted m w c (line_bytes line) (line_marks line) e).good in
    rw (k, ne_eqb m 0 (omega arith), e, nine-names m w c (line_bytes line) (line_marks line) e)
