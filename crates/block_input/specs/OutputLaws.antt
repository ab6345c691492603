-- Laws: A whole run, as the code says it.
use Rattle.std.specs.Prelude.{◌≡◌, drop, Result, Err}
use Rattle.std.specs.Result.{IsErr, IsErrAnd}
use Rattle.std.proofs.lemmas.Result.{err_from_is_err_and}
use Rattle.std.proofs.Math.Path.{refl, sym, ap}
use Rattle.std.proofs.Common.{ap₂, ◌∙◌, drop_of_length-le}
use Rattle.std.proofs.Math.Bool.{true}
use mathlib.Core.List.{List, ◌++◌, append-nil}
use Prim.Native.Nat.{ℕ, zero, suc, ◌-◌, ◌≤◌}
use native.Mathlib.Omega.{arith}
use Rattle.std.proofs.Math.ListN.{length, take, length-drop}
use Rattle.std.proofs.Math.Seq.{take_all}
use Rattle.code.specs.RefusalsLaws.{unless-refused}
use Rattle.block_rebuild.specs.declared.Failure.{Failure}
use Rattle.block_rebuild.specs.Rebuild.{RebuildOutcome, rebuild_of, outcome_rebuilt}
use Rattle.block_input.specs.declared.InputFailure.{InputFailure}
use Rattle.block_input.specs.declared.Head.{Head}
use Rattle.block_input.specs.Head.{head_refusal, input_blocks}
use Rattle.block_input.specs.Parts.{ReadsHead}
use Rattle.block_input.specs.Output.{input_outcome, start_of, rebuilt_verdict, verdict_unless, verdict_of, held_of}

-- refused by one of the lines
module _ (input : List ℕ) (r : ℕ) (is : r ≡ head_refusal true input) (n : r ≡ 0 → ⊥) where
  pub verdict-refused : Err (InputFailure.Line r) ≡ verdict_of input
  unfolding verdict_of
  verdict-refused = go (head_refusal true input) is
    where
      go : (q : ℕ) → r ≡ q → Err (InputFailure.Line r) ≡ verdict_unless q (rebuilt_verdict (start_of input) (outcome_rebuilt (input_outcome input)))
      go zero e = absurd (n e)
      go (suc q) e = ap (λ k. Err (InputFailure.Line k)) e

  pub held-refused : input ≡ held_of input
  unfolding held_of
  held-refused = sym (unless-refused (head_refusal true input) _ input (λ z. n (is ∙ z)))

-- what the exit of a `?` returns: the failure of the rebuild
pub passed-on : {f : Failure} {r : Result ℕ InputFailure} → IsErr r × IsErrAnd r (λ y. y ≡ InputFailure.Blocks f) → r ≡ Err (InputFailure.Blocks f)
passed-on {f} {r} E = let p = err_from_is_err_and r E.1 in p.1 ∙ ap Err p.2

-- the lines read
module _ (input : List ℕ) (head : Head) (H : ReadsHead true input head) (none : head.refusal ≡ 0) where
  pub marks-fit : head.count ≤ length head.marks
  marks-fit = (H.marks refl none).fits

  pub start_is : head.start ≡ start_of input
  start_is =
      let d = length-drop head.start input in
      let e : length (drop head.start input) ≡ length (input_blocks input) = ap length H.blocks.back in
      let f = H.blocks.fits in
      omega arith

  -- what the rebuild is called on, and what it gives
  abbrev pub called : RebuildOutcome
  called = rebuild_of head.m head.w head.c head.size (take (length input - head.start) (drop head.start input))
      (take head.count head.marks)

  pub called_is : called ≡ input_outcome input
  unfolding input_outcome
  called_is =
      rw (
        H.m,
        H.w,
        H.c,
        H.size,
        (H.marks refl none).front,
        take_all (length input - head.start) (drop head.start input) (let d = length-drop head.start input in omega arith),
        H.blocks.back,
      )

  pub verdict-is : (b : Result Unit Failure) → b ≡ outcome_rebuilt called → rebuilt_verdict head.start b ≡ verdict_of input
  unfolding verdict_of
  verdict-is b e = rw (sym H.refusal ∙ none) (ap₂ rebuilt_verdict start_is (e ∙ ap outcome_rebuilt called_is))

  pub held-is : (blocks : List ℕ) → blocks ≡ called.blocks
      → take head.start input ++ (blocks ++ drop (length input - head.start) (drop head.start input)) ≡ held_of input
  unfolding held_of
  held-is blocks e =
      let d = length-drop head.start input in
      let f : length (drop head.start input) ≤ length input - head.start = omega arith in
      rw (drop_of_length-le (drop head.start input) f, append-nil, sym H.refusal ∙ none)
      (ap₂ (λ s b. take s input ++ b) start_is (e ∙ ap (λ o. o.blocks) called_is))
