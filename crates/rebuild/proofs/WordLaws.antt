-- The word that a 9 carries is below the length of a block, and so below 2 ^ 32.
use Rattle.std.specs.Prelude.{◌≡◌, refl, Bool, true, false, cond, ◌&&◌, List, [], ◌∷◌, ℕ, zero, suc, ◌+◌, ◌-◌, ◌*◌, ◌≤◌, ◌<◌}
use Rattle.std.specs.Prelude.{eqb, leb, ltb, length, take, drop, Result, Ok, Err}
use Rattle.std.proofs.Common.{ap, arith, ltb-true}
use Rattle.text.specs.Decimal.{is_digit, unreadable, digits_after, number_of}
use Rattle.text.specs.Fields.{same}
use Rattle.answers.specs.Answers.{refusal_at}
use Rattle.block_rebuild.specs.declared.Failure.{Failure}
use Rattle.block_rebuild.specs.Rebuild.{rebuild_refusal, contradictory_rebuild, done_rebuild, rebuild_unless, word_outcome, contradicting_word}
use Rattle.block_rebuild.specs.Rebuild.{rebuilt_blocks, words_outcome, rebuild_of, rebuilt_at, rebuilt_word}
use Rattle.block_input.specs.declared.InputFailure.{InputFailure}
use Rattle.block_input.specs.Length.{length_start, length_of}
use Rattle.block_input.specs.Head.{head_refusal, input_length}
use Rattle.block_input.specs.Output.{input_outcome, start_of, rebuilt_verdict, verdict_unless, verdict_of}

-- ---- a length that is read is at most 65,538
digits-most : (bound a : ℕ) (xs : List ℕ) → a ≤ bound + 1 → digits_after bound a xs ≤ bound + 1
unfolding digits_after
digits-most bound a [] h = h
digits-most bound a (x ∷ xs) h =
    go (is_digit x) (ltb (10 * a + (x - 48)) bound) refl (digits-most bound (10 * a + (x - 48)) xs)
  where
    go : (p q : Bool) → ltb (10 * a + (x - 48)) bound ≡ q
        → (10 * a + (x - 48) ≤ bound + 1 → digits_after bound (10 * a + (x - 48)) xs ≤ bound + 1)
        → cond (p && q) (digits_after bound (10 * a + (x - 48)) xs) (unreadable bound) ≤ bound + 1
    go true true e f = let l = ltb-true (10 * a + (x - 48)) bound e in f (omega arith)
    go true false e f = omega arith
    go false q e f = omega arith

number-most : (bound : ℕ) (xs : List ℕ) → number_of bound xs ≤ bound + 1
unfolding number_of
number-most bound [] = omega arith
number-most bound (x ∷ []) = digits-most bound 0 (x ∷ []) (omega arith)
number-most bound (x ∷ y ∷ ys) = go (eqb x 48)
  where
    go : (b : Bool) → cond b (unreadable bound) (digits_after bound 0 (x ∷ y ∷ ys)) ≤ bound + 1
    go true = omega arith
    go false = digits-most bound 0 (x ∷ y ∷ ys) (omega arith)

length-most : (line : List ℕ) → length_of line ≤ 65538
unfolding length_of
length-most line = go (leb (length line) 1024 && same (take 7 line) length_start)
  where
    go : (b : Bool) → cond b (number_of 65537 (drop 7 line)) (unreadable 65537) ≤ 65538
    go true = number-most 65537 (drop 7 line)
    go false = omega arith

-- ---- the word of an outcome is at most the length of a block
word-most : (m w c size : ℕ) (blocks marks : List ℕ) → (rebuild_of m w c size blocks marks).word ≤ size
unfolding rebuild_of
word-most m w c size blocks marks = go (rebuild_refusal m w c size (length blocks) marks)
  where
    low : ℕ
    low = contradicting_word m w c size blocks marks

    within : (b : Bool) → ltb low size ≡ b
        → (cond b (contradictory_rebuild low (word_outcome m w c size blocks marks low).group blocks marks)
        (done_rebuild (rebuilt_blocks m w c size blocks marks) marks)).word ≤ size
    within true e = let l = ltb-true low size e in omega arith
    within false e = omega arith

    go : (r : ℕ) → (rebuild_unless r (words_outcome m w c size blocks marks) blocks marks).word ≤ size
    go zero = within (ltb low size) refl
    go (suc r) = omega arith

-- ---- the word of a verdict
abbrev word_of : Result ℕ InputFailure → ℕ
word_of (Ok start) = 0
word_of (Err (InputFailure.Line r)) = 0
word_of (Err (InputFailure.Blocks failure)) = rebuilt_word (Err failure)

verdict-word : (r start number word group : ℕ) → word_of (verdict_unless r (rebuilt_verdict start (rebuilt_at number word group))) ≤ word
verdict-word (suc r) start number word group = omega arith
verdict-word zero start zero word group = omega arith
verdict-word zero start (suc n) word group = go (eqb (suc n) 9)
  where
    go : (b : Bool) → word_of (rebuilt_verdict start (cond b (Err (Failure.Contradictory word group)) (Err (Failure.Refused (refusal_at (suc n) 0))))) ≤ word
    go true = omega arith
    go false = omega arith

verdict-most : (input : List ℕ) → word_of (verdict_of input) ≤ (input_outcome input).word
unfolding verdict_of
verdict-most input = verdict-word (head_refusal true input) (start_of input) (input_outcome input).number (input_outcome input).word (input_outcome input).group

outcome-most : (input : List ℕ) → (input_outcome input).word ≤ input_length input
unfolding input_outcome
outcome-most input = word-most _ _ _ (input_length input) _ _

pub word_low : (input : List ℕ) (failure : Failure) → verdict_of input ≡ Err (InputFailure.Blocks failure) → rebuilt_word (Err failure) < 4294967296
word_low input failure e =
    let v : word_of (verdict_of input) ≤ (input_outcome input).word = verdict-most input in
    let o : (input_outcome input).word ≤ input_length input = outcome-most input in
    let n : input_length input ≤ 65538 = length-most _ in
    let f : word_of (verdict_of input) ≡ rebuilt_word (Err failure) = ap word_of e in
    omega arith
