-- Laws: A run of the program: however the input is cut into parts, what is written is the output of the whole input.
use Rattle.std.specs.Prelude.{◌≡◌, refl, Bool, true, false, cond, List, [], ◌∷◌, ◌++◌, eqb, length, take, Result, Ok, Err}
use Rattle.std.proofs.Common.{sym, ◌∙◌, append_assoc, append-nil, take_all, length-take-le, drop_at}
use Rattle.std.proofs.Math.Path.{ap}
use Prim.Native.Nat.{ℕ, zero, suc, ◌*◌, ◌≤◌, ◌<◌}
use native.Mathlib.Omega.{arith}
use Rattle.std.proofs.Math.Decide.{dec_le, ℕ_discrete}
use Rattle.std.proofs.lemmas.List.{take-append-le}
use Rattle.code.specs.Refusals.{◌or_else◌, unless_refused}
use Rattle.shape.specs.Shapes.{byte_limits}
use Rattle.code.specs.Limits.{place_count}
use Rattle.code_services.specs.Marks.{marks_refusal_in}
use Rattle.text.specs.Records.{line_bytes}
use Rattle.text.specs.RecordLaws.{kind-long}
use Rattle.text.specs.Lines.{refused_line}
use Rattle.text_lines.proofs.LineKinds.{numbers-long}
use Rattle.answers.specs.Answers.{refusal_at}
use Rattle.block_rebuild.specs.declared.Failure.{Failure}
use Rattle.block_rebuild.specs.Rebuild.{blocks_refusal, rebuild_refusal, refused_rebuild, rebuild_of, outcome_rebuilt}
use Rattle.block_rebuild.proofs.RebuildLaws.{blocks-other, blocks-many, rebuild-refused}
use Rattle.block_input.specs.declared.ShapeLine.{ShapeLine}
use Rattle.block_input.specs.Lines.{until_line_feed, after_line, settled}
use Rattle.block_input.specs.Length.{length_of}
use Rattle.block_input.specs.LengthLaws.{length-long}
use Rattle.block_input.specs.Head.{shape_line_of, marks_name, marks_line_refusal, length_line_refusal, length_part, marks_part, head_refusal}
use Rattle.block_input.specs.Output.{rebuilt_output, input_outcome, output_unless, output_of, start_of}
use Rattle.block_input.specs.Output.{rebuilt_verdict, verdict_unless, verdict_of, held_of, verdict_output}
use Rattle.block_input.specs.Run.{room, together, output_for, RebuildRun, ended, full, refused, more}
use Rattle.block_input.specs.ChainLaws.{unless-twice, on_line, on-cut, on-more}

-- ---- lines of more than 1,024 bytes
shape-long : (line : List ℕ) → 1024 < length line → (shape_line_of line).refusal ≡ 14
unfolding shape_line_of
shape-long line l = rw (kind-long line l)

marks-long : (m w c : ℕ) (line : List ℕ) → 1024 < length line → marks_line_refusal m w c line ≡ 14
unfolding marks_line_refusal
marks-long m w c line l = rw (← numbers-long marks_name line l)

length-refused : (line : List ℕ) → 1024 < length line → length_line_refusal line ≡ 14
unfolding length_line_refusal
length-refused line l = rw (← length-long line l)

-- ---- what is written from each line on
blocks_out : ℕ → ℕ → ℕ → List ℕ → ℕ → List ℕ → List ℕ
blocks_out m w c marks size blocks = rebuilt_output (outcome_rebuilt (rebuild_of m w c size blocks marks)) (rebuild_of m w c size blocks marks).blocks

after_length : ℕ → ℕ → ℕ → List ℕ → List ℕ → List ℕ → List ℕ
after_length m w c marks line rest = blocks_out m w c marks (length_of line) rest

after_marks : ℕ → ℕ → ℕ → List ℕ → List ℕ → List ℕ
after_marks m w c line rest = on_line length_line_refusal length-refused (after_length m w c (line_bytes line)) rest

after_shape : List ℕ → List ℕ → List ℕ
after_shape line rest =
    on_line (marks_line_refusal (shape_line_of line).m (shape_line_of line).w (shape_line_of line).c)
    (marks-long (shape_line_of line).m (shape_line_of line).w (shape_line_of line).c)
    (after_marks (shape_line_of line).m (shape_line_of line).w (shape_line_of line).c) rest

shape_out : List ℕ → List ℕ
shape_out input = on_line (λ line. (shape_line_of line).refusal) shape-long after_shape input

out-chain : (input : List ℕ) → output_of input ≡ shape_out input
unfolding output_of head_refusal marks_part length_part input_outcome settled shape_out after_shape after_marks after_length blocks_out
out-chain input =
    let s : ShapeLine = shape_line_of (until_line_feed input) in
    let r : List ℕ = after_line input in
    let b : ℕ = marks_line_refusal s.m s.w s.c (until_line_feed r) in
    let d : ℕ = length_line_refusal (until_line_feed (after_line r)) in
    let o : List ℕ = blocks_out s.m s.w s.c (line_bytes (until_line_feed r)) (length_of (until_line_feed (after_line r))) (after_line (after_line r)) in
    unless-twice s.refusal (b or_else d) o ∙ ap (output_unless s.refusal) (unless-twice b d o)

-- ---- more than 65,536 bytes of blocks are refused, whatever they are
module _ (m w c size : ℕ) (marks : List ℕ) where
  large : (lent : ℕ) → 65536 < lent → 27 ≡ blocks_refusal (place_count m w) size lent
  large lent l = elim (ℕ_discrete lent (place_count m w * size)) [
    | yes e ↦ blocks-many (place_count m w) size lent (omega arith)
    | no n ↦ blocks-other (place_count m w) size lent n
  ]

  large-refusal : (lent : ℕ) → 65536 < lent → (marks_refusal_in byte_limits m w c marks or_else 27) ≡ rebuild_refusal m w c size lent marks
  unfolding rebuild_refusal
  large-refusal lent l = rw (← large lent l)

  large-out : (blocks : List ℕ) → 65536 < length blocks
      → blocks_out m w c marks size blocks
      ≡ rebuilt_output (outcome_rebuilt (refused_rebuild (marks_refusal_in byte_limits m w c marks or_else 27) blocks marks))
      blocks
  unfolding blocks_out
  large-out blocks l =
      let e = rebuild-refused m w c size blocks marks (marks_refusal_in byte_limits m w c marks or_else 27) (large-refusal (length blocks) l)
      (some (marks_refusal_in byte_limits m w c marks)) in
      ap (λ o. rebuilt_output (outcome_rebuilt o) o.blocks) e
    where
      some : (r : ℕ) → (r or_else 27) ≡ 0 → ⊥
      some zero e = omega arith
      some (suc r) e = omega arith

  blocks-cut : (k : ℕ) (blocks : List ℕ) → 65537 ≤ k → blocks_out m w c marks size (take k blocks) ≡ blocks_out m w c marks size blocks
  blocks-cut k blocks l = elim (dec_le (length blocks) k) [
    | yes h ↦ ap (blocks_out m w c marks size) (take_all k blocks h)
    | no h ↦
        (let e = length-take-le k blocks (omega arith) in
        large-out (take k blocks) (omega arith) ∙ alike (marks_refusal_in byte_limits m w c marks) (take k blocks) blocks
        ∙ sym (large-out blocks (omega arith)))
  ]
    where
      which : (b : Bool) (r : ℕ) (xs ys : List ℕ)
          → rebuilt_output (cond b (Err (Failure.Contradictory 0 0)) (Err (Failure.Refused (refusal_at r 0)))) xs
          ≡ rebuilt_output (cond b (Err (Failure.Contradictory 0 0)) (Err (Failure.Refused (refusal_at r 0)))) ys
      which true r xs ys = refl
      which false r xs ys = refl

      alike : (r : ℕ) (xs ys : List ℕ)
          → rebuilt_output (outcome_rebuilt (refused_rebuild (r or_else 27) xs marks)) xs
          ≡ rebuilt_output (outcome_rebuilt (refused_rebuild (r or_else 27) ys marks)) ys
      alike zero xs ys = refl
      alike (suc r) xs ys = which (eqb (suc r) 9) (suc r) xs ys

-- ---- The first 68,612 bytes of an input tell all, so that memory is bounded however long it is
pub out-cut : (input : List ℕ) → output_of (take room input) ≡ output_of input
unfolding shape_out after_shape after_marks after_length
out-cut input =
    out-chain (take room input)
    ∙ on-cut (λ line. (shape_line_of line).refusal) shape-long after_shape 67587
    (λ line k rest l. on-cut _ (marks-long _ _ _) (after_marks (shape_line_of line).m (shape_line_of line).w (shape_line_of line).c) 66562
    (λ line₂ k₂ rest₂ l₂. on-cut length_line_refusal length-refused (after_length _ _ _ (line_bytes line₂)) 65537
    (λ line₃ k₃ rest₃ l₃. blocks-cut _ _ _ (length_of line₃) (line_bytes line₂) k₃ rest₃ l₃) k₂ rest₂ l₂) k rest l)
    room input (omega arith)
    ∙ sym (out-chain input)

-- ---- a refusal of the lines that are settled is that of the whole input
pub out-more : (xs ys : List ℕ) (q : ℕ) → head_refusal false xs ≡ suc q → output_of (xs ++ ys) ≡ refused_line (suc q)
unfolding head_refusal marks_part length_part shape_out after_shape after_marks
out-more xs ys q e =
    out-chain (xs ++ ys)
    ∙ on-more (λ line. (shape_line_of line).refusal) shape-long after_shape
    (λ line rest. marks_part false (shape_line_of line).m (shape_line_of line).w (shape_line_of line).c rest) q ys
    (λ line rest d. on-more _ (marks-long _ _ _) (after_marks (shape_line_of line).m (shape_line_of line).w (shape_line_of line).c)
    (λ line₂ rest₂. length_part false rest₂) q ys
    (λ line₂ rest₂ d₂. on-more length_line_refusal length-refused (after_length _ _ _ (line_bytes line₂)) (λ _ _. 0) q ys
    (λ line₃ rest₃ d₃. absurd (omega arith)) rest₂ (no_more (settled false rest₂) (length_line_refusal (until_line_feed rest₂)) d₂)) rest d) xs e
  where
    no_more : (b : Bool) (r : ℕ) → cond b r 0 ≡ suc q → cond b (r or_else 0) 0 ≡ suc q
    no_more true zero d = d
    no_more true (suc r) d = d
    no_more false r d = d

-- ---- what the code says of a whole input
pub answered-is : (input : List ℕ) → output_for input ≡ output_of input
unfolding verdict_of held_of output_of
answered-is input = go (head_refusal true input) (outcome_rebuilt (input_outcome input))
  where
    go : (r : ℕ) (b : Result Unit Failure)
        → verdict_output (verdict_unless r (rebuilt_verdict (start_of input) b))
        (unless_refused r (take (start_of input) input ++ (input_outcome input).blocks) input)
        ≡ output_unless r (rebuilt_output b (input_outcome input).blocks)
    go zero (Ok done) = drop_at (take (start_of input) input) (input_outcome input).blocks (start_of input)
        (length-take-le (start_of input) input (omega arith))
    go zero (Err (Failure.Contradictory x g)) = refl
    go zero (Err (Failure.Refused e)) = refl
    go (suc r) b = refl

-- ---- a whole run
together-more : (came : List ℕ) (parts : List (List ℕ)) → together came parts ≡ came ++ together [] parts
unfolding together
together-more came [] = sym (append-nil came)
together-more came (part ∷ parts) =
    together-more (came ++ part) parts ∙ append_assoc came part (together [] parts) ∙ ap (λ l. came ++ l) (sym (together-more part parts))

-- The whole output is that of the whole input, however the input is cut
pub run-output : {came : List ℕ} {parts : List (List ℕ)} {output : List ℕ} → RebuildRun came parts output → output ≡ output_of (together came parts)
unfolding together
run-output (ended came) = answered-is came
run-output (full came parts l) =
    answered-is (take room came) ∙ ap output_of (sym (take-append-le room came (together [] parts) l)) ∙ out-cut (came ++ together [] parts)
    ∙ ap output_of (sym (together-more came parts))
run-output (refused came parts r e) = sym (out-more came (together [] parts) r e) ∙ ap output_of (sym (together-more came parts))
run-output (more came part parts output r) = run-output r
