use Rattle.std.proofs.Common.{◌≡◌, ℕ, ◌≤◌, ◌+◌, ◌-◌, List, ◌++◌, length, take, drop, sym, ap, ◌∙◌, subst, arith, length-drop}
use Rattle.std.proofs.Math.Seq.{take-add}
use Rattle.std.proofs.lemmas.List.{take_rest}
use Rattle.std.specs.Io.KnownBytes.{Appends}
use Rattle.std.proofs.KnownBytes.{Appends-trans}
use Rattle.program_io.proofs.put_all.Goals as goal

more_taken : (xs : List ℕ) (i n : ℕ) → take i xs ++ take n (take (length xs - i) (drop i xs)) ≡ take (i + n) xs
more_taken xs i n = ap (λ l. take i xs ++ take n l) (take_rest xs i) ∙ sym (take-add i n xs)

room_left : (xs : List ℕ) (i n : ℕ) → i ≤ length xs → n ≤ length (take (length xs - i) (drop i xs)) → i + n ≤ length xs
room_left xs i n h l =
    let k : n ≤ length (drop i xs) = subst (λ ys. n ≤ length ys) (take_rest xs i) l in
    let d : length (drop i xs) ≡ length xs - i = length-drop i xs in
    omega arith

pub loop-done-preserved : goal.loop-done-preserved
loop-done-preserved g c =
    let (within, written) = c.loop-done.invariant in
    let bytes = c.args.bytes.now in
    let n = c.in_ok-put.put in (
      room_left bytes c.loop-done.done n within c.in_ok-put.ensures.bound,
      subst (Appends _ _) (more_taken bytes c.loop-done.done n) (Appends-trans _ _ _ _ _ written c.in_ok-put.ensures.bytes),
    )
