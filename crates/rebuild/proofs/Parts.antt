-- What is written of an output, and what has come of an input.
use Rattle.std.proofs.Common.{◌≡◌, ◌⊎◌, ℕ, zero, suc, ◌+◌, ◌-◌, ◌≤◌, List, [], ◌++◌, None, Some, IfSome, Option}
use Rattle.std.proofs.Common.{length, take, drop, refl, sym, ap, ◌∙◌, subst, false, append-nil, length-take-le, take_all, arith, Result, Ok}
use mathlib.Core.Logic.{inl, inr}
use Rattle.std.proofs.Math.Seq.{take-append-add}
use Rattle.std.proofs.lemmas.List.{take_rest, take-append-le}
use Rattle.std.specs.Io.KnownBytes.{Appends, Consumes, IsAtEnd}
use Rattle.std.proofs.KnownBytes.{Appends-nil, Consumes-trans}
use Rattle.text.specs.Lines.{refused_line}
use Rattle.block_input.specs.declared.InputFailure.{InputFailure}
use Rattle.block_input.specs.Head.{head_refusal}
use Rattle.block_input.specs.Output.{output_of, verdict_of, held_of, verdict_output}
use Rattle.block_input.specs.Run.{room}
use Rattle.block_input.specs.RunLaws.{out-cut, out-more, answered-is}
use Rattle.rebuild.specs.Runs.{WritesFront, Refuses, RefusesFront}

-- what a verdict writes is the output
pub output_is : (input : List ℕ) (v : Result ℕ InputFailure) → verdict_of input ≡ v → verdict_output v (held_of input) ≡ output_of input
output_is input v e = ap (λ u. verdict_output u (held_of input)) (sym e) ∙ answered-is input

pub mended : (input held : List ℕ) (start : ℕ) → verdict_of input ≡ Ok start → held ≡ held_of input
    → take (length held - start) (drop start held) ≡ output_of input
mended input held start e h = take_rest held start ∙ ap (drop start) h ∙ output_is input (Ok start) e

-- a number that is not 0, as the refusal of bytes
pub told : (output output₂ : Option (List ℕ)) (came : List ℕ) (r : ℕ) → r ≡ head_refusal false came → (r ≡ 0 → ⊥)
    → Appends output output₂ (refused_line r) → Refuses output output₂ came
told output output₂ came zero e n a = absurd (n refl)
told output output₂ came (suc q) e n a = (q, sym e, a)

pub told_front : (output output₂ : Option (List ℕ)) (came : List ℕ) (r : ℕ) → r ≡ head_refusal false came → (r ≡ 0 → ⊥)
    → WritesFront output output₂ (refused_line r) → RefusesFront output output₂ came
told_front output output₂ came zero e n a = absurd (n refl)
told_front output output₂ came (suc q) e n a = (q, sym e, a)

-- what stands in a buffer after a read at some place
pub came_on : (a n k : ℕ) (xs ys rest : List ℕ) → k ≡ a + n → a ≤ length xs → n ≤ length ys
    → take k (take a xs ++ (ys ++ rest)) ≡ take a xs ++ take n ys
came_on a n k xs ys rest e h l =
    ap (λ i. take i (take a xs ++ (ys ++ rest))) e
    ∙ subst (λ i. take (i + n) (take a xs ++ (ys ++ rest)) ≡ take a xs ++ take n ys) (length-take-le a xs h)
    (take-append-add (take a xs) (ys ++ rest) n ∙ ap (λ z. take a xs ++ z) (take-append-le n ys rest l))

-- one read more
pub comes : (input input₂ input₃ : Option (List ℕ)) (came came₂ : List ℕ) → Consumes input input₂ came
    → (part : List ℕ) × Consumes input₂ input₃ part × (came₂ ≡ came ++ part) → Consumes input input₃ came₂
comes input input₂ input₃ came came₂ c (part, d, e) = subst (Consumes input input₃) (sym e) (Consumes-trans input input₂ input₃ came part c d)

-- nothing is written yet
pub none_written : (output output₂ : Option (List ℕ)) (text : List ℕ) → Appends output output₂ [] → WritesFront output output₂ text
none_written output output₂ text a = ([], text, refl, a)

pub none_yet : (input output output₂ : Option (List ℕ)) → Appends output output₂ [] → IfSome input (λ xs. WritesFront output output₂ (output_of xs))
none_yet None output output₂ a = tt
none_yet (Some xs) output output₂ a = none_written output output₂ (output_of xs) a

-- a refusal that the bytes that came settle is the output of the whole input
pub refused_whole : (input input₂ output output₂ : Option (List ℕ)) (came : List ℕ) → Consumes input input₂ came → Refuses output output₂ came
    → IfSome input (λ xs. Appends output output₂ (output_of xs))
refused_whole None input₂ output output₂ came c r = tt
refused_whole (Some xs) None output output₂ came c r = absurd c
refused_whole (Some xs) (Some ys) output output₂ came c (q, e, a) =
    subst (Appends output output₂) (sym (ap output_of c ∙ out-more came ys q e)) a

pub refused_front : (input input₂ output output₂ : Option (List ℕ)) (came : List ℕ) → Consumes input input₂ came → RefusesFront output output₂ came
    → IfSome input (λ xs. WritesFront output output₂ (output_of xs))
refused_front None input₂ output output₂ came c r = tt
refused_front (Some xs) None output output₂ came c r = absurd c
refused_front (Some xs) (Some ys) output output₂ came c (q, e, a) =
    subst (WritesFront output output₂) (sym (ap output_of c ∙ out-more came ys q e)) a

-- the bytes that came have the output of the whole input, where it is at its end or they fill the room
whole_is : (xs ys came : List ℕ) → xs ≡ came ++ ys → (ys ≡ []) ⊎ (length came ≡ room) → output_of came ≡ output_of xs
whole_is xs ys came e (inl z) = ap output_of (sym (e ∙ ap (λ l. came ++ l) z ∙ append-nil came))
whole_is xs ys came e (inr l) =
    ap output_of (sym (subst (λ n. take n (came ++ ys) ≡ came) l (take-append-add-none came ys))) ∙ ap (λ l. output_of (take room l)) (sym e) ∙ out-cut xs
  where
    take-append-add-none : (p q : List ℕ) → take (length p) (p ++ q) ≡ p
    take-append-add-none p q = take-append-le (length p) p q (omega arith) ∙ take_all (length p) p (omega arith)

pub whole_all : (input input₂ output output₂ : Option (List ℕ)) (came : List ℕ) → Consumes input input₂ came
    → IsAtEnd input₂ ⊎ (length came ≡ room) → Appends output output₂ (output_of came) → IfSome input (λ xs. Appends output output₂ (output_of xs))
whole_all None input₂ output output₂ came c w a = tt
whole_all (Some xs) None output output₂ came c w a = absurd c
whole_all (Some xs) (Some ys) output output₂ came c w a = subst (Appends output output₂) (whole_is xs ys came c w) a

pub whole_front : (input input₂ output output₂ : Option (List ℕ)) (came : List ℕ) → Consumes input input₂ came
    → IsAtEnd input₂ ⊎ (length came ≡ room) → WritesFront output output₂ (output_of came) → IfSome input (λ xs. WritesFront output output₂ (output_of xs))
whole_front None input₂ output output₂ came c w a = tt
whole_front (Some xs) None output output₂ came c w a = absurd c
whole_front (Some xs) (Some ys) output output₂ came c w a = subst (WritesFront output output₂) (whole_is xs ys came c w) a

-- ---- by what the writer holds: x before a step, y at the start of the run, z after the step
module _ {T : Type 0} (f : T → Option (List ℕ)) (x y z : T) (same : x ≡ y) where
  pub told_from : (input input₂ : Option (List ℕ)) (came : List ℕ) → Consumes input input₂ came → Refuses (f x) (f z) came
      → IfSome input (λ xs. Appends (f y) (f z) (output_of xs))
  told_from input input₂ came c r = refused_whole input input₂ (f y) (f z) came c (subst (λ o. Refuses (f o) (f z) came) same r)

  pub front_from : (input input₂ : Option (List ℕ)) (came : List ℕ) → Consumes input input₂ came → (z ≡ x) ⊎ RefusesFront (f x) (f z) came
      → IfSome input (λ xs. WritesFront (f y) (f z) (output_of xs))
  front_from input input₂ came c (inl s) = none_yet input (f y) (f z) (subst (λ o. Appends (f y) (f o) []) (sym (s ∙ same)) (Appends-nil (f y)))
  front_from input input₂ came c (inr r) = refused_front input input₂ (f y) (f z) came c (subst (λ o. RefusesFront (f o) (f z) came) same r)

  pub all_from : (input input₂ : Option (List ℕ)) (came : List ℕ) → Consumes input input₂ came → IsAtEnd input₂ ⊎ (length came ≡ room)
      → Appends (f x) (f z) (output_of came) → IfSome input (λ xs. Appends (f y) (f z) (output_of xs))
  all_from input input₂ came c w a = whole_all input input₂ (f y) (f z) came c w (subst (λ o. Appends (f o) (f z) (output_of came)) same a)

  pub fronts_from : (input input₂ : Option (List ℕ)) (came : List ℕ) → Consumes input input₂ came → IsAtEnd input₂ ⊎ (length came ≡ room)
      → WritesFront (f x) (f z) (output_of came) → IfSome input (λ xs. WritesFront (f y) (f z) (output_of xs))
  fronts_from input input₂ came c w a = whole_front input input₂ (f y) (f z) came c w (subst (λ o. WritesFront (f o) (f z) (output_of came)) same a)

-- a full buffer, by its length
pub full : {P : Type 0} (used long most : ℕ) → long ≡ most → P ⊎ (used ≡ long) → P ⊎ (used ≡ most)
full used long most e (inl p) = inl p
full used long most e (inr u) = inr (u ∙ e)

pub full_room : {P : Type 0} (used : ℕ) (xs : List ℕ) → length xs ≡ 68612 → P ⊎ (used ≡ 68612) → P ⊎ (length (take used xs) ≡ room)
full_room used xs e (inl p) = inl p
full_room used xs e (inr u) = inr (length-take-le used xs (omega arith) ∙ u)
