-- What one turn reads and writes.
use Rattle.std.proofs.Common.{◌≡◌, ℕ, ◌≤◌, List, [], ◌++◌, None, Some, IfSome, Option, length, take, drop, refl, sym, ap, ◌∙◌, subst, append_assoc, take-append-drop}
use Rattle.std.specs.Io.KnownBytes.{Appends, Consumes, IsAtEnd}
use Rattle.text.specs.Written.{written}
use Rattle.text.specs.WrittenLaws.{written-holds}
use Rattle.text_stream.specs.Points.{Point, after_bytes, adds, closing}
use Rattle.text_stream.specs.CutLaws.{adds-append}
use Rattle.text_stream.specs.Whole.{at_once}
use Rattle.text_stream.specs.WholeLaws.{front-written}
use Rattle.axlebloom.specs.Runs.{WritesFront}

-- what is put at the start of a buffer lies in it
pub fits : (size : ℕ) (before out text : List ℕ) → size ≡ length text → out ≡ written before 0 text → size ≤ length out
fits size before out text e w = rw (e, w) (written-holds before 0 text)

-- nothing came from an input that gave nothing
pub at_end : (input input₂ : Option (List ℕ)) (n : ℕ) (bytes : List ℕ) → n ≡ 0 → Consumes input input₂ (take n bytes) → IsAtEnd input₂ → IsAtEnd input
at_end None input₂ n bytes z c e = tt
at_end (Some xs) None n bytes z c e = absurd c
at_end (Some xs) (Some ys) n bytes z c e = c ∙ ap (λ k. take k bytes ++ ys) z ∙ e

-- the front of what was to be written
pub cut : (output output₂ : Option (List ℕ)) (k size : ℕ) (before out text : List ℕ) → size ≡ length text → out ≡ written before 0 text
    → Appends output output₂ (take k (take size out)) → WritesFront output output₂ text
cut output output₂ k size before out text e w a = (
  take k text,
  drop k text,
  sym (take-append-drop k text),
  subst (λ l. Appends output output₂ (take k l)) (front-written size before out text e w) a,
)

-- the front of what the end adds, at the end of the input
pub front_at_end : (input output output₂ : Option (List ℕ)) (p : Point) → IsAtEnd input → WritesFront output output₂ (closing p)
    → IfSome input (λ xs. WritesFront output output₂ (at_once p xs))
unfolding adds after_bytes
front_at_end None output output₂ p e f = tt
front_at_end (Some xs) output output₂ p e f = subst (λ l. WritesFront output output₂ (at_once p l)) (sym e) f

-- what all of the input adds begins with what its front adds
pub front_of_part : (input input₂ output output₂ : Option (List ℕ)) (p : Point) (part : List ℕ) → Consumes input input₂ part
    → WritesFront output output₂ (adds p part) → IfSome input (λ xs. WritesFront output output₂ (at_once p xs))
front_of_part None input₂ output output₂ p part c f = tt
front_of_part (Some xs) None output output₂ p part c f = absurd c
front_of_part (Some xs) (Some ys) output output₂ p part c (front, rest, e, a) = (
  front,
  rest ++ (adds (after_bytes p part) ys ++ closing (after_bytes p (part ++ ys))),
  ap (λ l. at_once p l) c
      ∙ ap (λ l. l ++ closing (after_bytes p (part ++ ys))) (adds-append p part ys)
      ∙ append_assoc (adds p part) (adds (after_bytes p part) ys) _
      ∙ ap (λ l. l ++ (adds (after_bytes p part) ys ++ closing (after_bytes p (part ++ ys)))) e
      ∙ append_assoc front rest _,
  a,
)

-- nothing was written
pub front_none : (input output : Option (List ℕ)) (p : Point) → Appends output output [] → IfSome input (λ xs. WritesFront output output (at_once p xs))
front_none None output p a = tt
front_none (Some xs) output p a = ([], at_once p xs, refl, a)
