-- What the turns of a run read and write, one after the other.
use Rattle.std.proofs.Common.{◌≡◌, ℕ, List, [], ◌∷◌, ◌++◌, None, Some, IfSome, Option, refl, sym, ap, ◌∙◌, subst, append_assoc, append-nil}
use Rattle.std.specs.Io.KnownBytes.{Appends, Consumes}
use Rattle.std.proofs.KnownBytes.{Consumes-nil, Appends-nil, Consumes-trans, Appends-trans}
use Rattle.text_stream.specs.Session.{session_of, joined_lines}
use Rattle.text_stream.specs.Points.{Point, clear, after_bytes, adds, closing, kept_point}
use Rattle.text_stream.specs.CutLaws.{closing-kept, kept-after, kept-adds, kept-kept, after-append, adds-append}
use Rattle.text_stream.specs.Whole.{at_once, in_parts}
use Rattle.text_stream.specs.WholeLaws.{whole-session}
use Rattle.axlebloom.specs.Runs.{GoesOn, Ends, WritesFront}

-- The bytes that came, what they add to the output was written, and what is kept of the point after them.
abbrev pub Went : Option (List ℕ) → Option (List ℕ) → Option (List ℕ) → Option (List ℕ) → Point → Point → Type 0
Went input input₂ output output₂ p q =
    (came : List ℕ) × Consumes input input₂ came × Appends output output₂ (adds p came) × (kept_point q ≡ kept_point (after_bytes p came))

pub went_none : (input output : Option (List ℕ)) (p q : Point) → q ≡ p → Went input input output output p q
unfolding adds after_bytes
went_none input output p q e = ([], Consumes-nil input, Appends-nil output, ap kept_point e)

pub went_on : (input input₂ input₃ output output₂ output₃ : Option (List ℕ)) (p q r : Point) → Went input input₂ output output₂ p q
    → GoesOn input₂ input₃ output₂ output₃ q r → Went input input₃ output output₃ p r
went_on input input₂ input₃ output output₂ output₃ p q r (came, c, a, e) (part, d, b, f) = (
  came ++ part,
  Consumes-trans input input₂ input₃ came part c d,
  subst (Appends output output₃)
      (ap (λ l. adds p came ++ l) (kept-adds q (after_bytes p came) part e) ∙ sym (adds-append p came part))
      (Appends-trans output output₂ output₃ (adds p came) (adds q part) a b),
  ap kept_point f ∙ kept-kept (after_bytes q part) ∙ kept-after q (after_bytes p came) part e
      ∙ ap kept_point (sym (after-append p came part)),
)

-- what all of an input adds is what its front adds, and then what the rest adds from there on
in_two : (p q : Point) (came ys : List ℕ) → kept_point q ≡ kept_point (after_bytes p came) → at_once p (came ++ ys) ≡ adds p came ++ at_once q ys
in_two p q came ys e =
    let end : closing (after_bytes q ys) ≡ closing (after_bytes (after_bytes p came) ys)
    = sym (closing-kept (after_bytes q ys)) ∙ ap closing (kept-after q (after_bytes p came) ys e) ∙ closing-kept (after_bytes (after_bytes p came) ys) in
    rw (adds-append p came ys, after-append p came ys, append_assoc, kept-adds q (after_bytes p came) ys e, end) refl

pub ended : (input input₂ output output₂ output₃ : Option (List ℕ)) (p q : Point) → Went input input₂ output output₂ p q
    → Ends input₂ output₂ output₃ q → IfSome input (λ xs. Appends output output₃ (at_once p xs))
unfolding adds after_bytes
ended None input₂ output output₂ output₃ p q w s = tt
ended (Some xs) None output output₂ output₃ p q (came, c, a, e) s = absurd c
ended (Some xs) (Some ys) output output₂ output₃ p q (came, c, a, e) (z, b) =
    subst (Appends output output₃)
    (sym (ap (λ l. at_once p l) c ∙ in_two p q came ys e ∙ ap (λ l. adds p came ++ at_once q l) z))
    (Appends-trans output output₂ output₃ (adds p came) (closing q) a b)

pub fronts : (input input₂ output output₂ output₃ : Option (List ℕ)) (p q : Point) → Went input input₂ output output₂ p q
    → IfSome input₂ (λ ys. WritesFront output₂ output₃ (at_once q ys)) → IfSome input (λ xs. WritesFront output output₃ (at_once p xs))
fronts None input₂ output output₂ output₃ p q w s = tt
fronts (Some xs) None output output₂ output₃ p q (came, c, a, e) s = absurd c
fronts (Some xs) (Some ys) output output₂ output₃ p q (came, c, a, e) (front, rest, f, b) = (
  adds p came ++ front,
  rest,
  ap (λ l. at_once p l) c ∙ in_two p q came ys e ∙ ap (λ l. adds p came ++ l) f ∙ sym (append_assoc (adds p came) front rest),
  Appends-trans output output₂ output₃ (adds p came) front a b,
)

-- all that an input adds is the session's output
pub session : (xs : List ℕ) → at_once (clear 0 0 0) xs ≡ session_of xs
unfolding in_parts joined_lines
session xs =
    ap (λ l. adds (clear 0 0 0) xs ++ l) (sym (closing-kept (after_bytes (clear 0 0 0) xs)))
    ∙ whole-session (xs ∷ [])
    ∙ ap session_of (append-nil xs)

pub session_whole : (input output output₂ : Option (List ℕ)) → IfSome input (λ xs. Appends output output₂ (at_once (clear 0 0 0) xs))
    → IfSome input (λ xs. Appends output output₂ (session_of xs))
session_whole None output output₂ h = tt
session_whole (Some xs) output output₂ h = subst (Appends output output₂) (session xs) h

pub session_front : (input output output₂ : Option (List ℕ)) → IfSome input (λ xs. WritesFront output output₂ (at_once (clear 0 0 0) xs))
    → IfSome input (λ xs. WritesFront output output₂ (session_of xs))
session_front None output output₂ h = tt
session_front (Some xs) output output₂ h = subst (WritesFront output output₂) (session xs) h
