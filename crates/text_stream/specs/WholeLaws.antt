-- Laws: Whatever parts the input comes in, the output is that of the whole session.
use Rattle.std.specs.Prelude.{◌≡◌, refl, Bool, true, false, cond, List, [], ◌∷◌, ◌++◌, ℕ, ◌+◌, T, eqb, length, take, drop}
use Rattle.std.proofs.Common.{sym, ap, ap₂, ◌∙◌, append_assoc, append-nil, eqb-true, take_at}
use Rattle.text.specs.Input.{lines}
use Rattle.text.specs.InputLaws.{lines-feed, lines-last}
use Rattle.text.specs.DecimalLaws.{without-append}
use Rattle.text.specs.Written.{written}
use Rattle.text.specs.Decimal.{without}
use Rattle.text_stream.specs.declared.State.{State}
use Rattle.text_stream.specs.States.{point_of}
use Rattle.text_stream.specs.Session.{line_answers, joined_lines, session_of}
use Rattle.text_stream.specs.Points.{Point, clear, onward, turn_at, longer, next, after_bytes, said, adds, closing, kept_point}
use Rattle.text_stream.specs.CutLaws.{closing-kept, kept-after, kept-adds, after-append, adds-append, kept-kept}
use Rattle.text_stream.specs.Whole.{in_parts, at_once, SessionRun, ended, took}

parts-kept : (parts : List (List ℕ)) (p q : Point) → kept_point p ≡ kept_point q → in_parts p parts ≡ at_once q (joined_lines parts)
unfolding in_parts joined_lines adds after_bytes
parts-kept [] p q e = sym (closing-kept p) ∙ ap closing e ∙ closing-kept q
parts-kept (part ∷ rest) p q e =
    let k : kept_point (kept_point (after_bytes p part)) ≡ kept_point (after_bytes q part) = kept-kept (after_bytes p part) ∙ kept-after p q part e in
    let i = parts-kept rest (kept_point (after_bytes p part)) (after_bytes q part) k in
    rw (kept-adds p q part e, i, adds-append q part (joined_lines rest), after-append q part (joined_lines rest), append_assoc)

-- ---- the line so far has no line feed
clean-next : (p : Point) (x : ℕ) → T (without 10 p.line) → T (without 10 (next p x).line)
unfolding next without
clean-next p x t = go (eqb x 10) refl
  where
    go : (b : Bool) → eqb x 10 ≡ b → T (without 10 (cond b (onward (turn_at p)) (longer p x)).line)
    go true e = tt
    go false e = without-append 10 p.line (x ∷ []) t (rw e tt)

-- the lines of what is left, the line so far before it
abbrev rest_of : Point → List ℕ → List ℕ
rest_of p xs = joined_lines (line_answers (lines (p.line ++ xs)) p.m p.w p.c)

at-end : (line : List ℕ) (m w c : ℕ) → T (without 10 line) → closing (record { line = line; m = m; w = w; c = c })
    ≡ joined_lines (line_answers (lines line) m w c)
unfolding closing line_answers joined_lines lines
at-end [] m w c t = refl
at-end (x ∷ line) m w c t = rw (lines-last x line t, append-nil)

at-once : (xs : List ℕ) (p : Point) → T (without 10 p.line) → at_once p xs ≡ rest_of p xs
unfolding adds after_bytes said next line_answers joined_lines
at-once [] p t = rw append-nil (at-end p.line p.m p.w p.c t)
at-once (x ∷ xs) p t = rw append_assoc (ap (λ l. said p x ++ l) (at-once xs (next p x) (clean-next p x t)) ∙ go (eqb x 10) refl)
  where
    go : (b : Bool) → eqb x 10 ≡ b → said p x ++ rest_of (next p x) xs ≡ rest_of p (x ∷ xs)
    go true e = rw (eqb-true x 10 e, lines-feed p.line xs t)
    go false e = rw (e, append_assoc)

-- "Whole session": by any parts
pub whole-session : (parts : List (List ℕ)) → in_parts (clear 0 0 0) parts ≡ session_of (joined_lines parts)
unfolding session_of without
whole-session parts = parts-kept parts (clear 0 0 0) (clear 0 0 0) refl ∙ at-once (joined_lines parts) (clear 0 0 0) tt

-- what a caller writes: the front of out, as long as the contract says, is the text that the contract says stands there
pub front-written : (n : ℕ) (before out text : List ℕ) → n ≡ length text → out ≡ written before 0 text → take n out ≡ text
unfolding written
front-written n before out text size e = ap (take n) e ∙ take_at text (drop (0 + length text) before) n (sym size)

run-in-parts : {s : State} {parts : List (List ℕ)} {output : List ℕ} → SessionRun s parts output → output ≡ in_parts (point_of s) parts
unfolding in_parts
run-in-parts (ended n before out size e) = front-written n before out _ size e
run-in-parts (took {rest = rest} step before out p size e r) =
    ap₂ ◌++◌ (front-written step.length before out _ size e) (run-in-parts r ∙ ap (λ q. in_parts q rest) p)

-- from the first state on, what is written is the output of the whole input, however it is cut
pub run-session : {s : State} {parts : List (List ℕ)} {output : List ℕ} → point_of s ≡ clear 0 0 0 → SessionRun s parts output
    → output ≡ session_of (joined_lines parts)
run-session {s} {parts} {output} z r = run-in-parts r ∙ ap (λ p. in_parts p parts) z ∙ whole-session parts
