-- Laws: The three lines before the blocks, as they are read.
use Rattle.std.proofs.Math.Path.{◌≡◌, refl, sym, ap, ap₂, subst}
use Rattle.std.proofs.Common.{◌∙◌, arith, length-drop, take_at, take_all, drop-drop}
use Rattle.std.specs.Prelude.{Bool, ◌||◌, List, ℕ, zero, suc, ◌+◌, ◌-◌, ◌≤◌, eqb, ltb, length, get_or, take, drop}
use Rattle.std.proofs.Math.Bool.{true, false, cond}
use borrow.Author.Tests.{ne_eqb}
use Rattle.code.specs.Refusals.{refuse, ◌or_else◌}
use Rattle.code.specs.RefusalsLaws.{or_else-zero}
use Rattle.shape.specs.Shapes.{byte_limits}
use Rattle.code.specs.Limits.{shape_refusal_in}
use Rattle.text.specs.PaddedLaws.{padded-length}
use Rattle.text_lines.specs.HeldLaws.{byte_at}
use Rattle.code_services.specs.Marks.{marks_refusal_in}
use Rattle.text.specs.Records.{line_kind, line_bytes}
use Rattle.text_lines.specs.declared.Kind.{Kind}
use Rattle.text_lines.specs.declared.Record.{Record}
use Rattle.text_lines.specs.declared.Numbers.{Numbers}
use Rattle.text_lines.specs.Kinds.{kind_number}
use Rattle.text_lines.specs.Held.{HoldsRecord}
use Rattle.text_lines.specs.Numbers.{is_numbers, HoldsNumbers}
use Rattle.block_input.specs.declared.ShapeLine.{ShapeLine}
use Rattle.block_input.specs.declared.MarksLine.{MarksLine}
use Rattle.block_input.specs.declared.LengthPart.{LengthPart}
use Rattle.block_input.specs.declared.MarksPart.{MarksPart}
use Rattle.block_input.specs.Lines.{until_line_feed, after_line, settled, next_start}
use Rattle.block_input.specs.LinesLaws.{take-line, drop-line, start-most, settled_is}
use Rattle.block_input.specs.Length.{length_of}
use Rattle.block_input.specs.Head.{shape_line_of, marks_name, marks_line_refusal, length_line_refusal, length_part, marks_part, head_refusal}
use Rattle.block_input.specs.Head.{input_shape, later_line, line_refused}
use Rattle.block_input.specs.Parts.{Back, ReadMarks, ReadsLength, ReadsMarks, ReadsHead}

-- ---- a shape line
module _ (line : List ℕ) where
  pub shape-unread : (kind : ℕ) → kind ≡ line_kind line → (kind ≡ 1 → ⊥) → record { refusal = 14; m = 0; w = 0; c = 0 } ≡ shape_line_of line
  unfolding shape_line_of
  shape-unread kind k n = rw (← k, ne_eqb kind 1 n)

  pub shape-read : (read : Record) → kind_number read.kind ≡ line_kind line → HoldsRecord read line → read.kind ≡ Kind.Shape
      → (r : ℕ) → r ≡ shape_refusal_in byte_limits (get_or read.bytes 0 0) (get_or read.bytes 1 0) (get_or read.bytes 2 0)
      → record { refusal = r; m = get_or read.bytes 0 0; w = get_or read.bytes 1 0; c = get_or read.bytes 2 0 } ≡ shape_line_of line
  unfolding shape_line_of
  shape-read read k held e r is =
      let b = byte_at line read held in
      let z : line_kind line ≡ 1 = sym k ∙ ap kind_number e in
      rw (is, z, b 0, b 1, b 2)

-- ---- a marks line
module _ (line : List ℕ) (m w c : ℕ) where
  pub marks-unread : false ≡ is_numbers marks_name line → (row : List ℕ) → ReadMarks line m w c (record { refusal = 14; count = 0; marks = row })
  unfolding marks_line_refusal
  marks-unread is row = record {
    refusal = rw (← is);
    marks = λ z. let q : ◌≡◌ {A = ℕ} 14 0 = z in absurd (omega arith);
  }

  module _ (numbers : Numbers) (h : HoldsNumbers numbers line) where
    pub marks-room : numbers.count ≤ length numbers.bytes
    marks-room =
        let s = h.count in
        let f = h.fits in
        rw (h.bytes, padded-length 1024 (line_bytes line) (omega arith)) f

    pub marks-front : take numbers.count numbers.bytes ≡ line_bytes line
    marks-front = rw h.bytes (take_at (line_bytes line) _ numbers.count (sym h.count))

    pub marks-read : true ≡ is_numbers marks_name line → (r : ℕ) → r ≡ marks_refusal_in byte_limits m w c (take numbers.count numbers.bytes)
        → ReadMarks line m w c (record { refusal = r; count = numbers.count; marks = numbers.bytes })
    unfolding marks_line_refusal
    marks-read is r f = record {
      refusal = f ∙ ap (marks_refusal_in byte_limits m w c) marks-front ∙ rw (← is);
      marks = λ _. record { fits = marks-room; front = marks-front };
    }

-- ---- the first line of what is left, and what comes after it
module _ (rest : List ℕ) (end : ℕ) (is : end ≡ length (until_line_feed rest)) where
  pub line-is : take end rest ≡ until_line_feed rest
  line-is = ap (λ e. take e rest) is ∙ take-line rest

  -- which line is refused, as it is found
  pub later-read : (m w c : ℕ) (r : MarksLine) → ReadMarks (take end rest) m w c r → cond (eqb r.refusal 0) 3 2 ≡ later_line m w c rest
  unfolding later_line
  later-read m w c r R = ap (λ x. cond (eqb x 0) 3 2) (R.refusal ∙ ap (marks_line_refusal m w c) line-is)

  pub first_read : (s : ShapeLine) → s ≡ shape_line_of (take end rest)
      → cond (eqb s.refusal 0) (later_line s.m s.w s.c (after_line rest)) 1 ≡ line_refused rest
  unfolding line_refused
  first_read s e = ap (λ x. cond (eqb x.refusal 0) (later_line x.m x.w x.c (after_line rest)) 1) (e ∙ ap shape_line_of line-is)

  module _ (start : ℕ) (next : start ≡ next_start end (length rest)) where
    at_next : start ≡ next_start (length (until_line_feed rest)) (length rest)
    at_next = next ∙ ap (λ e. next_start e (length rest)) is

    pub start_fits : start ≤ length rest
    start_fits = let h = start-most rest in let e = at_next in omega arith

    pub after_is : drop start rest ≡ after_line rest
    after_is = ap (λ s. drop s rest) at_next ∙ drop-line rest

    pub part-is : take (length rest - start) (drop start rest) ≡ after_line rest
    part-is = take_all (length rest - start) (drop start rest) (let d = length-drop start rest in omega arith) ∙ after_is

    after-back : Back rest start (after_line rest)
    after-back = record { fits = start_fits; back = after_is }

    -- a list at the end of what comes after
    further : (s : ℕ) (xs : List ℕ) → Back (after_line rest) s xs → Back rest (start + s) xs
    further s xs B =
        let d = length-drop start rest in
        let e : length (drop start rest) ≡ length (after_line rest) = ap length after_is in
        let f = B.fits in
        let g = start_fits in
        record { fits = omega arith; back = sym (drop-drop s start rest) ∙ ap (drop s) after_is ∙ B.back }

    module _ (ended settles : Bool) (s : settles ≡ (ended || (ltb end (length rest) || ltb 1024 (length rest)))) where
      settles-is : settles ≡ settled ended rest
      settles-is = s ∙ ap (λ e. ended || (ltb e (length rest) || ltb 1024 (length rest))) is ∙ settled_is ended rest

      -- ---- from the length line on
      pub length-read : (size first r : ℕ) → size ≡ length_of (take end rest) → first ≡ cond (ltb 65536 size) 14 0 → r ≡ cond settles first 0
          → ReadsLength ended rest (record { refusal = r; size = size; start = start })
      unfolding length_part length_line_refusal
      length-read size first r p q z =
          let e : size ≡ length_of (until_line_feed rest) = p ∙ ap length_of line-is in
          record {
            refusal = z ∙ ap₂ (λ b f. cond b f 0) settles-is (q ∙ as-refuse (ltb 65536 size) ∙ ap (λ k. refuse 14 (ltb 65536 k)) e);
            size = e;
            blocks = after-back;
          }
        where
          as-refuse : (b : Bool) → cond b 14 0 ≡ refuse 14 b
          as-refuse true = refl
          as-refuse false = refl

      -- nothing is refused, and the line is settled
      none-refused : (first second r : ℕ) → r ≡ cond settles (first or_else second) 0 → ended ≡ true → r ≡ 0 → (first ≡ 0) × (second ≡ 0)
      none-refused first second r e t z =
          let b : settles ≡ true = s ∙ ap (λ v. v || (ltb end (length rest) || ltb 1024 (length rest))) t in
          or_else-zero first second (sym (ap (λ v. cond v (first or_else second) 0) b) ∙ sym e ∙ z)

      -- ---- from the marks line on
      pub marks-part-read : (m w c : ℕ) (line : MarksLine) (after : LengthPart) (r : ℕ) → ReadMarks (take end rest) m w c line
          → ReadsLength ended (take (length rest - start) (drop start rest)) after → r ≡ cond settles (line.refusal or_else after.refusal) 0
          → ReadsMarks ended m w c rest (record { refusal = r; count = line.count; marks = line.marks; size = after.size; start = start + after.start })
      unfolding marks_part
      marks-part-read m w c line after r M A z =
          let M' = subst (λ l. ReadMarks l m w c line) line-is M in
          let A' = subst (λ l. ReadsLength ended l after) part-is A in
          record {
            refusal = z ∙ ap₂ (λ b f. cond b f 0) settles-is (ap₂ ◌or_else◌ M'.refusal A'.refusal);
            marks = λ t q. M'.marks (none-refused line.refusal after.refusal r z t q).0;
            size = A'.size;
            blocks = further after.start _ A'.blocks;
          }

      -- ---- all three
      pub head_read : (line : ShapeLine) (after : MarksPart) (r : ℕ) → line ≡ shape_line_of (take end rest)
          → ReadsMarks ended line.m line.w line.c (take (length rest - start) (drop start rest)) after
          → r ≡ cond settles (line.refusal or_else after.refusal) 0
          → ReadsHead ended rest (record {
            refusal = r;
            m = line.m;
            w = line.w;
            c = line.c;
            count = after.count;
            marks = after.marks;
            size = after.size;
            start = start + after.start;
          })
      unfolding head_refusal
      head_read line after r S A z =
          let S' : line ≡ shape_line_of (until_line_feed rest) = S ∙ ap shape_line_of line-is in
          let A' = subst (λ l. ReadsMarks ended line.m line.w line.c l after) part-is A in
          record {
            refusal = z ∙ ap₂ (λ b f. cond b f 0) settles-is
                (ap₂ ◌or_else◌ (ap (λ (v : ShapeLine). v.refusal) S')
                (A'.refusal ∙ ap (λ (v : ShapeLine). marks_part ended v.m v.w v.c (after_line rest)) S'));
            m = ap (λ (v : ShapeLine). v.m) S';
            w = ap (λ (v : ShapeLine). v.w) S';
            c = ap (λ (v : ShapeLine). v.c) S';
            marks = λ t q. A'.marks t (none-refused line.refusal after.refusal r z t q).1;
            size = A'.size;
            blocks = further after.start _ A'.blocks;
          }

-- ---- the line that is named is the one whose refusal is given
-- the refusal of line 1, 2 or 3
abbrev pub refusal_at : ℕ → List ℕ → ℕ
refusal_at zero input = 0
refusal_at (suc zero) input = (input_shape input).refusal
refusal_at (suc (suc zero)) input = marks_line_refusal (input_shape input).m (input_shape input).w (input_shape input).c (until_line_feed (after_line input))
refusal_at (suc (suc (suc n))) input = length_line_refusal (until_line_feed (after_line (after_line input)))

pub line-named : (ended : Bool) (input : List ℕ) (r : ℕ) → head_refusal ended input ≡ suc r → refusal_at (line_refused input) input ≡ suc r
unfolding head_refusal marks_part length_part later_line line_refused
line-named ended input r =
    go (settled ended input) (settled ended (after_line input)) (settled ended (after_line (after_line input)))
    (refusal_at 1 input) (refusal_at 2 input) refl refl
  where
    go : (p q s : Bool) (a b : ℕ) → a ≡ refusal_at 1 input → b ≡ refusal_at 2 input
        → cond p (a or_else cond q (b or_else cond s (refusal_at 3 input) 0) 0) 0 ≡ suc r → refusal_at (cond (eqb a 0) (cond (eqb b 0) 3 2) 1) input ≡ suc r
    go true q s (suc a) b e f h = rw (ne_eqb (suc a) 0 (λ z. omega arith)) (sym e ∙ h)
    go true true s zero (suc b) e f h = rw (ne_eqb (suc b) 0 (λ z. omega arith)) (sym f ∙ h)
    go true true true zero zero e f h = h
    go true true false zero zero e f h = let z : ◌≡◌ {A = ℕ} 0 (suc r) = h in absurd (omega arith)
    go true false s zero b e f h = let z : ◌≡◌ {A = ℕ} 0 (suc r) = h in absurd (omega arith)
    go false q s a b e f h = let z : ◌≡◌ {A = ℕ} 0 (suc r) = h in absurd (omega arith)
