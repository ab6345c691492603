-- Bytes moved within a buffer, and a line put before them.
use Rattle.std.specs.Prelude.{◌≡◌, set, replicate}
use Rattle.std.proofs.Math.Path.{refl, sym, ap}
use Rattle.std.proofs.Common.{◌∙◌, add_assoc, zero-add, eq-eqb, ne_eqb, length-drop, take-suc, drop-cons, take-take}
use mathlib.Core.List.{List, [], ◌∷◌, ◌++◌, append_assoc, append-nil}
use Prim.Native.Nat.{ℕ, zero, suc, ◌+◌, ◌-◌, ◌≤◌, ◌<◌}
use Rattle.std.proofs.Math.Nat.{add_comm}
use native.Mathlib.Omega.{arith}
use Rattle.std.proofs.Math.ListN.{length, get_or, take, drop, length-append, get_or-append}
use Rattle.std.proofs.Math.Seq.{length-take-le, take-nil, take_at, drop-drop, drop_at, get_or-take, get_or-drop, get_or-append-add}
use Rattle.std.proofs.lemmas.List.{take-append-le}
use Rattle.text.specs.Decimal.{digits_of}
use Rattle.text.specs.DecimalLaws.{digits-enough, digits-most}
use Rattle.text.specs.Lines.{cells_of, line_with}
use Rattle.text.specs.Padded.{padded}
use Rattle.text.specs.ReadBackLaws.{cells-most}
use Rattle.text.specs.Written.{written, put_at, next_at}
use Rattle.text.specs.WrittenLaws.{written-nothing, written_next, written-before, written_on, length-written, written-padded, put-room}
use Rattle.catalogue_text.specs.Catalogue.{first_line, gone_line, entry_line}
use Rattle.catalogue_text.specs.Buffers.{with_text}
use Rattle.catalogue_text.specs.BuffersLaws.{with-length}
use Rattle.catalogue_lines.specs.declared.Row.{Row}
use Rattle.catalogue_lines.specs.Splice.{SpliceFits, spliced_in, HoldsRow}

module _ (out : List ℕ) (at : ℕ) (text : List ℕ) (k : ℕ) where
  -- what stands before and after a text that is written
  pub before-written : k < at → at ≤ length out → get_or (written out at text) k 0 ≡ get_or out k 0
  unfolding written
  before-written l h =
      let n : length (take at out) ≡ at = length-take-le at out h in
      get_or-append (take at out) (text ++ drop (at + length text) out) 0 k (omega arith) ∙ get_or-take at out k 0 l

  pub after-written : at ≤ length out → at + length text ≤ k → get_or (written out at text) k 0 ≡ get_or out k 0
  unfolding written
  after-written h l =
      let n : length (take at out) ≡ at = length-take-le at out h in
      let r : ℕ = k - (at + length text) in
      let e : k ≡ length (take at out) + (length text + r) = omega arith in
      let f : at + length text + r ≡ k = omega arith in
      ap (λ i. get_or (take at out ++ (text ++ drop (at + length text) out)) i 0) e
      ∙ get_or-append-add (take at out) (text ++ drop (at + length text) out) (length text + r) 0
      ∙ get_or-append-add text (drop (at + length text) out) r 0 ∙ get_or-drop (at + length text) out r 0 ∙ ap (λ i. get_or out i 0) f

-- a text written before another
pub written-under : (out : List ℕ) (at : ℕ) (s t : List ℕ) → at + length s + length t ≤ length out
    → written (written out (at + length s) t) at s ≡ written out at (s ++ t)
unfolding written
written-under out at s t h =
    let n : length (take (at + length s) out) ≡ at + length s = length-take-le (at + length s) out (omega arith) in
    let l : at ≤ length (take (at + length s) out) = omega arith in
    rw (take-append-le at (take (at + length s) out) (t ++ drop (at + length s + length t) out) l)
    (rw (take-take at (at + length s) out (omega arith), drop_at (take (at + length s) out) (t ++ drop (at + length s + length t) out) (at + length s) n)
    (rw (length-append, append_assoc, ← add_assoc at (length s) (length t))))

-- ---- moves, byte by byte
module _ (buffer after : List ℕ) (from end to i : ℕ) where
  -- down: the first ones are moved
  pub down-more : to ≤ from → from ≤ i → i < length buffer → after ≡ written buffer to (take (i - from) (drop from buffer))
      → set after (to + (i - from)) (get_or after i 0) ≡ written buffer to (take (i + 1 - from) (drop from buffer))
  down-more d l h e =
      let m : ℕ = i - from in
      let n : length (drop from buffer) ≡ length buffer - from = length-drop from buffer in
      let k : length (take m (drop from buffer)) ≡ m = length-take-le m (drop from buffer) (omega arith) in
      let s : i + 1 - from ≡ suc m = omega arith in
      let j : from + m ≡ i = omega arith in
      let x : get_or after i 0 ≡ get_or (drop from buffer) m 0 =
      ap (λ a. get_or a i 0) e ∙ after-written buffer to (take m (drop from buffer)) i (omega arith) (omega arith)
      ∙ ap (λ p. get_or buffer p 0) (sym j) ∙ sym (get_or-drop from buffer m 0) in
      rw (x, e, s, take-suc (drop from buffer) m 0 (omega arith))
      (written_next buffer to (take m (drop from buffer)) (to + m) (get_or (drop from buffer) m 0) (omega arith) (omega arith))

  -- up: the last ones are moved
  pub up_more : from < i → i ≤ end → from ≤ to → to + (end - from) ≤ length buffer → (j : ℕ) → j ≡ to + (i - from)
      → after ≡ written buffer j (take (end - i) (drop i buffer))
      → set after (j - 1) (get_or after (i - 1) 0) ≡ written buffer (j - 1) (take (end - (i - 1)) (drop (i - 1) buffer))
  up_more l h u r j p e =
      let q : ℕ = i - 1 in
      let s : suc q ≡ i = omega arith in
      let t : suc (j - 1) ≡ j = omega arith in
      let n : end - q ≡ suc (end - i) = omega arith in
      let w : List ℕ = take (end - i) (drop i buffer) in
      let x : get_or after q 0 ≡ get_or buffer q 0 = ap (λ a. get_or a q 0) e ∙ before-written buffer j w q (omega arith) (omega arith) in
      let d : drop q buffer ≡ get_or buffer q 0 ∷ drop i buffer = drop-cons buffer q 0 (omega arith) ∙ ap (λ z. get_or buffer q 0 ∷ drop z buffer) s in
      rw (x, e, n, d)
      (ap (λ z. set (written buffer z w) (j - 1) (get_or buffer q 0)) (sym t) ∙ written-before buffer (j - 1) (get_or buffer q 0) w (omega arith))

-- the start and the end of a move
pub move-none : (buffer : List ℕ) (at n : ℕ) (part : List ℕ) → buffer ≡ written buffer at (take (n - n) part)
move-none buffer at n part = let z : n - n ≡ 0 = omega arith in rw z (sym (written-nothing buffer at))

-- ---- a line in the place of some bytes
pub splice-step : (buffer moved after line : List ℕ) (size from to : ℕ) → SpliceFits buffer size from to line
    → moved ≡ written buffer (from + length line) (take (size - to) (drop to buffer)) → after ≡ put_at moved from line
    → after ≡ spliced_in buffer size from to line
unfolding spliced_in
splice-step buffer moved after line size from to f e p =
    let tail : List ℕ = take (size - to) (drop to buffer) in
    let o = f.order in
    let i = f.inside in
    let h = f.held in
    let r = f.room in
    let d : length (drop to buffer) ≡ length buffer - to = length-drop to buffer in
    let n : length tail ≡ size - to = length-take-le (size - to) (drop to buffer) (omega arith) in
    let s : length moved ≡ length buffer = ap length e ∙ length-written buffer (from + length line) tail (omega arith) in
    p ∙ (put-room moved from line (omega arith)).1 ∙ rw e (written-under buffer from line tail (omega arith))

-- ---- numbers put one after the other
pub record Put (out : List ℕ) (at : ℕ) (done : List ℕ) (next : ℕ) (after : List ℕ) : Type 0 where
  pub place : next ≡ at + length done
  pub holds : after ≡ written out at done
  pub inside : at + length done ≤ length out

pub put-start : (out : List ℕ) (at : ℕ) → at ≤ length out → Put out at [] at out
put-start out at l = record { place = omega arith; holds = sym (written-nothing out at); inside = omega arith }

-- a text more
pub put-more : (out after last done text : List ℕ) (at next r : ℕ) → Put out at done next after → at + length done + length text ≤ length out
    → r ≡ next_at after next text → last ≡ put_at after next text → Put out at (done ++ text) r last
put-more out after last done text at next r b h p q =
    let n = b.place in
    let i = b.inside in
    let s : length after ≡ length out = ap length b.holds ∙ length-written out at done (omega arith) in
    let room = put-room after next text (omega arith) in
    let l = length-append done text in
    record {
      place = p ∙ room.0 ∙ omega arith;
      holds = q ∙ room.1 ∙ rw (b.holds, n) (written_on out at done text (omega arith));
      inside = omega arith;
    }

-- a number more
pub cell-more : (out after last done : List ℕ) (at next r x : ℕ) → x < 65536 → Put out at done next after → at + length done + 6 ≤ length out
    → r ≡ next_at after next (9 ∷ digits_of 9 x) → last ≡ put_at after next (9 ∷ digits_of 9 x)
    → Put out at (done ++ (9 ∷ digits_of 4 x)) r last × (length (done ++ (9 ∷ digits_of 4 x)) ≤ length done + 6)
cell-more out after last done at next r x l b h p q =
    let d : digits_of 9 x ≡ digits_of 4 x = digits-enough 9 4 x (omega arith) (omega arith) in
    let m = digits-most 4 x in
    let n = length-append done (9 ∷ digits_of 4 x) in (
      put-more out after last done (9 ∷ digits_of 4 x) at next r b (omega arith) (rw d at p) (rw d at q),
      omega arith,
    )

-- four numbers
module _ (out o₁ o₂ o₃ o₄ : List ℕ) (at n₁ n₂ n₃ n₄ x₁ x₂ x₃ x₄ : ℕ) (room : at + 24 ≤ length out)
    (l₁ : x₁ < 65536) (l₂ : x₂ < 65536) (l₃ : x₃ < 65536) (l₄ : x₄ < 65536)
    (p₁ : n₁ ≡ next_at out at (9 ∷ digits_of 9 x₁)) (q₁ : o₁ ≡ put_at out at (9 ∷ digits_of 9 x₁))
    (p₂ : n₂ ≡ next_at o₁ n₁ (9 ∷ digits_of 9 x₂)) (q₂ : o₂ ≡ put_at o₁ n₁ (9 ∷ digits_of 9 x₂))
    (p₃ : n₃ ≡ next_at o₂ n₂ (9 ∷ digits_of 9 x₃)) (q₃ : o₃ ≡ put_at o₂ n₂ (9 ∷ digits_of 9 x₃))
    (p₄ : n₄ ≡ next_at o₃ n₃ (9 ∷ digits_of 9 x₄)) (q₄ : o₄ ≡ put_at o₃ n₃ (9 ∷ digits_of 9 x₄)) where
  joined : ((([] ++ (9 ∷ digits_of 4 x₁)) ++ (9 ∷ digits_of 4 x₂)) ++ (9 ∷ digits_of 4 x₃)) ++ (9 ∷ digits_of 4 x₄) ≡ cells_of 4 (x₁ ∷ x₂ ∷ x₃ ∷ x₄ ∷ [])
  unfolding cells_of
  joined = simp (append_assoc, append-nil)

  pub four-put : (n₄ ≡ at + length (cells_of 4 (x₁ ∷ x₂ ∷ x₃ ∷ x₄ ∷ []))) × (o₄ ≡ written out at (cells_of 4 (x₁ ∷ x₂ ∷ x₃ ∷ x₄ ∷ [])))
  four-put =
      let a = cell-more out out o₁ [] at at n₁ x₁ l₁ (put-start out at (omega arith)) (omega arith) p₁ q₁ in
      let b = cell-more out o₁ o₂ _ at n₁ n₂ x₂ l₂ a.0 (omega (arith, a.1)) p₂ q₂ in
      let c = cell-more out o₂ o₃ _ at n₂ n₃ x₃ l₃ b.0 (omega (arith, a.1, b.1)) p₃ q₃ in
      let d = cell-more out o₃ o₄ _ at n₃ n₄ x₄ l₄ c.0 (omega (arith, a.1, b.1, c.1)) p₄ q₄ in
      rw (← joined) (d.0.place, d.0.holds)

-- a name, four numbers and the line feed
module _ (name o₁ : List ℕ) (at : ℕ) (short : length name ≤ 16) (p₁ : at ≡ next_at (replicate 48 0) 0 name) (q₁ : o₁ ≡ put_at (replicate 48 0) 0 name) where
  named : Put (replicate 48 0) 0 name at o₁
  named = put-more (replicate 48 0) (replicate 48 0) o₁ [] name 0 0 at (put-start (replicate 48 0) 0 (omega arith)) (omega arith) p₁ q₁

  pub name-room : at + 24 ≤ length o₁
  name-room =
      let n = named.place in
      let s : length o₁ ≡ 48 = ap length named.holds ∙ length-written (replicate 48 0) 0 name named.inside in
      omega arith

  module _ (o₂ : List ℕ) (end : ℕ) (numbers : List ℕ) (four : length numbers ≡ 4) (p₂ : end ≡ at + length (cells_of 4 numbers))
      (q₂ : o₂ ≡ written o₁ at (cells_of 4 numbers)) where
    cells-few : length (cells_of 4 numbers) ≤ 24
    cells-few = let m = cells-most 4 numbers in omega arith

    pub line-put : (end < 48) × (end + 1 ≡ length (line_with 4 name numbers)) × (set o₂ end 10 ≡ padded 48 (line_with 4 name numbers))
    unfolding line_with
    line-put =
        let n = named.place in
        let m = cells-few in
        let body : List ℕ = name ++ cells_of 4 numbers in
        let k = length-append name (cells_of 4 numbers) in
        let whole : o₂ ≡ written (replicate 48 0) 0 body =
        q₂ ∙ rw (named.holds, n) (written_on (replicate 48 0) 0 name (cells_of 4 numbers) (omega arith)) in
        let a : body ++ (10 ∷ []) ≡ name ++ (cells_of 4 numbers ++ (10 ∷ [])) = append_assoc name (cells_of 4 numbers) (10 ∷ []) in (
          omega arith,
          (let z = length-append body (10 ∷ []) in let y = ap length a in omega arith),
          rw whole (written_next (replicate 48 0) 0 body end 10 (omega arith) (omega arith)) ∙ written-padded 48 (body ++ (10 ∷ [])) ∙ ap (padded 48) a,
        )

-- a text, a number and a text
module _ (front back o₁ o₂ o₃ : List ℕ) (n₁ n₂ n₃ x : ℕ) (l₁ : length front ≤ 16) (l₂ : length back ≤ 16) (l₃ : x < 65536)
    (p₁ : n₁ ≡ next_at (replicate 48 0) 0 front) (q₁ : o₁ ≡ put_at (replicate 48 0) 0 front)
    (p₂ : n₂ ≡ next_at o₁ n₁ (9 ∷ digits_of 9 x)) (q₂ : o₂ ≡ put_at o₁ n₁ (9 ∷ digits_of 9 x)) (p₃ : n₃ ≡ next_at o₂ n₂ back) (q₃ : o₃ ≡ put_at o₂ n₂ back) where
  pub row_put : (n₃ ≡ length ((front ++ (9 ∷ digits_of 4 x)) ++ back)) × (n₃ ≤ 48) × (o₃ ≡ padded 48 ((front ++ (9 ∷ digits_of 4 x)) ++ back))
  row_put =
      let a = put-more (replicate 48 0) (replicate 48 0) o₁ [] front 0 0 n₁ (put-start (replicate 48 0) 0 (omega arith)) (omega arith) p₁ q₁ in
      let b = cell-more (replicate 48 0) o₁ o₂ front 0 n₁ n₂ x l₃ a (omega arith) p₂ q₂ in
      let d = put-more (replicate 48 0) o₂ o₃ (front ++ (9 ∷ digits_of 4 x)) back 0 n₂ n₃ b.0 (omega (arith, b.1)) p₃ q₃ in
      let n = d.place in
      let i = d.inside in (
        n ∙ zero-add _,
        omega arith,
        d.holds ∙ written-padded 48 ((front ++ (9 ∷ digits_of 4 x)) ++ back),
      )

-- the lines of that form
pub first-is : (floor : ℕ) → (115 ∷ 104 ∷ 97 ∷ 112 ∷ 101 ∷ 115 ∷ 9 ∷ 50 ∷ 9 ∷ digits_of 4 floor) ++ (10 ∷ []) ≡ first_line 2 floor
unfolding first_line line_with cells_of digits_of
first-is floor = simp (append_assoc, append-nil)

pub gone-is : (name : List ℕ) (revision m w c : ℕ) → m ≡ 0
    → (name ++ (9 ∷ digits_of 4 revision)) ++ (9 ∷ 103 ∷ 111 ∷ 110 ∷ 101 ∷ 10 ∷ [])
    ≡ entry_line (record { name = name; revision = revision; m = m; w = w; c = c })
unfolding entry_line gone_line cells_of
gone-is name revision m w c e = rw (eq-eqb m 0 e) (simp (append_assoc, append-nil))

pub shaped-is : (name : List ℕ) (revision m w c : ℕ) → (m ≡ 0 → ⊥)
    → line_with 4 name (revision ∷ m ∷ w ∷ c ∷ []) ≡ entry_line (record { name = name; revision = revision; m = m; w = w; c = c })
unfolding entry_line
shaped-is name revision m w c n = rw (ne_eqb m 0 n)

-- ---- another first line before the same lines
module _ (buffer after old new lines : List ℕ) (e : after ≡ with_text (old ++ lines) buffer) (grows : length old ≤ length new)
    (room : length (new ++ lines) ≤ length buffer) where
  long : length after ≡ length buffer
  long =
      let a = length-append old lines in
      let b = length-append new lines in
      ap length e ∙ with-length (old ++ lines) buffer (omega arith)

  pub first_fits : SpliceFits after (length (old ++ lines)) 0 (length old) new
  first_fits =
      let a = length-append old lines in
      let b = length-append new lines in
      let n = long in
      record { order = omega arith; inside = omega arith; held = omega arith; room = omega arith }

  pub first_spliced : spliced_in after (length (old ++ lines)) 0 (length old) new ≡ with_text (new ++ lines) buffer
  unfolding spliced_in written with_text
  first_spliced =
      let a = length-append old lines in
      let b = length-append new lines in
      let n : length (old ++ lines) - length old ≡ length lines = omega arith in
      let whole : after ≡ old ++ (lines ++ drop (length (old ++ lines)) buffer) = e ∙ append_assoc old lines (drop (length (old ++ lines)) buffer) in
      let tail : take (length (old ++ lines) - length old) (drop (length old) after) ≡ lines =
      ap (λ x. take x (drop (length old) after)) n
      ∙ ap (λ x. take (length lines) (drop (length old) x)) whole
      ∙ ap (take (length lines)) (drop_at old (lines ++ drop (length (old ++ lines)) buffer) (length old) refl)
      ∙ take_at lines (drop (length (old ++ lines)) buffer) (length lines) refl in
      let k : ℕ = length (new ++ lines) - length (old ++ lines) in
      let m : k + length (old ++ lines) ≡ length (new ++ lines) = omega arith in
      let past : drop (0 + length (new ++ lines)) after ≡ drop (length (new ++ lines)) buffer =
      ap (λ x. drop x after) (zero-add (length (new ++ lines)) ∙ sym m ∙ add_comm k (length (old ++ lines)))
      ∙ sym (drop-drop k (length (old ++ lines)) after)
      ∙ ap (drop k) (ap (drop (length (old ++ lines))) e ∙ drop_at (old ++ lines) (drop (length (old ++ lines)) buffer) (length (old ++ lines)) refl)
      ∙ drop-drop k (length (old ++ lines)) buffer ∙ ap (λ x. drop x buffer) (add_comm (length (old ++ lines)) k ∙ m) in
      rw tail (ap (λ x. (new ++ lines) ++ x) past)

-- ---- a line at the start of a row
pub row_line : (row : Row) (line : List ℕ) → HoldsRow row line → take row.length row.bytes ≡ line
row_line row line h = rw h.contents (take_at line _ row.length (sym h.size))

pub row_room : (row : Row) (line : List ℕ) → HoldsRow row line → row.length ≤ length row.bytes
row_room row line h = let n = h.size in rw (h.contents, length-append) (omega arith)

-- the bytes between two places, either way
pub drop-take : (k n : ℕ) (l : List ℕ) → drop k (take n l) ≡ take (n - k) (drop k l)
drop-take zero n l = let z : n - 0 ≡ n = omega arith in rw z
drop-take (suc k) zero l = let z : 0 - suc k ≡ 0 = omega arith in rw z
drop-take (suc k) (suc n) [] = sym (take-nil (suc n - suc k))
drop-take (suc k) (suc n) (x ∷ l) = let z : suc n - suc k ≡ n - k = omega arith in rw z (drop-take k n l)
