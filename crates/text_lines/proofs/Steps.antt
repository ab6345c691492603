-- What numbers and a whole line leave in a buffer.
use mathlib.Core.Path.{◌≡◌, ap, ◌∙◌}
use mathlib.Core.List.{List, [], ◌∷◌, ◌++◌, append_assoc, append-nil}
use Prim.Native.Nat.{ℕ, ◌+◌, ◌*◌, ◌≤◌, ◌<◌}
use native.Mathlib.Nat.{add_assoc}
use native.Mathlib.Omega.{arith}
use lib.ListN.{length, get_or, take, set, length-append}
use lib.Seq.{length-take-le}
use Rattle.text.specs.Decimal.{digits_of, decimal}
use Rattle.text.specs.Lines.{cells_of, cells, line_with, line_of, refused_name}
use Rattle.text.specs.ReadBackLaws.{cells-most}
use Rattle.text.specs.DecimalLaws.{digits-one, digits-enough, digits-most}
use Rattle.text.specs.Written.{written, put_at, next_at}
use Rattle.text.specs.WrittenLaws.{written_on, written_next, length-written, put-room}
use Rattle.text_lines.specs.CellsLaws.{cells-next}
use Rattle.text_lines.specs.WordLine.{contradictory_word_line}

-- a turn of the loop over numbers
module _ (out after last numbers : List ℕ) (at next i : ℕ) (l : i < length numbers) (h : at + 4 * length numbers ≤ length out) (b : get_or numbers i 0 < 256)
    (n : next ≡ at + length (cells (take i numbers)))
    (e : after ≡ written out at (cells (take i numbers))) where
  pub numbers-step : (r : ℕ) → r ≡ next_at after next (9 ∷ digits_of 9 (get_or numbers i 0)) → last ≡ put_at after next (9 ∷ digits_of 9 (get_or numbers i 0))
      → (r ≡ at + length (cells (take (i + 1) numbers))) × (last ≡ written out at (cells (take (i + 1) numbers))) × (length last ≡ length out)
  numbers-step r p q =
      let x : ℕ = get_or numbers i 0 in
      let d : digits_of 9 x ≡ decimal x = digits-enough 9 2 x (omega arith) (omega arith) in
      let done : List ℕ = cells (take i numbers) in
      let t : length (9 ∷ decimal x) ≤ 4 = omega (arith, digits-most 2 x) in
      let k : length (take i numbers) ≡ i = length-take-le i numbers (omega arith) in
      let m : at + length done + length (9 ∷ decimal x) ≤ length out = omega (arith, cells-most 2 (take i numbers)) in
      let same : length after ≡ length out = rw e (length-written out at done (omega arith)) in
      let room = put-room after next (9 ∷ decimal x) (omega arith) in
      rw (cells-next numbers i l) (
        rw d at p ∙ room.0 ∙ rw (n, length-append) (add_assoc at (length done) (length (9 ∷ decimal x))),
        rw d at q ∙ room.1 ∙ rw (e, n) (written_on out at done (9 ∷ decimal x) m),
        ap length (rw d at q ∙ room.1) ∙ length-written after next (9 ∷ decimal x) (omega arith) ∙ same,
      )

-- a line whose line feed is put where the bytes before it end
pub record Fed (out before line : List ℕ) (end : ℕ) : Type 0 where
  pub room : end < length before
  pub same : length before ≡ length out
  pub size : end + 1 ≡ length line
  pub most : end + 1 ≤ length out
  pub holds : set before end 10 ≡ written out 0 line

-- the name
module _ (out name numbers one : List ℕ) (at : ℕ)
    (h : length name + 4 * length numbers < length out)
    (a : at ≡ next_at out 0 name)
    (e₁ : one ≡ put_at out 0 name) where
  room : (next_at out 0 name ≡ 0 + length name) × (put_at out 0 name ≡ written out 0 name)
  room = put-room out 0 name (omega arith)

  named : at ≡ 0 + length name
  named = a ∙ room.0

  first : one ≡ written out 0 name
  first = e₁ ∙ room.1

  pub line_first : at + 4 * length numbers ≤ length one
  line_first =
      let z = named in
      let s : length one ≡ length out = ap length first ∙ length-written out 0 name (omega arith) in
      omega arith

-- numbers after it, and the line feed
module _ (out name numbers one two : List ℕ) (at end : ℕ)
    (h : length name + 4 * length numbers < length out)
    (a : at ≡ next_at out 0 name)
    (e₁ : one ≡ put_at out 0 name)
    (b : end ≡ at + length (cells numbers))
    (e₂ : two ≡ written one at (cells numbers)) where
  joined : two ≡ written out 0 (name ++ cells numbers)
  joined =
      let m = cells-most 2 numbers in
      let z = named out name numbers one at h a e₁ in
      rw (e₂, first out name numbers one at h a e₁, z) (written_on out 0 name (cells numbers) (omega arith))

  pub line-fed : Fed out two (line_of name numbers) end
  unfolding line_with
  line-fed =
      let m = cells-most 2 numbers in
      let y = named out name numbers one at h a e₁ in
      let z : end ≡ 0 + length (name ++ cells numbers) = simp length-append (omega arith) in
      let l : length two ≡ length out = rw joined (length-written out 0 (name ++ cells numbers) (simp length-append (omega arith))) in
      record {
        room = omega arith;
        same = l;
        size = simp length-append (omega arith);
        most = omega arith;
        holds = rw (joined, ← append_assoc name (cells numbers) (10 ∷ [])) (written_next out 0 (name ++ cells numbers) end 10 z (omega arith));
      }

-- a text put after the texts at the start
module _ (out after last s t : List ℕ) (next r : ℕ) (h : length s + length t ≤ length out) (n : next ≡ 0 + length s) (e : after ≡ written out 0 s)
    (p : r ≡ next_at after next t)
    (q : last ≡ put_at after next t) where
  put-room-on : (next_at after next t ≡ next + length t) × (put_at after next t ≡ written after next t)
  put-room-on = let same : length after ≡ length out = rw e (length-written out 0 s (omega arith)) in put-room after next t (omega arith)

  put_next : r ≡ 0 + length (s ++ t)
  put_next = p ∙ put-room-on.0 ∙ rw (n, length-append) (add_assoc 0 (length s) (length t))

  put_on : last ≡ written out 0 (s ++ t)
  put_on = q ∙ put-room-on.1 ∙ rw (e, n) (written_on out 0 s t (omega arith))

-- the word refused and a 9
abbrev nine_name : List ℕ
nine_name = refused_name ++ (9 ∷ 57 ∷ [])

-- a 9 with the number of a word and a group
module _ (out one two three : List ℕ) (a b e x group : ℕ) (room : 32 ≤ length out)
    (a-is : a ≡ next_at out 0 nine_name)
    (one-is : one ≡ put_at out 0 nine_name)
    (b-is : b ≡ next_at one a (9 ∷ digits_of 9 x))
    (two_is : two ≡ put_at one a (9 ∷ digits_of 9 x))
    (e-is : e ≡ next_at two b (9 ∷ digits_of 9 group))
    (three-is : three ≡ put_at two b (9 ∷ digits_of 9 group)) where
  abbrev before : List ℕ
  before = (nine_name ++ (9 ∷ digits_of 9 x)) ++ (9 ∷ digits_of 9 group)

  nine-parts : contradictory_word_line x group ≡ before ++ (10 ∷ [])
  unfolding contradictory_word_line line_with cells_of
  nine-parts = rw (digits-one 9 9 (omega arith)) (simp (append_assoc, append-nil))

  nine-held : (e ≡ 0 + length before) × (three ≡ written out 0 before) × (length before ≤ 31)
  nine-held =
      let first = put-room out 0 nine_name (omega arith) in
      let s = digits-most 9 x in
      let t = digits-most 9 group in
      let m = length-append nine_name (9 ∷ digits_of 9 x) in
      let k = length-append (nine_name ++ (9 ∷ digits_of 9 x)) (9 ∷ digits_of 9 group) in
      let u = put_next out one two nine_name (9 ∷ digits_of 9 x) a b (omega arith) (a-is ∙ first.0) (one-is ∙ first.1) b-is two_is in
      let v = put_on out one two nine_name (9 ∷ digits_of 9 x) a b (omega arith) (a-is ∙ first.0) (one-is ∙ first.1) b-is two_is in (
        put_next out two three (nine_name ++ (9 ∷ digits_of 9 x)) (9 ∷ digits_of 9 group) b e (omega arith) u v e-is three-is,
        put_on out two three (nine_name ++ (9 ∷ digits_of 9 x)) (9 ∷ digits_of 9 group) b e (omega arith) u v e-is three-is,
        omega arith,
      )

  pub nine-fed : Fed out three (contradictory_word_line x group) e
  nine-fed =
      let h = nine-held in
      let n = length-append before (10 ∷ []) in
      let l : length three ≡ length out = ap length h.1 ∙ length-written out 0 before (omega arith) in
      record {
        room = omega arith;
        same = l;
        size = rw nine-parts (omega arith);
        most = omega arith;
        holds = rw (nine-parts, h.1) (written_next out 0 before e 10 h.0 (omega arith));
      }
