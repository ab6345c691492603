-- Laws: Text written over a buffer.
use Rattle.std.specs.Prelude.{◌≡◌, List, [], ◌∷◌, ◌++◌, ℕ, zero, suc, ◌+◌, ◌-◌, ◌≤◌, ◌<◌, get_or, take, drop, set, replicate}
use Rattle.std.proofs.Common.{◌∙◌, append_assoc, add-zero, zero-add, add_assoc, arith, length-append, length-drop, take-append-drop, length-take-le, take-suc, take_at, drop-drop}
use Rattle.std.proofs.Math.Nat.{sub-zero, zero-sub, suc-sub-suc}
use borrow.Author.Tests.{le-leb, lt-leb}
use Rattle.std.proofs.Math.ListN.{length}
use Rattle.std.proofs.lemmas.List.{set_at}
use Rattle.std.proofs.lemmas.List.Edits.{sets, sets-eq}
use Rattle.std.proofs.Math.Seq.{drop-append-add}
use Rattle.text.specs.Padded.{padded}
use Rattle.text.specs.Written.{written, put_at, next_at}

pub written-nothing : (out : List ℕ) (at : ℕ) → written out at [] ≡ out
unfolding written
written-nothing out at = rw add-zero (take-append-drop at out)

pub length-written : (out : List ℕ) (at : ℕ) (text : List ℕ) → at + length text ≤ length out → length (written out at text) ≡ length out
unfolding written
length-written out at text h =
    let a : at ≤ length out = omega arith in simp (length-append, length-take-le at out a, length-drop) (omega arith)

-- the text is within what is written
pub written-holds : (out : List ℕ) (at : ℕ) (text : List ℕ) → length text ≤ length (written out at text)
unfolding written
written-holds out at text = simp length-append (omega arith)

drop_past : (p q : List ℕ) (n k : ℕ) → length p ≡ n → drop (n + k) (p ++ q) ≡ drop k q
drop_past p q n k e = rw (← e) (drop-append-add p q k)

-- text written after text
pub written_on : (out : List ℕ) (at : ℕ) (s t : List ℕ) → at + length s + length t ≤ length out
    → written (written out at s) (at + length s) t ≡ written out at (s ++ t)
unfolding written
written_on out at s t h =
    let n : ℕ = at + length s in
    let p : List ℕ = take at out ++ s in
    let d : List ℕ = drop n out in
    let a : at ≤ length out = omega arith in
    let e : length p ≡ n = simp (length-append, length-take-le at out a) in
    rw (← append_assoc (take at out) s d, take_at p d n e, drop_past p d n (length t) e, drop-drop (length t) n out)
    (rw (length-append, ← add_assoc at (length s) (length t)) (simp append_assoc))

-- bytes stored one after another
pub sets-written : (out : List ℕ) (at : ℕ) (text : List ℕ) → at + length text ≤ length out → sets out at text ≡ written out at text
unfolding written
sets-written out at text h = sets-eq text out at h ∙ append_assoc (take at out) text (drop (at + length text) out)

-- one byte more
pub written_next : (out : List ℕ) (at : ℕ) (s : List ℕ) (next b : ℕ) → next ≡ at + length s → next < length out
    → set (written out at s) next b ≡ written out at (s ++ (b ∷ []))
written_next out at s next b e h =
    let l : length (written out at s) ≡ length out = length-written out at s (omega arith) in
    sets-written (written out at s) next (b ∷ []) (omega arith) ∙ rw e (written_on out at s (b ∷ []) (omega arith))

drop-zeros : (n k : ℕ) → drop {A = ℕ} k (replicate n 0) ≡ replicate (n - k) 0
drop-zeros n zero = rw sub-zero
drop-zeros zero (suc k) = rw zero-sub
drop-zeros (suc n) (suc k) = rw suc-sub-suc (drop-zeros n k)

-- text written into an empty buffer
pub written-padded : (n : ℕ) (text : List ℕ) → written (replicate n 0) 0 text ≡ padded n text
unfolding written
written-padded n text = rw (zero-add (length text), drop-zeros n (length text))

-- one byte before it
pub written-before : (out : List ℕ) (i b : ℕ) (t : List ℕ) → i < length out → set (written out (suc i) t) i b ≡ written out i (b ∷ t)
unfolding written
written-before out i b t l =
    let n : length (take i out) ≡ i = length-take-le i out (omega arith) in
    let e : suc i + length t ≡ i + suc (length t) = omega arith in
    rw (take-suc out i 0 l, append_assoc, e) (set_at (take i out) (get_or out i 0) (t ++ drop (i + suc (length t)) out) b i n)

-- a text put where it has room, or none
module _ (out : List ℕ) (at : ℕ) (text : List ℕ) where
  pub put-room : at + length text ≤ length out → (next_at out at text ≡ at + length text) × (put_at out at text ≡ written out at text)
  unfolding put_at next_at
  put-room h = let e = le-leb (at + length text) (length out) h in (simp e, simp e)

  pub put-none : length out < at + length text → (next_at out at text ≡ at) × (put_at out at text ≡ out)
  unfolding put_at next_at
  put-none h = let e = lt-leb (at + length text) (length out) h in (simp e, simp e)
