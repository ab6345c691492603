-- Laws: The first line of an input and what comes after it.
use Rattle.std.specs.Prelude.{◌≡◌, refl, Bool, true, false, cond, ◌||◌, List, [], ◌∷◌, ℕ, suc, ◌≤◌, eqb, ltb, length, take, drop}
use Rattle.std.proofs.Common.{sym, ◌∙◌, arith, lt-ltb, ltb-true, length-take-le}
use Rattle.std.proofs.Math.Dec.{leb-suc-suc}
use Rattle.text.specs.FieldLaws.{take_part}
use Rattle.text.specs.Fields.{up_to}
use Rattle.block_input.specs.Lines.{until_line_feed, after_line, has_feed, settled, next_start}

pub line-most : (xs : List ℕ) → length (until_line_feed xs) ≤ length xs
unfolding up_to
line-most [] = omega arith
line-most (x ∷ xs) = go (eqb x 10) (line-most xs)
  where
    go : (b : Bool) → length (until_line_feed xs) ≤ length xs → length (cond b [] (x ∷ until_line_feed xs)) ≤ suc (length xs)
    go true h = omega arith
    go false h = omega arith

-- the first line as it is lent
pub line-lent : (input : List ℕ) (n : ℕ) → n ≡ length (until_line_feed input) → n ≡ length (take n input)
line-lent input n e = let k = line-most input in sym (length-take-le n input (omega arith))

pub take-line : (xs : List ℕ) → take (length (until_line_feed xs)) xs ≡ until_line_feed xs
take-line = take_part 10

-- a line feed stands there, or the input ends there
pub feed-there : (xs : List ℕ) → has_feed xs ≡ ltb (length (until_line_feed xs)) (length xs)
unfolding up_to has_feed
feed-there [] = refl
feed-there (x ∷ xs) = go (eqb x 10) (feed-there xs)
  where
    go : (b : Bool) → has_feed xs ≡ ltb (length (until_line_feed xs)) (length xs)
        → cond b true (has_feed xs) ≡ ltb (length (cond b [] (x ∷ until_line_feed xs))) (suc (length xs))
    go true h = sym (lt-ltb 0 (suc (length xs)) (omega arith))
    go false h = h ∙ sym (leb-suc-suc (suc (length (until_line_feed xs))) (length xs))

pub drop-line : (xs : List ℕ) → drop (next_start (length (until_line_feed xs)) (length xs)) xs ≡ after_line xs
unfolding up_to after_line
drop-line [] = refl
drop-line (x ∷ xs) = go (eqb x 10) (drop-line xs)
  where
    step : (b : Bool) (e : ℕ) → drop (cond b (suc e) e) xs ≡ after_line xs → drop (cond b (suc (suc e)) (suc e)) (x ∷ xs) ≡ after_line xs
    step true e h = h
    step false e h = h

    go : (b : Bool) → drop (next_start (length (until_line_feed xs)) (length xs)) xs ≡ after_line xs
        → drop (next_start (length (cond b [] (x ∷ until_line_feed xs))) (suc (length xs))) (x ∷ xs) ≡ cond b xs (after_line xs)
    go true h = rw (lt-ltb 0 (suc (length xs)) (omega arith))
    go false h = rw (leb-suc-suc (suc (length (until_line_feed xs))) (length xs))
        (step (ltb (length (until_line_feed xs)) (length xs)) (length (until_line_feed xs)) h)

pub start-most : (xs : List ℕ) → next_start (length (until_line_feed xs)) (length xs) ≤ length xs
start-most xs = go (ltb (length (until_line_feed xs)) (length xs)) refl
  where
    go : (b : Bool) → ltb (length (until_line_feed xs)) (length xs) ≡ b → cond b (suc (length (until_line_feed xs))) (length (until_line_feed xs)) ≤ length xs
    go true e = let h = ltb-true (length (until_line_feed xs)) (length xs) e in omega arith
    go false e = line-most xs

pub settled_is : (ended : Bool) (xs : List ℕ) → (ended || (ltb (length (until_line_feed xs)) (length xs) || ltb 1024 (length xs))) ≡ settled ended xs
unfolding settled
settled_is ended xs = rw (feed-there xs)
