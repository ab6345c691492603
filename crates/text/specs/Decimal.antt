-- Numbers as text: "decimal [..] without sign or leading zero", below any bound. Text is a list of bytes in ASCII.
use Rattle.std.specs.Prelude.{Bool, cond, ◌&&◌, true, not, List, [], ◌∷◌, ◌++◌, ℕ, zero, suc, ◌+◌, ◌-◌, ◌*◌, ◌/◌, ◌%◌, eqb, leb, ltb}

-- the digits of a number that has at most so many digits after its first one; the digit d is the byte 48 + d
unfoldable pub digits_of : ℕ → ℕ → List ℕ
digits_of zero n = (48 + n) ∷ []
digits_of (suc more) n = cond (ltb n 10) ((48 + n) ∷ []) (digits_of more (n / 10) ++ ((48 + n % 10) ∷ []))

-- the digits of a number below 1,000
abbrev pub decimal : ℕ → List ℕ
decimal = digits_of 2

-- the bytes of the digits 0 to 9
abbrev pub is_digit : ℕ → Bool
is_digit x = leb 48 x && ltb x 58

-- what a text means that is no number below the bound
abbrev pub unreadable : ℕ → ℕ
unreadable bound = bound + 1

-- the number that these digits make after the number a, where it is below the bound
unfoldable pub digits_after : ℕ → ℕ → List ℕ → ℕ
digits_after bound a [] = a
digits_after bound a (x ∷ xs) =
    cond (is_digit x && ltb (10 * a + (x - 48)) bound) (digits_after bound (10 * a + (x - 48)) xs) (unreadable bound)

-- the number below the bound that a text is: some digits, of which the first of several is not 0
unfoldable pub number_of : ℕ → List ℕ → ℕ
number_of bound [] = unreadable bound
number_of bound (x ∷ []) = digits_after bound 0 (x ∷ [])
number_of bound (x ∷ y ∷ ys) = cond (eqb x 48) (unreadable bound) (digits_after bound 0 (x ∷ y ∷ ys))

-- ---- reading, one digit at a time

-- the number a with one digit more, where it is below the bound
unfoldable pub digit_after : ℕ → ℕ → ℕ → ℕ
digit_after bound a x = cond (is_digit x && ltb (10 * a + (x - 48)) bound) (10 * a + (x - 48)) (unreadable bound)

-- ---- the bytes of a number's text

-- whether a byte stands nowhere in a text
unfoldable pub without : ℕ → List ℕ → Bool
without y [] = true
without y (x ∷ xs) = not (eqb x y) && without y xs
