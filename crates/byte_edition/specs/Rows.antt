-- The rows of coefficients as constants, and one test over all of them.
use Rattle.std.specs.Prelude.{List, [], ◌∷◌, ℕ, get_or, replicate}

-- a row of zeros
abbrev pub no_row : List ℕ
no_row = replicate 16 0

-- the locators to the powers 0 to 3
unfoldable pub power_rows : List (List ℕ)
power_rows =
    (1 ∷ 1 ∷ 1 ∷ 1 ∷ 1 ∷ 1 ∷ 1 ∷ 1 ∷ 1 ∷ 1 ∷ 1 ∷ 1 ∷ 1 ∷ 1 ∷ 1 ∷ 1 ∷ []) ∷
    (1 ∷ 152 ∷ 78 ∷ 10 ∷ 153 ∷ 214 ∷ 68 ∷ 147 ∷ 79 ∷ 146 ∷ 215 ∷ 220 ∷ 221 ∷ 69 ∷ 11 ∷ 0 ∷ []) ∷
    (1 ∷ 78 ∷ 153 ∷ 68 ∷ 79 ∷ 215 ∷ 221 ∷ 11 ∷ 152 ∷ 10 ∷ 214 ∷ 147 ∷ 146 ∷ 220 ∷ 69 ∷ 0 ∷ []) ∷
    (1 ∷ 10 ∷ 68 ∷ 146 ∷ 221 ∷ 1 ∷ 10 ∷ 68 ∷ 146 ∷ 221 ∷ 1 ∷ 10 ∷ 68 ∷ 146 ∷ 221 ∷ 0 ∷ []) ∷ []

-- b for c from 1 to 4
unfoldable pub first_rows : List (List ℕ)
first_rows =
    (3 ∷ 4 ∷ 97 ∷ 130 ∷ 7 ∷ 101 ∷ 227 ∷ 133 ∷ 98 ∷ 134 ∷ 102 ∷ 231 ∷ 228 ∷ 224 ∷ 129 ∷ 0 ∷ []) ∷
    (3 ∷ 90 ∷ 17 ∷ 125 ∷ 232 ∷ 213 ∷ 201 ∷ 131 ∷ 161 ∷ 173 ∷ 212 ∷ 135 ∷ 26 ∷ 229 ∷ 226 ∷ 0 ∷ []) ∷
    (3 ∷ 37 ∷ 218 ∷ 53 ∷ 240 ∷ 176 ∷ 51 ∷ 206 ∷ 14 ∷ 85 ∷ 178 ∷ 28 ∷ 80 ∷ 169 ∷ 120 ∷ 0 ∷ []) ∷
    (3 ∷ 40 ∷ 252 ∷ 223 ∷ 41 ∷ 101 ∷ 144 ∷ 244 ∷ 253 ∷ 70 ∷ 102 ∷ 184 ∷ 8 ∷ 34 ∷ 111 ∷ 0 ∷ []) ∷ []

-- b^16 for c from 1 to 4
unfoldable pub second_rows : List (List ℕ)
second_rows =
    (77 ∷ 157 ∷ 37 ∷ 205 ∷ 208 ∷ 184 ∷ 232 ∷ 29 ∷ 104 ∷ 80 ∷ 245 ∷ 117 ∷ 56 ∷ 165 ∷ 128 ∷ 0 ∷ []) ∷
    (77 ∷ 140 ∷ 94 ∷ 161 ∷ 227 ∷ 155 ∷ 31 ∷ 204 ∷ 125 ∷ 166 ∷ 154 ∷ 81 ∷ 85 ∷ 57 ∷ 233 ∷ 0 ∷ []) ∷
    (77 ∷ 97 ∷ 13 ∷ 62 ∷ 250 ∷ 35 ∷ 239 ∷ 207 ∷ 151 ∷ 26 ∷ 111 ∷ 132 ∷ 134 ∷ 59 ∷ 61 ∷ 0 ∷ []) ∷
    (77 ∷ 187 ∷ 33 ∷ 145 ∷ 186 ∷ 184 ∷ 222 ∷ 103 ∷ 32 ∷ 8 ∷ 245 ∷ 101 ∷ 70 ∷ 177 ∷ 178 ∷ 0 ∷ []) ∷ []

-- the entry of a row at a place
abbrev pub at : List (List ℕ) → ℕ → ℕ → ℕ
at rows i j = get_or (get_or rows i no_row) j 0
