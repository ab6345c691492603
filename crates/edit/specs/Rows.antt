-- The constants of an edit: the marks of a group's local checks, and what its last c+2 places take so that the equations across hold again.
use Rattle.std.specs.Prelude.{List, [], ◌∷◌, ◌++◌, ℕ, zero, suc, ◌+◌, ◌-◌, ◌*◌, take, drop, replicate}

-- fifteen places that stay and three that are lost: every group's marks with its local checks lost are a part of these
unfoldable pub tail_marks : List ℕ
tail_marks = 0 ∷ 0 ∷ 0 ∷ 0 ∷ 0 ∷ 0 ∷ 0 ∷ 0 ∷ 0 ∷ 0 ∷ 0 ∷ 0 ∷ 0 ∷ 0 ∷ 0 ∷ 1 ∷ 1 ∷ 1 ∷ []

-- the marks of a group of w places with its last c lost
abbrev pub local_marks : ℕ → ℕ → List ℕ
local_marks w c = take w (drop (15 + c - w) tail_marks)

-- Five numbers a row, for c from 1 to 3 and w from c+2 on, fourteen rows for each c: symbols of the last c+2 places of a group that meet its own
-- equations and whose part of the first sum across is 1, of the second 0.
unfoldable pub first_fixes : List ℕ
first_fixes =
    95 ∷ 53 ∷ 106 ∷ 0 ∷ 0 ∷
    41 ∷ 174 ∷ 135 ∷ 0 ∷ 0 ∷
    182 ∷ 111 ∷ 217 ∷ 0 ∷ 0 ∷
    21 ∷ 160 ∷ 181 ∷ 0 ∷ 0 ∷
    74 ∷ 149 ∷ 223 ∷ 0 ∷ 0 ∷
    99 ∷ 59 ∷ 88 ∷ 0 ∷ 0 ∷
    213 ∷ 84 ∷ 129 ∷ 0 ∷ 0 ∷
    192 ∷ 244 ∷ 52 ∷ 0 ∷ 0 ∷
    138 ∷ 97 ∷ 235 ∷ 0 ∷ 0 ∷
    233 ∷ 90 ∷ 179 ∷ 0 ∷ 0 ∷
    60 ∷ 14 ∷ 50 ∷ 0 ∷ 0 ∷
    252 ∷ 250 ∷ 6 ∷ 0 ∷ 0 ∷
    118 ∷ 155 ∷ 237 ∷ 0 ∷ 0 ∷
    233 ∷ 179 ∷ 90 ∷ 0 ∷ 0 ∷
    197 ∷ 158 ∷ 181 ∷ 238 ∷ 0 ∷
    235 ∷ 84 ∷ 202 ∷ 117 ∷ 0 ∷
    57 ∷ 242 ∷ 166 ∷ 109 ∷ 0 ∷
    230 ∷ 157 ∷ 111 ∷ 20 ∷ 0 ∷
    244 ∷ 9 ∷ 148 ∷ 105 ∷ 0 ∷
    140 ∷ 92 ∷ 85 ∷ 133 ∷ 0 ∷
    44 ∷ 115 ∷ 47 ∷ 112 ∷ 0 ∷
    82 ∷ 124 ∷ 15 ∷ 33 ∷ 0 ∷
    227 ∷ 49 ∷ 77 ∷ 159 ∷ 0 ∷
    184 ∷ 103 ∷ 86 ∷ 137 ∷ 0 ∷
    7 ∷ 21 ∷ 114 ∷ 96 ∷ 0 ∷
    204 ∷ 180 ∷ 161 ∷ 217 ∷ 0 ∷
    123 ∷ 216 ∷ 218 ∷ 121 ∷ 0 ∷
    0 ∷ 0 ∷ 0 ∷ 0 ∷ 0 ∷
    22 ∷ 16 ∷ 14 ∷ 118 ∷ 126 ∷
    61 ∷ 134 ∷ 89 ∷ 205 ∷ 47 ∷
    6 ∷ 2 ∷ 164 ∷ 201 ∷ 105 ∷
    187 ∷ 233 ∷ 7 ∷ 155 ∷ 206 ∷
    4 ∷ 119 ∷ 103 ∷ 232 ∷ 252 ∷
    82 ∷ 17 ∷ 151 ∷ 171 ∷ 127 ∷
    115 ∷ 90 ∷ 88 ∷ 130 ∷ 243 ∷
    67 ∷ 145 ∷ 120 ∷ 80 ∷ 250 ∷
    41 ∷ 227 ∷ 148 ∷ 154 ∷ 196 ∷
    210 ∷ 124 ∷ 109 ∷ 52 ∷ 247 ∷
    202 ∷ 198 ∷ 156 ∷ 56 ∷ 168 ∷
    100 ∷ 188 ∷ 175 ∷ 31 ∷ 104 ∷ []

-- the same with 0 in the first sum across and, before the factor of the group, the inverse of 2^14 in the second
unfoldable pub second_fixes : List ℕ
second_fixes =
    233 ∷ 17 ∷ 248 ∷ 0 ∷ 0 ∷
    119 ∷ 69 ∷ 50 ∷ 0 ∷ 0 ∷
    14 ∷ 141 ∷ 131 ∷ 0 ∷ 0 ∷
    112 ∷ 34 ∷ 82 ∷ 0 ∷ 0 ∷
    153 ∷ 51 ∷ 170 ∷ 0 ∷ 0 ∷
    238 ∷ 118 ∷ 152 ∷ 0 ∷ 0 ∷
    224 ∷ 251 ∷ 27 ∷ 0 ∷ 0 ∷
    144 ∷ 217 ∷ 73 ∷ 0 ∷ 0 ∷
    9 ∷ 234 ∷ 227 ∷ 0 ∷ 0 ∷
    231 ∷ 156 ∷ 123 ∷ 0 ∷ 0 ∷
    7 ∷ 103 ∷ 96 ∷ 0 ∷ 0 ∷
    151 ∷ 190 ∷ 41 ∷ 0 ∷ 0 ∷
    158 ∷ 84 ∷ 202 ∷ 0 ∷ 0 ∷
    231 ∷ 123 ∷ 156 ∷ 0 ∷ 0 ∷
    229 ∷ 33 ∷ 82 ∷ 150 ∷ 0 ∷
    227 ∷ 251 ∷ 218 ∷ 194 ∷ 0 ∷
    114 ∷ 240 ∷ 11 ∷ 137 ∷ 0 ∷
    216 ∷ 125 ∷ 141 ∷ 40 ∷ 0 ∷
    217 ∷ 22 ∷ 107 ∷ 164 ∷ 0 ∷
    32 ∷ 181 ∷ 163 ∷ 54 ∷ 0 ∷
    2 ∷ 235 ∷ 94 ∷ 183 ∷ 0 ∷
    210 ∷ 212 ∷ 63 ∷ 57 ∷ 0 ∷
    173 ∷ 60 ∷ 232 ∷ 121 ∷ 0 ∷
    105 ∷ 195 ∷ 255 ∷ 85 ∷ 0 ∷
    113 ∷ 112 ∷ 179 ∷ 178 ∷ 0 ∷
    243 ∷ 10 ∷ 122 ∷ 131 ∷ 0 ∷
    165 ∷ 219 ∷ 223 ∷ 161 ∷ 0 ∷
    0 ∷ 0 ∷ 0 ∷ 0 ∷ 0 ∷
    44 ∷ 5 ∷ 103 ∷ 158 ∷ 208 ∷
    95 ∷ 106 ∷ 192 ∷ 171 ∷ 94 ∷
    41 ∷ 4 ∷ 15 ∷ 134 ∷ 164 ∷
    53 ∷ 231 ∷ 113 ∷ 84 ∷ 247 ∷
    45 ∷ 198 ∷ 195 ∷ 191 ∷ 151 ∷
    210 ∷ 93 ∷ 55 ∷ 48 ∷ 136 ∷
    235 ∷ 156 ∷ 152 ∷ 71 ∷ 168 ∷
    143 ∷ 30 ∷ 249 ∷ 214 ∷ 190 ∷
    119 ∷ 173 ∷ 107 ∷ 12 ∷ 189 ∷
    145 ∷ 212 ∷ 137 ∷ 73 ∷ 133 ∷
    218 ∷ 185 ∷ 37 ∷ 42 ∷ 108 ∷
    159 ∷ 68 ∷ 29 ∷ 58 ∷ 252 ∷ []

-- where the row of c and w begins
abbrev pub row_start : ℕ → ℕ → ℕ
row_start w c = ((c - 1) * 14 + (w - (c + 2))) * 5

-- the row as a group's stretch
unfoldable pub fix_of : List ℕ → ℕ → ℕ → List ℕ
fix_of fixes w c = replicate (w - (c + 2)) 0 ++ take (c + 2) (drop (row_start w c) fixes)

-- the first or the second
abbrev pub fixes_at : ℕ → List ℕ
fixes_at zero = first_fixes
fixes_at (suc i) = second_fixes
