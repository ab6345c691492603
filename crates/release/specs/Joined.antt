-- The texts as the code keeps them: end to end, with the places where they start.
use Rattle.std.specs.Prelude.{cond, List, [], ◌∷◌, ◌++◌, ℕ, ◌+◌, ◌-◌, ltb, take, drop, get_or}
use Prim.Native.String.{String}
use Rattle.release.specs.Texts.{text_bytes, texts, other}

-- texts end to end, and last that of any other number
abbrev pub end_to_end : List String → List ℕ
end_to_end [] = text_bytes other
end_to_end (t ∷ ts) = text_bytes t ++ end_to_end ts

unfoldable pub joined_texts : List ℕ
joined_texts = end_to_end texts

-- where each starts, and where the last one ends
unfoldable pub starts : List ℕ
starts =
    0 ∷ 4 ∷ 40 ∷ 82 ∷ 113 ∷ 143 ∷ 205 ∷ 258 ∷ 280 ∷ 304 ∷ 337 ∷ 372 ∷ 409 ∷ 436 ∷ 484 ∷ 529 ∷ 561 ∷ 615 ∷ 673 ∷ 718
    ∷ 765 ∷ 803 ∷ 863 ∷ 885 ∷ 917 ∷ 959 ∷ 985 ∷ 1020 ∷ 1074 ∷ 1128 ∷ 1169 ∷ 1198 ∷ 1219 ∷ 1247 ∷ []

-- the row of a number: its own, or the last one
unfoldable pub row_of : ℕ → ℕ
row_of number = cond (ltb number 32) number 32

-- what stands in a row
abbrev pub row_text : ℕ → List ℕ
row_text i = take (get_or starts (i + 1) 0 - get_or starts i 0) (drop (get_or starts i 0) joined_texts)
