-- The whole session of the requirements, shown of the definition.
use Rattle.std.specs.Prelude.{List, [], ◌∷◌, ℕ}

-- shape⇥2⇥3⇥1, data⇥1⇥1, word⇥1⇥-⇥0⇥78⇥-⇥128, word⇥-⇥-⇥-⇥-⇥-⇥128, each with its line feed
abbrev pub paper_input : List ℕ
paper_input =
    115 ∷ 104 ∷ 97 ∷ 112 ∷ 101 ∷ 9 ∷ 50 ∷ 9 ∷ 51 ∷ 9 ∷ 49 ∷ 10 ∷
    100 ∷ 97 ∷ 116 ∷ 97 ∷ 9 ∷ 49 ∷ 9 ∷ 49 ∷ 10 ∷
    119 ∷ 111 ∷ 114 ∷ 100 ∷ 9 ∷ 49 ∷ 9 ∷ 45 ∷ 9 ∷ 48 ∷ 9 ∷ 55 ∷ 56 ∷ 9 ∷ 45 ∷ 9 ∷ 49 ∷ 50 ∷ 56 ∷ 10 ∷
    119 ∷ 111 ∷ 114 ∷ 100 ∷ 9 ∷ 45 ∷ 9 ∷ 45 ∷ 9 ∷ 45 ∷ 9 ∷ 45 ∷ 9 ∷ 45 ∷ 9 ∷ 49 ∷ 50 ∷ 56 ∷ 10 ∷ []

-- ok⇥6⇥2, word⇥1⇥1⇥0⇥78⇥206⇥128 twice, refused⇥8
abbrev pub paper_output : List ℕ
paper_output =
    111 ∷ 107 ∷ 9 ∷ 54 ∷ 9 ∷ 50 ∷ 10 ∷
    119 ∷ 111 ∷ 114 ∷ 100 ∷ 9 ∷ 49 ∷ 9 ∷ 49 ∷ 9 ∷ 48 ∷ 9 ∷ 55 ∷ 56 ∷ 9 ∷ 50 ∷ 48 ∷ 54 ∷ 9 ∷ 49 ∷ 50 ∷ 56 ∷ 10 ∷
    119 ∷ 111 ∷ 114 ∷ 100 ∷ 9 ∷ 49 ∷ 9 ∷ 49 ∷ 9 ∷ 48 ∷ 9 ∷ 55 ∷ 56 ∷ 9 ∷ 50 ∷ 48 ∷ 54 ∷ 9 ∷ 49 ∷ 50 ∷ 56 ∷ 10 ∷
    114 ∷ 101 ∷ 102 ∷ 117 ∷ 115 ∷ 101 ∷ 100 ∷ 9 ∷ 56 ∷ 10 ∷ []
