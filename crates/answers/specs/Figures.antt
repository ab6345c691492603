-- What Describe, Judge and Check answer, by the paper's numbers and figures.
use Rattle.std.specs.Prelude.{List, [], ◌∷◌, ℕ, zero, suc, Bool, true, false, Result, Ok, Err, Option, Some, None}
use Rattle.code.specs.Refusals.{unless_refused}
use Rattle.code.specs.Limits.{Limits, place_count, data_count, sure_count, shape_refusal_in}
use Rattle.answers.specs.declared.Refusal.{Refusal}
use Rattle.answers.specs.declared.Figures.{Figures}
use Rattle.answers.specs.Answers.{refused_number, refusal_at, given_at, answer_at}

-- "Describe: n, k and the sure count of a shape."
abbrev pub described_at : ℕ → ℕ → ℕ → ℕ → Result Figures Refusal
described_at r n k sure = given_at r (record { n = n; k = k; sure = sure })

-- the number given back, 0 for done
abbrev pub described_number : Result Figures Refusal → ℕ
described_number = refused_number

-- and the figures, none on a refusal
abbrev pub described_figures : Result Figures Refusal → List ℕ
described_figures (Ok f) = f.n ∷ f.k ∷ f.sure ∷ []
described_figures (Err e) = []

-- the answer by its number
abbrev pub judged_at : ℕ → Result Unit Refusal
judged_at = answer_at

-- the number given back, 0 for determined
abbrev pub judged_number : Result Unit Refusal → ℕ
judged_number = refused_number

-- yes, which is no group that contradicts, or no with a group, or a refusal
abbrev pub checked_at : ℕ → Bool → ℕ → Result (Option ℕ) Refusal
checked_at zero true group = Ok None
checked_at zero false group = Ok (Some group)
checked_at (suc r) b group = Err (refusal_at (suc r) 0)

-- the number given back, 0 for an answer
abbrev pub checked_number : Result (Option ℕ) Refusal → ℕ
checked_number = refused_number

-- and the figures, 1 for yes, 0 and the group for no; none on a refusal. (C gets a no as 9 with its group.)
abbrev pub checked_figures : Result (Option ℕ) Refusal → List ℕ
checked_figures (Ok None) = 1 ∷ []
checked_figures (Ok (Some group)) = 0 ∷ group ∷ []
checked_figures (Err e) = []

-- "Describe: n, k and the sure count of a shape" of three numbers of any size; a refused shape has no figures
unfoldable pub described_in : Limits → ℕ → ℕ → ℕ → Result Figures Refusal
described_in L m w c = described_at (shape_refusal_in L m w c) (place_count m w) (data_count m w c) (sure_count w c)

-- the figures of three numbers of any size, none where they are refused
unfoldable pub figures_in : Limits → ℕ → ℕ → ℕ → List ℕ
figures_in L m w c = unless_refused (shape_refusal_in L m w c) (place_count m w ∷ data_count m w c ∷ sure_count w c ∷ []) []
