-- What Check answers.
use Rattle.std.specs.Prelude.{cond, List, [], ◌∷◌, ℕ, Option, Result, length, replicate}
use Rattle.code.specs.Refusals.{unless_refused}
use Rattle.code.specs.Edition.{Edition}
use Rattle.code.specs.Word.{is_codeword}
use Rattle.code.specs.Contradiction.{contradicting_group}
use Rattle.code.specs.Limits.{word_refusal_in}
use Rattle.answers.specs.declared.Refusal.{Refusal}
use Rattle.answers.specs.Figures.{checked_at}

-- the group that contradicts where every place is present
abbrev pub whole_group_in : Edition → ℕ → ℕ → ℕ → List ℕ → ℕ
whole_group_in E m w c word = contradicting_group E m w c word (replicate (length word) 0)

-- "Check: yes exactly if the word is a codeword."
unfoldable pub checked_in : Edition → ℕ → ℕ → ℕ → List ℕ → Result (Option ℕ) Refusal
checked_in E m w c word = checked_at (word_refusal_in E.limits m w c (length word)) (is_codeword E m w c word) (whole_group_in E m w c word)

-- the figure of any call
unfoldable pub check_figures_in : Edition → ℕ → ℕ → ℕ → List ℕ → List ℕ
check_figures_in E m w c word =
    unless_refused (word_refusal_in E.limits m w c (length word)) (cond (is_codeword E m w c word) (1 ∷ []) (0 ∷ whole_group_in E m w c word ∷ [])) []
