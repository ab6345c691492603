-- The figures of a loss pattern, which a job keeps beside its marks: "each group's lost count and the excess".
use Rattle.std.specs.Prelude.{cond, List, ℕ, ltb}
use Rattle.code.specs.Marks.{lost_in, excess}
use Rattle.code.specs.Determined.{list_of}
use Rattle.desk_job.specs.declared.Figures.{Figures}

-- "each group's lost count [..], counts past group m−1 being 0"
unfoldable pub lost_count : ℕ → ℕ → List ℕ → ℕ → ℕ
lost_count m w marks g = cond (ltb g m) (lost_in w marks g) 0

-- the fifteen counts
abbrev pub lost_counts : ℕ → ℕ → List ℕ → List ℕ
lost_counts m w marks = list_of 15 (lost_count m w marks)

-- "those worked from the marks"
abbrev pub loss_figures : ℕ → ℕ → ℕ → List ℕ → Figures
loss_figures m w c marks = record { lost = lost_counts m w marks; excess = excess m w c marks }
