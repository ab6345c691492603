-- Which group contradicts: the lowest whose present symbols break its own equations, whatever stands in its lost places.
use Rattle.std.specs.Prelude.{Bool, true, false, not, List, ℕ, ◌^◌}
use Rattle.counting.specs.First.{first_below}
use Rattle.code.specs.Edition.{Edition}
use Rattle.code.specs.Word.{is_local}
use Rattle.code.specs.Filling.{Found, found, none, search}
use Rattle.code.specs.Stretch.{stretch}

-- whether something was found
abbrev pub is_found : Found → Bool
is_found (found x) = true
is_found none = false

-- group g is one "whose present bytes no filling can satisfy locally"
unfoldable pub is_broken : Edition → ℕ → ℕ → List ℕ → List ℕ → ℕ → Bool
is_broken E w c word marks g = not (is_found (search (2 ^ E.bits) (λ x. is_local E w c x 0) (stretch w g marks) (stretch w g word)))

-- "the lowest group whose present bytes no filling can satisfy locally, or m if each group is sound and only the equations across fail"
unfoldable pub contradicting_group : Edition → ℕ → ℕ → ℕ → List ℕ → List ℕ → ℕ
contradicting_group E m w c word marks = first_below m (is_broken E w c word marks)
