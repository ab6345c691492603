-- Repair of one group by its own equations, on its stretch of the word and the marks.
use Rattle.std.specs.Prelude.{List, ℕ, ◌^◌, ltb}
use Rattle.code.specs.Edition.{Edition}
use Rattle.code.specs.Word.{is_local}
use Rattle.code.specs.Marks.{lost_in}
use Rattle.code.specs.Filling.{Passing}
use Rattle.code.specs.Outcome.{Outcome, answered}
use Rattle.code.specs.Stretch.{stretch, with_stretch}

-- "Repair group g: 8 exactly if more than c of its places are lost; else 9 exactly if no filling satisfies the group's own equations; else
-- the only filling is written and that group's marks are cleared." "Repair gives its own group." On the stretch of group g:
abbrev pub repaired : Edition → ℕ → ℕ → ℕ → List ℕ → List ℕ → Outcome
repaired E w c g part marks = answered (2 ^ E.bits) (λ x. is_local E w c x 0) (ltb c (lost_in w marks 0)) g part marks

-- in the whole word and marks, of which no byte outside the stretch is touched
abbrev pub repaired_group : Edition → ℕ → ℕ → ℕ → List ℕ → List ℕ → Outcome
repaired_group E w c g word marks =
    record {
      number = (repaired E w c g (stretch w g word) (stretch w g marks)).number;
      group = (repaired E w c g (stretch w g word) (stretch w g marks)).group;
      word = with_stretch w g word (repaired E w c g (stretch w g word) (stretch w g marks)).word;
      marks = with_stretch w g marks (repaired E w c g (stretch w g word) (stretch w g marks)).marks;
    }

-- a filling of the stretch that satisfies the group's own equations
abbrev pub Satisfies : Edition → ℕ → ℕ → List ℕ → List ℕ → List ℕ → Type 0
Satisfies E w c marks part y = Passing (2 ^ E.bits) (λ x. is_local E w c x 0) marks part y
