-- One group by itself: its stretch of w symbols under its own equations, the c local sums.
use Rattle.std.specs.Prelude.{◌≡◌, false, List, ℕ, ◌<◌, T, get_or}
use Rattle.code.specs.Edition.{Edition}
use Rattle.code.specs.Word.{local_sum, is_local, Symbols}
use Rattle.code.specs.Marks.{lost, lost_in, Agree}

module _ (E : Edition) (w c : ℕ) where
  -- a stretch of w symbols that meets the group's own equations
  pub record LocalWord (x : List ℕ) : Type 0 where
    pub symbols : Symbols E w x
    pub zero : T (is_local E w c x 0)

  -- and agrees with the present symbols of the group
  pub record LocallyAgrees (marks part y : List ℕ) : Type 0 where
    pub local : LocalWord y
    pub agree : Agree w marks y part

  -- Two different stretches that meet the group's own equations agree at every present place of the group.
  pub record LocallyUndetermined (marks : List ℕ) : Type 0 where
    pub x : List ℕ
    pub y : List ℕ
    pub x-local : LocalWord x
    pub y-local : LocalWord y
    pub agree : Agree w marks x y
    pub differ : ¬ (x ≡ y)

-- a stretch that is 1 at place j and 0 at every other place that is not kept, with as many local sums zero as places are kept
pub record LocalWay (E : Edition) (w : ℕ) (kept : List ℕ) (j : ℕ) : Type 0 where
  pub h : List ℕ
  pub symbols : Symbols E w h
  pub own : get_or h j 0 ≡ 1
  pub off : (i : ℕ) → i < w → lost kept i ≡ false → ¬ (i ≡ j) → get_or h i 0 ≡ 0
  pub zero : (e : ℕ) → e < lost_in w kept 0 → local_sum E w h 0 e ≡ 0
