-- One group of a block rebuild: its six equations, and the constants that stand for them at the places that are not bound.
use Rattle.std.specs.Prelude.{◌≡◌, true, false, cond, List, ℕ, zero, suc, ◌+◌, ◌*◌, ◌<◌, get_or}
use Rattle.code.specs.Edition.{raised}
use Rattle.code.specs.Word.{coefficient, second_coefficient}
use Rattle.code.specs.Marks.{lost, lost_in}
use Rattle.byte_edition.specs.Edition.{byte_edition}
use Rattle.block_constants.specs.Reduced.{dot, Meets}

-- the coefficient of place j of group g in equation i: the local sums of powers 0 to 3, then the two sums across
unfoldable pub check_of : ℕ → ℕ → ℕ → ℕ → ℕ
check_of c g zero j = raised byte_edition (byte_edition.locator j) 0
check_of c g (suc zero) j = raised byte_edition (byte_edition.locator j) 1
check_of c g (suc (suc zero)) j = raised byte_edition (byte_edition.locator j) 2
check_of c g (suc (suc (suc zero))) j = raised byte_edition (byte_edition.locator j) 3
check_of c g (suc (suc (suc (suc zero)))) j = coefficient byte_edition c j
check_of c g (suc (suc (suc (suc (suc i))))) j = second_coefficient byte_edition c g j

-- the symbols of group g of a word
abbrev pub group_of : ℕ → ℕ → List ℕ → ℕ → ℕ
group_of w g word j = get_or word (g * w + j) 0

-- a row with 0 at the bound places
abbrev pub masked : List ℕ → (ℕ → ℕ) → ℕ → ℕ
masked bound row j = cond (lost bound j) 0 (row j)

module _ (w c g : ℕ) (bound : List ℕ) where
  -- y meets as many of the group's local equations as places are bound, and is v at every place that is not
  pub record Fills (v y : ℕ → ℕ) : Type 0 where
    pub small : (j : ℕ) → y j < 256
    pub same : (j : ℕ) → j < w → lost bound j ≡ false → y j ≡ v j
    pub meets : Meets byte_edition w (lost_in w bound 0) y (check_of c g)

  -- y meets all local equations of the group, and is v at every place that is not bound
  pub record AgreesIn (v y : ℕ → ℕ) : Type 0 where
    pub small : (j : ℕ) → y j < 256
    pub same : (j : ℕ) → j < w → lost bound j ≡ false → y j ≡ v j
    pub meets : Meets byte_edition w c y (check_of c g)

  -- some y does
  abbrev pub Mendable : (ℕ → ℕ) → Type 0
  Mendable v = (y : ℕ → ℕ) × AgreesIn v y

  -- constants that stand for equation i: 0 at the bound places, and the same sum with whatever fills v
  pub record StandsFor (i : ℕ) (a : ℕ → ℕ) : Type 0 where
    pub none : (j : ℕ) → j < w → lost bound j ≡ true → a j ≡ 0
    pub sum : (v y : ℕ → ℕ) → Fills v y → dot byte_edition w y (check_of c g i) ≡ dot byte_edition w v a

  -- constants that give the symbol of the bound place j
  pub record Gives (j : ℕ) (a : ℕ → ℕ) : Type 0 where
    pub none : (i : ℕ) → i < w → lost bound i ≡ true → a i ≡ 0
    pub sum : (v y : ℕ → ℕ) → Fills v y → y j ≡ dot byte_edition w v a
