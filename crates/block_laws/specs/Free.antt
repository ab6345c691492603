-- The free places of a block rebuild: lost, and not bound by their group.
use Rattle.std.specs.Prelude.{◌≡◌, false, List, ℕ, ◌<◌}
use Rattle.binary_field.specs.Xor.{◌⊕◌}
use Rattle.code.specs.Edition.{times}
use Rattle.code.specs.Marks.{lost}
use Rattle.byte_edition.specs.Edition.{byte_edition}
use Rattle.block_laws.specs.Whole.{row_sum}

module _ (n : ℕ) (marks bound : List ℕ) where
  -- the same at every present place
  abbrev pub PresentSame : (ℕ → ℕ) → (ℕ → ℕ) → Type 0
  PresentSame v z = (p : ℕ) → p < n → lost marks p ≡ false → v p ≡ z p

  module _ (a b : ℕ → ℕ) where
    -- z has the present symbols of v, and both sums across are zero
    pub record Completes (v z : ℕ → ℕ) : Type 0 where
      pub small : (p : ℕ) → z p < 256
      pub same : PresentSame v z
      pub first : row_sum n z a ≡ 0
      pub second : row_sum n z b ≡ 0

    -- some z does
    abbrev pub Completable : (ℕ → ℕ) → Type 0
    Completable v = (z : ℕ → ℕ) × Completes v z

-- factors f and h that make the symbol of the one free place of the two rows across, and d and k that make what is left to test;
-- a and b are the entries of the rows at that place
pub record OneSolved (a b f h d k : ℕ) : Type 0 where
  pub unit : times byte_edition a f ⊕ times byte_edition b h ≡ 1
  pub none : times byte_edition a d ⊕ times byte_edition b k ≡ 0
  pub first : (s t : ℕ) → s < 256 → t < 256 → times byte_edition s d ⊕ times byte_edition t k ≡ 0
      → times byte_edition (times byte_edition s f ⊕ times byte_edition t h) a ≡ s
  pub second : (s t : ℕ) → s < 256 → t < 256 → times byte_edition s d ⊕ times byte_edition t k ≡ 0
      → times byte_edition (times byte_edition s f ⊕ times byte_edition t h) b ≡ t

-- factors that make the symbols of two free places
pub record TwoSolved (a a' b b' f h f' h' : ℕ) : Type 0 where
  pub unit : times byte_edition a f ⊕ times byte_edition b h ≡ 1
  pub cross : times byte_edition a' f ⊕ times byte_edition b' h ≡ 0
  pub unit' : times byte_edition a' f' ⊕ times byte_edition b' h' ≡ 1
  pub cross' : times byte_edition a f' ⊕ times byte_edition b h' ≡ 0
  pub first : (s t : ℕ) → s < 256 → t < 256
      → times byte_edition (times byte_edition s f ⊕ times byte_edition t h) a ⊕ times byte_edition (times byte_edition s f' ⊕ times byte_edition t h') a' ≡ s
  pub second : (s t : ℕ) → s < 256 → t < 256
      → times byte_edition (times byte_edition s f ⊕ times byte_edition t h) b ⊕ times byte_edition (times byte_edition s f' ⊕ times byte_edition t h') b' ≡ t
