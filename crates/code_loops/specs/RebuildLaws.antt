-- Laws: The steps of a candidate, from the marks copied to the free places mended.
use Rattle.std.specs.Prelude.{◌≡◌, List, ℕ, ◌*◌, ◌/◌, ◌^◌, ◌≤◌, ◌<◌, length, get_or}
use Rattle.std.proofs.Common.{sym, ◌∙◌}
use Rattle.code.specs.Edition.{Edition, Sound}
use Rattle.code.specs.Limits.{Limits, GoodIn}
use Rattle.code.specs.Marks.{lost_in}
use Rattle.code_engine.specs.BoundGroups.{bound_groups, BoundAll}
use Rattle.code_engine.specs.BoundGroupsLaws.{bound-copy}
use Rattle.code_engine.specs.CandidateSteps.{Blanked, GroupsFilledIn}
use Rattle.code_engine.specs.CandidateLaws.{is-candidate}
use Rattle.code_engine.specs.Mended.{MendedIn, IsCandidateIn}
use Rattle.code_loops.specs.Rebuild.{RebuildLent}

module _ {B : Limits} {m w c n k o : ℕ} {marks : List ℕ} (P : RebuildLent B m w c n marks k o)
    {from bound : List ℕ} (copied : length marks ≡ k → from ≡ marks) (cleared : bound ≡ bound_groups (length from / w) w c from) where
  -- the marks are copied, and those of the free places cleared
  pub rebuild-bound : BoundAll m w c marks bound
  rebuild-bound = bound-copy P.0 P.1.1.0 (copied (P.1.1.0 ∙ sym P.1.1.1.0)) cleared

  module _ {word blanked : List ℕ} (whole : length word ≡ n) (blank : Blanked marks word blanked) where
    blank-size : length blanked ≡ m * w
    blank-size = blank.size ∙ whole ∙ P.1.0

    -- what is asked for the groups to be filled
    pub rebuild-fill : GoodIn B m w c × ((length blanked ≡ m * w) × ((length bound ≡ m * w) × ((g : ℕ) → g < m → lost_in w bound g ≤ c)))
    rebuild-fill = (P.0, (blank-size, (rebuild-bound.size ∙ P.1.1.0, rebuild-bound.bound-few)))

    -- and for the free places to be mended
    pub rebuild-mend : {E : Edition} {base : List ℕ} → GroupsFilledIn E m w bound blanked base
        → GoodIn B m w c × ((length base ≡ m * w) × ((length marks ≡ m * w) × BoundAll m w c marks bound))
    rebuild-mend f = (P.0, (f.size ∙ blank-size, (P.1.1.0, rebuild-bound)))

-- what comes out is the candidate
pub rebuilt : {E : Edition} {m w c n k o : ℕ} {word marks from bound blanked base after : List ℕ} → Sound E → (P : RebuildLent E.limits m w c n marks k o)
    → (length marks ≡ k → from ≡ marks) → bound ≡ bound_groups (length from / w) w c from → length word ≡ n → Blanked marks word blanked
    → GroupsFilledIn E m w bound blanked base → ((p : ℕ) → get_or word p 0 < 2 ^ E.bits) → ((p : ℕ) → get_or base p 0 < 2 ^ E.bits)
    → MendedIn E m w c marks bound base after → IsCandidateIn E m w c marks word after
rebuilt {m = m} {w = w} {c = c} {word = word} {marks = marks} S P copied cleared whole blank f small fits =
    is-candidate S m w c P.0 marks _ word _ _ _ record { size = whole ∙ P.1.0; each = small }
    record { size = f.size ∙ blank.size ∙ whole ∙ P.1.0; each = fits }
    P.1.1.0 (rebuild-bound P copied cleared) blank f
