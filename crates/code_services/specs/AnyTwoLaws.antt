-- "Could other checks have mended more?" Whatever two sums of byte times factor stand in place of the two across, no pattern that Judge
-- refuses is determined by them.
use Rattle.std.specs.Prelude.{◌≡◌, List, ℕ, ◌≤◌, ◌<◌}
use Rattle.std.proofs.Math.Decide.{dec_le}
use Rattle.std.proofs.Common.{arith}
use Rattle.code.specs.Edition.{Edition, Sound}
use Rattle.code.specs.Marks.{excess}
use Rattle.code.specs.Determined.{Ambiguous}
use Rattle.code.specs.DeterminedLaws.{beyond}
use Rattle.code_services.specs.Marks.{marks_refusal_in}
use Rattle.code_services.specs.MarksLaws.{good-of-marks}
use Rattle.code_services.specs.Judge.{judged_number_in}
use Rattle.code_services.specs.JudgeLaws.{zero-excess}

module _ {E : Edition} (S : Sound E) (m w c : ℕ) (marks : List ℕ) (accepted : marks_refusal_in E.limits m w c marks ≡ 0) (h₁ h₂ : ℕ → ℕ → ℕ) where
  -- "For every pattern with excess above 2 there are then two different words that meet those equations and agree at all present places."
  pub any-two : 2 < excess m w c marks → Ambiguous E m w c marks h₁ h₂
  any-two l =
      let g = (good-of-marks m w c marks accepted).good in
      let few : m ≤ S.r = omega (arith, S.groups-few, g.few) in
      let wide : 0 < w = omega (arith, g.wide) in
      let narrow : w ≤ E.small = omega (arith, S.width_narrow, g.narrow) in
      beyond E S m w c few wide narrow marks h₁ h₂ l

  -- "our two mend all that any two could"
  pub none-better : ¬ Ambiguous E m w c marks h₁ h₂ → judged_number_in E.limits m w c marks ≡ 0
  none-better clear = (zero-excess E.limits m w c marks accepted).1 (few clear)
    where
      few : ¬ Ambiguous E m w c marks h₁ h₂ → excess m w c marks ≤ 2
      few clear = elim (dec_le (excess m w c marks) 2) [
        | yes h ↦ h
        | no h ↦ absurd (clear (any-two (omega arith)))
      ]
