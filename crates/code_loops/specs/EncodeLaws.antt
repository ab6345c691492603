-- Laws: Encoding: the check places marked as lost, and recovered.
use Rattle.std.specs.Prelude.{◌≡◌, List, ℕ, ◌*◌, ◌≤◌, ◌<◌, length}
use Rattle.std.proofs.Common.{sym, ap, ◌∙◌, subst, arith}
use Rattle.code.specs.Edition.{Edition, Sound}
use Rattle.code.specs.Limits.{Limits, place_count, GoodIn}
use Rattle.code.specs.Marks.{excess}
use Rattle.code_services.specs.Places.{check_marks, check_marks_refusal_in}
use Rattle.code_services.specs.PlacesLaws.{checks-whole, good-of-check-marks}
use Rattle.code_services.specs.PlacesRuns.{with_checks}
use Rattle.code_services.specs.Recover.{recover_refusal_in, recover_in}
use Rattle.code_services.specs.EncodeLaws.{checks-low, checks-accepted}

whole-groups : {L : Limits} {m w c : ℕ} → GoodIn L m w c → (marks : List ℕ) → length marks ≡ m * w → with_checks w c marks ≡ check_marks m w c
whole-groups {L} {m} {w} {c} good marks size = checks-whole m w c marks (let h = good.wide in omega arith) size

-- marks of n places, with the checks of their groups marked
pub checks-made : (L : Limits) (m w c : ℕ) (marks : List ℕ) → check_marks_refusal_in L m w c (length marks) ≡ 0 → with_checks w c marks ≡ check_marks m w c
checks-made L m w c marks z = let G = good-of-check-marks m w c (length marks) z in whole-groups G.0 marks G.1

module _ {E : Edition} (S : Sound E) {m w c : ℕ} (good : GoodIn E.limits m w c) (word marks : List ℕ) (word_size : length word ≡ place_count m w)
    (marks-size : length marks ≡ place_count m w) {held : List ℕ} (made : held ≡ with_checks w c marks) where
  checks : held ≡ check_marks m w c
  checks = made ∙ whole-groups good marks marks-size

  -- what a recovery with them asks for
  pub checks-given : (recover_refusal_in E.limits m w c word held ≡ 0) × (excess m w c held ≤ 2)
  checks-given = (
    ap (recover_refusal_in E.limits m w c word) checks ∙ checks-accepted S good word word_size,
    subst (λ k. excess m w c k ≤ 2) (sym checks) (checks-low S good),
  )

  pub checks-filled : {after : List ℕ} → after ≡ (recover_in E m w c word held).word → after ≡ (recover_in E m w c word (check_marks m w c)).word
  checks-filled e = e ∙ ap (λ k. (recover_in E m w c word k).word) checks
