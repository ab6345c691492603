-- Laws: The loop that looks for the lowest group whose own equations fail.
use Rattle.std.specs.Prelude.{◌≡◌, refl, Bool, true, false, List, ℕ, ◌+◌, ◌-◌, ◌*◌, ◌<◌, ◌≤◌, T, length, take, drop}
use Rattle.std.proofs.Common.{sym, ◌∙◌, subst, arith, below_none, below_more}
use Rattle.code.specs.Edition.{Edition}
use Rattle.code.specs.Limits.{GoodIn}
use Rattle.code.specs.Word.{is_local}
use Rattle.code.specs.LentLaws.{part-narrow}
use Rattle.code_engine.specs.Tests.{broken_group_in}
use Rattle.code_engine.specs.TestsLaws.{broken-is, broken-none}
use Rattle.code_engine.specs.PartsLaws.{part-local}
use Rattle.code_loops.specs.GroupTurnLaws.{turn_at, turn_on, turn-lent}
use Rattle.code_loops.specs.Broken.{BrokenTurn, PartTested}

pub broken-first : {E : Edition} {m w c : ℕ} {word : List ℕ} → GoodIn E.limits m w c × (length word ≡ m * w) → BrokenTurn E m w c word 0
broken-first P = record { turn = turn_at P.0 P.1 (omega arith); sound = below_none _ }

module _ {E : Edition} {m w c g : ℕ} {word : List ℕ} (S : BrokenTurn E m w c word g) where
  -- none is broken
  pub broken-last : m ≤ g → g ≡ broken_group_in E m w c word
  broken-last l = broken-none E m w c word g S.turn.done l S.sound

  -- group g was tested as it is lent
  module _ {r : Bool} (l : g < m) (given : PartTested E c (take (g * w + w - g * w) (drop (g * w) word)) r) where
    tested : r ≡ is_local E w c word g
    tested =
        let L = turn-lent S.turn in
        given (part-narrow L g l refl) L.good.few-checks ∙ part-local E L g l refl

    pub broken-found : r ≡ false → g ≡ broken_group_in E m w c word
    broken-found e = broken-is E m w c word g l S.sound (sym tested ∙ e)

    pub broken-turn : r ≡ true → BrokenTurn E m w c word (g + 1)
    broken-turn e = record {
      turn = turn_on S.turn l refl;
      sound = below_more (λ k. T (is_local E w c word k)) g S.sound (subst T (sym e ∙ tested) tt);
    }
