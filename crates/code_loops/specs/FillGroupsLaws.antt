-- Laws: The loop that fills the groups of a word, one after the other.
use Rattle.std.specs.Prelude.{◌≡◌, refl, List, ◌++◌, ℕ, ◌+◌, ◌-◌, ◌*◌, ◌<◌, ◌≤◌, length, take, drop}
use Rattle.std.proofs.Common.{sym, ◌∙◌, subst, arith}
use Rattle.code.specs.Edition.{Edition, Sound}
use Rattle.code.specs.Limits.{GoodIn}
use Rattle.code.specs.Marks.{lost_in}
use Rattle.code.specs.LentLaws.{stretch-lent, with-lent}
use Rattle.code_engine.specs.Filled.{FilledIn}
use Rattle.code_engine.specs.CandidateSteps.{GroupsFilledIn}
use Rattle.code_engine.specs.CandidateStepsLaws.{group-filled}
use Rattle.code_loops.specs.GroupTurn.{GroupTurn}
use Rattle.code_loops.specs.GroupTurnLaws.{turn_at, turn_on}
use Rattle.code_loops.specs.FillGroups.{FillTurn}

-- before the first turn
pub fill-first : {E : Edition} {m w c : ℕ} {bound base : List ℕ}
    → GoodIn E.limits m w c × ((length base ≡ m * w) × ((length bound ≡ m * w) × ((i : ℕ) → i < m → lost_in w bound i ≤ c)))
    → FillTurn E m w c bound base base 0
fill-first P = record {
  turn = turn_at P.0 P.1.0 (omega arith);
  marked = P.1.1.0;
  few = P.1.1.1;
  filled = record { size = refl; present = λ p e. refl; zero = λ i l. absurd (omega arith) };
}

module _ {E : Edition} {m w c g : ℕ} {bound before base : List ℕ} (T : FillTurn E m w c bound before base g) where
  -- one turn: group g is filled as it is lent
  pub fill-turn : {part : List ℕ} → Sound E → E.limits.checks ≤ 4 → g < m
      → FilledIn E (take (g * w + w - g * w) (drop (g * w) bound)) (take (g * w + w - g * w) (drop (g * w) base)) part
      → FillTurn E m w c bound before (take (g * w) base ++ (part ++ drop (g * w + w - g * w) (drop (g * w) base))) (g + 1)
  fill-turn {part} S four l F =
      let n : w ≤ E.small = (let a = T.turn.good.narrow in let b = S.width_narrow in omega arith) in
      let k : c ≤ 4 = (let a = T.turn.good.few-checks in omega arith) in
      let G : GroupsFilledIn E (g + 1) w bound before (take (g * w) base ++ (part ++ drop (g * w + w - g * w) (drop (g * w) base))) =
      rw (with-lent w g base part)
      (group-filled m w c g n k bound before base part l T.turn.size T.marked (T.few g l)
      (rw (stretch-lent w g bound, stretch-lent w g base) at F) T.filled) in
      record {
        turn = turn_on T.turn l (G.size ∙ sym T.filled.size);
        marked = T.marked;
        few = T.few;
        filled = G;
      }

  -- after the last
  pub fill-last : m ≤ g → GroupsFilledIn E m w bound before base
  fill-last l = let d = T.turn.done in let e : g ≡ m = omega arith in subst (λ n. GroupsFilledIn E n w bound before base) e T.filled
