-- Laws: A loop over the groups of a word, at group g.
use Rattle.std.specs.Prelude.{◌≡◌, List, ℕ, ◌+◌, ◌-◌, ◌*◌, ◌<◌, ◌≤◌, length}
use Rattle.std.proofs.Common.{ap, ◌∙◌, mul-one, arith}
use Rattle.std.proofs.Math.Decide.{dec_lt}
use Rattle.code.specs.Limits.{Limits, GoodIn}
use Rattle.code.specs.Lent.{LentIn}
use Rattle.code_engine.specs.CandidateStepsLaws.{stretch-end}
use Rattle.code_loops.specs.GroupTurn.{GroupTurn}

end-room : (width m w g : ℕ) → w ≤ width → g ≤ m → g * w + w ≤ m * w + width * (1 - (m - g))
end-room width m w g narrow l = elim (dec_lt g m) [
  | yes h ↦ (let e = stretch-end m w g h in omega arith)
  | no h ↦
      (let u : 1 - (m - g) ≡ 1 = omega arith in
      let v : width * (1 - (m - g)) ≡ width = ap (λ k. width * k) u ∙ mul-one width in
      let q : g ≡ m = omega arith in
      let p : g * w ≡ m * w = ap (λ k. k * w) q in
      omega arith)
]

pub turn_at : {B : Limits} {m w c g : ℕ} {xs : List ℕ} → GoodIn B m w c → length xs ≡ m * w → g ≤ m → GroupTurn B m w c xs g
turn_at {B} {m} {w} {g = g} good size l = record { good = good; size = size; done = l; ends = end-room B.width m w g good.narrow l }

module _ {B : Limits} {m w c g : ℕ} {xs : List ℕ} (T : GroupTurn B m w c xs g) where
  -- the next turn, over a list of the same length
  pub turn_on : {ys : List ℕ} → g < m → length ys ≡ length xs → GroupTurn B m w c ys (g + 1)
  turn_on l e = turn_at T.good (e ∙ T.size) (omega arith)

  pub turn-lent : LentIn B m w c xs
  turn-lent = record { good = T.good; size = T.size }
