use Rattle.std.proofs.Common.{arith, ◌≡◌, ◌∙◌, List, ℕ, ◌≤◌, length, set, replicate, length-set, length-take-le}
use lib.ListN.{length-replicate}
use Rattle.code_engine.specs.CandidateStepsLaws.{direction-filled, direction-after}
use Rattle.candidate.proofs.direction.Goals as goal

pub returns : goal.returns
returns c =
    let w : ℕ = length c.args.bound.now in
    let h : List ℕ = set (replicate 16 0) c.args.j 1 in
    let l : w ≤ length h = omega (arith, length-set {A = ℕ} (replicate 16 0) c.args.j 1, length-replicate {A = ℕ} 16 0) in
    let size : length c.fill.new.part ≡ w = c.fill.ensures.size ∙ length-take-le w h l in record {
      direction_in = direction-filled 16 c.args.j c.args.bound.now c.fill.new.part _ (omega arith) (omega arith) (omega arith) c.requires.j_value (omega arith)
          c.fill.ensures;
      zero_from = direction-after 16 c.args.j (length c.args.bound.now) c.fill.new.part size (omega arith) (omega arith);
    }
