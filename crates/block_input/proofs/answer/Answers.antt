use Rattle.std.proofs.Common.{◌≡◌, arith}
use Rattle.block_input.specs.OutputLaws.{passed-on, verdict-refused, held-refused, marks-fit, verdict-is, held-is}
use Rattle.block_input.proofs.answer.Goals as goal

pub returns-then-refusal-ne0 : goal.returns-then-refusal-ne0
returns-then-refusal-ne0 c =
    let a = c.args in record {
      verdict = verdict-refused a.input.now _ c.read_head-head.ensures.refusal c.if-refusal-ne0.true;
      input = held-refused a.input.now _
          c.read_head-head.ensures.refusal c.if-refusal-ne0.true;
    }

pub slice_bounds-marks-end : goal.slice_bounds-marks-end
slice_bounds-marks-end c =
    marks-fit c.args.input.now c.read_head-head.result c.read_head-head.ensures (omega arith)

pub returns-in_err-rebuild : goal.returns-in_err-rebuild
returns-in_err-rebuild c =
    let i = c.args.input.now in
    let h = c.read_head-head in
    let z : h.result.refusal ≡ 0 = omega arith in
    let e = c.in_err-rebuild.ensures in
    rw (passed-on c.from_residual.ensures) record {
      verdict = verdict-is i h.result h.ensures z _ e.answer;
      input = held-is i h.result h.ensures z _ e.blocks;
    }

pub returns : goal.returns
returns c =
    let i = c.args.input.now in
    let h = c.read_head-head in
    let z : h.result.refusal ≡ 0 = omega arith in
    let e = c.in_ok-rebuild.ensures in record {
      verdict = verdict-is i h.result h.ensures z _ e.answer;
      input = held-is i h.result h.ensures z _ e.blocks;
    }
