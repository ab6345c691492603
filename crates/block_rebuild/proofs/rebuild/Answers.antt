use Rattle.std.proofs.Common.{◌≡◌, sym, ap, ◌∙◌, subst, ℕ, ◌<◌, arith, length, get_or, Err}
use Rattle.answers.specs.AnswersLaws.{refusal-some}
use Rattle.block_rebuild.specs.declared.Failure.{Failure}
use Rattle.block_rebuild.specs.Rebuild.{rebuild_refusal, word_outcome, outcome_rebuilt}
use Rattle.block_rebuild.specs.Steps.{Room}
use Rattle.block_rebuild.proofs.RebuildLaws.{passed-on, refused-answer, rebuild-refused}
use Rattle.block_rebuild.proofs.EngineLaws.{engine-ready, engine-room, nine-at, engine-contradictory, engine-done, engine-written}
use Rattle.block_rebuild.proofs.rebuild.Goals as goal

pub returns-in_err-refusal : goal.returns-in_err-refusal
returns-in_err-refusal c =
    let a = c.args in
    let is = c.in_err-refusal.ensures in
    let e = rebuild-refused a.m a.w a.c a.size a.blocks.now a.marks.now _ is (refusal-some _) in
    rw (passed-on c.from_residual.ensures) record {
      answer = refused-answer a.m a.w a.c a.size _ a.marks.now _ is ∙ ap outcome_rebuilt (sym e);
      blocks = ap (λ o. o.blocks) (sym e);
      marks = ap (λ o. o.marks) (sym e);
      number = ap (λ o. o.number) (sym e);
      word = ap (λ o. o.word) (sym e);
      group = ap (λ o. o.group) (sym e);
    }

pub group_at-group-requires : goal.group_at-group-requires
group_at-group-requires c =
    let a = c.args in
    let none : rebuild_refusal a.m a.w a.c a.size (length a.blocks.now) a.marks.now ≡ 0 = sym c.in_ok-refusal.ensures in
    let small : (i : ℕ) → get_or a.blocks.now i 0 < 256 = λ i. (c.slice_known-1.given i).fits in
    let D = c.mend-x.ensures.mended (engine-ready a.m a.w a.c a.size a.blocks.now a.marks.now none small) in
    let x : ℕ = c.mend-x.result in
    record {
      room =
          subst (λ b. Room a.m a.w a.c a.size x b a.marks.now) (sym (D.unchanged c.if-x-size.true))
          (engine-room a.m a.w a.c a.size a.blocks.now a.marks.now none small x c.if-x-size.true);
      x_value =
          subst (λ b. (word_outcome a.m a.w a.c a.size b a.marks.now x).number ≡ 9) (sym (D.unchanged c.if-x-size.true))
          (nine-at a.m a.w a.c a.size a.blocks.now a.marks.now none small x (D.lowest.stops c.if-x-size.true));
    }

pub returns-then-x-size : goal.returns-then-x-size
returns-then-x-size c =
    let a = c.args in
    let none : rebuild_refusal a.m a.w a.c a.size (length a.blocks.now) a.marks.now ≡ 0 = sym c.in_ok-refusal.ensures in
    let small : (i : ℕ) → get_or a.blocks.now i 0 < 256 = λ i. (c.slice_known-1.given i).fits in
    let D = c.mend-x.ensures.mended (engine-ready a.m a.w a.c a.size a.blocks.now a.marks.now none small) in
    let x : ℕ = c.mend-x.result in
    let u = D.unchanged c.if-x-size.true in
    let g = c.group_at-group.ensures ∙ ap (λ b. (word_outcome a.m a.w a.c a.size b a.marks.now x).group) u in
    let e = engine-contradictory a.m a.w a.c a.size a.blocks.now a.marks.now none small x D.lowest c.if-x-size.true in
    record {
      answer = ap (λ k. Err (Failure.Contradictory x k)) g ∙ ap outcome_rebuilt (sym e);
      blocks = u ∙ ap (λ o. o.blocks) (sym e);
      marks = ap (λ o. o.marks) (sym e);
      number = ap (λ o. o.number) (sym e);
      word = ap (λ o. o.word) (sym e);
      group = g ∙ ap (λ o. o.group) (sym e);
    }

pub returns : goal.returns
returns c =
    let a = c.args in
    let none : rebuild_refusal a.m a.w a.c a.size (length a.blocks.now) a.marks.now ≡ 0 = sym c.in_ok-refusal.ensures in
    let small : (i : ℕ) → get_or a.blocks.now i 0 < 256 = λ i. (c.slice_known-1.given i).fits in
    let D = c.mend-x.ensures.mended (engine-ready a.m a.w a.c a.size a.blocks.now a.marks.now none small) in
    let x : ℕ = c.mend-x.result in
    let F = D.lowest in
    let full : x ≡ a.size = (let n = F.most in let b = c.if-x-size.false in omega arith) in
    let e = engine-done a.m a.w a.c a.size a.blocks.now a.marks.now none small x F c.if-x-size.false in
    record {
      answer = ap outcome_rebuilt (sym e);
      blocks =
          engine-written a.m a.w a.c a.size a.blocks.now a.marks.now none small x F c.if-x-size.false _ (D.restored full)
          ∙ ap (λ o. o.blocks) (sym e);
      marks = c.fill.ensures.after (λ y e. e) ∙ ap (λ o. o.marks) (sym e);
      number = ap (λ o. o.number) (sym e);
      word = ap (λ o. o.word) (sym e);
      group = ap (λ o. o.group) (sym e);
    }
