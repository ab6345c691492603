use Rattle.std.proofs.Common.{sym, ap, ◌∙◌, ◌*◌, arith}
use Rattle.answers.specs.Answers.{mending_at}
use Rattle.code.specs.LimitsLaws.{places-most}
use Rattle.byte_edition.specs.Edition.{byte_edition}
use Rattle.code_services.specs.Recover.{recover_in}
use Rattle.block_rebuild.specs.Columns.{block_word}
use Rattle.block_rebuild.specs.Rebuild.{word_outcome}
use Rattle.block_rebuild.proofs.recover_word.Goals as goal

pub gather-requires : goal.gather-requires
gather-requires c =
    let L = c.requires.room.lent in
    (c.requires.room.inside, (ap (λ k. k * c.args.size) c.requires.word_len ∙ sym L.blocks-size), L.most)

pub slice_bounds-lost-end : goal.slice_bounds-lost-end
slice_bounds-lost-end c =
    let L = c.requires.room.lent in
    let p = places-most L.good in
    let z = L.marks-size in
    omega arith

pub returns : goal.returns
unfolding word_outcome
returns c =
    let a = c.args in
    let e = c.gather.ensures ∙ ap (λ n. block_word n a.size a.blocks.now a.x) c.requires.word_len in
    let E = c.recover_by.ensures in record {
      value = E.value ∙ ap (λ v. mending_at (recover_in byte_edition a.m a.w a.c v a.marks.now).number
          (recover_in byte_edition a.m a.w a.c v a.marks.now).group) e;
      word_after = E.word_after ∙ ap (λ v. (recover_in byte_edition a.m a.w a.c v a.marks.now).word) e;
    }
