use Rattle.std.proofs.Common.{rules, ap, ◌∙◌, ◌&&◌, eqb, arith}
use Rattle.code.specs.LentLaws.{end_fits}
use Rattle.byte_edition.specs.Edition.{byte_edition}
use Rattle.shape.specs.Shapes.{byte_limits}
use Rattle.syndrome.specs.declared.Sums.{Sums}
use Rattle.code.specs.Lent.{LentIn}
use Rattle.code_loops.specs.TestedByLaws.{filled-tested, tested-by}
use Rattle.recover.proofs.test.Goals as goal

pub by-requires : goal.by-requires
by-requires c =
    let a = c.args in
    let p = c.requires in
    let M : LentIn byte_limits a.m a.w a.c a.marks.now = record { good = p.good_in; size = p.marks_len } in
    let W : LentIn byte_limits a.m a.w a.c a.word.now = record { good = p.good_in; size = p.word_len } in
    record { groups = λ g l. (end_fits M g l, end_fits W g l); across = search rules }

pub returns : goal.returns
returns c =
    let a = c.args in
    let p = c.requires in
    let M : LentIn byte_limits a.m a.w a.c a.marks.now = record { good = p.good_in; size = p.marks_len } in
    let W : LentIn byte_limits a.m a.w a.c a.word.now = record { good = p.good_in; size = p.word_len } in
    let E = c.by.ensures in
    tested-by byte_edition a.m a.w a.c a.word.now E.bound
    (λ g l. filled-tested byte_edition M W p.full_satisfied_in g (omega arith) (E.sound g l))
    (λ l. (let q = E.broken l in (filled-tested byte_edition M W p.full_satisfied_in c.by.result.group l q.0, q.1)))
    (λ e. (let q = E.whole e in search rules ∙ ap (λ (x : Sums). eqb x.first 0 && eqb x.second 0) p.s_value))
