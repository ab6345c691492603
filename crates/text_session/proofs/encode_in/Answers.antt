use Rattle.std.proofs.Common.{sym, ◌∙◌, subst, arith}
use Rattle.text_session.specs.Turn.{refused_turn}
use Rattle.text_session.specs.Replies.{Replies}
use Rattle.text_session.specs.Laws.{data-refused, data-done, data-most}
use Rattle.text_session.proofs.encode_in.Goals as goal

pub reply_word-requires : goal.reply_word-requires
reply_word-requires c =
    let h = data-most c.args.bytes.now c.args.word.now c.args.m c.args.w c.args.c
    (sym c.encode.ensures.answer ∙ c.in-Ok.is) in
    omega arith

pub returns-in-Err : goal.returns-in-Err
returns-in-Err c =
    let a = c.args in
    data-refused _ _ _ _ _ _ c.requires _
    (sym c.encode.ensures.answer ∙ c.in-Err.is)
    (subst (λ n. Replies c.refuse.result (refused_turn n a.m a.w a.c)) c.number.ensures c.refuse.ensures)

pub returns-in-Ok : goal.returns-in-Ok
returns-in-Ok c =
    data-done _ _ _ _ _ _ c.requires _
    (sym c.encode.ensures.answer ∙ c.in-Ok.is) c.encode.ensures.buffer c.reply_word.ensures
