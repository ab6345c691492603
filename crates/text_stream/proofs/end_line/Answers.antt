use Rattle.std.proofs.Common.{sym, ap, ◌∙◌, arith, length-take-le}
use Rattle.text.specs.Written.{written}
use Rattle.text_session.specs.RepliesLaws.{reply-room}
use Rattle.text_stream.specs.StepsLaws.{reply-line, reply-fits, answered-place}
use Rattle.text_stream.proofs.end_line.Goals as goal

pub slice_bounds-answer-end : goal.slice_bounds-answer-end
slice_bounds-answer-end c = sym (length-take-le _ _ c.requires.length_in_bounds)

pub slice_bounds-bytes-end : goal.slice_bounds-bytes-end
slice_bounds-bytes-end c = reply-room _ _ c.answer-reply.ensures

pub slice_bounds-put-end : goal.slice_bounds-put-end
slice_bounds-put-end c = sym (length-take-le _ _ (reply-room _ _ c.answer-reply.ensures))

pub put-requires : goal.put-requires
put-requires c =
    let r = c.answer-reply in
    let l = length-take-le _ _ (reply-room _ _ r.ensures) in
    let f = reply-fits c.args.line.now c.args.at r.result r.ensures c.requires.length_in_bounds in
    omega arith

pub returns : goal.returns
returns c =
    let r = c.answer-reply in
    let e = c.put.ensures in
    record { place = answered-place c.args.line.now c.args.at r.result r.ensures; output = e ∙ ap (written _ _) (reply-line _ _ r.ensures) }
