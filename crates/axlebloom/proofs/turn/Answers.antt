-- What is written is what the session's step put at the start of its buffer.
use Rattle.std.proofs.Common.{◌≡◌, ◌<◌, true, sym, subst, arith, length, length-take-le}
use Rattle.std.specs.Io.KnownBytes.{Appends}
use Rattle.text_stream.specs.WholeLaws.{front-written}
use Rattle.axlebloom.proofs.Turns.{fits, at_end, cut, front_at_end, front_of_part}
use Rattle.axlebloom.proofs.turn.Goals as goal

pub slice_bounds-out-end : goal.slice_bounds-out-end
slice_bounds-out-end g c = let f = c.finish-size in fits f.result _ _ _ f.ensures.size f.ensures.output

pub slice_bounds-put-end : goal.slice_bounds-put-end
slice_bounds-put-end g c = let f = c.finish-size in sym (length-take-le _ _ (fits f.result _ _ _ f.ensures.size f.ensures.output))

pub slice_bounds-out-end-in-Ok : goal.slice_bounds-out-end-in-Ok
slice_bounds-out-end-in-Ok g c = let t = c.take-step in fits t.result.length _ _ _ t.ensures.size t.ensures.output

pub slice_bounds-put-end-in-Ok : goal.slice_bounds-put-end-in-Ok
slice_bounds-put-end-in-Ok g c = let t = c.take-step in sym (length-take-le _ _ (fits t.result.length _ _ _ t.ensures.size t.ensures.output))

pub returns-in-Ok-eq0-clause-whole : goal.returns-in-Ok-eq0-clause-whole
returns-in-Ok-eq0-clause-whole g c = λ w.
    let all : c.put-whole.result ≡ true = cc in
    let f = c.finish-size in
    let b = c.in-Ok-eq0.ensures.bytes in
    let none : c.in-Ok-eq0.field-0 ≡ 0 = let t = c.in-Ok-eq0.field-0-test in omega arith in
    let some : 0 < length c.read_some.new.buffer = let n = c.read_some.auto.buffer in omega arith in (
      at_end _ _ _ _ none b.0 (b.1 none some),
      subst (Appends _ _) (front-written f.result _ _ _ f.ensures.size f.ensures.output) (c.put-whole.ensures.all all),
    )

pub returns-in-Ok-eq0-clause-front : goal.returns-in-Ok-eq0-clause-front
returns-in-Ok-eq0-clause-front g c =
    let f = c.finish-size in
    let b = c.in-Ok-eq0.ensures.bytes in
    let none : c.in-Ok-eq0.field-0 ≡ 0 = let t = c.in-Ok-eq0.field-0-test in omega arith in
    let some : 0 < length c.read_some.new.buffer = let n = c.read_some.auto.buffer in omega arith in
    let (k, a) = c.put-whole.ensures.part in
    front_at_end _ _ _ _ (at_end _ _ _ _ none b.0 (b.1 none some))
    (cut _ _ k f.result _ _ _ f.ensures.size f.ensures.output a)

pub returns-then-put-clause-on : goal.returns-then-put-clause-on
returns-then-put-clause-on g c = λ next w.
    let t = c.take-step in
    let same : t.result.state ≡ next = cc in (
      _,
      c.in-Ok.ensures.bytes.0,
      subst (Appends _ _) (front-written t.result.length _ _ _ t.ensures.size t.ensures.output) (c.put.ensures.all c.if-put.true),
      rw (← same) t.ensures.state,
    )

pub returns-then-put-clause-front : goal.returns-then-put-clause-front
returns-then-put-clause-front g c =
    let t = c.take-step in
    let (k, a) = c.put.ensures.part in
    front_of_part _ _ _ _ _ _ c.in-Ok.ensures.bytes.0 (cut _ _ k t.result.length _ _ _ t.ensures.size t.ensures.output a)

pub returns-else-put-clause-front : goal.returns-else-put-clause-front
returns-else-put-clause-front g c =
    let t = c.take-step in
    let (k, a) = c.put.ensures.part in
    front_of_part _ _ _ _ _ _ c.in-Ok.ensures.bytes.0 (cut _ _ k t.result.length _ _ _ t.ensures.size t.ensures.output a)
