use Rattle.std.proofs.Common.{◌≡◌, sym, ◌∙◌, ℕ, List, length, add-one, length-append, get_or}
use Rattle.std.proofs.lemmas.Slice.Zip.{zip_turn, zip_end}
use Rattle.binary_field.specs.XorLaws.{⊕-bits}
use Rattle.binary_field.specs.SumLaws.{inner-none, inner-suc, inner-whole}
use Rattle.gf256.proofs.dot.Goals as goal

pub loop-x-init : goal.loop-x-init
loop-x-init c = sym (inner-none 8 285 _ _)

pub loop-x-preserved : goal.loop-x-preserved
loop-x-preserved c =
    let u : List ℕ = c.args.u.now in
    let v : List ℕ = c.args.v.now in
    let l = c.loop-x in
    let i : ℕ = length l.yielded in
    let s = c.into_iter-x-iterator.result in
    let t = zip_turn u v l.yielded s l.x-iterator c.next.new.self c.next.result (cc) (cc) l.yielded_by
    (c.in-Some.x, c.in-Some.y) c.in-Some.is c.next.ensures.steps in
    let p : c.in-Some.x.now ≡ get_or u i 0 = t.2 0 in
    let q : c.in-Some.y.now ≡ get_or v i 0 = t.3 0 in
    simp length-append (cc (⊕-bits l.r c.shifted_product-r.result, inner-suc 8 285 i u v, add-one i))

-- past the smaller list every term is 0
pub returns : goal.returns
returns c =
    let u : List ℕ = c.args.u.now in
    let v : List ℕ = c.args.v.now in
    let l = c.loop-x in
    let s = c.into_iter-x-iterator.result in
    let n = zip_end u v l.yielded s l.x-iterator c.next.new.self c.next.result (cc) (cc) l.yielded_by
    c.in-None.is c.next.ensures.steps in
    l.invariant ∙ sym (inner-whole 8 285 (length l.yielded) u v n)
