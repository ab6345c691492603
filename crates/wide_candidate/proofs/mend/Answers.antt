use Rattle.std.proofs.Common.{◌≡◌, refl, subst, List, ℕ, zero, suc, ◌*◌, ◌<◌, arith, length}
use Rattle.code.specs.Limits.{GoodIn}
use Rattle.erasures.specs.declared.Free.{Free}
use Rattle.code_engine.specs.BoundGroups.{BoundAll}
use Rattle.code_engine.specs.FreePlaces.{FreePlaces, free_at}
use Rattle.code_engine.specs.Mended.{MendedOneIn, MendedTwoIn, MendedIn}
use Rattle.code_engine.specs.WeightsLaws.{few-at}
use Rattle.wide_shape.specs.Edition.{wide_limits, wide_edition}
use Rattle.wide_candidate.specs.Free.{OneOrTwo}
use Rattle.wide_across.proofs.Laws.{zeros}
use Rattle.wide_candidate.proofs.mend.Goals as goal

-- the one or two free places
one-or-two : {m w c : ℕ} (f : Free) (word : List ℕ) {marks bound : List ℕ}
    → GoodIn wide_limits m w c × ((length word ≡ m * w) × ((length marks ≡ m * w) × BoundAll m w c marks bound))
    → FreePlaces marks bound f.count f.first f.second → 0 < f.count → OneOrTwo m w c f bound
one-or-two f word L P some = record {
  some = some;
  most = P.most;
  less = λ i h. subst (λ k. free_at f.first f.second i < k) L.1.1.0 (P.less i h);
  few = few-at (let h = L.0.wide in omega arith) L.1.1.1 P L.1.1.0;
  apart = λ k e. let z = P.apart 0 1 (omega arith) (omega arith) e in omega arith;
}

mended : {m w c : ℕ} {marks bound before after : List ℕ} {x p q : ℕ} → FreePlaces marks bound x p q → 0 < x
    → (x ≡ 1 → MendedOneIn wide_edition m w c p bound before after) → (x ≡ 2 → MendedTwoIn wide_edition m w c p q bound before after)
    → MendedIn wide_edition m w c marks bound before after
mended {x = zero} P some one two = absurd (omega arith)
mended {x = suc zero} P some one two = MendedIn.one P (one refl)
mended {x = suc (suc zero)} P some one two = MendedIn.two P (two refl)
mended {x = suc (suc (suc x))} P some one two = let k = P.most in absurd (omega arith)

pub returns-then-f-eq0-clause-mended_in : goal.returns-then-f-eq0-clause-mended_in
returns-then-f-eq0-clause-mended_in c = MendedIn.none (rw c.if-f-eq0.true at c.free_places-f.ensures.free_places) refl

pub mend_free-requires-clause-one_or_two : goal.mend_free-requires-clause-one_or_two
mend_free-requires-clause-one_or_two c = one-or-two c.free_places-f.result c.args.word.now c.requires c.free_places-f.ensures.free_places (omega arith)

pub mend_free-requires-clause-h_value : goal.mend_free-requires-clause-h_value
mend_free-requires-clause-h_value c =
    let z = zeros c.args.w 16 (omega arith) in
    (z, z)

pub returns-then-w-le16-clause-mended_in : goal.returns-then-w-le16-clause-mended_in
returns-then-w-le16-clause-mended_in c =
    mended c.free_places-f.ensures.free_places (omega arith) c.mend_free.ensures.mended_one_in c.mend_free.ensures.mended_two_in

pub mend_free-requires-2-clause-one_or_two : goal.mend_free-requires-2-clause-one_or_two
mend_free-requires-2-clause-one_or_two c = one-or-two c.free_places-f.result c.args.word.now c.requires c.free_places-f.ensures.free_places (omega arith)

pub mend_free-requires-2-clause-h_value : goal.mend_free-requires-2-clause-h_value
mend_free-requires-2-clause-h_value c =
    let z = zeros c.args.w 256 c.requires.0.narrow in
    (z, z)

pub returns-clause-mended_in : goal.returns-clause-mended_in
returns-clause-mended_in c =
    mended c.free_places-f.ensures.free_places (omega arith) c.mend_free-2.ensures.mended_one_in c.mend_free-2.ensures.mended_two_in
