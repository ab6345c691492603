-- Laws: a finish after stretches none of which is refused answers as Recover does, and bytes in places that never came play no part.
use Rattle.std.specs.Prelude.{◌≡◌, false, List, ℕ, zero, suc, ◌*◌, ◌<◌, ◌≤◌, T, eqb, length, take}
use Rattle.std.proofs.Math.Path.{refl}
use Rattle.std.proofs.Common.{sym, ap, ap₂, ◌∙◌, subst, arith, ext_get_or}
use Rattle.std.proofs.Math.Logic.{inl, inr}
use Rattle.std.proofs.Math.ListN.{get_or, get_or-replicate}
use Rattle.std.proofs.Math.Seq.{get_or-take, length-take-le}
use Rattle.code.specs.Refusals.{unless_refused}
use Rattle.code.specs.RefusalsLaws.{unless-refused}
use Rattle.shape.specs.Shapes.{byte_limits}
use Rattle.code.specs.Limits.{GoodIn}
use Rattle.code.specs.LimitsLaws.{places-most}
use Rattle.byte_edition.specs.Edition.{byte_edition}
use Rattle.code.specs.Marks.{lost, Agree}
use Rattle.code.specs.Outcome.{Outcome, SameEnd}
use Rattle.code_services.specs.RecoverDemandLaws.{lost-bytes}
use Rattle.code_services.specs.Recover.{recover_in}
use Rattle.gather_record.specs.declared.Gather.{Gather}
use Rattle.gather_record.specs.Record.{Whole, gather_places, gather_bytes, gather_marks, gather_refusal, begun}
use Rattle.gather_record.specs.RecordLaws.{Open, open-unrefused, marks-open, begun-whole, bytes-size}
use Rattle.gather_finish.specs.Finish.{finish_refusal, gather_recovery, finish_by, finish_of}
use Rattle.gather_finish.specs.FinishLaws.{finish-fit, finish-parts}
use Rattle.gather_history.specs.History.{Stretch, after_stretches, Unrefused, accepted, Brings}
use Rattle.gather_history.specs.StretchOrder.{Gathered, HoldsStretches, FinishesAs, FinishHolds, FinishAmongHolds, Alike, IdleHolds}
use Rattle.gather_history.specs.StretchOrderLaws.{brought-or, brought-inside, gathered, refused-nothing}

-- two recoveries that end alike give the same word to a lent one
same_word : (a b : Outcome) (lent : List ℕ) → SameEnd a b → unless_refused a.number a.word lent ≡ unless_refused b.number b.word lent
same_word a b lent S = go a.number refl
  where
    go : (r : ℕ) → a.number ≡ r → unless_refused a.number a.word lent ≡ unless_refused b.number b.word lent
    go zero e = ap₂ (λ n x. unless_refused n x lent) S.number (S.word e)
    go (suc r) e =
        let some : a.number ≡ 0 → ⊥ = λ z. omega arith in
        unless-refused _ _ _ some ∙ sym (unless-refused _ _ _ (λ z. some (S.number ∙ z)))

recovery-of : (g : Gather) (m w c : ℕ) → g.m ≡ m → g.w ≡ w → g.c ≡ c
    → gather_recovery g ≡ recover_in byte_edition m w c (take (m * w) g.bytes) (take (m * w) g.marks)
recovery-of g m w c em ew ec = cc

module _ (m w c : ℕ) (good : GoodIn byte_limits m w c) (ss : List Stretch) (u : Unrefused ss (begun m w c)) where
  G : Gathered ss (begun m w c) (after_stretches ss (begun m w c))
  G = gathered ss (begun m w c) (begun-whole m w c) u

  -- a place that never came is still marked as lost
  never-marked : (p : ℕ) → p < 240 → ((x : ℕ) → Brings p x ss → ⊥) → get_or (after_stretches ss (begun m w c)).marks p 0 ≡ 1
  unfolding begun
  never-marked p l n = (G.other p n).1 ∙ get_or-replicate 240 p 1 0 l

  m-is : (after_stretches ss (begun m w c)).m ≡ m
  unfolding begun
  m-is = G.m-same

  w-is : (after_stretches ss (begun m w c)).w ≡ w
  unfolding begun
  w-is = G.w-same

  c-is : (after_stretches ss (begun m w c)).c ≡ c
  unfolding begun
  c-is = G.c-same

  now-open : Open (after_stretches ss (begun m w c))
  unfolding begun
  now-open =
      let g : GoodIn byte_limits (after_stretches ss (begun m w c)).m (after_stretches ss (begun m w c)).w (after_stretches ss (begun m w c)).c = rw
      (m-is, w-is, c-is) good in
      record {
        good = g;
        marked = marks-open (after_stretches ss (begun m w c)) G.whole g (λ p l. let k = places-most g in few p (omega arith));
        unfinished = G.finished-same;
      }
    where
      few : (p : ℕ) → p < 240 → get_or (after_stretches ss (begun m w c)).marks p 0 < 2
      few p l = elim (brought-or p ss) [
        | inl b ↦ omega (arith, (G.came p b.0 b.1).1)
        | inr n ↦ omega (arith, never-marked p l n)
      ]

  long : m * w ≤ 240
  long = places-most good

  -- the record's own word and marks hold what came
  pub holds-itself : HoldsStretches (m * w) ss (take (m * w) (after_stretches ss (begun m w c)).bytes) (take (m * w) (after_stretches ss (begun m w c)).marks)
  unfolding begun
  holds-itself = record {
    word_size = length-take-le (m * w) _ (omega (arith, long, G.whole.bytes-long));
    marks-size = length-take-le (m * w) _ (omega (arith, long, G.whole.marks-long));
    came = λ p x b.
        let l : p < m * w = brought-inside ss (begun m w c) (begun-whole m w c) u p x b in
        let q = G.came p x b in
        (get_or-take (m * w) _ p 0 l ∙ q.0, get_or-take (m * w) _ p 0 l ∙ q.1);
    never = λ p l n. get_or-take (m * w) _ p 0 l ∙ never-marked p (omega (arith, long)) n;
  }

  module _ (word marks : List ℕ) (H : HoldsStretches (m * w) ss word marks) where
    marks-are : take (m * w) (after_stretches ss (begun m w c)).marks ≡ marks
    marks-are =
        let I = holds-itself in
        ext_get_or 0 _ marks (I.marks-size ∙ sym H.marks-size) (λ p l. elim (brought-or p ss) [
          | inl b ↦ (I.came p b.0 b.1).1 ∙ sym (H.came p b.0 b.1).1
          | inr n ↦ (let k : p < m * w = omega (arith, I.marks-size) in I.never p k n ∙ sym (H.never p k n))
        ])

    words-agree : Agree (length (take (m * w) (after_stretches ss (begun m w c)).bytes)) marks (take (m * w) (after_stretches ss (begun m w c)).bytes) word
    words-agree p l e = elim (brought-or p ss) [
      | inl b ↦ (holds-itself.came p b.0 b.1).0 ∙ sym (H.came p b.0 b.1).0
      | inr n ↦ (
          let k : get_or marks p 0 ≡ 1 = H.never p (omega (arith, holds-itself.word_size)) n in
          let z : eqb 1 1 ≡ false = ap (λ b. eqb b 1) (sym k) ∙ e in
          absurd (subst T z tt)
          )
    ]

    same_end : SameEnd (gather_recovery (after_stretches ss (begun m w c))) (recover_in byte_edition m w c word marks)
    same_end =
        subst (λ o. SameEnd o (recover_in byte_edition m w c word marks))
        (sym (recovery-of (after_stretches ss (begun m w c)) m w c m-is w-is c-is
        ∙ ap (recover_in byte_edition m w c (take (m * w) (after_stretches ss (begun m w c)).bytes)) marks-are))
        (lost-bytes byte_edition m w c (take (m * w) (after_stretches ss (begun m w c)).bytes) word marks
        (holds-itself.word_size ∙ sym H.word_size) words-agree)

-- the finish of an open record
by-recovery : (g : Gather) (lent : List ℕ) (r : Outcome) → finish_refusal (length lent) g ≡ 0 → SameEnd (gather_recovery g) r
    → FinishesAs (finish_of lent g) lent r
unfolding finish_of
by-recovery g lent r e S = subst (λ n. FinishesAs (finish_by n lent g) lent r) (sym e) (record {
  number = S.number;
  group = S.group;
  word = λ z. ap (λ n. unless_refused n (gather_recovery g).word lent) z ∙ S.word z;
  kept = λ n. unless-refused _ _ _ n;
  closed = refl;
})

-- the finish answers as Recover does
pub finish-recovers : FinishHolds
finish-recovers m w c good ss u word marks H lent size =
    by-recovery (after_stretches ss (begun m w c)) lent (recover_in byte_edition m w c word marks)
    (finish-fit (length lent) (after_stretches ss (begun m w c)) (open-unrefused (after_stretches ss (begun m w c)) (now-open m w c good ss u))
    (size ∙ sym (ap₂ (λ a b. a * b) (m-is m w c good ss u) (w-is m w c good ss u))))
    (same_end m w c good ss u word marks H)

-- refused stretches among the others
pub finish-among : FinishAmongHolds
finish-among m w c good ss word marks H lent size =
    let R = refused-nothing ss (begun m w c) in
    subst (λ g. FinishesAs (finish_of lent g) lent (recover_in byte_edition m w c word marks)) (sym R.0)
    (finish-recovers m w c good (accepted ss (begun m w c)) R.1 word marks H lent size)

-- ---- bytes in places that never came

module _ (g : Gather) (others : List ℕ) (W : Whole g) (size : length others ≡ 240)
    (agree : (p : ℕ) → p < gather_places g → lost g.marks p ≡ false → get_or g.bytes p 0 ≡ get_or others p 0) where
  abbrev other : Gather
  other = record { m = g.m; w = g.w; c = g.c; finished = g.finished; bytes = others; marks = g.marks }

  recoveries : GoodIn byte_limits g.m g.w g.c → SameEnd (gather_recovery g) (gather_recovery other)
  recoveries good =
      let k = places-most good in
      lost-bytes byte_edition g.m g.w g.c (gather_bytes g) (take (gather_places g) others) (gather_marks g)
      (bytes-size g good W ∙ sym (length-take-le (gather_places g) others (omega (arith, size)))) same
    where
      same : Agree (length (gather_bytes g)) (gather_marks g) (gather_bytes g) (take (gather_places g) others)
      same p l e =
          let h : p < gather_places g = omega (arith, bytes-size g good W) in
          get_or-take (gather_places g) g.bytes p 0 h
          ∙ agree p h (ap (λ b. eqb b 1) (sym (get_or-take (gather_places g) g.marks p 0 h)) ∙ e)
          ∙ sym (get_or-take (gather_places g) others p 0 h)

  alike-by : (word : List ℕ) (r : ℕ) → finish_refusal (length word) g ≡ r → Alike (finish_by r word g) (finish_by r word other)
  alike-by word zero e =
      let S = recoveries (finish-parts (length word) g e).opened.good in
      record { number = S.number; group = S.group; word = same_word (gather_recovery g) (gather_recovery other) word S; closed = refl }
  alike-by word (suc r) e = record { number = refl; group = refl; word = refl; closed = refl }

  alike : (word : List ℕ) → Alike (finish_of word g) (finish_of word other)
  unfolding finish_of finish_refusal gather_refusal
  alike word = alike-by word (finish_refusal (length word) g) refl

-- bytes in places that never came have no effect
pub idle-bytes : IdleHolds
idle-bytes = alike
