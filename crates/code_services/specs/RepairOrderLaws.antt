-- Laws: Demand 3 of the services as they run: calls of Repair first, in any order, repeated and refused ones included, do not change what a call
-- of Recover answers.
use Rattle.std.specs.Prelude.{◌≡◌, ◌↔◌, Bool, not, ltb, length, get_or, drop, replicate, Result}
use Rattle.std.proofs.Math.Path.{refl, ap, ap₂, subst}
use Rattle.std.proofs.Common.{sym, ◌∙◌, mul-le-mul_right, add-one, arith, lt-ltb, le-ltb, drop_of_length-le, drop-cons}
use Rattle.std.proofs.Math.Bool.{true, false, cond}
use mathlib.Core.List.{List, [], ◌∷◌}
use Prim.Native.Nat.{ℕ, suc, ◌+◌, ◌*◌, ◌<◌, ◌≤◌, ◌^◌}
use Rattle.std.proofs.Math.Decide.{dec_lt, ℕ_discrete}
use Rattle.std.proofs.lemmas.List.{length-replicate, get_or-replicate}
use Rattle.answers.specs.declared.Refusal.{Refusal}
use Rattle.code.specs.Refusals.{refuse, ◌or_else◌}
use Rattle.code.specs.RefusalsLaws.{or_else-zero}
use Rattle.code.specs.Limits.{GoodIn, word_refusal_in}
use Rattle.code.specs.LimitsLaws.{good-of-word}
use Rattle.code_services.specs.Answered.{AnswersBy}
use Rattle.code_services.specs.AnsweredLaws.{answers_of, answers-same}
use Rattle.code_services.specs.Marks.{marks_refusal_in}
use Rattle.code_services.specs.MarksLaws.{good-of-marks}
use Rattle.code.specs.Edition.{Edition, Sound}
use Rattle.code.specs.Word.{is_local}
use Rattle.code.specs.Marks.{excess, lost_in}
use Rattle.code.specs.Outcome.{Outcome, SameEnd}
use Rattle.code.specs.OutcomeLaws.{same_outcome}
use Rattle.code.specs.Outcome as Outcome
use Rattle.code.specs.OutcomeLaws as OutcomeLaws
use Rattle.code.specs.Recovery.{recovered}
use Rattle.code.specs.Repair.{repaired_group}
use Rattle.code.specs.Stretch.{stretch, with_stretch}
use Rattle.code.specs.StretchLaws.{stretch-length, stretch-below, with-before, with-inside, with-after, place-cases}
use Rattle.code.specs.RepairOrder.{Held, after_repair, after_repairs, Fits, SameRecovery}
use Rattle.code.proofs.RepairOrderLaws.{repairs-fit, order}
use Rattle.code_services.specs.Recover.{unless_before, recover_refusal_in, recover_in}
use Rattle.code_services.specs.RecoverDemandLaws.{good_start}
use Rattle.code_services.specs.Repair.{repair_in, repair_refusal_in}
use Rattle.code_services.specs.RepairLaws.{service-refused, refused-early}
use Rattle.code_services.specs.RepairOrder.{held, left_by, held_after, held_after_list, recover_held, recover_after, Ready, OrderHolds}

-- ---- calls that are refused by their shape, lengths or marks
module _ (E : Edition) (m w c : ℕ) (h : Held) (n : recover_refusal_in E.limits m w c h.word h.marks ≡ 0 → ⊥) where
  -- every repair is refused too, and changes nothing
  refused-one : (g : ℕ) → held_after E m w c g h ≡ h
  unfolding held_after
  refused-one g =
      ap left_by
      (service-refused E m w c g h.word h.marks (recover_refusal_in E.limits m w c h.word h.marks)
      (refused-early E.limits m w c g h.word h.marks (recover_refusal_in E.limits m w c h.word h.marks) refl n) n)

  refused-list : (gs : List ℕ) → held_after_list E m w c gs h ≡ h
  unfolding held_after_list
  refused-list [] = refl
  refused-list (g ∷ gs) = ap (held_after_list E m w c gs) (refused-one g) ∙ refused-list gs

module _ (E : Edition) (m w c : ℕ) where
  ready-accepted : (h : Held) → Ready E m w c h → recover_refusal_in E.limits m w c h.word h.marks ≡ 0
  ready-accepted h R = good_start m w c h.word h.marks R.marked R.symbols.size

  accepted-ready : (h : Held) → ((p : ℕ) → get_or h.word p 0 < 2 ^ E.bits) → recover_refusal_in E.limits m w c h.word h.marks ≡ 0 → Ready E m w c h
  unfolding recover_refusal_in
  accepted-ready h small e =
      let z = or_else-zero (word_refusal_in E.limits m w c (length h.word)) (marks_refusal_in E.limits m w c h.marks) e in
      record {
        symbols = record { size = (good-of-word m w c (length h.word) z.0).1; each = small };
        marked = good-of-marks m w c h.marks z.1;
      }

  ready-recovered : (h : Held) → Ready E m w c h → recover_held E m w c h ≡ recovered E m w c h.word h.marks
  unfolding recover_in
  ready-recovered h R = ap (λ r. unless_before r (recovered E m w c h.word h.marks) h.word h.marks) (ready-accepted h R)

  -- one call of Repair is the repair that demand 3 is proved of
  ready-one : (g : ℕ) (h : Held) → Ready E m w c h → held_after E m w c g h ≡ after_repair E m w c g h
  unfolding held_after repair_in repair_refusal_in after_repair
  ready-one g h R =
      ap (λ r. left_by (unless_before (r or_else refuse 7 (not (ltb g m))) (repaired_group E w c g h.word h.marks) h.word h.marks)) (ready-accepted h R)
      ∙ go (ltb g m) (repaired_group E w c g h.word h.marks)
    where
      go : (b : Bool) (o : Outcome) → left_by (unless_before (refuse 7 (not b)) o h.word h.marks) ≡ cond b (left_by o) h
      go true o = refl
      go false o = refl

  -- a stretch of marks put into marks
  module _ (g : ℕ) (marks : List ℕ) (fits : suc g * w ≤ length marks) (each : (p : ℕ) → get_or marks p 0 < 2) where
    with-below : (part : List ℕ) → length part ≡ w → ((j : ℕ) → j < w → get_or part j 0 < 2) → (p : ℕ) → get_or (with_stretch w g marks part) p 0 < 2
    with-below part size small =
        place-cases (λ p. get_or (with_stretch w g marks part) p 0 < 2) w g
        (λ p k. subst (λ n. n < 2) (sym (with-before w g marks fits part size p k)) (each p))
        (λ j k. subst (λ n. n < 2) (sym (with-inside w g marks fits part size j k)) (small j k))
        (λ p k. subst (λ n. n < 2) (sym (with-after w g marks fits part size p k)) (each p))

    -- after a repair each mark is 0 or 1 still
    group-marks : (word : List ℕ) (p : ℕ) → get_or (repaired_group E w c g word marks).marks p 0 < 2
    group-marks word p =
        elim (OutcomeLaws.cases (2 ^ E.bits) (λ x. is_local E w c x 0) (ltb c (lost_in w (stretch w g marks) 0)) g (stretch w g word) (stretch w g marks)) [
          | Outcome.eight _ e ↦ same (ap (λ o. o.marks) e)
          | Outcome.nine _ _ e ↦ same (ap (λ o. o.marks) e)
          | Outcome.done _ x _ e ↦ clear (ap (λ o. o.marks) e)
        ]
      where
        size : length (stretch w g marks) ≡ w
        size = stretch-length w g marks fits

        same : {part : List ℕ} → part ≡ stretch w g marks → get_or (with_stretch w g marks part) p 0 < 2
        same e = subst (λ y. get_or (with_stretch w g marks y) p 0 < 2) (sym e) (with-below (stretch w g marks) size (λ j _. stretch-below w g marks 2 each j) p)

        clear : {part : List ℕ} → part ≡ replicate (length (stretch w g marks)) 0 → get_or (with_stretch w g marks part) p 0 < 2
        clear e =
            subst (λ y. get_or (with_stretch w g marks y) p 0 < 2) (sym e)
            (with-below (replicate (length (stretch w g marks)) 0) (length-replicate (length (stretch w g marks)) 0 ∙ size)
            (λ j k. subst (λ y. y < 2) (sym (get_or-replicate (length (stretch w g marks)) j 0 0 (subst (λ y. j < y) (sym size) k))) (omega arith)) p)

  module _ (S : Sound E) (h : Held) (R : Ready E m w c h) where
    narrow : w ≤ E.small
    narrow = let h = R.marked.good.narrow in let k = S.width_narrow in omega arith

    few : m ≤ S.r
    few = let h = R.marked.good.few in let k = S.groups-few in omega arith

    wide : 0 < w
    wide = let g = R.marked.good in omega arith

    fits : Fits E S m w c few wide narrow h
    fits = record { symbols = R.symbols; size = R.marked.size }

    marks-after : (g : ℕ) (p : ℕ) → get_or (after_repair E m w c g h).marks p 0 < 2
    unfolding after_repair
    marks-after g p = elim (dec_lt g m) [
      | yes l ↦
          rw (lt-ltb g m l)
          (group-marks g h.marks (subst (λ n. suc g * w ≤ n) (sym R.marked.size) (mul-le-mul_right w l)) R.marked.each h.word p)
      | no l ↦ rw (le-ltb g m (omega arith)) (R.marked.each p)
    ]

    -- what a call of Repair leaves is a good start again
    ready-after : (g : ℕ) → Ready E m w c (held_after E m w c g h)
    unfolding after_repairs
    ready-after g =
        let F = repairs-fit E S m w c few wide narrow (g ∷ []) h fits in
        subst (Ready E m w c) (sym (ready-one g h R))
        (record { symbols = F.symbols; marked = record { good = R.marked.good; size = F.size; each = marks-after g } })

  ready-list : Sound E → (gs : List ℕ) (h : Held) → Ready E m w c h → Ready E m w c (held_after_list E m w c gs h)
  unfolding held_after_list
  ready-list S [] h R = R
  ready-list S (g ∷ gs) h R = ready-list S gs (held_after E m w c g h) (ready-after S h R g)

  ready-repairs : Sound E → (gs : List ℕ) (h : Held) → Ready E m w c h → held_after_list E m w c gs h ≡ after_repairs E m w c gs h
  unfolding held_after_list after_repairs
  ready-repairs S [] h R = refl
  ready-repairs S (g ∷ gs) h R =
      ready-repairs S gs (held_after E m w c g h) (ready-after S h R g) ∙ ap (after_repairs E m w c gs) (ready-one g h R)

module _ {E : Edition} (S : Sound E) (m w c : ℕ) (list word marks : List ℕ) where
  ready-order : Ready E m w c (held word marks) → OrderHolds E m w c list word marks
  ready-order R =
      record {
        same = record {
          number = is.number ∙ T.same.number ∙ ap (λ o. o.number) (sym once);
          group = is.group ∙ T.same.group ∙ ap (λ o. o.group) (sym once);
          word = λ e. is.word e ∙ T.same.word (sym is.number ∙ e) ∙ ap (λ o. o.word) (sym once);
          marks = λ e. is.marks e ∙ T.same.marks (sym is.number ∙ e) ∙ ap (λ o. o.marks) (sym once);
        };
        eight = ((λ e. T.eight (sym is.number ∙ e)), (λ k. is.number ∙ T.above k));
        clear = λ e. is.marks e ∙ T.clear (sym is.number ∙ e);
      }
    where
      T : SameRecovery E S m w c (few E m w c S (held word marks) R) (wide E m w c S (held word marks) R) (narrow E m w c S (held word marks) R) list
          (held word marks)
      T = order E S m w c (few E m w c S (held word marks) R) (wide E m w c S (held word marks) R) (narrow E m w c S (held word marks) R) list (held word marks)
          (fits E m w c S (held word marks) R)

      once : recover_in E m w c word marks ≡ recovered E m w c word marks
      once = ready-recovered E m w c (held word marks) R

      is : SameEnd (recover_after E m w c list word marks)
          (recovered E m w c (after_repairs E m w c list (held word marks)).word (after_repairs E m w c list (held word marks)).marks)
      is =
          same_outcome (ready-recovered E m w c (held_after_list E m w c list (held word marks)) (ready-list E m w c S list (held word marks) R)
          ∙ ap (λ (h : Held). recovered E m w c h.word h.marks) (ready-repairs E m w c S list (held word marks) R))

  -- Demand 3, for a good shape, n bytes, n marks and every list of group numbers.
  pub order-theorem : GoodIn E.limits m w c → length word ≡ m * w → ((p : ℕ) → get_or word p 0 < 2 ^ E.bits) → length marks ≡ m * w
      → ((p : ℕ) → get_or marks p 0 < 2)
      → OrderHolds E m w c list word marks
  order-theorem good size small marks-size each =
      ready-order (record { symbols = record { size = size; each = small }; marked = record { good = good; size = marks-size; each = each } })

  -- the same of every call that is not refused 1 to 6
  pub order-accepted : ((p : ℕ) → get_or word p 0 < 2 ^ E.bits) → recover_refusal_in E.limits m w c word marks ≡ 0 → OrderHolds E m w c list word marks
  order-accepted small e = ready-order (accepted-ready E m w c (held word marks) small e)

  -- "8 exactly when the excess of the start's marks is above two"
  pub order-eight : ((p : ℕ) → get_or word p 0 < 2 ^ E.bits) → recover_refusal_in E.limits m w c word marks ≡ 0
      → ((recover_after E m w c list word marks).number ≡ 8) ↔ (2 < excess m w c marks)
  order-eight small e = (order-accepted small e).eight

  -- Of every call, good or bad: the same number, the same group and, where the number is 0, the same bytes and marks.
  pub same-recovery : ((p : ℕ) → get_or word p 0 < 2 ^ E.bits) → SameEnd (recover_after E m w c list word marks) (recover_in E m w c word marks)
  same-recovery small = elim (ℕ_discrete (recover_refusal_in E.limits m w c word marks) 0) [
    | yes e ↦ (order-accepted small e).same
    | no n ↦ same_outcome (ap (recover_held E m w c) (refused-list E m w c (held word marks) n list))
  ]

-- ---- a turn of the loop over the list, and its end
module _ (E : Edition) (m w c : ℕ) (list : List ℕ) (i : ℕ) (word marks : List ℕ) (end : Held)
    (left : held_after_list E m w c (drop i list) (held word marks) ≡ end) where
  pub list-turn : i < length list → (word' marks' : List ℕ) → word' ≡ (repair_in E m w c (get_or list i 0) word marks).word
      → marks' ≡ (repair_in E m w c (get_or list i 0) word marks).marks → held_after_list E m w c (drop (i + 1) list) (held word' marks') ≡ end
  unfolding held_after_list held_after
  list-turn l word' marks' p q =
      ap₂ (λ x y. held_after_list E m w c (drop (i + 1) list) (held x y)) p q
      ∙ ap (λ n. held_after_list E m w c (drop n list) (held_after E m w c (get_or list i 0) (held word marks))) (add-one i)
      ∙ ap (λ gs. held_after_list E m w c gs (held word marks)) (sym (drop-cons list i 0 l)) ∙ left

  pub list-end : length list ≤ i → held word marks ≡ end
  unfolding held_after_list
  list-end l = ap (λ gs. held_after_list E m w c gs (held word marks)) (sym (drop_of_length-le list l)) ∙ left

-- ---- the contract, from what the calls say: word₁ and marks₁ stand before the recovery, word₂ and marks₂ after it
module _ {E : Edition} (sound : Sound E) (m w c : ℕ) (list word marks word₁ marks₁ word₂ marks₂ : List ℕ) (r : Result Unit Refusal)
    (small : (p : ℕ) → get_or word p 0 < 2 ^ E.bits)
    (before : held word₁ marks₁ ≡ held_after_list E m w c list (held word marks))
    (answer-is : AnswersBy r (recover_in E m w c word₁ marks₁))
    (word-is : word₂ ≡ (recover_in E m w c word₁ marks₁).word) (marks-is : marks₂ ≡ (recover_in E m w c word₁ marks₁).marks) where
  outcome : recover_in E m w c word₁ marks₁ ≡ recover_after E m w c list word marks
  outcome = ap (recover_held E m w c) before

  S : SameEnd (recover_after E m w c list word marks) (recover_in E m w c word marks)
  S = same-recovery sound m w c list word marks small

  pub after-answer : AnswersBy r (recover_after E m w c list word marks)
  after-answer = answers_of outcome answer-is

  pub after-word : word₂ ≡ (recover_after E m w c list word marks).word
  after-word = word-is ∙ ap (λ o. o.word) outcome

  pub after-marks : marks₂ ≡ (recover_after E m w c list word marks).marks
  after-marks = marks-is ∙ ap (λ o. o.marks) outcome

  -- the clauses in their order
  pub contract : AnswersBy r (recover_after E m w c list word marks)
      × ((word₂ ≡ (recover_after E m w c list word marks).word)
      × ((marks₂ ≡ (recover_after E m w c list word marks).marks)
      × (AnswersBy r (recover_in E m w c word marks)
      × (((recover_in E m w c word marks).number ≡ 0 → word₂ ≡ (recover_in E m w c word marks).word)
      × ((recover_in E m w c word marks).number ≡ 0 → marks₂ ≡ (recover_in E m w c word marks).marks)))))
  contract = (
    after-answer,
    (
      after-word,
      (
        after-marks,
        (answers-same S after-answer, ((λ e. after-word ∙ S.word (S.number ∙ e)), (λ e. after-marks ∙ S.marks (S.number ∙ e)))),
      ),
    ),
  )
