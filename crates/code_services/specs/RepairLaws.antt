-- Laws: What the service Repair answers, and what word and marks hold then; and why a filling by the first equations is the only one that can
-- satisfy them all.
use Rattle.std.specs.Prelude.{◌≡◌, refl, Bool, true, false, not, List, ◌++◌, ℕ, zero, ◌+◌, ◌-◌, ◌*◌, ◌^◌, ◌<◌, ◌≤◌, T, ltb, length, get_or, take, drop, Result}
use Rattle.std.proofs.Common.{sym, ◌∙◌, subst, le_refl, arith, lt-ltb, le-ltb, ext_get_or}
use Rattle.std.proofs.Math.Path.{ap, ap₂}
use Rattle.std.proofs.Math.Decide.{dec_lt}
use Rattle.std.specs.Float.Ieee.Bits.{is_true}
use Rattle.code.specs.Refusals.{refuse, ◌or_else◌}
use Rattle.code.specs.RefusalsLaws.{refuse-most, or_else-most, or_else-first}
use Rattle.answers.specs.declared.Refusal.{Refusal}
use Rattle.code.specs.Lent.{LentIn}
use Rattle.code.specs.LentLaws.{part-stretch, part_length, with-lent}
use Rattle.code.specs.Limits.{Limits}
use Rattle.code_services.specs.Answered.{AnswersBy}
use Rattle.code_services.specs.Attempt.{AcceptedIn}
use Rattle.code_services.specs.Recover.{unless_before, recover_refusal_in}
use Rattle.code_services.specs.RecoverLaws.{unless-before}
use Rattle.code.specs.Edition.{Edition, Sound}
use Rattle.code.specs.Word.{is_local, local_sum}
use Rattle.code.specs.WordLaws.{local-zero, zero-local}
use Rattle.code.specs.Marks.{lost_in}
use Rattle.code.specs.Outcome.{Outcome, refused}
use Rattle.code.specs.DeterminedLaws.{local-unique}
use Rattle.code.specs.FillingLaws.{filling-symbols}
use Rattle.code.specs.Repair.{repaired, repaired_group, Satisfies}
use Rattle.code.specs.Stretch.{with_stretch}
use Rattle.code.specs.StretchLaws.{own-place}
use Rattle.code_engine.specs.Filled.{FilledIn}
use Rattle.code_services.specs.Repair.{repair_refusal_in, repair_in, PartAttemptIn}

-- a test that passes over what the filling of a stretch has made zero tests all the group's equations
pub filled-tested : {E : Edition} (c : ℕ) (marks before x : List ℕ) (r : Bool) → FilledIn E marks before x → length marks ≡ length before
    → (lost_in (length marks) marks 0 < c → length x ≤ E.small → c ≤ 4 → r ≡ is_local E (length x) c x 0) → lost_in (length marks) marks 0 ≤ c
    → (c ≤ lost_in (length marks) marks 0 → r ≡ true) → length x ≤ E.small → c ≤ 4 → r ≡ is_local E (length x) c x 0
filled-tested {E} c marks before x r F size few most many narrow checks = elim (dec_lt (lost_in (length marks) marks 0) c) [
  | yes h ↦ few h narrow checks
  | no h ↦
      many (omega arith)
      ∙ sym (is_true (is_local E (length x) c x 0) (zero-local E (length x) c x 0 (λ e k.
      subst (λ n. local_sum E n x 0 e ≡ 0) (sym F.size)
      (F.zero (subst (λ n. n ≤ E.small) F.size narrow) size (subst (λ n. lost_in n marks 0 ≤ 4) size (omega arith)) e
      (subst (λ n. e < lost_in n marks 0) size (omega arith))))))
]

-- the stretch as copied (before), its filling x, and what the test of all the group's equations says of x
module _ {E : Edition} (S : Sound E) (w c : ℕ) (wide : 0 < w) (narrow : w ≤ E.small) (few-checks : c ≤ 4) (marks part before x : List ℕ)
    (size : length part ≡ w) (marks-size : length marks ≡ w)
    (part_small : (p : ℕ) → get_or part p 0 < 2 ^ E.bits) (x-small : (p : ℕ) → get_or x p 0 < 2 ^ E.bits) (few : lost_in w marks 0 ≤ c) (copied : before ≡ part)
    (filled : FilledIn E marks before x) (zero-sums : Bool) (tested : length x ≤ E.small → c ≤ 4 → zero-sums ≡ is_local E (length x) c x 0) where
  F : FilledIn E marks part x
  F = subst (λ b. FilledIn E marks b x) copied filled

  x-size : length x ≡ w
  x-size = F.size ∙ size

  test : zero-sums ≡ is_local E w c x 0
  test = tested (subst (λ n. n ≤ E.small) (sym x-size) narrow) few-checks ∙ ap (λ n. is_local E n c x 0) x-size

  first-sums : (e : ℕ) → e < lost_in w marks 0 → local_sum E w x 0 e ≡ 0
  first-sums =
      subst (λ n. (e : ℕ) → e < lost_in n marks 0 → local_sum E n x 0 e ≡ 0) size
      (F.zero (subst (λ n. n ≤ E.small) (sym size) narrow) (marks-size ∙ sym size) (subst (λ n. lost_in n marks 0 ≤ 4) (sym size) (omega arith)))

  -- a filling that satisfies the equations is this one
  only : (y : List ℕ) → Satisfies E w c marks part y → x ≡ y
  only y Y =
      ext_get_or 0 x y (F.size ∙ sym Y.fills.size) λ j l.
      let k : j < w = subst (λ n. j < n) x-size l in
      subst (λ n. get_or x n 0 ≡ get_or y n 0) (own-place w j)
      (local-unique E S w (lost_in w marks 0) 0 wide narrow marks x y x-small
      (filling-symbols E w marks part y (record { size = size; each = part_small }) Y.fills).each
      (λ e h. first-sums e h ∙ sym (local-zero E w c y 0 Y.passes e (omega arith)))
      (λ i h e. F.present (0 * w + i) e ∙ sym (Y.fills.present (0 * w + i)
      (subst (λ n. n < length part) (sym (own-place w i)) (subst (λ n. i < n) (sym size) h)) e))
      (le_refl (lost_in w marks 0)) j k)

  pub part-done : (after : List ℕ) → zero-sums ≡ true → (length x ≡ length part → after ≡ x) → PartAttemptIn E w c marks part after true
  part-done after e put = subst (λ z. PartAttemptIn E w c marks part z true) (sym (put F.size)) record {
    done = λ _. record {
      fills = record { size = F.size; present = λ p _ q. F.present p q; each = λ p _ _. x-small p };
      passes = subst T (sym (sym test ∙ e)) tt;
    };
    failed = λ f. absurd (let z : ◌≡◌ {A = ℕ} 0 1 = cc in omega arith);
  }

  pub part-failed : zero-sums ≡ false → PartAttemptIn E w c marks part part false
  part-failed e = record {
    done = λ f. absurd (let z : ◌≡◌ {A = ℕ} 0 1 = cc in omega arith);
    failed = λ _. (refl, λ y Y. subst T (ap (λ z. is_local E w c z 0) (sym (only y Y)) ∙ sym test ∙ e) Y.passes);
  }

-- ---- what the service answers, by how the call goes
pub service-refused : (E : Edition) (m w c g : ℕ) (word marks : List ℕ) (r : ℕ) → r ≡ repair_refusal_in E.limits m w c g word marks → (r ≡ 0 → ⊥)
    → repair_in E m w c g word marks ≡ refused r word marks
unfolding repair_in
service-refused E m w c g word marks r e n =
    ap (λ q. unless_before q (repaired_group E w c g word marks) word marks) (sym e) ∙ unless-before r (repaired_group E w c g word marks) word marks n

pub refused-early : (L : Limits) (m w c g : ℕ) (word marks : List ℕ) (r : ℕ) → r ≡ recover_refusal_in L m w c word marks → (r ≡ 0 → ⊥)
    → r ≡ repair_refusal_in L m w c g word marks
unfolding repair_refusal_in
refused-early L m w c g word marks r e n = sym (ap (λ q. q or_else refuse 7 (not (ltb g m))) (sym e) ∙ or_else-first r _ n)

pub refused-seven : (L : Limits) (m w c g : ℕ) (word marks : List ℕ) → recover_refusal_in L m w c word marks ≡ 0 → m ≤ g → 7
    ≡ repair_refusal_in L m w c g word marks
unfolding repair_refusal_in
refused-seven L m w c g word marks z h = sym (ap₂ (λ q b. q or_else refuse 7 (not b)) z (le-ltb g m h))

-- of a call that is accepted: the part of word and marks that is lent, and what its repair leaves, in the whole word and marks
module _ (E : Edition) (m w c g : ℕ) (word marks : List ℕ) (A : AcceptedIn E.limits m w c word marks) (l : g < m) where
  abbrev lent_of : List ℕ → List ℕ
  lent_of xs = take (g * w + w - g * w) (drop (g * w) xs)

  abbrev put_back : List ℕ → List ℕ → List ℕ
  put_back xs part = take (g * w) xs ++ (part ++ drop (g * w + w - g * w) (drop (g * w) xs))

  abbrev left : Outcome
  left = repaired E (length (lent_of word)) c g (lent_of word) (lent_of marks)

  abbrev in_whole : Outcome → Outcome
  in_whole o = record { number = o.number; group = o.group; word = with_stretch w g word o.word; marks = with_stretch w g marks o.marks }

  whole : repair_in E m w c g word marks ≡ in_whole left
  unfolding repair_in repair_refusal_in
  whole =
      let L : LentIn E.limits m w c word = record { good = A.good; size = A.word_size } in
      let M : LentIn E.limits m w c marks = record { good = A.good; size = A.marks-size } in
      ap₂ (λ r b. unless_before (r or_else refuse 7 (not b)) (repaired_group E w c g word marks) word marks) A.refusal (lt-ltb g m l)
      ∙ ap in_whole (sym (ap (λ n. repaired E n c g (lent_of word) (lent_of marks)) (part_length L g l refl)
      ∙ ap₂ (repaired E w c g) (part-stretch L g l refl) (part-stretch M g l refl)))

  pub service-lent : (r : Result Unit Refusal) (part held : List ℕ) → AnswersBy r left → part ≡ left.word → held ≡ left.marks
      → AnswersBy r (repair_in E m w c g word marks)
      × ((put_back word part ≡ (repair_in E m w c g word marks).word) × (put_back marks held ≡ (repair_in E m w c g word marks).marks))
  service-lent r part held n p h = (
    record {
      number = n.number ∙ ap (λ o. o.number) (sym whole);
      group = n.group ∙ ap (λ o. o.group) (sym whole);
    },
    (
      with-lent w g word part ∙ ap (with_stretch w g word) p ∙ ap (λ o. o.word) (sym whole),
      with-lent w g marks held ∙ ap (with_stretch w g marks) h
          ∙ ap (λ o. o.marks) (sym whole),
    ),
  )
