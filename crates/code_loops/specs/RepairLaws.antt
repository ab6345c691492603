-- Laws: A repair: the filling of one group's stretch, its test, and how the call ends.
use Rattle.std.specs.Prelude.{◌≡◌, refl, Bool, true, false, List, ℕ, Result, Ok, Err, ◌+◌, ◌-◌, ◌*◌, ◌^◌, ◌≤◌, ◌<◌, length, get_or, take, drop, replicate}
use Rattle.std.proofs.Common.{sym, ap, ◌∙◌, subst, arith}
use Rattle.code.specs.Edition.{Edition, Sound}
use Rattle.code.specs.Limits.{Limits}
use Rattle.code.specs.Lent.{LentIn}
use Rattle.code.specs.LentLaws.{end_fits, part_length, part-narrow}
use Rattle.code.specs.Word.{is_local}
use Rattle.code.specs.Marks.{lost_in}
use Rattle.code.specs.Repair.{repaired}
use Rattle.code.specs.RepairLaws.{repaired-eight, repaired-nine, repaired-done}
use Rattle.answers.specs.declared.Refusal.{Refusal}
use Rattle.answers.specs.Answers.{refusal_number}
use Rattle.answers.specs.AnswersLaws.{refusal-some}
use Rattle.code_engine.specs.Filled.{FilledIn}
use Rattle.code_services.specs.Recover.{recover_refusal_in}
use Rattle.code_services.specs.Attempt.{AcceptedIn}
use Rattle.code_services.specs.Repair.{repair_in, PartAttemptIn}
use Rattle.code_services.specs.RepairLaws.{filled-tested, part-done, part-failed, service-refused, refused-early, refused-seven}
use Rattle.code_services.specs.RepairOrder.{held, held_after_list}
use Rattle.code_services.specs.RepairOrderLaws.{list-turn, list-end}
use Rattle.code_loops.specs.EndsLaws.{Ends, ends-refused, ends-nine, ends-done}
use Rattle.code_services.specs.PlainLaws.{recover-plain}

-- ---- a stretch of a word with its marks
pub record Part (E : Edition) (c : ℕ) (part marks : List ℕ) : Type 0 where
  pub wide : 0 < length part
  pub narrow : length part ≤ E.small
  pub few-checks : c ≤ 4
  pub size : length marks ≡ length part
  pub small : (p : ℕ) → get_or part p 0 < 2 ^ E.bits

-- x is its filling in a copy, and b what the test says that passes over what the filling has made zero
pub record Filling (E : Edition) (c : ℕ) (part marks copy x : List ℕ) (b : Bool) : Type 0 where
  pub of : Part E c part marks
  pub few : lost_in (length part) marks 0 ≤ c
  pub copied : copy ≡ part
  pub filled : FilledIn E marks copy x
  pub small : (p : ℕ) → get_or x p 0 < 2 ^ E.bits
  pub tested : lost_in (length marks) marks 0 < c → length x ≤ E.small → c ≤ 4 → b ≡ is_local E (length x) c x 0
  pub passed : c ≤ lost_in (length marks) marks 0 → b ≡ true

module _ {E : Edition} (S : Sound E) {c : ℕ} {part marks copy x : List ℕ} {b : Bool} (F : Filling E c part marks copy x b) where
  test : length x ≤ E.small → c ≤ 4 → b ≡ is_local E (length x) c x 0
  test =
      filled-tested c marks copy x b F.filled (F.of.size ∙ sym (ap length F.copied)) F.tested
      (subst (λ n. lost_in n marks 0 ≤ c) (sym F.of.size) F.few) F.passed

  pub filling-failed : b ≡ false → PartAttemptIn E (length part) c marks part part false
  filling-failed =
      part-failed S (length part) c F.of.wide F.of.narrow F.of.few-checks marks part copy x refl F.of.size F.of.small F.small F.few
      F.copied F.filled b test

  pub filling-done : {after : List ℕ} → b ≡ true → (length x ≡ length part → after ≡ x) → PartAttemptIn E (length part) c marks part after true
  filling-done {after} =
      part-done S (length part) c F.of.wide F.of.narrow F.of.few-checks marks part copy x refl F.of.size F.of.small F.small F.few
      F.copied F.filled b test after

-- how its repair ends, n being the count of its lost places and g its group
module _ {E : Edition} {c : ℕ} {part marks : List ℕ} (P : Part E c part marks) {n : ℕ} (counted : n ≡ lost_in (length marks) marks 0) where
  lost : n ≡ lost_in (length part) marks 0
  lost = counted ∙ ap (λ k. lost_in k marks 0) P.size

  pub few-lost : n ≤ c → lost_in (length part) marks 0 ≤ c
  few-lost = subst (λ k. k ≤ c) lost

  module _ (S : Sound E) (g : ℕ) where
    pub part-eight : c < n → Ends (Err Refusal.Undetermined) part marks (repaired E (length part) c g part marks)
    part-eight h =
        ends-refused (repaired-eight E S (length part) c P.wide P.narrow part marks (record { size = refl; each = P.small }) g
        (subst (λ k. c < k) lost h)) (λ z. omega arith)

    module _ (h : n ≤ c) {after held : List ℕ} {b : Bool} (A : PartAttemptIn E (length part) c marks part after b) where
      pub part-nine : b ≡ false → held ≡ marks → Ends (Err (Refusal.Contradictory g)) after held (repaired E (length part) c g part marks)
      part-nine f q =
          ends-nine (repaired-nine E S (length part) c P.wide P.narrow part marks (record { size = refl; each = P.small }) g (few-lost h)
          (A.failed f).1) (A.failed f).0 q

      pub part-mended : b ≡ true → held ≡ replicate (length marks) 0 → Ends (Ok tt) after held (repaired E (length part) c g part marks)
      part-mended y q =
          ends-done marks (repaired-done E S (length part) c P.wide P.narrow part marks (record { size = refl; each = P.small }) g after (few-lost h)
          (A.done y)) q

-- ---- the call
module _ (E : Edition) (m w c g : ℕ) (word marks : List ℕ) where
  pub repair-refused : {e : Refusal} → refusal_number e ≡ recover_refusal_in E.limits m w c word marks
      → Ends (Err e) word marks (repair_in E m w c g word marks)
  repair-refused {e} is =
      let some = refusal-some e in
      ends-refused (service-refused E m w c g word marks _ (refused-early E.limits m w c g word marks _ is some) some)
      (λ z. (recover-plain E.limits m w c word marks).1 (sym is ∙ z))

  pub repair-seven : AcceptedIn E.limits m w c word marks → m ≤ g → Ends (Err Refusal.GroupNumber) word marks (repair_in E m w c g word marks)
  repair-seven A h =
      ends-refused (service-refused E m w c g word marks 7 (refused-seven E.limits m w c g word marks A.refusal h) (λ z. omega arith))
      (λ z. omega arith)

-- an accepted call: the stretches of group g
module _ {L : Limits} {m w c g : ℕ} {word marks : List ℕ} (A : AcceptedIn L m w c word marks) (l : g < m) where
  of_word : LentIn L m w c word
  of_word = record { good = A.good; size = A.word_size }

  of-marks : LentIn L m w c marks
  of-marks = record { good = A.good; size = A.marks-size }

  pub stretches-within : (g * w + w ≤ length word) × (g * w + w ≤ length marks)
  stretches-within = (end_fits of_word g l, end_fits of-marks g l)

  abbrev lent_of : List ℕ → List ℕ
  lent_of xs = take (g * w + w - g * w) (drop (g * w) xs)

  -- what their repair asks for
  pub stretches-given : L.groups < 256
      → (0 < length (lent_of word)) × ((length (lent_of word) ≤ L.width) × ((c ≤ L.checks) × ((length (lent_of marks) ≡ length (lent_of word)) × (g < 256))))
  stretches-given h =
      let n = part_length of_word g l refl in
      let k = part_length of-marks g l refl in
      let G = A.good in
      (rw n (omega arith), (part-narrow of_word g l refl, (G.few-checks, (k ∙ sym n, let f = G.few in omega arith))))

-- ---- a list of repairs: i of them are done, which left word and marks
pub record Repairing (E : Edition) (m w c : ℕ) (list word₀ marks₀ : List ℕ) (i : ℕ) (word marks : List ℕ) : Type 0 where
  pub word_size : length word ≡ length word₀
  pub marks-size : length marks ≡ length marks₀
  pub left : held_after_list E m w c (drop i list) (held word marks) ≡ held_after_list E m w c list (held word₀ marks₀)

module _ {E : Edition} {m w c : ℕ} {list word₀ marks₀ : List ℕ} {i : ℕ} {word marks : List ℕ} (R : Repairing E m w c list word₀ marks₀ i word marks) where
  pub repairing-on : i < length list → {after kept : List ℕ}
      → (after ≡ (repair_in E m w c (get_or list i 0) word marks).word) × (kept ≡ (repair_in E m w c (get_or list i 0) word marks).marks)
      → length after ≡ length word → length kept ≡ length marks → Repairing E m w c list word₀ marks₀ (i + 1) after kept
  repairing-on l {after} {kept} e p q = record {
    word_size = p ∙ R.word_size;
    marks-size = q ∙ R.marks-size;
    left = list-turn E m w c list i word marks _ R.left l after kept e.0 e.1;
  }

  pub repairing-ends : length list ≤ i → held word marks ≡ held_after_list E m w c list (held word₀ marks₀)
  repairing-ends l = list-end E m w c list i word marks _ R.left l
