-- Laws: A recovery: its attempt with the candidate, and how the call ends.
use Rattle.std.specs.Prelude.{◌≡◌, Bool, true, false, not, List, ◌++◌, Result, Ok, Err, eqb, length, get_or, take, drop, replicate}
use Rattle.std.proofs.Math.Path.{refl, sym, ap, subst}
use Rattle.std.proofs.Common.{ap₂, ◌∙◌, append-nil, arith, drop_of_length-le, take_all}
use Prim.Native.Nat.{ℕ, zero, suc, ◌+◌, ◌*◌, ◌/◌, ◌^◌, ◌≤◌, ◌<◌}
use Rattle.std.proofs.Math.Dec.{ltb}
use Rattle.code.specs.Edition.{Edition, Sound}
use Rattle.code.specs.Word.{Symbols}
use Rattle.code.specs.Marks.{excess}
use Rattle.code.specs.LentLaws.{end_fits}
use Rattle.code.specs.Refusals.{refuse, ◌or_else◌}
use Rattle.code.specs.Limits.{Limits, place_count, data_count, GoodIn, shape_refusal_in, word_refusal_in}
use Rattle.code.specs.LimitsLaws.{good-of-word}
use borrow.Author.Tests.{eq-eqb}
use Rattle.code.specs.RefusalsLaws.{or_else-first, or_else-zero}
use Rattle.code.specs.Outcome.{contradictory}
use Rattle.code.proofs.ContradictionLaws.{contradicting-most}
use Rattle.answers.specs.declared.Refusal.{Refusal}
use Rattle.answers.specs.declared.Tested.{Tested}
use Rattle.answers.specs.Answers.{refusal_number, mending_number}
use Rattle.answers.specs.AnswersLaws.{refusal-some, else-first}
use Rattle.answers.specs.PlainLaws.{shape-plain, word-plain}
use Rattle.code_engine.specs.GroupsLaws.{groups-whole}
use Rattle.code_engine.specs.Mended.{IsCandidateIn}
use Rattle.code_engine.specs.Tests.{tested_in}
use Rattle.code_services.specs.Answered.{AnswersBy}
use Rattle.code_services.specs.Marks.{are_marks, marks_refusal_in}
use Rattle.code_services.specs.Recover.{recover_refusal_in, recover_in}
use Rattle.code_services.specs.PlainLaws.{recover-plain}
use Rattle.code_services.specs.Attempt.{FullSatisfiedIn, AttemptIn, AcceptedIn}
use Rattle.code_services.specs.AttemptLaws.{full-satisfied, attempt-done, attempt-failed, accepted, service-refused, service-eight, service-nine, service-done}
use Rattle.code_loops.specs.EndsLaws.{Ends, ends-refused, ends-nine, ends-done}

-- ---- the attempt: x is the candidate of a word and its marks
pub record Attempted (E : Edition) (m w c : ℕ) (marks word x : List ℕ) : Type 0 where
  pub good : GoodIn E.limits m w c
  pub symbols : Symbols E (m * w) word
  pub marks-size : length marks ≡ m * w
  pub candidate : IsCandidateIn E m w c marks word x

pub attempted : {E : Edition} {m w c : ℕ} {marks word x : List ℕ} → GoodIn E.limits m w c → length word ≡ m * w
    → ((p : ℕ) → get_or word p 0 < 2 ^ E.bits) → length marks ≡ m * w → IsCandidateIn E m w c marks word x → Attempted E m w c marks word x
attempted good size each marks-size C = record { good = good; symbols = record { size = size; each = each }; marks-size = marks-size; candidate = C }

module _ {E : Edition} {m w c : ℕ} {marks word x : List ℕ} (A : Attempted E m w c marks word x) where
  pub satisfied : Sound E → FullSatisfiedIn E m w c marks x
  satisfied S = full-satisfied S m w c A.good marks word x A.symbols A.marks-size A.candidate

  pub same-length-of : length x ≡ length word
  same-length-of = A.candidate.size ∙ sym A.symbols.size

  -- a word has room for a group at least
  pub one-group : w ≤ length word
  one-group = omega (arith, end_fits {xs = word} (record { good = A.good; size = A.symbols.size }) 0 A.good.some)

  whole : (put : List ℕ) → put ≡ take (length word) x → put ++ drop (length word) word ≡ x
  whole put e =
      let l : length word ≤ length word = omega arith in
      let k : length x ≤ length word = (let h = same-length-of in omega arith) in
      rw (e, drop_of_length-le word, take_all, append-nil)

  module _ (small : (p : ℕ) → get_or x p 0 < 2 ^ E.bits) {t : Tested} (is : t ≡ tested_in E m w c x) where
    -- a test whose verdict is known
    known : (v : Bool) → t.codeword ≡ v → t ≡ record { codeword = v; group = (tested_in E m w c x).group }
    known v k = is ∙ ap (λ b. record { codeword = b; group = (tested_in E m w c x).group }) (sym (ap (λ (y : Tested). y.codeword) is) ∙ k)

    pub attempt-fails : t.codeword ≡ false → AttemptIn E m w c marks word word t
    attempt-fails k =
        subst (AttemptIn E m w c marks word word) (sym (known false k))
        (attempt-failed m w c marks word x A.symbols.size small A.candidate (sym (ap (λ (y : Tested). y.codeword) is) ∙ k))

    -- all of x is written over the word
    pub attempt-succeeds : {put : List ℕ} → t.codeword ≡ true → put ≡ take (length word) x → AttemptIn E m w c marks word (put ++ drop (length word) word) t
    attempt-succeeds {put} k e =
        subst (λ y. AttemptIn E m w c marks word y t) (sym (whole put e))
        (subst (AttemptIn E m w c marks word x) (sym (known true k))
        (attempt-done m w c marks word x A.symbols.size small A.candidate (sym (ap (λ (y : Tested). y.codeword) is) ∙ k)))

-- ---- refusals, of which none is a 9
abbrev Not : ℕ → ℕ → Type 0
Not k r = r ≡ k → ⊥

refuse-not : (k r : ℕ) (b : Bool) → Not k r → Not k 0 → Not k (refuse r b)
refuse-not k r true n z = n
refuse-not k r false n z = z

else-not : (k r s : ℕ) → Not k r → Not k s → Not k (r or_else s)
else-not k zero s n z = z
else-not k (suc r) s n z = n

module _ (L : Limits) (m w c : ℕ) where
  shape-not : Not 9 (shape_refusal_in L m w c)
  shape-not = (shape-plain L m w c).1

  word-not : (n : ℕ) → Not 9 (word_refusal_in L m w c n)
  word-not n = (word-plain L m w c n).1

  pub not-nine : (word marks : List ℕ) → recover_refusal_in L m w c word marks ≡ 9 → ⊥
  not-nine word marks = (recover-plain L m w c word marks).1

  -- the refusal of marks by the shape, and where there is none that by their length and their values
  pub marks-by-shape : (marks : List ℕ) (e : Refusal) → refusal_number e ≡ shape_refusal_in L m w c → refusal_number e ≡ marks_refusal_in L m w c marks
  unfolding marks_refusal_in word_refusal_in
  marks-by-shape marks e is = else-first e (else-first e is _) _

  pub marks-beside : (marks : List ℕ) {s : ℕ} → 0 ≡ shape_refusal_in L m w c
      → s ≡ (refuse 5 (not (eqb (length marks) (m * w))) or_else refuse 6 (not (are_marks marks))) → s ≡ marks_refusal_in L m w c marks
  unfolding marks_refusal_in word_refusal_in
  marks-beside marks z e = e ∙ sym (rw (sym z))

  -- the refusal by the word, and where there is none that of marks beside a word
  module _ (word marks : List ℕ) where
    pub refused-by-word : (e : Refusal) → refusal_number e ≡ word_refusal_in L m w c (length word) → refusal_number e ≡ recover_refusal_in L m w c word marks
    unfolding recover_refusal_in
    refused-by-word e is = else-first e is _

    pub refused-by-marks : 0 ≡ word_refusal_in L m w c (length word) → {s : ℕ}
        → s ≡ (refuse 5 (not (eqb (length marks) (length word))) or_else refuse 6 (not (are_marks marks)))
        → s ≡ recover_refusal_in L m w c word marks
    unfolding recover_refusal_in marks_refusal_in word_refusal_in
    refused-by-marks z {s} e =
        let G = good-of-word {L = L} m w c (length word) (sym z) in
        let k : shape_refusal_in L m w c ≡ 0 = (or_else-zero (shape_refusal_in L m w c) _ (sym z)).0 in
        e ∙ ap (λ n. refuse 5 (not (eqb (length marks) n)) or_else refuse 6 (not (are_marks marks))) G.1
        ∙ sym (rw (k, G.1, eq-eqb (m * w) (m * w) refl))

-- ---- the call
pub recover-refused : (E : Edition) (m w c : ℕ) (word marks : List ℕ) {e : Refusal} → refusal_number e ≡ recover_refusal_in E.limits m w c word marks
    → Ends (Err e) word marks (recover_in E m w c word marks)
recover-refused E m w c word marks {e} is =
    ends-refused (service-refused E m w c word marks (refusal_number e) is (refusal-some e))
    (λ z. not-nine E.limits m w c word marks (sym is ∙ z))

-- what is counted of an accepted call's marks is the excess
excess-is : {L : Limits} {m w c : ℕ} {word marks : List ℕ} → AcceptedIn L m w c word marks → {x : ℕ} → x ≡ excess (length marks / w) w c marks
    → x ≡ excess m w c marks
excess-is {L} {m} {w} {c} {word} {marks} A e =
    let pos : 0 < w = (let h = A.good.wide in omega arith) in
    e ∙ ap (λ n. excess n w c marks) (groups-whole m w pos A.marks-size)

pub low-excess : {L : Limits} {m w c : ℕ} {word marks : List ℕ} → AcceptedIn L m w c word marks → {x : ℕ} → x ≡ excess (length marks / w) w c marks
    → x ≤ 2 → excess m w c marks ≤ 2
low-excess A e = subst (λ n. n ≤ 2) (excess-is A e)

-- the end of a call with an excess of at most two, which is no 8
abbrev pub Determined : Edition → ℕ → ℕ → ℕ → List ℕ → List ℕ → Result Unit Refusal → List ℕ → List ℕ → Type 0
Determined E m w c word marks r after held = AnswersBy r (recover_in E m w c word marks)
    × ((after ≡ (recover_in E m w c word marks).word) × ((held ≡ (recover_in E m w c word marks).marks) × (mending_number r ≡ 8 → ⊥)))

module _ {E : Edition} (S : Sound E) {m w c : ℕ} {word marks : List ℕ} (A : AcceptedIn E.limits m w c word marks)
    (small : (p : ℕ) → get_or word p 0 < 2 ^ E.bits) where
  pub recover-eight : {x : ℕ} → x ≡ excess (length marks / w) w c marks → 2 < x → Ends (Err Refusal.Undetermined) word marks (recover_in E m w c word marks)
  recover-eight e h =
      ends-refused (service-eight S m w c word marks A small (subst (λ n. 2 < n) (excess-is A e) h)) (λ z. omega arith)

  module _ (low : excess m w c marks ≤ 2) {after held : List ℕ} {t : Tested} (is : AttemptIn E m w c marks word after t) where
    pub recover-nine : t.codeword ≡ false → held ≡ marks → Determined E m w c word marks (Err (Refusal.Contradictory t.group)) after held
    recover-nine f q =
        let F = is.failed f in
        let e = ends-nine (service-nine S m w c word marks A small low (F.1 low) ∙ ap (λ g. contradictory g word marks) (sym is.group)) F.0 q in
        (e.0, (e.1.0, (e.1.1, λ z. omega arith)))

    pub recover-done : t.codeword ≡ true → held ≡ replicate (length marks) 0 → Determined E m w c word marks (Ok tt) after held
    recover-done y q =
        let e = ends-done marks (service-done S m w c word marks A small after low (is.done y)) q in
        (e.0, (e.1.0, (e.1.1, λ z. omega arith)))

-- the group that an attempt names
pub named-most : {E : Edition} {m w c : ℕ} {marks word after : List ℕ} {t : Tested} → AttemptIn E m w c marks word after t → t.group ≤ m
named-most {E} {m} {w} {c} {marks} {word} A = subst (λ n. n ≤ m) (sym A.group) (contradicting-most E m w c word marks)
