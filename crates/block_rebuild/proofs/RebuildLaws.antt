-- Laws: Request 9, block rebuild: what it answers, and what blocks and marks hold then.
use Rattle.std.specs.Prelude.{◌≡◌, refl, Bool, true, false, cond, not, ◌||◌, List, eqb, ltb, length, Result, Err}
use Rattle.std.proofs.Math.Path.{sym, ap}
use Rattle.std.proofs.Common.{◌∙◌, mul-le-mul_right, one-mul}
use Prim.Native.Nat.{ℕ, zero, suc, ◌*◌, ◌≤◌, ◌<◌}
use native.Mathlib.Omega.{arith}
use borrow.Author.Tests.{eq-eqb, ne_eqb, lt-ltb, le-ltb, eqb-true, ltb-false, eqb-false, not-false}
use Rattle.std.specs.Result.{IsErr, IsErrAnd}
use Rattle.std.proofs.lemmas.Result.{err_from_is_err_and}
use Rattle.counting.specs.First.{first_below}
use Rattle.counting.specs.FirstLaws.{first-is, first-none}
use Rattle.code.specs.Refusals.{refuse}
use Rattle.code.specs.RefusalsLaws.{refuse-zero, or_else-zero, or_else-first}
use Rattle.shape.specs.Shapes.{byte_limits}
use Rattle.code.specs.Limits.{place_count}
use Rattle.code.specs.LimitsLaws.{places-most}
use Rattle.code_services.specs.MarksLaws.{good-of-marks}
use Rattle.code_services.specs.Marks.{marks_refusal_in}
use Rattle.code_services.specs.Judge.{judged_number_in}
use Rattle.answers.specs.declared.Refusal.{Refusal}
use Rattle.answers.specs.Answers.{refusal_number, refusal_at, Plain}
use Rattle.answers.specs.AnswersLaws.{refusal-at, refusal-no-group, refusal-some, plain-refuse, plain-else}
use Rattle.code_services.specs.PlainLaws.{marks-plain, judged-plain}
use Rattle.block_rebuild.specs.declared.Failure.{Failure}
use Rattle.block_rebuild.specs.Rebuild.{blocks_refusal, rebuild_refusal, RebuildOutcome, refused_rebuild, contradictory_rebuild, done_rebuild}
use Rattle.block_rebuild.specs.Rebuild.{rebuild_unless, word_outcome, contradicting_word, rebuilt_blocks, words_outcome, rebuild_of, rebuilt_at}
use Rattle.block_rebuild.specs.Steps.{Lent}

-- ---- 27
none_of : (a b d : Bool) → a || b || d ≡ false → (a ≡ false) × (b ≡ false) × (d ≡ false)
none_of false false false e = (refl, refl, refl)
none_of false false true e = let z : ◌≡◌ {A = ℕ} 0 1 = cc in absurd (omega arith)
none_of false true d e = let z : ◌≡◌ {A = ℕ} 0 1 = cc in absurd (omega arith)
none_of true b d e = let z : ◌≡◌ {A = ℕ} 0 1 = cc in absurd (omega arith)

second-of : (a b d : Bool) → b ≡ true → a || b || d ≡ true
second-of true b d e = refl
second-of false b d e = rw e

third_of : (a b d : Bool) → d ≡ true → a || b || d ≡ true
third_of true b d e = refl
third_of false true d e = refl
third_of false false d e = e

module _ (n size lent : ℕ) where
  pub blocks-empty : size ≡ 0 → 27 ≡ blocks_refusal n size lent
  unfolding blocks_refusal
  blocks-empty e = ap (refuse 27) (sym (second-of (not (eqb lent (n * size))) (eqb size 0) (ltb 65536 (n * size)) (eq-eqb size 0 e)))

  pub blocks-many : 65536 < n * size → 27 ≡ blocks_refusal n size lent
  unfolding blocks_refusal
  blocks-many l = ap (refuse 27) (sym (third_of (not (eqb lent (n * size))) (eqb size 0) (ltb 65536 (n * size)) (lt-ltb 65536 (n * size) l)))

  pub blocks-other : (lent ≡ n * size → ⊥) → 27 ≡ blocks_refusal n size lent
  unfolding blocks_refusal
  blocks-other d = rw (ne_eqb lent (n * size) d)

  pub blocks-fit : lent ≡ n * size → (size ≡ 0 → ⊥) → n * size ≤ 65536 → 0 ≡ blocks_refusal n size lent
  unfolding blocks_refusal
  blocks-fit e s l = rw (eq-eqb lent (n * size) e, ne_eqb size 0 s, le-ltb 65536 (n * size) l)

  pub fit-of-blocks : blocks_refusal n size lent ≡ 0 → (lent ≡ n * size) × (1 ≤ size) × (n * size ≤ 65536)
  unfolding blocks_refusal
  fit-of-blocks z =
      let f = none_of (not (eqb lent (n * size))) (eqb size 0) (ltb 65536 (n * size)) (refuse-zero 26 _ z) in
      let s = eqb-false size 0 f.1 in
      (eqb-true lent (n * size) (not-false _ f.0), some size s, ltb-false 65536 (n * size) f.2)
    where
      some : (k : ℕ) → (k ≡ 0 → ⊥) → 1 ≤ k
      some zero h = absurd (h refl)
      some (suc k) h = omega arith

-- ---- the refusals of a call
module _ (m w c size lent : ℕ) (marks : List ℕ) where
  pub refused-marks : (r : ℕ) → r ≡ marks_refusal_in byte_limits m w c marks → (r ≡ 0 → ⊥) → r ≡ rebuild_refusal m w c size lent marks
  unfolding rebuild_refusal
  refused-marks r e n = e ∙ sym (or_else-first (marks_refusal_in byte_limits m w c marks) _ (λ z. n (e ∙ z)))

  module _ (none : marks_refusal_in byte_limits m w c marks ≡ 0) where
    pub refused-blocks : (r : ℕ) → r ≡ blocks_refusal (length marks) size lent → (r ≡ 0 → ⊥) → r ≡ rebuild_refusal m w c size lent marks
    unfolding rebuild_refusal
    refused-blocks r e n =
        let s = (good-of-marks m w c marks none).size in
        let f : r ≡ blocks_refusal (m * w) size lent = e ∙ ap (λ k. blocks_refusal k size lent) s in
        rw none (f ∙ sym (or_else-first (blocks_refusal (m * w) size lent) _ (λ z. n (f ∙ z))))

    pub refused-judged : (r : ℕ) → r ≡ blocks_refusal (length marks) size lent → r ≡ 0
        → judged_number_in byte_limits m w c marks ≡ rebuild_refusal m w c size lent marks
    unfolding rebuild_refusal
    refused-judged r e n =
        let s = (good-of-marks m w c marks none).size in
        let f : blocks_refusal (m * w) size lent ≡ 0 = sym (e ∙ ap (λ k. blocks_refusal k size lent) s) ∙ n in
        rw (none, f)

    -- n is from 1 to 240
    pub marks-few : (1 ≤ length marks) × (length marks ≤ 240)
    marks-few =
        let M = good-of-marks m w c marks none in
        let g = M.good in
        let p = places-most g in
        let s = M.size in
        let k : 1 * w ≤ m * w = mul-le-mul_right w g.some in
        let o = one-mul w in
        (omega arith, omega arith)

-- a call that is not refused
pub lent_of : (m w c size : ℕ) (blocks marks : List ℕ) → rebuild_refusal m w c size (length blocks) marks ≡ 0
    → Lent m w c size blocks marks × (judged_number_in byte_limits m w c marks ≡ 0)
unfolding rebuild_refusal
lent_of m w c size blocks marks z =
    let a = or_else-zero (marks_refusal_in byte_limits m w c marks) _ z in
    let b = or_else-zero (blocks_refusal (place_count m w) size (length blocks)) _ a.1 in
    let M = good-of-marks m w c marks a.0 in
    let f = fit-of-blocks (place_count m w) size (length blocks) b.0 in
    (record { good = M.good; marks-size = M.size; some = f.1; blocks-size = f.0; most = let e = f.0 in let l = f.2 in omega arith }, b.1)

-- ---- the whole call
pub rebuilt-refused : (r : ℕ) → (r ≡ 0 → ⊥) → (r ≡ 9 → ⊥) → rebuilt_at r 0 0 ≡ Err (Failure.Refused (refusal_at r 0))
rebuilt-refused zero n k = absurd (n refl)
rebuilt-refused (suc r) n k = ap (λ b. cond b (Err (Failure.Contradictory 0 0)) (Err (Failure.Refused (refusal_at (suc r) 0)))) (ne_eqb (suc r) 9 k)

-- a refusal by its number
pub refusal-is : (e : Refusal) (r : ℕ) → refusal_number e ≡ r → (r ≡ 9 → ⊥) → refusal_at r 0 ≡ e
refusal-is e r is n =
    ap (λ k. refusal_at k 0) (sym is) ∙ ap (refusal_at (refusal_number e)) (sym (refusal-no-group e (λ z. n (sym is ∙ z)))) ∙ refusal-at e

-- the refusals before the words are looked at are refusals without a group
pub rebuild-plain : (m w c size lent : ℕ) (marks : List ℕ) → Plain (rebuild_refusal m w c size lent marks)
unfolding rebuild_refusal blocks_refusal
rebuild-plain m w c size lent marks =
    plain-else (marks_refusal_in byte_limits m w c marks) _ (marks-plain byte_limits m w c marks)
    (plain-else (blocks_refusal (place_count m w) size lent) _
    (plain-refuse 27 (not (eqb lent (m * w * size)) || eqb size 0 || ltb 65536 (m * w * size)) (refl, λ z. omega arith))
    (judged-plain byte_limits m w c marks))

-- and so never 9
pub refusal-never-nine : (m w c size lent : ℕ) (marks : List ℕ) → rebuild_refusal m w c size lent marks ≡ 9 → ⊥
refusal-never-nine m w c size lent marks = (rebuild-plain m w c size lent marks).1

-- what the exit of a `?` returns: the refusal of the call
pub passed-on : {e : Refusal} {r : Result Unit Failure} → IsErr r × IsErrAnd r (λ y. y ≡ Failure.Refused e) → r ≡ Err (Failure.Refused e)
passed-on {e} {r} E = let p = err_from_is_err_and r E.1 in p.1 ∙ ap Err p.2

-- the answer of such a refusal
pub refused-answer : (m w c size lent : ℕ) (marks : List ℕ) (e : Refusal) → refusal_number e ≡ rebuild_refusal m w c size lent marks
    → Err (Failure.Refused e) ≡ rebuilt_at (refusal_number e) 0 0
refused-answer m w c size lent marks e is =
    let n : refusal_number e ≡ 9 → ⊥ = λ z. refusal-never-nine m w c size lent marks (sym is ∙ z) in
    ap (λ x. Err (Failure.Refused x)) (sym (refusal-is e (refusal_number e) refl n)) ∙ sym (rebuilt-refused (refusal_number e) (refusal-some e) n)

module _ (m w c size : ℕ) (blocks marks : List ℕ) where
  pub rebuild-refused : (r : ℕ) → r ≡ rebuild_refusal m w c size (length blocks) marks → (r ≡ 0 → ⊥) → rebuild_of m w c size blocks marks
      ≡ refused_rebuild r blocks marks
  unfolding rebuild_of
  rebuild-refused r e n = go (rebuild_refusal m w c size (length blocks) marks) e (words_outcome m w c size blocks marks)
    where
      go : (q : ℕ) → r ≡ q → (o : RebuildOutcome) → rebuild_unless q o blocks marks ≡ refused_rebuild r blocks marks
      go zero d o = absurd (n d)
      go (suc q) d o = ap (λ k. refused_rebuild k blocks marks) (sym d)

  abbrev nine : ℕ → Bool
  nine x = eqb (word_outcome m w c size blocks marks x).number 9

  -- no word below x gets 9
  abbrev pub NoneBelow : ℕ → Type 0
  NoneBelow x = (y : ℕ) → y < x → (word_outcome m w c size blocks marks y).number ≡ 9 → ⊥

  module _ (none : rebuild_refusal m w c size (length blocks) marks ≡ 0) where
    pub rebuild-contradictory : (x : ℕ) → x < size → NoneBelow x → (word_outcome m w c size blocks marks x).number ≡ 9
        → rebuild_of m w c size blocks marks ≡ contradictory_rebuild x (word_outcome m w c size blocks marks x).group blocks marks
    unfolding rebuild_of contradicting_word
    rebuild-contradictory x l below e =
        let f : first_below size nine ≡ x = first-is size nine x (omega arith) (λ y b. ne_eqb _ 9 (below y b)) (λ _. eq-eqb _ 9 e) in
        rw (none, f, lt-ltb x size l)

    pub rebuild-done : NoneBelow size → rebuild_of m w c size blocks marks ≡ done_rebuild (rebuilt_blocks m w c size blocks marks) marks
    unfolding rebuild_of contradicting_word
    rebuild-done below =
        let f : first_below size nine ≡ size = first-none size nine (λ y b. ne_eqb _ 9 (below y b)) in
        rw (none, f, le-ltb size size (omega arith))
