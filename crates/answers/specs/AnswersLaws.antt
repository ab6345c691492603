-- Laws: What a service without figures answers, and one that mends, by the paper's numbers.
use Rattle.std.specs.Prelude.{◌≡◌, refl, Bool, true, false, cond, ℕ, zero, suc, eqb, Result, Ok, Err}
use Rattle.std.proofs.Common.{sym, ap, ◌∙◌, arith, eqb-true, ne_eqb}
use Rattle.std.specs.Result.{IsErr, IsErrAnd, is_err}
use Rattle.std.proofs.lemmas.Result.{err_from_is_err_and}
use Rattle.code.specs.Refusals.{refuse, ◌or_else◌}
use Rattle.code.specs.RefusalsLaws.{or_else-first}
use Rattle.answers.specs.declared.Refusal.{Refusal}
use Rattle.answers.specs.Answers.{refusal_number, refusal_group, refusal_at, refused_number, Listed, Plain, given_at, answer_at, mending_at, mending_number, mending_group}

-- number and group leave one refusal
pub refusal-at : (e : Refusal) → refusal_at (refusal_number e) (refusal_group e) ≡ e
refusal-at Refusal.Groups = refl
refusal-at Refusal.Checks = refl
refusal-at Refusal.Width = refl
refusal-at Refusal.NoData = refl
refusal-at Refusal.Length = refl
refusal-at Refusal.Mark = refl
refusal-at Refusal.GroupNumber = refl
refusal-at Refusal.Undetermined = refl
refusal-at (Refusal.Contradictory group) = refl
refusal-at Refusal.AllIssued = refl
refusal-at Refusal.DeskFull = refl
refusal-at Refusal.NotOpen = refl
refusal-at Refusal.ServedOut = refl
refusal-at Refusal.CatalogueText = refl
refusal-at Refusal.Name = refl
refusal-at Refusal.NoSuchName = refl
refusal-at Refusal.Revision = refl
refusal-at Refusal.RevisionEnd = refl
refusal-at Refusal.CatalogueFull = refl
refusal-at Refusal.Finished = refl
refusal-at Refusal.Beyond = refl
refusal-at Refusal.CameBefore = refl
refusal-at Refusal.Place = refl
refusal-at Refusal.WidePlaces = refl
refusal-at Refusal.BlocksLength = refl
refusal-at Refusal.NoProfile = refl
refusal-at Refusal.Retired = refl
refusal-at Refusal.DataNumber = refl
refusal-at Refusal.Unsound = refl

-- the number of a refusal is not 0
pub refusal-some : (e : Refusal) → refusal_number e ≡ 0 → ⊥
refusal-some Refusal.Groups = λ z. omega arith
refusal-some Refusal.Checks = λ z. omega arith
refusal-some Refusal.Width = λ z. omega arith
refusal-some Refusal.NoData = λ z. omega arith
refusal-some Refusal.Length = λ z. omega arith
refusal-some Refusal.Mark = λ z. omega arith
refusal-some Refusal.GroupNumber = λ z. omega arith
refusal-some Refusal.Undetermined = λ z. omega arith
refusal-some (Refusal.Contradictory group) = λ z. omega arith
refusal-some Refusal.AllIssued = λ z. omega arith
refusal-some Refusal.DeskFull = λ z. omega arith
refusal-some Refusal.NotOpen = λ z. omega arith
refusal-some Refusal.ServedOut = λ z. omega arith
refusal-some Refusal.CatalogueText = λ z. omega arith
refusal-some Refusal.Name = λ z. omega arith
refusal-some Refusal.NoSuchName = λ z. omega arith
refusal-some Refusal.Revision = λ z. omega arith
refusal-some Refusal.RevisionEnd = λ z. omega arith
refusal-some Refusal.CatalogueFull = λ z. omega arith
refusal-some Refusal.Finished = λ z. omega arith
refusal-some Refusal.Beyond = λ z. omega arith
refusal-some Refusal.CameBefore = λ z. omega arith
refusal-some Refusal.Place = λ z. omega arith
refusal-some Refusal.WidePlaces = λ z. omega arith
refusal-some Refusal.BlocksLength = λ z. omega arith
refusal-some Refusal.NoProfile = λ z. omega arith
refusal-some Refusal.Retired = λ z. omega arith
refusal-some Refusal.DataNumber = λ z. omega arith
refusal-some Refusal.Unsound = λ z. omega arith

-- no group but with a 9
pub refusal-no-group : (e : Refusal) → (refusal_number e ≡ 9 → ⊥) → refusal_group e ≡ 0
refusal-no-group Refusal.Groups = λ n. refl
refusal-no-group Refusal.Checks = λ n. refl
refusal-no-group Refusal.Width = λ n. refl
refusal-no-group Refusal.NoData = λ n. refl
refusal-no-group Refusal.Length = λ n. refl
refusal-no-group Refusal.Mark = λ n. refl
refusal-no-group Refusal.GroupNumber = λ n. refl
refusal-no-group Refusal.Undetermined = λ n. refl
refusal-no-group (Refusal.Contradictory group) = λ n. absurd (n refl)
refusal-no-group Refusal.AllIssued = λ n. refl
refusal-no-group Refusal.DeskFull = λ n. refl
refusal-no-group Refusal.NotOpen = λ n. refl
refusal-no-group Refusal.ServedOut = λ n. refl
refusal-no-group Refusal.CatalogueText = λ n. refl
refusal-no-group Refusal.Name = λ n. refl
refusal-no-group Refusal.NoSuchName = λ n. refl
refusal-no-group Refusal.Revision = λ n. refl
refusal-no-group Refusal.RevisionEnd = λ n. refl
refusal-no-group Refusal.CatalogueFull = λ n. refl
refusal-no-group Refusal.Finished = λ n. refl
refusal-no-group Refusal.Beyond = λ n. refl
refusal-no-group Refusal.CameBefore = λ n. refl
refusal-no-group Refusal.Place = λ n. refl
refusal-no-group Refusal.WidePlaces = λ n. refl
refusal-no-group Refusal.BlocksLength = λ n. refl
refusal-no-group Refusal.NoProfile = λ n. refl
refusal-no-group Refusal.Retired = λ n. refl
refusal-no-group Refusal.DataNumber = λ n. refl
refusal-no-group Refusal.Unsound = λ n. refl

-- the number does not hang on the group
pub number-of-at : (r group other : ℕ) → refusal_number (refusal_at r group) ≡ refusal_number (refusal_at r other)
number-of-at r group other = go (eqb r 9) refl
  where
    go : (b : Bool) → eqb r 9 ≡ b → refusal_number (refusal_at r group) ≡ refusal_number (refusal_at r other)
    go true e = (let k = eqb-true r 9 e in rw k refl)
    go false e = rw e refl

-- only a 9 carries a group
pub refusal-nine : (e : Refusal) → refusal_number e ≡ 9 → e ≡ Refusal.Contradictory (refusal_group e)
refusal-nine e z = sym (refusal-at e) ∙ ap (λ n. refusal_at n (refusal_group e)) z

-- the numbers of refusals
pub listed-refuse : (r : ℕ) (b : Bool) → Listed r → Listed (refuse r b)
listed-refuse r true p = p
listed-refuse r false p = refl

pub listed-else : (r s : ℕ) → Listed r → Listed s → Listed (r or_else s)
listed-else zero s p q = q
listed-else (suc r) s p q = p

pub plain-refuse : (r : ℕ) (b : Bool) → Plain r → Plain (refuse r b)
plain-refuse r true p = p
plain-refuse r false p = (refl, λ z. omega arith)

pub plain-else : (r s : ℕ) → Plain r → Plain s → Plain (r or_else s)
plain-else zero s p q = q
plain-else (suc r) s p q = p

pub refused-listed : {X : Type 0} (r : Result X Refusal) → Listed (refused_number r)
refused-listed (Ok x) = refl
refused-listed (Err e) = some (refusal_number e) refl
  where
    some : (r : ℕ) → refusal_number e ≡ r → Listed r
    some zero z = refl
    some (suc r) z = number-of-at (suc r) 0 (refusal_group e) ∙ ap (λ n. refusal_number (refusal_at n (refusal_group e))) (sym z) ∙ ap refusal_number (refusal-at e) ∙ z

pub mending-number : (r group : ℕ) → Listed r → mending_number (mending_at r group) ≡ r
mending-number zero group l = refl
mending-number (suc r) group l = number-of-at (suc r) group 0 ∙ l

-- an answer is its number and group
pub mending-at : (r : Result Unit Refusal) → mending_at (mending_number r) (mending_group r) ≡ r
mending-at (Ok tt) = refl
mending-at (Err e) = some (refusal_number e) refl
  where
    some : (r : ℕ) → refusal_number e ≡ r → mending_at r (refusal_group e) ≡ Err e
    some zero z = absurd (refusal-some e z)
    some (suc r) z = ap (λ n. Err (refusal_at n (refusal_group e))) (sym z) ∙ ap Err (refusal-at e)

-- with a number that is not 9 the group is not looked at
pub mending-other : (r group other : ℕ) → (r ≡ 9 → ⊥) → mending_at r group ≡ mending_at r other
mending-other zero group other n = refl
mending-other (suc r) group other n = rw (ne_eqb (suc r) 9 n) refl

pub mending-refused : {e : Refusal} (r group : ℕ) → refusal_number e ≡ r → (r ≡ 9 → ⊥) → mending_at r group ≡ Err e
mending-refused {e} r group is n = mending-other r group (refusal_group e) n ∙ ap (λ k. mending_at k (refusal_group e)) (sym is) ∙ mending-at (Err e)

group-cond : (b : Bool) (e f : Refusal) → refusal_group (cond b e f) ≡ cond b (refusal_group e) (refusal_group f)
group-cond true e f = refl
group-cond false e f = refl

cond-none : (b : Bool) → ◌≡◌ {A = ℕ} (cond b 0 0) 0
cond-none true = refl
cond-none false = refl

at-no-group : (r : ℕ) → refusal_group (refusal_at r 0) ≡ 0
at-no-group r = simp (group-cond, cond-none)

pub mending-no-group : (r group : ℕ) → (r ≡ 9 → ⊥) → mending_group (mending_at r group) ≡ 0
mending-no-group r group n = ap mending_group (mending-other r group 0 n) ∙ by r
  where
    by : (r : ℕ) → mending_group (mending_at r 0) ≡ 0
    by zero = refl
    by (suc r) = at-no-group (suc r)

-- the number of an answer, and an answer that is a refusal
pub mending-is : (n group : ℕ) {a : Result Unit Refusal} → Listed n → a ≡ mending_at n group → n ≡ mending_number a
mending-is n group l e = sym (mending-number n group l) ∙ ap mending_number (sym e)

pub mending-some : (n group : ℕ) {f : Refusal} → Err f ≡ mending_at n group → n ≡ 0 → ⊥
mending-some zero group e h = let z : ◌≡◌ {A = ℕ} 0 1 = cc in omega arith
mending-some (suc n) group e h = omega arith

-- the refusal of a number that is not 9
pub answer-refused : {e : Refusal} {r : ℕ} → refusal_number e ≡ r → Plain r → answer_at r ≡ Err e
answer-refused {e} {r} is p =
    ap (λ k. mending_at r k) (sym (refusal-no-group e (λ z. p.1 (sym is ∙ z)))) ∙ ap (λ k. mending_at k (refusal_group e)) (sym is) ∙ mending-at (Err e)

pub given-refused : {X : Type 0} (x : X) {e : Refusal} {r : ℕ} → refusal_number e ≡ r → Plain r → given_at r x ≡ Err e
given-refused {X} x {e} {r} is p = by r is p
  where
    go : {f : Refusal} → ◌≡◌ {A = Result Unit Refusal} (Err f) (Err e) → ◌≡◌ {A = Result X Refusal} (Err f) (Err e)
    go q = cc

    by : (r : ℕ) → refusal_number e ≡ r → Plain r → given_at r x ≡ Err e
    by zero is p = absurd (refusal-some e is)
    by (suc r) is p = go (answer-refused is p)

pub given-number : {X : Type 0} (r : ℕ) (x : X) → Listed r → refused_number (given_at r x) ≡ r
given-number zero x l = refl
given-number (suc r) x l = l

-- the number of a `Result` that is no error is 0
pub number-ok : {X : Type 0} (r : Result X Refusal) → is_err r ≡ false → refused_number r ≡ 0
number-ok (Ok x) e = refl
number-ok (Err f) e = let z : ◌≡◌ {A = ℕ} 0 1 = cc in absurd (omega arith)

pub number-err : {X : Type 0} (r : Result X Refusal) → is_err r ≡ true → refused_number r ≡ 0 → ⊥
number-err (Ok x) e z = let z : ◌≡◌ {A = ℕ} 0 1 = cc in absurd (omega arith)
number-err (Err f) e z = refusal-some f z

-- what the exit of a `?` returns: the refusal of the call
pub passed : {X : Type 0} {e : Refusal} {r : Result X Refusal} → IsErr r × IsErrAnd r (λ y. y ≡ e) → r ≡ Err e
passed {X} {e} {r} E = let p = err_from_is_err_and r E.1 in p.1 ∙ ap Err p.2

-- the first of two refusals, and the second where the first does not apply
pub else-first : (e : Refusal) {r : ℕ} → refusal_number e ≡ r → (s : ℕ) → refusal_number e ≡ (r or_else s)
else-first e {r} is s = is ∙ sym (or_else-first r s (λ z. refusal-some e (is ∙ z)))

pub else-second : {r s k : ℕ} → 0 ≡ r → k ≡ s → k ≡ (r or_else s)
else-second {r} {s} z e = e ∙ ap (λ n. n or_else s) z

-- at that exit, and past the calls before it, the number is that of refusals in turn
pub passed-number : {X : Type 0} {e : Refusal} (r : Result X Refusal) {n : ℕ} → r ≡ Err e → refusal_number e ≡ n → refused_number r ≡ n
passed-number r q is = ap refused_number q ∙ is
