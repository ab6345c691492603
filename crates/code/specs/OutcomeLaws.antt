-- Laws: The rule that recovery and the repair of a group share: 8 where the loss is too large; else 9, with a group number, where no filling of the
-- lost places passes the test; else the filling is written and the marks are cleared.
use Rattle.std.specs.Prelude.{◌≡◌, Bool, List, ℕ, length}
use Rattle.std.proofs.Math.Path.{refl, ap}
use Rattle.std.proofs.Common.{sym, ◌∙◌, subst, arith}
use Rattle.std.proofs.Math.Bool.{true, false, cond}
use Rattle.std.proofs.lemmas.List.{length-replicate}
use Rattle.code.specs.Marks.{Agree}
use Rattle.code.specs.Filling.{Found, found, none, search, Passing}
use Rattle.code.specs.FillingLaws.{search-found, search-none, search-present}
use Rattle.code.specs.Outcome.{Outcome, refused, contradictory, done_with, finished, answered, SameEnd, Case, Single, eight, nine, done}

pub same_outcome : {a b : Outcome} → a ≡ b → SameEnd a b
same_outcome e = record { number = ap (λ o. o.number) e; group = ap (λ o. o.group) e; word = λ _. ap (λ o. o.word) e; marks = λ _. ap (λ o. o.marks) e }

-- two refusals by one number
pub same-refusal : (r : ℕ) {u₁ k₁ u₂ k₂ : List ℕ} → ¬ (r ≡ 0) → {a b : Outcome} → a ≡ refused r u₁ k₁ → b ≡ refused r u₂ k₂ → SameEnd a b
same-refusal r n e f = record {
  number = ap (λ o. o.number) e ∙ sym (ap (λ o. o.number) f);
  group = ap (λ o. o.group) e ∙ sym (ap (λ o. o.group) f);
  word = λ z. absurd (n (sym (ap (λ o. o.number) e) ∙ z));
  marks = λ z. absurd (n (sym (ap (λ o. o.number) e) ∙ z));
}

-- two contradictions by one group
pub same-contradiction : {g₁ g₂ : ℕ} {u₁ k₁ u₂ k₂ : List ℕ} → g₁ ≡ g₂
    → {a b : Outcome} → a ≡ contradictory g₁ u₁ k₁ → b ≡ contradictory g₂ u₂ k₂ → SameEnd a b
same-contradiction g e f = record {
  number = ap (λ o. o.number) e ∙ sym (ap (λ o. o.number) f);
  group = ap (λ o. o.group) e ∙ g ∙ sym (ap (λ o. o.group) f);
  word = λ z. absurd (let k = sym (ap (λ o. o.number) e) ∙ z in omega arith);
  marks = λ z. absurd (let k = sym (ap (λ o. o.number) e) ∙ z in omega arith);
}

-- "The byte standing in a lost place has no effect on any answer."
pub same-present : (q : ℕ) (test : List ℕ → Bool) (large : Bool) (g₁ g₂ : ℕ) (word₁ word₂ marks : List ℕ) → g₁ ≡ g₂ → length word₁ ≡ length word₂
    → Agree (length word₁) marks word₁ word₂ → SameEnd (answered q test large g₁ word₁ marks) (answered q test large g₂ word₂ marks)
unfolding answered
same-present q test large g₁ g₂ word₁ word₂ marks d n a =
    subst (λ f. SameEnd (answered q test large g₁ word₁ marks) (cond large (refused 8 word₂ marks) (finished g₂ word₂ marks f)))
    (search-present q test marks word₁ word₂ n a) (go large (search q test marks word₁))
  where
    go : (v : Bool) (f : Found)
        → SameEnd (cond v (refused 8 word₁ marks) (finished g₁ word₁ marks f)) (cond v (refused 8 word₂ marks) (finished g₂ word₂ marks f))
    go true f = same-refusal 8 (λ z. omega arith) refl refl
    go false (found x) = same_outcome refl
    go false none = same-contradiction d refl refl

module _ (q : ℕ) (test : List ℕ → Bool) (large : Bool) (group : ℕ) (word marks : List ℕ) where
  pub cases : Case q test large group word marks
  unfolding answered
  cases = go large refl (search q test marks word) refl
    where
      go : (v : Bool) → large ≡ v → (r : Found) → search q test marks word ≡ r → Case q test large group word marks
      go true e r d = eight e (ap (λ b. cond b (refused 8 word marks) (finished group word marks (search q test marks word))) e)
      go false e (found x) d =
          done e x (search-found q test marks word x d)
          (ap (λ b. cond b (refused 8 word marks) (finished group word marks (search q test marks word))) e ∙ ap (finished group word marks) d)
      go false e none d =
          nine e (λ y P. search-none q test marks word d y P.fills P.passes)
          (ap (λ b. cond b (refused 8 word marks) (finished group word marks (search q test marks word))) e ∙ ap (finished group word marks) d)

  -- the number tells the case
  differ : {r s : ℕ} {a : Outcome} → answered q test large group word marks ≡ a → a.number ≡ r → (answered q test large group word marks).number ≡ s
      → ¬ (r ≡ s) → ⊥
  differ e f h n = n (sym f ∙ sym (ap (λ o. o.number) e) ∙ h)

  -- on a refusal word and marks are as they were
  pub refused-unchanged : ¬ ((answered q test large group word marks).number ≡ 0)
      → ((answered q test large group word marks).word ≡ word) × ((answered q test large group word marks).marks ≡ marks)
  refused-unchanged n = elim cases [
    | eight _ e ↦ (ap (λ o. o.word) e, ap (λ o. o.marks) e)
    | nine _ _ e ↦ (ap (λ o. o.word) e, ap (λ o. o.marks) e)
    | done _ x _ e ↦ absurd (n (ap (λ o. o.number) e))
  ]

  -- what stands in the word has its length, and the marks have theirs
  pub answered-length : length (answered q test large group word marks).word ≡ length word
  answered-length = elim cases [
    | eight _ e ↦ ap (λ o. length o.word) e
    | nine _ _ e ↦ ap (λ o. length o.word) e
    | done _ x P e ↦ ap (λ o. length o.word) e ∙ P.fills.size
  ]

  pub answered-marks : length (answered q test large group word marks).marks ≡ length marks
  answered-marks = elim cases [
    | eight _ e ↦ ap (λ o. length o.marks) e
    | nine _ _ e ↦ ap (λ o. length o.marks) e
    | done _ x P e ↦ ap (λ o. length o.marks) e ∙ length-replicate (length marks) 0
  ]

  -- a 9 carries the group, another number none
  pub nine-group : (answered q test large group word marks).number ≡ 9 → (answered q test large group word marks).group ≡ group
  nine-group h = elim cases [
    | eight _ e ↦ absurd (differ {r = 8} e refl h (λ z. omega arith))
    | nine _ _ e ↦ ap (λ o. o.group) e
    | done _ x _ e ↦ absurd (differ {r = 0} e refl h (λ z. omega arith))
  ]

  pub other-group : ¬ ((answered q test large group word marks).number ≡ 9) → (answered q test large group word marks).group ≡ 0
  other-group n = elim cases [
    | eight _ e ↦ ap (λ o. o.group) e
    | nine _ _ e ↦ absurd (n (ap (λ o. o.number) e))
    | done _ x _ e ↦ ap (λ o. o.group) e
  ]

  pub answered-eight : large ≡ true → answered q test large group word marks ≡ refused 8 word marks
  answered-eight l = elim cases [
    | eight _ e ↦ e
    | nine s _ _ ↦ absurd (let z : ◌≡◌ {A = ℕ} 0 1 = cc in omega arith)
    | done s _ _ _ ↦ absurd (let z : ◌≡◌ {A = ℕ} 0 1 = cc in omega arith)
  ]

  pub answered-nine : large ≡ false → ((y : List ℕ) → Passing q test marks word y → ⊥) → answered q test large group word marks ≡ contradictory group word marks
  answered-nine s never = elim cases [
    | eight l _ ↦ absurd (let z : ◌≡◌ {A = ℕ} 0 1 = cc in omega arith)
    | nine _ _ e ↦ e
    | done _ x P _ ↦ absurd (never x P)
  ]

  pub eight-large : (answered q test large group word marks).number ≡ 8 → large ≡ true
  eight-large h = elim cases [
    | eight l _ ↦ l
    | nine _ _ e ↦ absurd (differ {r = 9} e refl h (λ z. omega arith))
    | done _ x _ e ↦ absurd (differ {r = 0} e refl h (λ z. omega arith))
  ]

  pub nine-never : (answered q test large group word marks).number ≡ 9 → (large ≡ false) × ((y : List ℕ) → Passing q test marks word y → ⊥)
  nine-never h = elim cases [
    | eight _ e ↦ absurd (differ {r = 8} e refl h (λ z. omega arith))
    | nine s never _ ↦ (s, never)
    | done _ x _ e ↦ absurd (differ {r = 0} e refl h (λ z. omega arith))
  ]

  -- where at most one filling passes
  module _ (unique : large ≡ false → (y z : List ℕ) → Passing q test marks word y → Passing q test marks word z → y ≡ z) where
    pub answered-done : large ≡ false → (x : List ℕ) → Passing q test marks word x → answered q test large group word marks ≡ done_with x marks
    answered-done s x P = elim cases [
      | eight l _ ↦ absurd (let z : ◌≡◌ {A = ℕ} 0 1 = cc in omega arith)
      | nine _ never _ ↦ absurd (never x P)
      | done _ y Q e ↦ e ∙ ap (λ v. done_with v marks) (unique s y x Q P)
    ]

    pub done-single : (answered q test large group word marks).number ≡ 0 → Single q test large group word marks
    done-single h = elim cases [
      | eight _ e ↦ absurd (differ {r = 8} e refl h (λ z. omega arith))
      | nine _ _ e ↦ absurd (differ {r = 9} e refl h (λ z. omega arith))
      | done s x P e ↦
          (let x-is : x ≡ (answered q test large group word marks).word = sym (ap (λ o. o.word) e) in
          record { small = s; passes = subst (Passing q test marks word) x-is P; only = λ y Q. unique s y x Q P ∙ x-is; clear = ap (λ o. o.marks) e })
    ]
