-- What the answer of the judge of the profile says.
use Rattle.std.specs.Prelude.{◌≡◌, ◌↔◌, Bool, length, Ok, Err}
use Rattle.std.proofs.Math.Path.{refl, sym}
use Rattle.std.proofs.Common.{ap, ◌∙◌, subst, inl, inr, arith}
use mathlib.Core.List.{List, [], ◌∷◌}
use Rattle.std.proofs.Math.Option.{Option, none, some}
use Prim.Native.Nat.{ℕ, zero, suc, ◌<◌, ◌≤◌}
use Rattle.std.proofs.Math.Decide.{dec_lt, ℕ_discrete}
use borrow.Author.Tests.{leb-true, leb-false}
use Rattle.code.specs.Refusals.{refuse, ◌or_else◌, unless_refused}
use Rattle.code.specs.RefusalsLaws.{or_else-zero, or_else-first}
use Rattle.code.specs.Limits.{shape_refusal_in, word_refusal_in}
use Rattle.marks.specs.NumbersLaws.{marks-most}
use Rattle.code_services.specs.Marks.{are_marks, marks_refusal_in}
use Rattle.code_services.specs.MarksLaws.{good-of-marks}
use Rattle.code.specs.Marks.{excess, lost_in}
use Rattle.shape.specs.Shapes.{byte_limits}
use Rattle.counting.specs.Count.{total_below}
use Rattle.code_services.specs.Judge.{judged_number_in}
use Rattle.code_services.specs.JudgeLaws.{zero-excess}
use Rattle.profile.specs.declared.PlaceSet.{PlaceSet}
use Rattle.answers.specs.declared.Refusal.{Refusal}
use Rattle.answers.specs.Answers.{refusal_number, Listed, Plain}
use Rattle.answers.specs.AnswersLaws.{refusal-some, given-refused}
use Rattle.code_services.specs.PlainLaws.{marks-plain}
use Rattle.counting.specs.Sets.{sets_of, sets_below, first_in}
use Rattle.counting.specs.SetsLaws.{sets-found, sets-none, sets-before, below-found, below_none, before-total}
use Rattle.profile.specs.Profile.{outside, covers, shown_set, Fits, Shown}
use Rattle.profile.specs.ProfileLaws.{same_set, excess-outside}
use Rattle.profile.specs.Profiled.{place_set_of, place_numbers, no_set, profiled_number_of, profiled_at, profiled_of, profiled_number}
use Rattle.profile.specs.Profiled.{set_shown, places_shown, profiled_places}
use Rattle.profile.specs.Search.{found_at}
use Rattle.std.specs.Prelude.{Some, None}

pub profiled-refused : {e : Refusal} (r : ℕ) (o : Option (List ℕ)) → refusal_number e ≡ r → Plain r → profiled_at r o ≡ Err e
profiled-refused {e} zero o is p = absurd (refusal-some e is)
profiled-refused (suc r) o is p = given-refused (place_set_of []) is p

numbers : (s : List ℕ) → length s ≤ 4 → place_numbers (place_set_of s) ≡ s
numbers [] l = refl
numbers (a ∷ []) l = refl
numbers (a ∷ b ∷ []) l = refl
numbers (a ∷ b ∷ d ∷ []) l = refl
numbers (a ∷ b ∷ d ∷ e ∷ []) l = refl
numbers (a ∷ b ∷ d ∷ e ∷ f ∷ s) l = absurd (omega arith)

module _ (m w c : ℕ) (marks : List ℕ) where
  pub profiled-number : profiled_number (profiled_of m w c marks) ≡ profiled_number_of m w c marks
  unfolding profiled_of profiled_number_of
  profiled-number = go (marks_refusal_in byte_limits m w c marks) (shown_set m w c marks) (marks-plain byte_limits m w c marks).0
    where
      go : (r : ℕ) (o : Option (List ℕ)) → Listed r → profiled_number (profiled_at r o) ≡ r or_else refuse 28 (no_set o)
      go zero none l = refl
      go zero (some s) l = refl
      go (suc r) o l = l

  -- where no set of fewer than k numbers is found, fewer than k numbers in any order leave more than two outside
  beyond : (k : ℕ) → first_in (covers m w marks) (sets_below k w) ≡ none → (t : List ℕ) → length t < k → 2 < outside m w marks t
  beyond k h t l =
      let a = same_set m w marks t in
      let z = a.size in
      let e = a.leaves in
      let n = below_none (covers m w marks) k w h (length a.s) (omega arith) in
      let q = sets-none (covers m w marks) (length a.s) 0 w w (omega arith) n a.s a.is_set refl in
      let x = leb-false (outside m w marks a.s) 2 q in
      omega arith

  -- the set shown is such a set, no smaller set is, and none of the same size comes before it
  pub shown-is : (s : List ℕ) → shown_set m w c marks ≡ some s → Shown m w c marks s
  unfolding shown_set
  shown-is s h =
      let b = below-found (covers m w marks) (suc c) w s h in
      let l = b.0 in
      let f = sets-found (covers m w marks) (length s) 0 w w (omega arith) s b.1 in
      record {
        is_set = f.0;
        size = omega arith;
        leaves = leb-true (outside m w marks s) 2 f.2;
        fewest = beyond (length s) b.2;
        first = λ t i e before. leb-false (outside m w marks t) 2 (sets-before (covers m w marks) (length s) 0 w w (omega arith) s b.1 t i e before);
      }

  pub profiled-places : profiled_places (profiled_of m w c marks) ≡ places_shown m w c marks
  unfolding profiled_of places_shown profiled_number_of
  profiled-places = go (marks_refusal_in byte_limits m w c marks) refl (shown_set m w c marks) refl
    where
      go : (r : ℕ) → marks_refusal_in byte_limits m w c marks ≡ r → (o : Option (List ℕ)) → shown_set m w c marks ≡ o
          → profiled_places (profiled_at r o) ≡ unless_refused (r or_else refuse 28 (no_set o)) (set_shown o) []
      go zero a none e = refl
      go zero a (some s) e = let l = (shown-is s e).size in let g = (good-of-marks m w c marks a).good in numbers s (omega arith)
      go (suc r) a o e = refl

  pub none-shown : shown_set m w c marks ≡ none → (t : List ℕ) → length t ≤ c → 2 < outside m w marks t
  unfolding shown_set
  none-shown h t l = beyond (suc c) h t (omega arith)

  -- and no other is
  pub is-shown : (s : List ℕ) → Shown m w c marks s → shown_set m w c marks ≡ some s
  is-shown s S = go (shown_set m w c marks) refl
    where
      go : (o : Option (List ℕ)) → shown_set m w c marks ≡ o → o ≡ some s
      go none h = let x = none-shown h s S.size in let y = S.leaves in absurd (omega arith)
      go (some t) h =
          let U = shown-is t h in
          let x = S.leaves in
          let y = U.leaves in
          elim (ℕ_discrete (length t) (length s)) [
            | yes e ↦ (elim (before-total t s e) [
              | inl b ↦ (let z = S.first t U.is_set e b in absurd (omega arith))
              | inr o ↦ (elim o [
                | inl q ↦ ap some q
                | inr b ↦ (let z = U.first s S.is_set (sym e) b in absurd (omega arith))
              ])
            ])
            | no e ↦ (elim (dec_lt (length t) (length s)) [
              | yes l ↦ (let z = S.fewest t l in absurd (omega arith))
              | no l ↦ (let z = U.fewest s (omega arith) in absurd (omega arith))
            ])
          ]

  -- the code's answer by what its search finds
  module _ (accepted : marks_refusal_in byte_limits m w c marks ≡ 0) where
    pub number_of : profiled_number_of m w c marks ≡ refuse 28 (no_set (shown_set m w c marks))
    unfolding profiled_number_of
    number_of = rw accepted

    answer-of : (o : Option (List ℕ)) → shown_set m w c marks ≡ o → profiled_of m w c marks ≡ profiled_at 0 o
    unfolding profiled_of
    answer-of o e = rw (accepted, e)

    pub answered-set : (p : PlaceSet) → Some p ≡ found_at (shown_set m w c marks) → Ok p ≡ profiled_of m w c marks
    answered-set p e = go (shown_set m w c marks) refl e
      where
        go : (o : Option (List ℕ)) → shown_set m w c marks ≡ o → Some p ≡ found_at o → Ok p ≡ profiled_of m w c marks
        go none d e = let z : ◌≡◌ {A = ℕ} 0 1 = cc in absurd (omega arith)
        go (some s) d e = let q : p ≡ place_set_of s = cc in ap Ok q ∙ sym (answer-of (some s) d)

    pub answered-none : None ≡ found_at (shown_set m w c marks) → Err Refusal.NoProfile ≡ profiled_of m w c marks
    answered-none e = go (shown_set m w c marks) refl e
      where
        go : (o : Option (List ℕ)) → shown_set m w c marks ≡ o → None ≡ found_at o → Err Refusal.NoProfile ≡ profiled_of m w c marks
        go none d e = sym (answer-of none d)
        go (some s) d e = let z : ◌≡◌ {A = ℕ} 0 1 = cc in absurd (omega arith)

    zero-set : profiled_number_of m w c marks ≡ 0 → (s : List ℕ) × (shown_set m w c marks ≡ some s)
    zero-set z = go (shown_set m w c marks) refl
      where
        go : (o : Option (List ℕ)) → shown_set m w c marks ≡ o → (s : List ℕ) × (shown_set m w c marks ≡ some s)
        go (some s) d = (s, d)
        go none d = let q : profiled_number_of m w c marks ≡ 28 = number_of ∙ ap (λ o. refuse 28 (no_set o)) d in absurd (omega arith)

    none_number : shown_set m w c marks ≡ none → profiled_number_of m w c marks ≡ 28
    none_number d = number_of ∙ ap (λ o. refuse 28 (no_set o)) d

    some_number : (s : List ℕ) → shown_set m w c marks ≡ some s → profiled_number_of m w c marks ≡ 0
    some_number s d = number_of ∙ ap (λ o. refuse 28 (no_set o)) d

    -- "It says yes exactly if some set of at most c place numbers leaves at most two lost places outside it"
    pub zero-exactly : (profiled_number_of m w c marks ≡ 0) ↔ Fits m w c marks
    zero-exactly = (to, from (shown_set m w c marks) refl)
      where
        to : profiled_number_of m w c marks ≡ 0 → Fits m w c marks
        to z =
            let x = zero-set z in
            let S = shown-is x.0 x.1 in
            record { s = x.0; is_set = S.is_set; size = S.size; leaves = S.leaves }

        from : (o : Option (List ℕ)) → shown_set m w c marks ≡ o → Fits m w c marks → profiled_number_of m w c marks ≡ 0
        from (some s) d F = some_number s d
        from none d F = let x = none-shown d F.s F.size in let y = F.leaves in absurd (omega arith)

    -- "28 no such set": of any c numbers or fewer, in any order
    pub none-exactly : (profiled_number_of m w c marks ≡ 28) ↔ ((t : List ℕ) → length t ≤ c → 2 < outside m w marks t)
    none-exactly = (to (shown_set m w c marks) refl, from (shown_set m w c marks) refl)
      where
        to : (o : Option (List ℕ)) → shown_set m w c marks ≡ o → profiled_number_of m w c marks ≡ 28 → (t : List ℕ) → length t ≤ c → 2 < outside m w marks t
        to none d e = none-shown d
        to (some s) d e = let z = some_number s d in absurd (omega arith)

        from : (o : Option (List ℕ)) → shown_set m w c marks ≡ o → ((t : List ℕ) → length t ≤ c → 2 < outside m w marks t) → profiled_number_of m w c marks ≡ 28
        from none d h = none_number d
        from (some s) d h = let S = shown-is s d in let x = h s S.size in let y = S.leaves in absurd (omega arith)

  accepted-of : profiled_number_of m w c marks ≡ 0 → marks_refusal_in byte_limits m w c marks ≡ 0
  unfolding profiled_number_of
  accepted-of z = (or_else-zero (marks_refusal_in byte_limits m w c marks) _ z).0

  accepted-none : profiled_number_of m w c marks ≡ 28 → marks_refusal_in byte_limits m w c marks ≡ 0
  unfolding profiled_number_of
  accepted-none = go (marks_refusal_in byte_limits m w c marks) (marks-most m w c marks) (no_set (shown_set m w c marks))
    where
      go : (r : ℕ) → r ≤ 6 → (b : Bool) → (r or_else refuse 28 b) ≡ 28 → r ≡ 0
      go zero l b e = refl
      go (suc r) l b e = let k : suc r ≡ 28 = e in absurd (omega arith)

  -- "and shows the set; of several, the one with fewest places and then the smallest numbers first"
  pub shows : profiled_number_of m w c marks ≡ 0 → Shown m w c marks (profiled_places (profiled_of m w c marks))
  shows z =
      let a = accepted-of z in
      let x = zero-set a z in
      let S = shown-is x.0 x.1 in
      let g = (good-of-marks m w c marks a).good in
      let l = S.size in
      subst (Shown m w c marks) (sym (ap profiled_places (answer-of a (some x.0) x.1) ∙ numbers x.0 (omega arith))) S

  -- "Yes must mean the general judge gives 0."
  pub yes-judged : profiled_number_of m w c marks ≡ 0 → judged_number_in byte_limits m w c marks ≡ 0
  yes-judged z =
      let a = accepted-of z in
      let x = zero-set a z in
      let S = shown-is x.0 x.1 in
      let h = excess-outside m w c marks x.0 S.size in
      let l = S.leaves in
      (zero-excess byte_limits m w c marks a).1 (omega arith)

  -- a 28 is given only where 1 to 6 don't apply, and then no such set is
  pub none-fits : profiled_number_of m w c marks ≡ 28 → (marks_refusal_in byte_limits m w c marks ≡ 0) × ((t : List ℕ) → length t ≤ c → 2 < outside m w marks t)
  none-fits e = let a = accepted-none e in (a, (none-exactly a).0 e)

  -- "1 to 6 as in 01": as Judge gives them
  pub refused-alike : (marks_refusal_in byte_limits m w c marks ≡ 0 → ⊥) → profiled_number_of m w c marks ≡ judged_number_in byte_limits m w c marks
  unfolding profiled_number_of judged_number_in
  refused-alike h = or_else-first (marks_refusal_in byte_limits m w c marks) _ h ∙ sym (or_else-first (marks_refusal_in byte_limits m w c marks) _ h)

-- "The reverse isn't so": two groups of four places with one check, which lose the first two and the last two of their places
pub crossed : List ℕ
crossed = 1 ∷ 1 ∷ 0 ∷ 0 ∷ 0 ∷ 0 ∷ 1 ∷ 1 ∷ []

pub reverse-fails : (judged_number_in byte_limits 2 4 1 crossed ≡ 0) × (profiled_number_of 2 4 1 crossed ≡ 28)
unfolding crossed judged_number_in profiled_number_of marks_refusal_in word_refusal_in shape_refusal_in are_marks excess lost_in total_below shown_set first_in sets_below
    sets_of outside
reverse-fails = (refl, refl)
