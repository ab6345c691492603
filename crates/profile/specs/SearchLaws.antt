-- Laws: The search for a set over counts of lost places by place number.
use Rattle.std.specs.Prelude.{◌≡◌, refl, Bool, true, false, not, ◌&&◌, ◌||◌, List, [], ◌∷◌, leb, length, get_or}
use Rattle.std.proofs.Common.{sym, ◌∙◌, subst, add-zero, add_assoc, add-one, arith, eq-eqb, ne_eqb, le-leb}
use Rattle.std.specs.Prelude.{Some, None}
use Rattle.std.proofs.Math.Path.{ap, ap₂}
use Rattle.std.proofs.Math.Bool.{cond, and-true, and-false}
use Rattle.std.proofs.Math.Option.{Option, none, some, some-ne-none}
use Prim.Native.Nat.{ℕ, zero, suc, ◌+◌, ◌-◌, ◌*◌, ◌<◌, ◌≤◌}
use Rattle.std.proofs.Math.Nat.{zero-add}
use Rattle.std.proofs.lemmas.Bool.{lt-leb}
use Rattle.counting.specs.Count.{one, total_below}
use Rattle.counting.specs.CountLaws.{total-none, total-suc, total_ext, total-zero, total-sum, total_first}
use Rattle.code.specs.Marks.{lost}
use Rattle.profile.specs.declared.PlaceSet.{PlaceSet}
use Rattle.counting.specs.Sets.{is_in, sets_of, sets_below, first_in}
use Rattle.counting.specs.AscendingLaws.{not_in}
use Rattle.counting.specs.SetsLaws.{step-some, step-none, empty-true, no-numbers, sets-ext, below_more, below_none, below_stays, below-ext}
use Rattle.profile.specs.Profile.{outside, covers, shown_set}
use Rattle.profile.specs.ProfileLaws.{outside-groups}
use Rattle.profile.specs.Profiled.{place_set_of}
use Rattle.profile.specs.Search.{lost_at, outside_from, within, found_in, NoneSmaller, found_at}

-- rows and columns
total-swap : (m n : ℕ) (f : ℕ → ℕ → ℕ) → total_below m (λ g. total_below n (f g)) ≡ total_below n (λ j. total_below m (λ g. f g j))
total-swap zero n f = total-none _ ∙ sym (total-zero n _ (λ j _. total-none _))
total-swap (suc m) n f =
    total-suc m _ ∙ ap (λ t. t + total_below n (f m)) (total-swap m n f) ∙ sym (total-sum n (λ j. total_below m (λ g. f g j)) (f m))
    ∙ total_ext n _ _ (λ j _. sym (total-suc m (λ g. f g j)))

-- what lies outside, from counts by place number
pub outside-counts : (m w : ℕ) (marks counts s : List ℕ) → ((j : ℕ) → j < w → get_or counts j 0 ≡ lost_at m w marks j)
    → outside m w marks s ≡ outside_from counts 0 w s
unfolding outside_from lost_at
outside-counts m w marks counts s is =
    outside-groups m w marks s ∙ total-swap m w (λ g j. one (lost marks (g * w + j) && not (is_in j s)))
    ∙ total_ext w _ _ (λ j l. column j l (is_in j s) ∙ ap (λ i. cond (is_in i s) 0 (get_or counts i 0)) (sym (zero-add j)))
  where
    column : (j : ℕ) → j < w → (b : Bool) → total_below m (λ g. one (lost marks (g * w + j) && not b)) ≡ cond b 0 (get_or counts j 0)
    column j l true = total-zero m _ (λ g _. ap one (and-false (lost marks (g * w + j))))
    column j l false = total_ext m _ _ (λ g _. ap one (and-true (lost marks (g * w + j)))) ∙ sym (is j l)

-- so the search over counts finds the set that is shown
pub search-shown : (m w c : ℕ) (marks counts : List ℕ) → ((j : ℕ) → j < w → get_or counts j 0 ≡ lost_at m w marks j)
    → first_in (within counts 0 w 0) (sets_below (c + 1) w) ≡ shown_set m w c marks
unfolding shown_set
search-shown m w c marks counts is =
    below-ext (within counts 0 w 0) (covers m w marks) (c + 1) w
    (λ s _. ap (λ n. leb n 2) (zero-add (outside_from counts 0 w s) ∙ sym (outside-counts m w marks counts s is)))
    ∙ ap (λ k. first_in (covers m w marks) (sets_below k w)) (add-one c)

never : (xs : List (List ℕ)) → first_in (λ _. false) xs ≡ none
unfolding first_in
never [] = refl
never (x ∷ xs) = never xs

module _ (counts : List ℕ) (a n : ℕ) where
  -- with a first in the set, what lies outside is what lies outside of the rest
  outside-with : (s : List ℕ) → outside_from counts a (suc n) (a ∷ s) ≡ outside_from counts (suc a) n s
  unfolding outside_from
  outside-with s = total_first n _ ∙ ap₂ ◌+◌ here (total_ext n _ _ next) ∙ zero-add (outside_from counts (suc a) n s)
    where
      here : cond (is_in (a + 0) (a ∷ s)) 0 (get_or counts (a + 0) 0) ≡ 0
      here = rw (eq-eqb (a + 0) a (add-zero a))

      next : (i : ℕ) → i < n → cond (is_in (a + suc i) (a ∷ s)) 0 (get_or counts (a + suc i) 0) ≡ cond (is_in (suc a + i) s) 0 (get_or counts (suc a + i) 0)
      next i _ =
          let e : a + suc i ≡ suc a + i = omega arith in
          ap (λ b. cond (b || is_in (a + suc i) s) 0 (get_or counts (a + suc i) 0)) (ne_eqb (a + suc i) a (λ z. omega arith))
          ∙ ap (λ k. cond (is_in k s) 0 (get_or counts k 0)) e

  -- without it, its own lost places are added
  outside-without : (s : List ℕ) → is_in a s ≡ false → outside_from counts a (suc n) s ≡ get_or counts a 0 + outside_from counts (suc a) n s
  unfolding outside_from
  outside-without s o =
      total_first n _ ∙ ap₂ ◌+◌ (ap (λ i. cond (is_in i s) 0 (get_or counts i 0)) (add-zero a) ∙ ap (λ b. cond b 0 (get_or counts a 0)) o)
      (total_ext n _ _ (λ i _. ap (λ i. cond (is_in i s) 0 (get_or counts i 0)) (omega arith)))

  module _ (out : ℕ) where
    within-with : (s : List ℕ) → within counts a (suc n) out (a ∷ s) ≡ within counts (suc a) n out s
    within-with s = ap (λ x. leb (out + x) 2) (outside-with s)

    within-without : (s : List ℕ) → is_in a s ≡ false → within counts a (suc n) out s ≡ within counts (suc a) n (out + get_or counts a 0) s
    within-without s o = ap (λ x. leb x 2) (ap (λ x. out + x) (outside-without s o) ∙ sym (add_assoc out (get_or counts a 0) (outside_from counts (suc a) n s)))

    rest : (k : ℕ) → first_in (within counts a (suc n) out) (sets_of k (suc a) n) ≡ first_in (within counts (suc a) n (out + get_or counts a 0)) (sets_of k (suc a) n)
    rest k = sets-ext _ _ k (suc a) n (suc a + n) refl (λ s i. within-without s (not_in (suc a) (suc a + n) s i a (omega arith)))

    same-with : (k : ℕ) → first_in (λ s. within counts a (suc n) out (a ∷ s)) (sets_of k (suc a) n) ≡ first_in (within counts (suc a) n out) (sets_of k (suc a) n)
    same-with k = sets-ext _ _ k (suc a) n (suc a + n) refl (λ s _. within-with s)

    take-a : (k : ℕ) (t : List ℕ) → first_in (within counts (suc a) n out) (sets_of k (suc a) n) ≡ some t
        → first_in (within counts a (suc n) out) (sets_of (suc k) a (suc n)) ≡ some (a ∷ t)
    take-a k t h = step-some (within counts a (suc n) out) k a n t (same-with k ∙ h)

    pass-a : (k : ℕ) → first_in (within counts (suc a) n out) (sets_of k (suc a) n) ≡ none
        → first_in (within counts a (suc n) out) (sets_of (suc k) a (suc n))
        ≡ first_in (within counts (suc a) n (out + get_or counts a 0)) (sets_of (suc k) (suc a) n)
    pass-a k h = step-none (within counts a (suc n) out) k a n (same-with k ∙ h) ∙ rest (suc k)

    pass-none : first_in (within counts a (suc n) out) (sets_of 0 a (suc n))
        ≡ first_in (within counts (suc a) n (out + get_or counts a 0)) (sets_of 0 (suc a) n)
    unfolding sets_of
    pass-none = rest 0

-- more than two outside already
pub too_many : (counts : List ℕ) (w size left out : ℕ) → 2 < out → found_in counts w size left out ≡ none
too_many counts w size left out h =
    sets-ext _ (λ _. false) size (w - left) left (w - left + left) refl (λ s _. lt-leb (out + outside_from counts (w - left) left s) 2 (omega arith))
    ∙ never (sets_of size (w - left) left)

-- no number is left
pub none-wanted : (counts : List ℕ) (w size left out : ℕ) → size ≡ 0 → left ≡ 0 → out ≤ 2 → found_in counts w size left out ≡ some []
unfolding outside_from
none-wanted counts w zero zero out s l h =
    let z : outside_from counts (w - 0) 0 [] ≡ 0 = total-none _ in
    empty-true (within counts (w - 0) 0 out) (w - 0) 0 (le-leb (out + outside_from counts (w - 0) 0 []) 2 (omega arith))
none-wanted counts w zero (suc n) out s l h = absurd (omega arith)
none-wanted counts w (suc k) left out s l h = absurd (omega arith)

pub some-wanted : (counts : List ℕ) (w size left out : ℕ) → (size ≡ 0 → ⊥) → left ≡ 0 → found_in counts w size left out ≡ none
some-wanted counts w zero left out s l = absurd (s refl)
some-wanted counts w (suc k) zero out s l = no-numbers _ k (w - 0)
some-wanted counts w (suc k) (suc n) out s l = absurd (omega arith)

-- the next number is in the set, or it is passed
pub taken : (counts : List ℕ) (w size left out : ℕ) → 0 < size → 0 < left → left ≤ w
    → (t : List ℕ) → found_in counts w (size - 1) (left - 1) out ≡ some t → found_in counts w size left out ≡ some ((w - left) ∷ t)
taken counts w zero left out s l h t e = absurd (omega arith)
taken counts w (suc k) zero out s l h t e = absurd (omega arith)
taken counts w (suc k) (suc n) out s l h t e =
    let p : suc k - 1 ≡ k = omega arith in
    let q : suc n - 1 ≡ n = omega arith in
    let r : w - n ≡ suc (w - suc n) = omega arith in
    take-a counts (w - suc n) n out k t
    (subst (λ x. first_in (within counts x n out) (sets_of k x n) ≡ some t) r
    (subst (λ x. first_in (within counts (w - x) x out) (sets_of k (w - x) x) ≡ some t) q
    (subst (λ x. found_in counts w x (suc n - 1) out ≡ some t) p e)))

pub passed : (counts : List ℕ) (w size left out : ℕ) → 0 < left → left ≤ w
    → (0 < size → found_in counts w (size - 1) (left - 1) out ≡ none)
    → found_in counts w size left out ≡ found_in counts w size (left - 1) (out + get_or counts (w - left) 0)
passed counts w size zero out l h e = absurd (omega arith)
passed counts w zero (suc n) out l h e =
    let q : suc n - 1 ≡ n = omega arith in
    let r : w - n ≡ suc (w - suc n) = omega arith in
    let more = out + get_or counts (w - suc n) 0 in
    pass-none counts (w - suc n) n out
    ∙ ap (λ x. first_in (within counts x n more) (sets_of 0 x n)) (sym r)
    ∙ ap (λ x. found_in counts w 0 x more) (sym q)
passed counts w (suc k) (suc n) out l h e =
    let p : suc k - 1 ≡ k = omega arith in
    let q : suc n - 1 ≡ n = omega arith in
    let r : w - n ≡ suc (w - suc n) = omega arith in
    let more = out + get_or counts (w - suc n) 0 in
    pass-a counts (w - suc n) n out k
    (subst (λ x. first_in (within counts x n out) (sets_of k x n) ≡ none) r
    (subst (λ x. found_in counts w k x out ≡ none) q (subst (λ x. found_in counts w x (suc n - 1) out ≡ none) p (e (omega arith)))))
    ∙ ap (λ x. first_in (within counts x n more) (sets_of (suc k) x n)) (sym r)
    ∙ ap (λ x. found_in counts w (suc k) x more) (sym q)

-- where no smaller set is found, none is found of the rest either, and a place without losses is in no set of this size
module _ (counts : List ℕ) (w size left out : ℕ) (some_left : 0 < left) (fits : left ≤ w) (smaller : NoneSmaller counts w size left out) where
  rest-none : (k : ℕ) → suc k < size → found_in counts w k (left - 1) out ≡ none
  rest-none k l = go (found_in counts w k (left - 1) out) refl
    where
      go : (o : Option (List ℕ)) → found_in counts w k (left - 1) out ≡ o → o ≡ none
      go none d = refl
      go (some t) d =
          let e : k ≡ suc k - 1 = omega arith in
          let h = taken counts w (suc k) left out (omega arith) some_left fits t (subst (λ k. found_in counts w k (left - 1) out ≡ some t) e d) in
          absurd (some-ne-none ((w - left) ∷ t) (sym h ∙ smaller (suc k) l))

  pub smaller-taken : NoneSmaller counts w (size - 1) (left - 1) out
  smaller-taken k l = rest-none k (omega arith)

  pub smaller-passed : NoneSmaller counts w size (left - 1) (out + get_or counts (w - left) 0)
  smaller-passed zero l = sym (passed counts w 0 left out some_left fits (λ z. absurd (omega arith))) ∙ smaller 0 l
  smaller-passed (suc k) l =
      let e : k ≡ suc k - 1 = omega arith in
      sym (passed counts w (suc k) left out some_left fits (λ _. subst (λ k. found_in counts w k (left - 1) out ≡ none) e (rest-none k l)))
      ∙ smaller (suc k) l

  pub not-needed : get_or counts (w - left) 0 ≡ 0 → 0 < size → found_in counts w (size - 1) (left - 1) out ≡ none
  not-needed z l =
      let e : out + get_or counts (w - left) 0 ≡ out = omega arith in
      subst (λ out. found_in counts w (size - 1) (left - 1) out ≡ none) e (smaller-passed (size - 1) (omega arith))

-- all numbers below w
module _ (counts : List ℕ) (w size : ℕ) (before : first_in (within counts 0 w 0) (sets_below size w) ≡ none) where
  sizes : first_in (within counts 0 w 0) (sets_below (suc size) w) ≡ found_in counts w size w 0
  sizes =
      let e : w - w ≡ 0 = omega arith in
      below_more (within counts 0 w 0) size w before ∙ ap (λ a. first_in (within counts a w 0) (sets_of size a w)) (sym e)

  pub size-smaller : NoneSmaller counts w size w 0
  size-smaller k l =
      let e : w - w ≡ 0 = omega arith in
      ap (λ a. first_in (within counts a w 0) (sets_of k a w)) e ∙ below_none (within counts 0 w 0) size w before k l

  pub size-found : (k : ℕ) → size < k → (s : List ℕ) → found_in counts w size w 0 ≡ some s → first_in (within counts 0 w 0) (sets_below k w) ≡ some s
  size-found k l s h = below_stays (within counts 0 w 0) (suc size) k w s (sizes ∙ h) l

  pub size_none : found_in counts w size w 0 ≡ none → first_in (within counts 0 w 0) (sets_below (size + 1) w) ≡ none
  size_none h = ap (λ k. first_in (within counts 0 w 0) (sets_below k w)) (add-one size) ∙ sizes ∙ h

-- what an answer of the search says
pub record IsFound (o : Option (List ℕ)) (p : PlaceSet) : Type 0 where
  pub s : List ℕ
  pub found : o ≡ some s
  pub shows : p ≡ place_set_of s

pub found-set : (o : Option (List ℕ)) (p : PlaceSet) → Some p ≡ found_at o → IsFound o p
found-set none p e = let z : ◌≡◌ {A = ℕ} 0 1 = cc in absurd (omega arith)
found-set (some s) p e = record { s = s; found = refl; shows = cc }

-- the set with j before its numbers
pub shows_first : (j : ℕ) (t : List ℕ) (p r : PlaceSet) → p ≡ place_set_of t
    → r ≡ record { count = p.count + 1; first = j; second = p.first; third = p.second; fourth = p.third } → r ≡ place_set_of (j ∷ t)
shows_first j t p r e f =
    f ∙ ap (λ p. record { count = p.count + 1; first = j; second = p.first; third = p.second; fourth = p.third }) e
    ∙ ap (λ n. record { count = n; first = j; second = get_or t 0 0; third = get_or t 1 0; fourth = get_or t 2 0 }) (add-one (length t))

pub found_nothing : (o : Option (List ℕ)) → None ≡ found_at o → o ≡ none
found_nothing none e = refl
found_nothing (some s) e = let z : ◌≡◌ {A = ℕ} 0 1 = cc in absurd (omega arith)
