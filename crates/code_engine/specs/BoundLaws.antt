-- Laws: The lost places of one group: the first c are bound for the group's own equations, the others are free.
use Rattle.std.specs.Prelude.{◌≡◌, refl, Bool, true, false, List, [], ◌∷◌, ℕ, zero, suc, ◌+◌, ◌-◌, ◌≤◌, min, eqb, length}
use Rattle.std.proofs.Common.{sym, ap, ◌∙◌, arith}
use Rattle.counting.specs.Count.{one, count_below}
use Rattle.counting.specs.CountLaws.{total-none, total_first, total_ext}
use Rattle.code.specs.Marks.{lost, lost_in}
use Rattle.code.specs.StretchLaws.{own-place}
use Rattle.code_engine.specs.Bound.{bound_mark, bound_of}

pub bound-length : (c : ℕ) (marks : List ℕ) → length (bound_of c marks) ≡ length marks
unfolding bound_of
bound-length c [] = refl
bound-length c (x ∷ xs) = ap suc (bound-length (c - one (eqb x 1)) xs)

-- a present place is not bound
pub bound-present : (c : ℕ) (marks : List ℕ) (p : ℕ) → lost marks p ≡ false → lost (bound_of c marks) p ≡ false
unfolding bound_of
bound-present c [] p e = e
bound-present c (x ∷ xs) zero e = ap (λ b. eqb (bound_mark c b x) 1) e ∙ e
bound-present c (x ∷ xs) (suc p) e = bound-present (c - one (eqb x 1)) xs p e

-- at how many of the places of marks bound has a lost mark
unfoldable lost_count : List ℕ → List ℕ → ℕ
lost_count marks bound = count_below (length marks) (lost bound)

count-cons : (x y : ℕ) (xs ys : List ℕ) → lost_count (x ∷ xs) (y ∷ ys) ≡ one (eqb y 1) + lost_count xs ys
unfolding lost_count
count-cons x y xs ys = total_first (length xs) (λ i. one (lost (y ∷ ys) i))

count-nil : lost_count [] [] ≡ 0
unfolding lost_count
count-nil = total-none (λ i. one (lost [] i))

mark-count : (c x n : ℕ) → one (eqb (bound_mark c (eqb x 1) x) 1) + min (c - one (eqb x 1)) n ≡ min c (one (eqb x 1) + n)
mark-count c x n = go c (eqb x 1) refl
  where
    go : (d : ℕ) (b : Bool) → eqb x 1 ≡ b → one (eqb (bound_mark d b x) 1) + min (d - one b) n ≡ min d (one b + n)
    go d false e = rw e (omega arith)
    go zero true e = omega arith
    go (suc d) true e = rw e (omega arith)

count-bound : (c : ℕ) (marks : List ℕ) → lost_count marks (bound_of c marks) ≡ min c (lost_count marks marks)
unfolding bound_of
count-bound c [] = let z = count-nil in omega arith
count-bound c (x ∷ xs) =
    count-cons x (bound_mark c (eqb x 1) x) xs (bound_of (c - one (eqb x 1)) xs)
    ∙ ap (λ n. one (eqb (bound_mark c (eqb x 1) x) 1) + n) (count-bound (c - one (eqb x 1)) xs) ∙ mark-count c x (lost_count xs xs)
    ∙ ap (min c) (sym (count-cons x x xs xs))

-- where a lost place is not bound, c or more are lost
enough : (c : ℕ) (marks : List ℕ) (j : ℕ) → lost marks j ≡ true → lost (bound_of c marks) j ≡ false → c ≤ lost_count marks marks
unfolding bound_of
enough c [] j e f = let z : ◌≡◌ {A = ℕ} 0 1 = cc in absurd (omega arith)
enough c (x ∷ xs) zero e f = go c (ap (λ b. eqb (bound_mark c b x) 1) (sym e) ∙ f)
  where
    go : (d : ℕ) → eqb (bound_mark d true x) 1 ≡ false → d ≤ lost_count (x ∷ xs) (x ∷ xs)
    go zero q = omega arith
    go (suc d) q = let z : ◌≡◌ {A = ℕ} 0 1 = cc in absurd (omega arith)
enough c (x ∷ xs) (suc j) e f = let l = enough (c - one (eqb x 1)) xs j e f in omega (arith, count-cons x x xs xs)

count-in : (w : ℕ) (marks : List ℕ) → lost_in w marks 0 ≡ count_below w (lost marks)
unfolding lost_in
count-in w marks = total_ext w _ _ (λ j l. ap (λ n. one (lost marks n)) (own-place w j))

pub bound-count : (c : ℕ) (marks : List ℕ) → lost_in (length marks) (bound_of c marks) 0 ≡ min c (lost_in (length marks) marks 0)
unfolding lost_count
bound-count c marks = count-in (length marks) (bound_of c marks) ∙ count-bound c marks ∙ ap (min c) (sym (count-in (length marks) marks))

-- where a lost place is not bound, c are bound
pub bound-full : (c : ℕ) (marks : List ℕ) (j : ℕ) → lost marks j ≡ true → lost (bound_of c marks) j ≡ false → lost_in (length marks) (bound_of c marks) 0 ≡ c
unfolding lost_count
bound-full c marks j e f =
    let l = enough c marks j e f in
    bound-count c marks ∙ omega (arith, count-in (length marks) marks)
