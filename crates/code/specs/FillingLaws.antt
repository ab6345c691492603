-- Laws: The first filling of the lost places that passes a test. It says what is wanted and not how to find it: the places are gone through in
-- word order, a present place keeps its symbol, a lost one tries every symbol, the smallest first. Nobody computes it; its laws say that
-- what is found fills and passes, and that where nothing is found no filling passes.
use Rattle.std.specs.Prelude.{◌≡◌, refl, Bool, true, false, cond, List, [], ◌∷◌, ℕ, zero, suc, ◌+◌, ◌<◌, ◌≤◌, ◌^◌, T, eqb, length, get_or, drop}
use Rattle.std.proofs.Common.{sym, ap, ◌∙◌, subst, arith, pow_pos, get_or-drop}
use Rattle.std.proofs.Math.Decide.{ℕ_discrete, dec_lt}
use Rattle.std.proofs.Math.ListN.{get_or-eq_default}
use Rattle.code.specs.Edition.{Edition}
use Rattle.code.specs.Word.{Symbols}
use Rattle.code.specs.Marks.{lost}
use Rattle.code.specs.Filling.{Found, extend, or_else, try_below, search, Fills, Passing, found, none}

-- ---- laws
next-lost : (marks : List ℕ) (p : ℕ) → lost (drop 1 marks) p ≡ lost marks (suc p)
next-lost marks p = ap (λ x. eqb x 1) (get_or-drop 1 marks p 0 ∙ ap (λ i. get_or marks i 0) (one-add p))
  where
    one-add : (i : ℕ) → 1 + i ≡ suc i
    one-add i = omega arith

-- what try_below finds is found by one of the tries, and where it finds nothing none does
try-found : (n : ℕ) (f : ℕ → Found) (x : List ℕ) → try_below n f ≡ found x → (v : ℕ) × (v < n) × (f v ≡ found x)
unfolding try_below
try-found zero f x e = let z : ◌≡◌ {A = ℕ} 0 1 = cc in absurd (omega arith)
try-found (suc n) f x e = go (try-found n f x) (try_below n f) refl e
  where
    go : (try_below n f ≡ found x → (v : ℕ) × (v < n) × (f v ≡ found x)) → (r : Found) → try_below n f ≡ r → or_else r (f n) ≡ found x
        → (v : ℕ) × (v < suc n) × (f v ≡ found x)
    go ih (found y) d h = let w = ih (d ∙ h) in (w.0, omega (arith, w.1), w.2)
    go ih none d h = (n, omega arith, h)

try-none : (n : ℕ) (f : ℕ → Found) → try_below n f ≡ none → (v : ℕ) → v < n → f v ≡ none
unfolding try_below
try-none zero f e v l = absurd (omega arith)
try-none (suc n) f e v l = go (try-none n f) (try_below n f) refl e
  where
    go : (try_below n f ≡ none → (v : ℕ) → v < n → f v ≡ none) → (r : Found) → try_below n f ≡ r → or_else r (f n) ≡ none → f v ≡ none
    go ih (found y) d h = let z : ◌≡◌ {A = ℕ} 0 1 = cc in absurd (omega arith)
    go ih none d h = elim (ℕ_discrete v n) [ yes q ↦ ap f q ∙ h | no q ↦ ih d v (omega arith) ]

record Extended (v : ℕ) (f : Found) (x : List ℕ) : Type 0 where
  rest : List ℕ
  is : x ≡ v ∷ rest
  from : f ≡ found rest

extend-found : (v : ℕ) (f : Found) (x : List ℕ) → extend v f ≡ found x → Extended v f x
extend-found v (found y) x e = record { rest = y; is = cc; from = refl }
extend-found v none x e = let z : ◌≡◌ {A = ℕ} 0 1 = cc in absurd (omega arith)

extend-none : (v : ℕ) (f : Found) → extend v f ≡ none → f ≡ none
extend-none v (found y) e = let z : ◌≡◌ {A = ℕ} 0 1 = cc in absurd (omega arith)
extend-none v none e = refl

-- a filling of the rest, with the symbol of the first place
fills-cons : (q : ℕ) (marks word x : List ℕ) (b v : ℕ) → (lost marks 0 ≡ false → v ≡ b) → (lost marks 0 ≡ true → v < q)
    → Fills q (drop 1 marks) word x → Fills q marks (b ∷ word) (v ∷ x)
fills-cons q marks word x b v here there F = record { size = ap suc F.size; present = present; each = each }
  where
    present : (p : ℕ) → p < length (b ∷ word) → lost marks p ≡ false → get_or (v ∷ x) p 0 ≡ get_or (b ∷ word) p 0
    present zero l e = here e
    present (suc p) l e = F.present p (omega arith) (next-lost marks p ∙ e)

    each : (p : ℕ) → p < length (b ∷ word) → lost marks p ≡ true → get_or (v ∷ x) p 0 < q
    each zero l e = there e
    each (suc p) l e = F.each p (omega arith) (next-lost marks p ∙ e)

fills-rest : (q : ℕ) (marks word x : List ℕ) (b v : ℕ) → Fills q marks (b ∷ word) (v ∷ x) → Fills q (drop 1 marks) word x
fills-rest q marks word x b v F = record {
  size = suc_inj F.size;
  present = λ p l e. F.present (suc p) (omega arith) (sym (next-lost marks p) ∙ e);
  each = λ p l e. F.each (suc p) (omega arith) (sym (next-lost marks p) ∙ e);
}
  where
    suc_inj : {a b : ℕ} → suc a ≡ suc b → a ≡ b
    suc_inj {a} {b} e = omega arith

pub search-found : (q : ℕ) (test : List ℕ → Bool) (marks word x : List ℕ) → search q test marks word ≡ found x → Passing q test marks word x
unfolding search
search-found q test marks [] x e = go (test []) refl e
  where
    go : (v : Bool) → test [] ≡ v → cond v (found []) none ≡ found x → Passing q test marks [] x
    go true d h =
        let z : x ≡ [] = cc in
        rw z (record {
          fills = record { size = refl; present = λ p l _. absurd (omega arith); each = λ p l _. absurd (omega arith) };
          passes =
              subst T (sym d) tt;
        })
    go false d h = let z : ◌≡◌ {A = ℕ} 0 1 = cc in absurd (omega arith)
search-found q test marks (b ∷ word) x e = go (λ v y. search-found q (λ x. test (v ∷ x)) (drop 1 marks) word y) (lost marks 0) refl e
  where
    inner : ℕ → Found
    inner v = search q (λ x. test (v ∷ x)) (drop 1 marks) word

    step : (v : ℕ) → (lost marks 0 ≡ false → v ≡ b) → (lost marks 0 ≡ true → v < q)
        → ((y : List ℕ) → inner v ≡ found y → Passing q (λ x. test (v ∷ x)) (drop 1 marks) word y) → Extended v (inner v) x → Passing q test marks (b ∷ word) x
    step v here there ih X =
        let P = ih X.rest X.from in
        rw X.is (record { fills = fills-cons q marks word X.rest b v here there P.fills; passes = P.passes })

    go : ((v : ℕ) (y : List ℕ) → inner v ≡ found y → Passing q (λ x. test (v ∷ x)) (drop 1 marks) word y) → (l : Bool) → lost marks 0 ≡ l
        → cond l (try_below q (λ v. extend v (inner v))) (extend b (inner b)) ≡ found x → Passing q test marks (b ∷ word) x
    go ih true d h =
        let w = try-found q (λ v. extend v (inner v)) x h in
        step w.0 (λ f. let z : ◌≡◌ {A = ℕ} 0 1 = cc in absurd (omega arith)) (λ _. w.1) (ih w.0) (extend-found w.0 (inner w.0) x w.2)
    go ih false d h = step b (λ _. refl) (λ f. let z : ◌≡◌ {A = ℕ} 0 1 = cc in absurd (omega arith)) (ih b) (extend-found b (inner b) x h)

-- where nothing is found no filling passes
pub search-none : (q : ℕ) (test : List ℕ → Bool) (marks word : List ℕ) → search q test marks word ≡ none → (x : List ℕ) → Fills q marks word x → T (test x) → ⊥
unfolding search
search-none q test marks [] e [] F t = go (test []) refl e t
  where
    go : (v : Bool) → test [] ≡ v → cond v (found []) none ≡ none → T (test []) → ⊥
    go true d h s = let z : ◌≡◌ {A = ℕ} 0 1 = cc in omega arith
    go false d h s = subst T d s
search-none q test marks [] e (v ∷ x) F t = let z = F.size in omega arith
search-none q test marks (b ∷ word) e [] F t = let z = F.size in omega arith
search-none q test marks (b ∷ word) e (v ∷ x) F t =
    go (λ h. search-none q (λ x. test (v ∷ x)) (drop 1 marks) word h x (fills-rest q marks word x b v F) t) (lost marks 0) refl e
  where
    inner : ℕ → Found
    inner v = search q (λ x. test (v ∷ x)) (drop 1 marks) word

    go : (inner v ≡ none → ⊥) → (l : Bool) → lost marks 0 ≡ l → cond l (try_below q (λ v. extend v (inner v))) (extend b (inner b)) ≡ none → ⊥
    go ih true d h = ih (extend-none v (inner v) (try-none q (λ v. extend v (inner v)) h v (F.each 0 (omega arith) d)))
    go ih false d h = ih (ap inner (F.present 0 (omega arith) d) ∙ extend-none b (inner b) h)

-- ---- what the search finds, by what is known of the fillings

-- the symbols that stand in lost places play no part
pub search-present : (q : ℕ) (test : List ℕ → Bool) (marks word₁ word₂ : List ℕ) → length word₁ ≡ length word₂
    → ((p : ℕ) → p < length word₁ → lost marks p ≡ false → get_or word₁ p 0 ≡ get_or word₂ p 0) → search q test marks word₁ ≡ search q test marks word₂
unfolding search
search-present q test marks [] [] n a = refl
search-present q test marks [] (b ∷ y) n a = absurd (omega arith)
search-present q test marks (b ∷ x) [] n a = absurd (omega arith)
search-present q test marks (b ∷ x) (d ∷ y) n a =
    go (λ v. search-present q (λ z. test (v ∷ z)) (drop 1 marks) x y (omega arith) (λ p l e. a (suc p) (omega arith) (sym (next-lost marks p) ∙ e)))
    (lost marks 0) (λ e. a 0 (omega arith) e)
  where
    inner : List ℕ → ℕ → Found
    inner x v = search q (λ z. test (v ∷ z)) (drop 1 marks) x

    go : ((v : ℕ) → inner x v ≡ inner y v) → (l : Bool) → (l ≡ false → b ≡ d)
        → cond l (try_below q (λ v. extend v (inner x v))) (extend b (inner x b))
        ≡ cond l (try_below q (λ v. extend v (inner y v))) (extend d (inner y d))
    go ih true h = ap (try_below q) (λ i v. extend v (ih v i))
    go ih false h = ap (extend b) (ih b) ∙ ap (λ v. extend v (inner y v)) (h refl)

-- a filling of a word of symbols is a word of symbols
pub filling-symbols : (E : Edition) (n : ℕ) (marks word y : List ℕ) → Symbols E n word → Fills (2 ^ E.bits) marks word y → Symbols E n y
filling-symbols E n marks word y s F = record { size = F.size ∙ s.size; each = each }
  where
    at : (p : ℕ) (v : Bool) → lost marks p ≡ v → p < length word → get_or y p 0 < 2 ^ E.bits
    at p true e l = F.each p l e
    at p false e l = subst (λ b. b < 2 ^ E.bits) (sym (F.present p l e)) (s.each p)

    each : (p : ℕ) → get_or y p 0 < 2 ^ E.bits
    each p = elim (dec_lt p (length word)) [
      | yes l ↦ at p (lost marks p) refl l
      | no l ↦ (let k : length y ≤ p = omega (arith, F.size) in subst (λ b. b < 2 ^ E.bits) (sym (get_or-eq_default y 0 k)) (pow_pos E.bits))
    ]
