-- Laws: strips of sums, written to their blocks.
use Rattle.std.specs.Prelude.{◌≡◌, refl, ◌⊎◌, List, ℕ, suc, ◌+◌, ◌-◌, ◌*◌, ◌≤◌, ◌<◌, get_or}
use Rattle.std.proofs.Common.{sym, ◌∙◌, inl, inr, ⊎_elim, suc-mul, mul-le-mul_right, add-one, arith}
use Rattle.std.proofs.Math.Path.{ap}
use Rattle.std.proofs.Math.Decide.{dec_lt, ℕ_discrete}
use Rattle.binary_field.specs.Product.{product}
use Rattle.binary_field.specs.SumLaws.{sum-ext}
use Rattle.block_sums.specs.Sums.{block_sum, ZeroUntil, SumsWritten, StripSums, ZeroStrip, StripWritten, WrittenBelow}
use Rattle.block_tables.specs.Table.{PartCopied}

-- block a ends where block b begins, or before
ends : (a b size : ℕ) → a < b → a * size + size ≤ b * size
ends a b size l =
    let e : suc a * size ≡ a * size + size = suc-mul a size in
    let k : suc a * size ≤ b * size = mul-le-mul_right size l in
    omega arith

-- byte y of block a stands outside the bytes x to x + n of block b
apart : (a b size x n y : ℕ) → y < size → x + n ≤ size → (a ≡ b → (y < x) ⊎ (x + n ≤ y)) → (a * size + y < b * size + x) ⊎ (b * size + x + n ≤ a * size + y)
apart a b size x n y h l same = elim (ℕ_discrete a b) [
  | yes e ↦ ⊎_elim (λ p. inl (let q = ap (λ k. k * size) e in omega arith)) (λ p. inr (let q = ap (λ k. k * size) e in omega arith)) (same e)
  | no e ↦ elim (dec_lt a b) [
    | yes s ↦ inl (let k = ends a b size s in omega arith)
    | no s ↦ inr (let m : b < a = omega arith in let k = ends b a size m in omega arith)
  ]
]

-- one row more
pub strip-more : (size x n i : ℕ) (sums to before mid after : List ℕ) → x + n ≤ size → StripWritten size x n i sums to before mid
    → PartCopied (i * 96) n (get_or to i 0 * size + x) sums mid after → StripWritten size x n (i + 1) sums to before after
strip-more size x n i sums to before mid after l S P = record {
  long = P.long ∙ S.long;
  here = λ k b last y h. elim (ℕ_discrete k i) [
    | yes e ↦ (rw e (P.here y h))
    | no e ↦
        (let d : get_or to k 0 ≡ get_or to i 0 → ⊥ = λ q. last i (omega arith) (omega arith) (sym q) in
        let u : get_or to k 0 * size + x + y ≡ get_or to k 0 * size + (x + y) = omega arith in
        ap (λ p. get_or after p 0) u
        ∙ ⊎_elim (λ p. P.below _ p) (λ p. P.above _ p) (apart (get_or to k 0) (get_or to i 0) size x n (x + y) (omega arith) l (λ q. absurd (d q)))
        ∙ ap (λ p. get_or mid p 0) (sym u) ∙ S.here k (omega arith) (λ j a c. last j a (omega arith)) y h)
  ];
  other = λ k out.
      ⊎_elim (λ p. P.below k p) (λ p. P.above k p) (out i (omega arith)) ∙ S.other k (λ j a. out j (omega arith));
}

module _ (size first count rows : ℕ) (before constants to : List ℕ) where
  pub written_none : WrittenBelow size before first count rows constants to 0 before
  written_none = record { long = refl; here = λ i l last y h. absurd (omega arith); later = λ p y a b. refl; other = λ k out. refl }

  -- the sums from x on are those of the blocks as they were
  same : (x n : ℕ) (mid : List ℕ) → x + n ≤ size → WrittenBelow size before first count rows constants to x mid
      → (i z : ℕ) → z < n → block_sum size mid first count constants i (x + z) ≡ block_sum size before first count constants i (x + z)
  unfolding block_sum
  same x n mid l W i z q =
      sum-ext count _ _ (λ j b. ap (product 8 285 (get_or constants (i * count + j) 0)) (W.later (first + j) (x + z) (omega arith) (omega arith)))

  -- a strip more
  pub written-more : (x n : ℕ) (mid sums after : List ℕ) → x + n ≤ size → WrittenBelow size before first count rows constants to x mid
      → StripSums size mid first count rows constants x n sums → StripWritten size x n rows sums to mid after
      → WrittenBelow size before first count rows constants to (x + n) after
  written-more x n mid sums after l W S P = record {
    long = P.long ∙ W.long;
    here = λ i b last y h. elim (dec_lt y x) [
      | yes s ↦ P.other (get_or to i 0 * size + y) (λ k c. apart (get_or to i 0) (get_or to k 0) size x n y (omega arith) l (λ _. inl s)) ∙ W.here i b last y s
      | no s ↦
          (let z : ℕ = y - x in
          let e : y ≡ x + z = omega arith in
          let u : get_or to i 0 * size + y ≡ get_or to i 0 * size + x + z = omega arith in
          let q : z < n = omega arith in
          ap (λ p. get_or after p 0) u ∙ P.here i b last z q ∙ S.here i z b q ∙ same x n mid l W i z q
          ∙ ap (block_sum size before first count constants i) (sym e))
    ];
    later = λ p y a b. P.other (p * size + y) (λ k c. apart p (get_or to k 0) size x n y b l (λ _. inr a)) ∙ W.later p y (omega arith) b;
    other = λ k out.
        P.other k (λ i b. ⊎_elim (λ p. inl (omega arith)) (λ p. inr (let e = add-block (get_or to i 0) in omega arith)) (out i b)) ∙ W.other k out;
  }
    where
      add-block : (a : ℕ) → (a + 1) * size ≡ a * size + size
      add-block a = ap (λ k. k * size) (add-one a) ∙ suc-mul a size

  pub written_all : (x : ℕ) (after : List ℕ) → size ≤ x → WrittenBelow size before first count rows constants to x after
      → SumsWritten size before first count rows constants to after
  written_all x after l W = record { long = W.long; here = λ i b last y h. W.here i b last y (omega arith); other = W.other }

  -- blocks of no byte
  pub written-nothing : size ≡ 0 → SumsWritten size before first count rows constants to before
  written-nothing e = record { long = refl; here = λ i b last y h. absurd (omega arith); other = λ k out. refl }

-- ---- the search
module _ (size : ℕ) (blocks : List ℕ) (first count rows : ℕ) (constants : List ℕ) (limit x : ℕ) where
  -- every sum is 0 below x
  abbrev pub ZeroBelow : Type 0
  ZeroBelow = (y : ℕ) → y < x → (i : ℕ) → i < rows → block_sum size blocks first count constants i y ≡ 0

  module _ (n : ℕ) (sums : List ℕ) (r : ℕ) (fits : x + n ≤ limit) (zero : ZeroBelow) (S : StripSums size blocks first count rows constants x n sums)
      (Z : ZeroStrip rows n sums r) where
    pub zero_more : (y : ℕ) → y < x + r → (i : ℕ) → i < rows → block_sum size blocks first count constants i y ≡ 0
    zero_more y h i b = elim (dec_lt y x) [
      | yes s ↦ zero y s i b
      | no s ↦
          (let e : y ≡ x + (y - x) = omega arith in
          let l = Z.most in
          ap (block_sum size blocks first count constants i) e ∙ sym (S.here i (y - x) b (omega arith)) ∙ Z.zero (y - x) (omega arith) i b)
    ]

    pub zero-found : r < n → ZeroUntil size blocks first count rows constants limit (x + r)
    zero-found l = record {
      most = omega arith;
      zero = zero_more;
      stop = λ _ all. Z.stop l (λ k b. S.here k r b l ∙ all k b);
    }

  pub zero-all : limit ≤ x → ZeroBelow → ZeroUntil size blocks first count rows constants limit limit
  zero-all l zero = record { most = omega arith; zero = λ y h. zero y (omega arith); stop = λ h. absurd (omega arith) }

-- blocks of no byte
pub zero-nothing : (size : ℕ) (blocks : List ℕ) (first count rows : ℕ) (constants : List ℕ) (limit : ℕ) → limit ≡ 0
    → ZeroUntil size blocks first count rows constants limit 0
zero-nothing size blocks first count rows constants limit e = record {
  most = omega arith;
  zero = λ y h. absurd (omega arith);
  stop = λ h. absurd (omega arith);
}
