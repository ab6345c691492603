-- Laws: What the engine takes, and what it finds and leaves.
use Rattle.std.specs.Prelude.{◌≡◌, refl, List, ℕ, zero, suc, ◌+◌, ◌-◌, ◌*◌, ◌/◌, ◌%◌, ◌<◌, ◌≤◌, length, get_or}
use Rattle.std.proofs.Common.{sym, ap, ◌∙◌, subst, zero-add, div-add-mod', mod-lt, div-lt_iff_lt-mul, arith}
use Rattle.shape.specs.Shapes.{byte_limits}
use Rattle.code.specs.LentLaws.{lent, not-refused}
use Rattle.code.specs.Lent.{LentIn}
use Rattle.code.specs.Limits.{word_refusal_in}
use Rattle.code.specs.LimitsLaws.{places-most}
use Rattle.block_sums.specs.Sums.{Named}
use Rattle.code.specs.Edition.{raised}
use Rattle.code.specs.Word.{coefficient}
use Rattle.byte_edition.specs.Edition.{byte_edition}
use Rattle.code.specs.Marks.{excess}
use Rattle.code.specs.Stretch.{stretch}
use Rattle.code_engine.specs.BoundGroups.{BoundAll}
use Rattle.block_laws.specs.Group.{Mendable, group_of}
use Rattle.block_laws.specs.Whole.{Across}
use Rattle.block_laws.specs.WholeLaws.{codeword-group}
use Rattle.block_laws.specs.Steps.{Coefficients, Given, Limit, place_symbol, AcrossRows, GroupsFilled}
use Rattle.block_laws.specs.StepsLaws.{limit-more, limit-map, mul-within, size_small}
use Rattle.block_laws.specs.Free.{Completable}
use Rattle.block_laws.specs.FreeLaws.{agrees-of, of-mendable, of-completes}
use Rattle.block_constants.specs.FreeRows.{first_of, second_of}
use Rattle.block_laws.specs.RestLaws.{across-first, across-second}
use Rattle.block_laws.specs.Ready.{Ready, Recoverable, FreeWritten, Restored}

pub given-of : (m w c size : ℕ) (blocks marks bound : List ℕ) → Ready m w c size (length blocks) marks → BoundAll m w c marks bound
    → Given m w c size blocks bound
given-of m w c size blocks marks bound R K = record {
  good = R.good;
  bound-size = K.size ∙ R.marks-size;
  few = K.bound-few;
  some = R.some;
  blocks-size = R.blocks-size;
  most = R.most;
}

-- other blocks of the same length do as well
pub given-after : (m w c size : ℕ) (before after bound : List ℕ) → Given m w c size before bound → length after ≡ length before → Given m w c size after bound
given-after m w c size before after bound G e = record {
  good = G.good;
  bound-size = G.bound-size;
  few = G.few;
  some = G.some;
  blocks-size = e ∙ G.blocks-size;
  most = subst (λ n. n ≤ 65536) (sym e) G.most;
}

module _ (m w c size : ℕ) (blocks marks bound : List ℕ) (R : Ready m w c size (length blocks) marks) (K : BoundAll m w c marks bound) where
  -- a word passes every test exactly if a codeword agrees with it
  pub lowest-is : (small : (i : ℕ) → get_or blocks i 0 < 256) (rows : List ℕ) → AcrossRows m w c bound rows → (limit r : ℕ)
      → Limit size limit (λ x. (g : ℕ) → g < m → Mendable w c g (stretch w g bound) (λ j. place_symbol size blocks x (g * w + j)))
      → Limit limit r (λ x. Completable (m * w) marks bound (first_of rows) (second_of (m * w) rows) (place_symbol size blocks x))
      → Limit size r (Recoverable m w c size blocks marks)
  lowest-is small rows A limit r L T = limit-map to from (limit-more _ _ L T)
    where
      a : ℕ → ℕ
      a = first_of rows

      b : ℕ → ℕ
      b = second_of (m * w) rows

      FA : Across m w c bound 4 a
      FA = across-first m w c bound rows A

      FB : Across m w c bound 5 b
      FB = across-second m w c bound rows A

      to : (x : ℕ) → x < size
          → ((g : ℕ) → g < m → Mendable w c g (stretch w g bound) (λ j. place_symbol size blocks x (g * w + j)))
          × Completable (m * w) marks bound a b (place_symbol size blocks x)
          → Recoverable m w c size blocks marks x
      to x l z = agrees-of m w c R.good marks bound K a b FA FB (place_symbol size blocks x) z.0 z.1

      from : (x : ℕ) → x < size → Recoverable m w c size blocks marks x
          → ((g : ℕ) → g < m → Mendable w c g (stretch w g bound) (λ j. place_symbol size blocks x (g * w + j)))
          × Completable (m * w) marks bound a b (place_symbol size blocks x)
      from x l z = (
        of-mendable m w c R.good marks bound K a b FA FB (place_symbol size blocks x) (λ p. small _) z.0 z.1,
        ((λ p. get_or z.0 p 0), of-completes m w c R.good marks bound K a b FA FB (place_symbol size blocks x) (λ p. small _) z.0 z.1),
      )

  -- what the groups are filled with is the codeword
  pub restored-is : (middle after : List ℕ) → FreeWritten m w c size marks bound blocks middle → GroupsFilled w c size m bound middle after
      → Restored m w c size marks blocks after
  restored-is middle after E F = record {
    long = F.long ∙ E.long;
    here = λ x l y Y p h.
        let wide : 0 < w = (let q = R.good.wide in omega arith) in
        let g : p / w < m = (div-lt_iff_lt-mul wide).1 h in
        let j : p % w < w = mod-lt p wide in
        let d : p / w * w + p % w ≡ p = div-add-mod' p w in
        ap (place_symbol size after x) (sym d)
        ∙ F.here (p / w) g x l (group_of w (p / w) y)
        (codeword-group m w c wide R.good.few-checks bound K.bound-few y Y.codeword (place_symbol size middle x)
        (λ q k e. sym (E.here x l y Y q k e)) (p / w) g) (p % w) j
        ∙ ap (λ k. get_or y k 0) d;
  }

-- ---- whether a call is taken
abbrev groups-lent : (m w c : ℕ) (xs : List ℕ) → word_refusal_in byte_limits m w c (length xs) ≡ 0 → LentIn byte_limits m w c xs
groups-lent m w c xs z = lent m w c xs z

module _ (m w c size lent : ℕ) (marks : List ℕ) where
  pub ready-word : Ready m w c size lent marks → word_refusal_in byte_limits m w c (length marks) ≡ 0
  ready-word R = not-refused m w c marks (record { good = R.good; size = R.marks-size })

  pub ready-size : Ready m w c size lent marks → size ≤ 65536
  ready-size R =
      let g = R.good in
      let a = mul-within 1 1 m w (omega arith) (omega arith) in
      let e = R.blocks-size in
      size_small (m * w) size lent (omega arith) (omega arith) R.most

  pub ready-all : Ready m w c size lent marks → lent ≡ length marks * size
  ready-all R = R.blocks-size ∙ sym (ap (λ n. n * size) R.marks-size)

  pub ready-is : word_refusal_in byte_limits m w c (length marks) ≡ 0 → (size ≡ 0 → ⊥) → length marks * size ≤ 65536 → lent ≡ length marks * size
      → excess m w c marks ≤ 2
      → Ready m w c size lent marks
  ready-is z s l e x =
      let L = groups-lent m w c marks z in
      record {
        good = L.good;
        marks-size = L.size;
        some = some size s;
        blocks-size = e ∙ ap (λ n. n * size) L.size;
        most = omega arith;
        low = x;
      }
    where
      some : (k : ℕ) → (k ≡ 0 → ⊥) → 1 ≤ k
      some zero h = absurd (h refl)
      some (suc k) h = omega arith

pub coefficients-of : (c : ℕ) (first second : List ℕ) → 1 ≤ c → ((j : ℕ) → j < 16 → get_or first j 0 ≡ coefficient byte_edition (suc (c - 1)) j)
    → ((j : ℕ) → j < 16 → get_or second j 0 ≡ raised byte_edition (coefficient byte_edition (suc (c - 1)) j) 16) → Coefficients c first second
coefficients-of c first second some a b =
    let e : suc (c - 1) ≡ c = omega arith in
    record {
      first-at = λ j l. a j l ∙ ap (λ k. coefficient byte_edition k j) e;
      second_at = λ j l. b j l ∙ ap (λ k. raised byte_edition (coefficient byte_edition k j) 16) e;
    }

-- the blocks and k rows of n constants are there
pub named-rows : (n size : ℕ) (blocks : List ℕ) (k : ℕ) (rows : List ℕ) → 1 ≤ n → n ≤ 240 → n * size ≤ length blocks → length blocks ≤ 65536 → k ≤ 2
    → k * n ≤ length rows → Named size blocks 0 n k rows
named-rows n size blocks k rows some few inside most rows_few laid = record {
  inside = subst (λ i. i * size ≤ length blocks) (sym (zero-add n)) inside;
  most = most;
  small = size_small n size (length blocks) some inside most;
  few = few;
  rows_few = omega arith;
  laid = laid;
}

-- and all blocks of a call, with one or two rows for them
pub ready-named : (m w c size : ℕ) (blocks marks : List ℕ) (k : ℕ) (rows : List ℕ) → Ready m w c size (length blocks) marks → length rows ≡ 480 → k ≤ 2
    → Named size blocks 0 (length marks) k rows
ready-named m w c size blocks marks k rows R long few =
    let p = places-most R.good in
    let g = R.good in
    let a = mul-within 1 1 m w (omega arith) (omega arith) in
    let e = R.marks-size in
    let b = ready-all m w c size (length blocks) marks R in
    let d = mul-within k (length marks) 2 240 few (omega arith) in
    named-rows (length marks) size blocks k rows (omega arith) (omega arith) (omega arith) R.most few (omega arith)
