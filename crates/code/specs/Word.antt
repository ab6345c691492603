-- A word of m groups of w places, and when it is a codeword. The place j of group g is the place g·w + j of the word.
use Rattle.std.specs.Prelude.{◌≡◌, Bool, ◌&&◌, List, ℕ, suc, ◌+◌, ◌*◌, ◌<◌, ◌^◌, T, eqb, length, get_or}
use Rattle.counting.specs.Test.{all_below}
use Rattle.binary_field.specs.Xor.{◌⊕◌}
use Rattle.binary_field.specs.Sum.{sum_below}
use Rattle.code.specs.Edition.{Edition, times, raised}

module _ (E : Edition) where
  -- "With a the locator of place j, let b = a^c + 2·a^(c+1)."
  unfoldable pub coefficient : ℕ → ℕ → ℕ
  coefficient c j = raised E (E.locator j) c ⊕ times E 2 (raised E (E.locator j) (suc c))

  -- the coefficient of place j of group g in the second sum across, 2^g·b^q
  unfoldable pub second_coefficient : ℕ → ℕ → ℕ → ℕ
  second_coefficient c g j = times E (raised E 2 g) (raised E (coefficient c j) E.small)

  -- the sum over the places of group g of byte·h j
  unfoldable pub group_sum : ℕ → List ℕ → ℕ → (ℕ → ℕ) → ℕ
  group_sum w word g h = sum_below w (λ j. times E (get_or word (g * w + j) 0) (h j))

  -- "for each group and each e from 0 to c−1, the sum over its places of byte·a^e"
  abbrev pub local_sum : ℕ → List ℕ → ℕ → ℕ → ℕ
  local_sum w word g e = group_sum w word g (λ j. raised E (E.locator j) e)

  -- a sum over all places, of byte times the coefficient of its group and place
  unfoldable pub word_sum : ℕ → ℕ → List ℕ → (ℕ → ℕ → ℕ) → ℕ
  word_sum m w word h = sum_below m (λ g. group_sum w word g (h g))

  -- "the sum over all places of byte·b"
  abbrev pub first_across : ℕ → ℕ → ℕ → List ℕ → ℕ
  first_across m w c word = word_sum m w word (λ _. coefficient c)

  -- "the sum over all places, in group i counted from 0, of byte·2^i·b^16"; b to the small field's size, so b^256 in the sixteen-bit edition
  abbrev pub second_across : ℕ → ℕ → ℕ → List ℕ → ℕ
  second_across m w c word = word_sum m w word (second_coefficient c)

  -- the first v local sums of group g are zero
  unfoldable pub is_local : ℕ → ℕ → List ℕ → ℕ → Bool
  is_local w v word g = all_below v (λ e. eqb (local_sum w word g e) 0)

  -- "A word is a codeword if all of these are zero"
  unfoldable pub is_codeword : ℕ → ℕ → ℕ → List ℕ → Bool
  is_codeword m w c word = all_below m (is_local w c word) && (eqb (first_across m w c word) 0 && eqb (second_across m w c word) 0)

  -- a word of n symbols
  pub record Symbols (n : ℕ) (word : List ℕ) : Type 0 where
    pub size : length word ≡ n
    pub each : (p : ℕ) → get_or word p 0 < 2 ^ E.bits

  -- a word of symbols that passes the test
  pub record Codeword (m w c : ℕ) (word : List ℕ) : Type 0 where
    pub symbols : Symbols (m * w) word
    pub zero : T (is_codeword m w c word)

  module _ (m w c : ℕ) (word : List ℕ) where
    -- the equations of a codeword, one by one
    pub record Equations : Type 0 where
      pub locals : (g : ℕ) → g < m → (e : ℕ) → e < c → local_sum w word g e ≡ 0
      pub first : first_across m w c word ≡ 0
      pub second : second_across m w c word ≡ 0
