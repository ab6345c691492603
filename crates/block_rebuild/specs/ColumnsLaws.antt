-- Laws: Blocks of equal length laid end to end, and the words that they make.
use Rattle.std.specs.Prelude.{◌≡◌, List, ℕ, suc, ◌+◌, ◌*◌, ◌/◌, ◌%◌, ◌≤◌, ◌<◌, length, get_or}
use Rattle.std.proofs.Common.{sym, ap, ap₂, ◌∙◌, div-add-mod', mod-lt, div-lt_iff_lt-mul, suc-mul, mul-le-mul_right, arith, ext_get_or}
use Rattle.std.proofs.Math.Arith.{digits_div, digits_mod}
use Rattle.code.specs.Determined.{list_of}
use Rattle.code.specs.DeterminedLaws.{list_length, list_at}
use Rattle.block_rebuild.specs.Columns.{block_word, blocks_of}

-- a list is that of its elements
pub list-is : (xs : List ℕ) (n : ℕ) (f : ℕ → ℕ) → length xs ≡ n → ((i : ℕ) → i < n → get_or xs i 0 ≡ f i) → xs ≡ list_of n f
list-is xs n f size same =
    ext_get_or 0 xs (list_of n f) (size ∙ sym (list_length n f)) (λ i l. same i (omega arith) ∙ sym (list_at n f i (omega arith)))

-- ---- words
pub word-length : (n size : ℕ) (blocks : List ℕ) (x : ℕ) → length (block_word n size blocks x) ≡ n
unfolding block_word
word-length n size blocks x = list_length n _

pub word_at : (n size : ℕ) (blocks : List ℕ) (x p : ℕ) → p < n → get_or (block_word n size blocks x) p 0 ≡ get_or blocks (p * size + x) 0
unfolding block_word
word_at n size blocks x p l = list_at n _ p l

pub word-is : (n size : ℕ) (blocks : List ℕ) (x : ℕ) (word : List ℕ) → length word ≡ n → ((p : ℕ) → p < n → get_or word p 0 ≡ get_or blocks (p * size + x) 0)
    → word ≡ block_word n size blocks x
unfolding block_word
word-is n size blocks x word long same = list-is word n _ long same

-- the place of byte x of block p stands inside the blocks
pub place_inside : {n p size x : ℕ} → p < n → x < size → p * size + x < n * size
place_inside {n} {p} {size} {x} l h =
    let e : suc p * size ≡ p * size + size = suc-mul p size in
    let k : suc p * size ≤ n * size = mul-le-mul_right size l in
    omega arith

-- the words of the blocks that words make
pub word-of-blocks : (n size : ℕ) (words : ℕ → List ℕ) (x : ℕ) → x < size → length (words x) ≡ n → block_word n size (blocks_of n size words) x ≡ words x
unfolding block_word blocks_of
word-of-blocks n size words x h long =
    sym (list-is (words x) n _ long λ p l.
    sym (list_at (n * size) _ (p * size + x) (place_inside l h) ∙ ap₂ (λ a b. get_or (words a) b 0) (digits_mod p h) (digits_div p h)))

-- blocks are determined by their words
pub blocks-are : (n size : ℕ) (blocks : List ℕ) (words : ℕ → List ℕ) → 0 < size → length blocks ≡ n * size
    → ((x : ℕ) → x < size → block_word n size blocks x ≡ words x) → blocks ≡ blocks_of n size words
unfolding blocks_of
blocks-are n size blocks words some long same = list-is blocks (n * size) _ long λ i l.
    let d : i / size < n = (div-lt_iff_lt-mul some).1 l in
    let r : i % size < size = mod-lt i some in
    ap (λ k. get_or blocks k 0) (sym (div-add-mod' i size)) ∙ sym (word_at n size blocks (i % size) (i / size) d)
    ∙ ap (λ w. get_or w (i / size) 0) (same (i % size) r)
