-- What block rebuild means, in the words of Recover. It is stated of rebuild_of, with which the contract of block_rebuild::rebuild is an equation.
use Rattle.std.specs.Prelude.{◌≡◌, ◌↔◌, List, ℕ, ◌*◌, ◌<◌, length, get_or, replicate}
use Rattle.shape.specs.Shapes.{byte_limits}
use Rattle.code.specs.Limits.{place_count, data_count, GoodIn}
use Rattle.byte_edition.specs.Edition.{byte_edition}
use Rattle.code_services.specs.Places.{placed_of, check_marks}
use Rattle.code.specs.Outcome.{Outcome}
use Rattle.code_services.specs.Judge.{judged_number_in}
use Rattle.code_services.specs.Encode.{encoded_in}
use Rattle.block_rebuild.specs.Columns.{block_word}
use Rattle.block_rebuild.specs.Rebuild.{RebuildOutcome, word_outcome, rebuild_of}

module _ (m w c size : ℕ) (blocks marks : List ℕ) where
  -- what Recover answers for word x
  abbrev pub number_at : ℕ → ℕ
  number_at x = (word_outcome m w c size blocks marks x).number

  -- the answer, and blocks and marks at the end of the call
  abbrev pub rebuild_end : RebuildOutcome
  rebuild_end = rebuild_of m w c size blocks marks

  -- x is the lowest word that gets 9, the words below it can be recovered, and g is "request 4's group for it"
  pub record LowestWord (x g : ℕ) : Type 0 where
    pub inside : x < size
    pub nine : number_at x ≡ 9
    pub group : g ≡ (word_outcome m w c size blocks marks x).group
    pub below : (y : ℕ) → y < x → number_at y ≡ 0

  -- of a call that is not refused 1 to 6 or 27
  pub record Rebuilds : Type 0 where
    -- 8 exactly if Judge says 8
    pub eight : (rebuild_end.number ≡ 8) ↔ (judged_number_in byte_limits m w c marks ≡ 8)
    -- else 9 exactly if some word gets 9; "the answer on contradiction carries the lowest such x and request 4's group for it"
    pub nine : rebuild_end.number ≡ 9 → LowestWord rebuild_end.word rebuild_end.group
    pub nine-of : judged_number_in byte_limits m w c marks ≡ 0 → (x : ℕ) → x < size → number_at x ≡ 9 → rebuild_end.number ≡ 9
    -- else done: Recover mends every word, each by itself, and each stands in the blocks as Recover leaves it
    pub done-of : judged_number_in byte_limits m w c marks ≡ 0 → ((x : ℕ) → x < size → number_at x ≡ 0) → rebuild_end.number ≡ 0
    pub each : rebuild_end.number ≡ 0 → (x : ℕ) → x < size → (number_at x ≡ 0)
        × (block_word (place_count m w) size rebuild_end.blocks x ≡ (word_outcome m w c size blocks marks x).word)
    pub long : length rebuild_end.blocks ≡ length blocks
    pub clear : rebuild_end.number ≡ 0 → rebuild_end.marks ≡ replicate (length marks) 0
    -- "or changes nothing"
    pub kept : ¬ (rebuild_end.number ≡ 0) → (rebuild_end.blocks ≡ blocks) × (rebuild_end.marks ≡ marks)

-- blocks of length 1 are one word, and a rebuild of them is its recovery
abbrev pub as_rebuild : Outcome → RebuildOutcome
as_rebuild o = record { number = o.number; word = 0; group = o.group; blocks = o.word; marks = o.marks }

-- data in the data places of every word, to be encoded by a rebuild with the check places marked
pub record Batch (m w c size : ℕ) (blocks : List ℕ) (carried : ℕ → List ℕ) : Type 0 where
  pub good : GoodIn byte_limits m w c
  pub some : 0 < size
  pub long : length blocks ≡ place_count m w * size
  pub sizes : (x : ℕ) → x < size → length (carried x) ≡ data_count m w c
  pub small : (x i : ℕ) → x < size → get_or (carried x) i 0 < 256
  pub placed : (x : ℕ) → x < size → block_word (place_count m w) size blocks x ≡ placed_of m w c (carried x)

-- it is done, and every word is the one that Encode gives for its data
pub record BatchEncoded (m w c size : ℕ) (blocks : List ℕ) (carried : ℕ → List ℕ) : Type 0 where
  pub done : (rebuild_of m w c size blocks (check_marks m w c)).number ≡ 0
  pub each : (x : ℕ) → x < size → block_word (place_count m w) size (rebuild_of m w c size blocks (check_marks m w c)).blocks x
      ≡ encoded_in byte_edition m w c (carried x)
