-- What holds of a gather whatever the cuts and the order of its stretches.
use Rattle.std.specs.Prelude.{◌≡◌, false, List, ℕ, ◌*◌, ◌<◌, length, get_or}
use Rattle.shape.specs.Shapes.{byte_limits}
use Rattle.code.specs.Marks.{lost}
use Rattle.code.specs.Outcome.{Outcome}
use Rattle.code.specs.Limits.{GoodIn}
use Rattle.byte_edition.specs.Edition.{byte_edition}
use Rattle.code_services.specs.Recover.{recover_in}
use Rattle.gather_record.specs.declared.Gather.{Gather}
use Rattle.gather_record.specs.Record.{Whole, gather_places, begun}
use Rattle.gather_finish.specs.Finish.{Finishing, finish_of}
use Rattle.gather_history.specs.History.{Stretch, after_stretches, Unrefused, accepted, Brings, SameBrought}

-- The record after stretches none of which is refused is given by the places and bytes that came, and by nothing else.
pub record Gathered (ss : List Stretch) (before now : Gather) : Type 0 where
  pub m-same : now.m ≡ before.m
  pub w-same : now.w ≡ before.w
  pub c-same : now.c ≡ before.c
  pub finished-same : now.finished ≡ before.finished
  pub whole : Whole now
  -- a place that came holds its byte and is marked present
  pub came : (p x : ℕ) → Brings p x ss → (get_or now.bytes p 0 ≡ x) × (get_or now.marks p 0 ≡ 0)
  -- any other place is as it was
  pub other : (p : ℕ) → ((x : ℕ) → Brings p x ss → ⊥) → (get_or now.bytes p 0 ≡ get_or before.bytes p 0) × (get_or now.marks p 0 ≡ get_or before.marks p 0)

-- the statement, of every record
abbrev pub GatheredHolds : Type 0
GatheredHolds = (ss : List Stretch) (g : Gather) → Whole g → Unrefused ss g → Gathered ss g (after_stretches ss g)

-- "Where no stretch is refused, cutting the same bytes differently, or bringing them in another order, gives the same": the very same record, and
-- so the same number, group and word at the finish
abbrev pub StretchOrderHolds : Type 0
StretchOrderHolds =
    (ss us : List Stretch) (g : Gather) → Whole g → Unrefused ss g → Unrefused us g → SameBrought ss us
    → (after_stretches ss g ≡ after_stretches us g) × ((word : List ℕ) → finish_of word (after_stretches ss g) ≡ finish_of word (after_stretches us g))

-- "a refused stretch changes nothing": a list leaves what it leaves without its refused stretches, of which none is refused then
abbrev pub RefusedHolds : Type 0
RefusedHolds = (ss : List Stretch) (g : Gather) → (after_stretches ss g ≡ after_stretches (accepted ss g) g) × Unrefused (accepted ss g) g

-- A word and marks hold what came: the bytes at their places, "places that never came are lost".
pub record HoldsStretches (n : ℕ) (ss : List Stretch) (word marks : List ℕ) : Type 0 where
  pub word_size : length word ≡ n
  pub marks-size : length marks ≡ n
  pub came : (p x : ℕ) → Brings p x ss → (get_or word p 0 ≡ x) × (get_or marks p 0 ≡ 0)
  pub never : (p : ℕ) → p < n → ((x : ℕ) → Brings p x ss → ⊥) → get_or marks p 0 ≡ 1

-- "the answer is as recover gives": the same number and group and, where done, the same word; else the lent word stays. The gather is finished.
pub record FinishesAs (o : Finishing) (lent : List ℕ) (r : Outcome) : Type 0 where
  pub number : o.number ≡ r.number
  pub group : o.group ≡ r.group
  pub word : o.number ≡ 0 → o.word ≡ r.word
  pub kept : (o.number ≡ 0 → ⊥) → o.word ≡ lent
  pub closed : o.gather.finished ≡ 1

-- "at the end, places that never came are lost, and the answer is as recover gives"; whatever stands in `word` at the places that never came
abbrev pub FinishHolds : Type 0
FinishHolds =
    (m w c : ℕ) → GoodIn byte_limits m w c → (ss : List Stretch) → Unrefused ss (begun m w c) → (word marks : List ℕ) → HoldsStretches (m * w) ss word marks
    → (lent : List ℕ) → length lent ≡ m * w → FinishesAs (finish_of lent (after_stretches ss (begun m w c))) lent (recover_in byte_edition m w c word marks)

-- "a refused stretch changes nothing": in any list, refused stretches among the others, what came is what those that are not refused brought
abbrev pub FinishAmongHolds : Type 0
FinishAmongHolds =
    (m w c : ℕ) → GoodIn byte_limits m w c → (ss : List Stretch) (word marks : List ℕ) → HoldsStretches (m * w) (accepted ss (begun m w c)) word marks
    → (lent : List ℕ) → length lent ≡ m * w → FinishesAs (finish_of lent (after_stretches ss (begun m w c))) lent (recover_in byte_edition m w c word marks)

-- two finishes give the same number, group and word, and finish the gather or not alike
pub record Alike (a b : Finishing) : Type 0 where
  pub number : a.number ≡ b.number
  pub group : a.group ≡ b.group
  pub word : a.word ≡ b.word
  pub closed : a.gather.finished ≡ b.gather.finished

-- The bytes that stand in places that never came have no effect: a record with others there finishes alike.
abbrev pub IdleHolds : Type 0
IdleHolds =
    (g : Gather) (others : List ℕ) → Whole g → length others ≡ 240
    → ((p : ℕ) → p < gather_places g → lost g.marks p ≡ false → get_or g.bytes p 0 ≡ get_or others p 0) → (word : List ℕ)
    → Alike (finish_of word g) (finish_of word (record { m = g.m; w = g.w; c = g.c; finished = g.finished; bytes = others; marks = g.marks }))
