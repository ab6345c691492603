-- A gather's history: lists of stretches and of calls, refused ones included, and what they leave.
use Rattle.std.specs.Prelude.{◌≡◌, ◌⊎◌, List, [], ◌∷◌, ℕ, zero, suc, ◌+◌, ◌<◌, length, get_or}
use Rattle.gather_record.specs.declared.Gather.{Gather}
use Rattle.gather_take.specs.Take.{take_of}
use Rattle.gather_finish.specs.Finish.{finish_of}

-- "a stretch as a first place and some bytes"
pub record Stretch : Type 0 where
  pub first : ℕ
  pub bytes : List ℕ

-- the number that a take of the stretch gives
abbrev pub take_number : Stretch → Gather → ℕ
take_number s g = (take_of s.first s.bytes g).number

-- the record that it leaves
abbrev pub leaves : Stretch → Gather → Gather
leaves s g = (take_of s.first s.bytes g).gather

-- the record after a list of stretches, the first first, each on what the one before it left
unfoldable pub after_stretches : List Stretch → Gather → Gather
after_stretches [] g = g
after_stretches (s ∷ ss) g = after_stretches ss (leaves s g)

-- "Where no stretch is refused"
unfoldable pub Unrefused : List Stretch → Gather → Type 0
Unrefused [] g = Unit
Unrefused (s ∷ ss) g = (take_number s g ≡ 0) × Unrefused ss (leaves s g)

-- the stretch, if its number is 0, before the rest
abbrev pub keep_if : ℕ → Stretch → List Stretch → List Stretch
keep_if zero s ss = s ∷ ss
keep_if (suc r) s ss = ss

-- the list without its refused stretches
unfoldable pub accepted : List Stretch → Gather → List Stretch
accepted [] g = []
accepted (s ∷ ss) g = keep_if (take_number s g) s (accepted ss (leaves s g))

-- a stretch brings byte x to place p
pub record BringsOne (p x : ℕ) (s : Stretch) : Type 0 where
  pub index : ℕ
  pub inside : index < length s.bytes
  pub place : p ≡ s.first + index
  pub byte : get_or s.bytes index 0 ≡ x

-- some stretch of a list brings byte x to place p
unfoldable pub Brings : ℕ → ℕ → List Stretch → Type 0
Brings p x [] = ⊥
Brings p x (s ∷ ss) = BringsOne p x s ⊎ Brings p x ss

-- "cutting the same bytes differently, or bringing them in another order": two lists bring the same bytes to the same places
pub record SameBrought (ss us : List Stretch) : Type 0 where
  pub forth : (p x : ℕ) → Brings p x ss → Brings p x us
  pub back : (p x : ℕ) → Brings p x us → Brings p x ss

-- The calls on a gather that has begun.
pub data GatherCall : Type 0 where
  Take : Stretch → GatherCall
  Finish : (word : List ℕ) → GatherCall

-- the number that a call gives
unfoldable pub gather_answer : GatherCall → Gather → ℕ
gather_answer (Take s) g = take_number s g
gather_answer (Finish word) g = (finish_of word g).number

-- the record that it leaves
unfoldable pub left : GatherCall → Gather → Gather
left (Take s) g = leaves s g
left (Finish word) g = (finish_of word g).gather

-- the record after a list of calls, the first first
unfoldable pub run : List GatherCall → Gather → Gather
run [] g = g
run (k ∷ ks) g = run ks (left k g)

-- every call of a list gives this number
unfoldable pub AllAnswer : ℕ → List GatherCall → Gather → Type 0
AllAnswer r [] g = Unit
AllAnswer r (k ∷ ks) g = (gather_answer k g ≡ r) × AllAnswer r ks (left k g)
