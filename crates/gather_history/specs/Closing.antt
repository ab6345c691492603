-- What holds of a gather that has finished, and of one that these calls alone have made.
use Rattle.std.specs.Prelude.{◌≡◌, ◌↔◌, ◌⊎◌, List, ℕ, length}
use Rattle.shape.specs.Shapes.{byte_limits}
use Rattle.code.specs.Limits.{GoodIn}
use Rattle.code_services.specs.Judge.{judged_number_in}
use Rattle.gather_record.specs.declared.Gather.{Gather}
use Rattle.gather_record.specs.Record.{Whole, gather_marks, gather_refusal, begun, begin_of}
use Rattle.gather_take.specs.Take.{take_of}
use Rattle.gather_finish.specs.Finish.{finish_refusal, closed, Finishing, finish_of}
use Rattle.gather_history.specs.History.{GatherCall, run, AllAnswer}

-- "A finished gather takes no more": every take and every finish gets 22 and leaves it as it is, in any list of calls
abbrev pub ClosedHolds : Type 0
ClosedHolds = (g : Gather) → gather_refusal g ≡ 22 → (ks : List GatherCall) → (run ks g ≡ g) × AllAnswer 22 ks g

-- a finish that is not refused by 1 to 4, 6, 22 or 5 finishes the gather: one that is done, and "a finish that meets 8 or 9" too
abbrev pub FinishesHolds : Type 0
FinishesHolds = (g : Gather) (word : List ℕ) → finish_refusal (length word) g ≡ 0 → gather_refusal (finish_of word g).gather ≡ 22

-- a gather that has begun with a good shape is never refused 1 to 4 or 6: it is open, or it is finished
abbrev pub GrownHolds : Type 0
GrownHolds =
    (m w c : ℕ) → GoodIn byte_limits m w c → (ks : List GatherCall) → (gather_refusal (run ks (begun m w c)) ≡ 0) ⊎ (gather_refusal (run ks (begun m w c)) ≡ 22)

-- What a finish leaves, by its number. Done, it sets the finished mark. "A finish that meets 8 or 9 still finishes the gather [..] (the gather's
-- own record alone changes), and writes no word." Any other refusal changes nothing.
pub record FinishLeaves (o : Finishing) (lent : List ℕ) (g : Gather) : Type 0 where
  pub done : o.number ≡ 0 → o.gather ≡ closed g
  pub exception : (o.number ≡ 8) ⊎ (o.number ≡ 9) → (o.gather ≡ closed g) × (o.word ≡ lent)
  pub refused : (o.number ≡ 0 → ⊥) → (o.number ≡ 8 → ⊥) → (o.number ≡ 9 → ⊥) → (o.gather ≡ g) × (o.word ≡ lent)

-- "a refused stretch changes nothing", nor does a refused begin; and what every finish leaves
abbrev pub RefusalsHold : Type 0
RefusalsHold =
    (g : Gather) → ((m w c : ℕ) → ((begin_of m w c g).number ≡ 0 → ⊥) → (begin_of m w c g).gather ≡ g)
    × ((first : ℕ) (bytes : List ℕ) → ((take_of first bytes g).number ≡ 0 → ⊥) → (take_of first bytes g).gather ≡ g)
    × (Whole g → (word : List ℕ) → FinishLeaves (finish_of word g) word g)

-- Judge, asked with the record's own marks, tells beforehand whether a finish meets 8
abbrev pub JudgeHolds : Type 0
JudgeHolds =
    (g : Gather) → Whole g → (word : List ℕ) → finish_refusal (length word) g ≡ 0
    → ((finish_of word g).number ≡ 8) ↔ (judged_number_in byte_limits g.m g.w g.c (gather_marks g) ≡ 8)
