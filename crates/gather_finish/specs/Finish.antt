-- What Finish answers, and what the word and the record hold then.
use Rattle.std.specs.Prelude.{◌≡◌, not, List, ℕ, zero, suc, eqb, length, Result}
use Rattle.answers.specs.declared.Refusal.{Refusal}
use Rattle.answers.specs.Answers.{mending_at, mending_number, mending_group}
use Rattle.code.specs.Refusals.{refuse, ◌or_else◌, unless_refused}
use Rattle.code.specs.Outcome.{Outcome}
use Rattle.byte_edition.specs.Edition.{byte_edition}
use Rattle.code_services.specs.Recover.{recover_in}
use Rattle.gather_record.specs.declared.Gather.{Gather}
use Rattle.gather_record.specs.Record.{gather_places, gather_bytes, gather_marks, gather_refusal}

-- 1 to 4, 6, 22; "at the finish 5 after 22"
unfoldable pub finish_refusal : ℕ → Gather → ℕ
finish_refusal size g = gather_refusal g or_else refuse 5 (not (eqb size (gather_places g)))

-- "places that never came are lost, and the answer is as recover gives"
abbrev pub gather_recovery : Gather → Outcome
gather_recovery g = recover_in byte_edition g.m g.w g.c (gather_bytes g) (gather_marks g)

-- the finished mark is set, and nothing else changes
abbrev pub closed : Gather → Gather
closed g = record { m = g.m; w = g.w; c = g.c; finished = 1; bytes = g.bytes; marks = g.marks }

-- A number given back, 0 for done, the group that a 9 carries, and the word and the record then.
pub record Finishing : Type 0 where
  pub number : ℕ
  pub group : ℕ
  pub word : List ℕ
  pub gather : Gather

-- by the refusals before 8 and 9, after which all is as it was. "A finish that meets 8 or 9 still finishes the gather, the one exception to
-- 01's rule on refusals and to demand 1's (the gather's own record alone changes), and writes no word."
abbrev pub finish_by : ℕ → List ℕ → Gather → Finishing
finish_by zero word g = record {
  number = (gather_recovery g).number;
  group = (gather_recovery g).group;
  word = unless_refused (gather_recovery g).number (gather_recovery g).word word;
  gather = closed g;
}
finish_by (suc r) word g = record { number = suc r; group = 0; word = word; gather = g }

-- the whole call
unfoldable pub finish_of : List ℕ → Gather → Finishing
finish_of word g = finish_by (finish_refusal (length word) g) word g

-- what Finish leaves and answers
pub record FinishGives (o : Finishing) (word : List ℕ) (gather : Gather) (answer : Result Unit Refusal) : Type 0 where
  pub word-is : word ≡ o.word
  pub gather-is : gather ≡ o.gather
  pub answer-is : answer ≡ mending_at o.number o.group
  pub number_is : mending_number answer ≡ o.number
  pub group-is : mending_group answer ≡ o.group
