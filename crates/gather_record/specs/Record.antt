-- The record of a gather: a shape, the bytes that came, 01's marks with what has not come as lost, and whether it is finished. And Begin.
use Rattle.std.specs.Prelude.{◌≡◌, not, List, ℕ, zero, suc, eqb, ltb, length, take, replicate, Result}
use Rattle.answers.specs.declared.Refusal.{Refusal}
use Rattle.answers.specs.Answers.{answer_number}
use Rattle.code.specs.Refusals.{refuse, ◌or_else◌}
use Rattle.shape.specs.Shapes.{byte_limits}
use Rattle.code.specs.Limits.{place_count, shape_refusal_in}
use Rattle.code_services.specs.Marks.{are_marks}
use Rattle.gather_record.specs.declared.Gather.{Gather}

-- n of the record's shape
abbrev pub gather_places : Gather → ℕ
gather_places g = place_count g.m g.w

-- the record's n bytes; what stands past them doesn't matter
abbrev pub gather_bytes : Gather → List ℕ
gather_bytes g = take (gather_places g) g.bytes

-- the record's n marks: "places that never came are lost", 1; a place that came is 0
abbrev pub gather_marks : Gather → List ℕ
gather_marks g = take (gather_places g) g.marks

-- the lengths of a record's arrays
pub record Whole (g : Gather) : Type 0 where
  pub bytes-long : length g.bytes ≡ 240
  pub marks-long : length g.marks ≡ 240

-- "a bad gather record included: 1 to 4, 6": its shape; then a mark, or the finished byte, that is neither 0 nor 1. Then 22, "gather finished".
unfoldable pub gather_refusal : Gather → ℕ
gather_refusal g =
    shape_refusal_in byte_limits g.m g.w g.c
    or_else refuse 6 (not (are_marks (gather_marks g)))
    or_else refuse 6 (ltb 1 g.finished)
    or_else refuse 22 (eqb g.finished 1)

-- "Begin with a shape": nothing came, and it is not finished; every byte of the record is set
unfoldable pub begun : ℕ → ℕ → ℕ → Gather
begun m w c = record { m = m; w = w; c = c; finished = 0; bytes = replicate 240 0; marks = replicate 240 1 }

-- A number given back, 0 for done, and the record then.
pub record Gathering : Type 0 where
  pub number : ℕ
  pub gather : Gather

-- by its number: the record anew, or as it was
abbrev pub gathering_by : ℕ → Gather → Gather → Gathering
gathering_by zero new old = record { number = 0; gather = new }
gathering_by (suc r) new old = record { number = suc r; gather = old }

-- Begin: 1 to 4
unfoldable pub begin_of : ℕ → ℕ → ℕ → Gather → Gathering
begin_of m w c g = gathering_by (shape_refusal_in byte_limits m w c) (begun m w c) g

-- what Begin and Take leave and answer; by its type no refusal has the number of done
pub record GatherGives (o : Gathering) (gather : Gather) (answer : Result Unit Refusal) : Type 0 where
  pub gather-is : gather ≡ o.gather
  pub number_is : answer_number answer ≡ o.number
