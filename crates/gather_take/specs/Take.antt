-- What Take answers, and the record then.
use Rattle.std.specs.Prelude.{Bool, not, List, ◌++◌, ℕ, ◌+◌, ltb, length, take, drop, replicate}
use Rattle.counting.specs.Test.{any_below}
use Rattle.code.specs.Marks.{lost}
use Rattle.code.specs.Refusals.{refuse, ◌or_else◌}
use Rattle.gather_record.specs.declared.Gather.{Gather}
use Rattle.gather_record.specs.Record.{gather_places, gather_refusal, Gathering, gathering_by}

-- some place of a stretch came before: its mark says not lost
unfoldable pub some_came : List ℕ → ℕ → ℕ → Bool
some_came marks first count = any_below count (λ i. not (lost marks (first + i)))

-- after 1 to 4, 6 and 22: "23 stretch ends beyond n, 24 a place came before"
unfoldable pub take_refusal : ℕ → ℕ → Gather → ℕ
take_refusal first count g =
    gather_refusal g
    or_else refuse 23 (ltb (gather_places g) (first + count))
    or_else refuse 24 (some_came g.marks first count)

-- a list with another stretch from a first place on
unfoldable pub put_at : ℕ → List ℕ → List ℕ → List ℕ
put_at first part xs = take first xs ++ (part ++ drop (first + length part) xs)

-- the bytes stand in their places, which came; nothing else changes
unfoldable pub taken : ℕ → List ℕ → Gather → Gather
taken first bytes g = record {
  m = g.m;
  w = g.w;
  c = g.c;
  finished = g.finished;
  bytes = put_at first bytes g.bytes;
  marks = put_at first (replicate (length bytes) 0) g.marks;
}

-- "take a stretch as a first place and some bytes, none being allowed"; "a refused stretch changes nothing"
unfoldable pub take_of : ℕ → List ℕ → Gather → Gathering
take_of first bytes g = gathering_by (take_refusal first (length bytes) g) (taken first bytes g) g
