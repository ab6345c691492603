-- What owning a gather record tells of the lengths of its arrays.
use mathlib.Core.List.{List}
use mir.Val.{Val}
use denote.Laws.{Is}
use Rattle.gather_record.specs.declared.Gather.{Gather}
use Rattle.gather_record.specs.Record.{Whole}
use Rattle.gather_record.specs.contracts.Gather as G

pub whole : (g : Gather) (vs : List Val) → Is G.the_row g vs → Whole g
whole g vs p = record {
  bytes-long = p.1.1.1.1.1.1.0.1.0.1;
  marks-long = p.1.1.1.1.1.1.1.0.1.0.1;
}
