-- The line that is written is that of the failure.
use Rattle.std.proofs.Common.{sym, ap, ◌∙◌, subst, ◌<◌, Err}
use Rattle.std.specs.Io.KnownBytes.{Appends}
use Rattle.text.specs.Lines.{refused_line}
use Rattle.block_rebuild.specs.Rebuild.{rebuilt_word}
use Rattle.block_input.specs.Output.{rebuilt_output}
use Rattle.rebuild.specs.Runs.{WritesFront}
use Rattle.rebuild.proofs.refuse_blocks.Goals as goal

pub returns-in-Contradictory-clause-all : goal.returns-in-Contradictory-clause-all
returns-in-Contradictory-clause-all g c = λ t held.
    subst (Appends _ _) (ap (λ f. rebuilt_output (Err f) held) (sym c.in-Contradictory.is))
    (c.refuse.ensures.all t _ (c.contradictory_word.ensures.whole (subst (λ f. rebuilt_word (Err f) < 4294967296) c.in-Contradictory.is c.requires)))

pub returns-in-Contradictory-clause-front : goal.returns-in-Contradictory-clause-front
returns-in-Contradictory-clause-front g c = λ held.
    subst (WritesFront _ _) (ap (λ f. rebuilt_output (Err f) held) (sym c.in-Contradictory.is))
    (c.refuse.ensures.front _ (c.contradictory_word.ensures.whole (subst (λ f. rebuilt_word (Err f) < 4294967296) c.in-Contradictory.is c.requires)))

pub returns-in-Refused-clause-all : goal.returns-in-Refused-clause-all
returns-in-Refused-clause-all g c = λ t held.
    subst (Appends _ _) (ap refused_line c.number-number.ensures ∙ ap (λ f. rebuilt_output (Err f) held) (sym c.in-Refused.is))
    (c.refuse-in-Refused.ensures.all t _ c.refused.ensures)

pub returns-in-Refused-clause-front : goal.returns-in-Refused-clause-front
returns-in-Refused-clause-front g c = λ held.
    subst (WritesFront _ _) (ap refused_line c.number-number.ensures ∙ ap (λ f. rebuilt_output (Err f) held) (sym c.in-Refused.is))
    (c.refuse-in-Refused.ensures.front _ c.refused.ensures)
