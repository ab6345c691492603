use Rattle.std.proofs.Common.{◌≡◌, subst, ◌∙◌, rules}
use Rattle.text.specs.WrittenLaws.{written-padded}
use Rattle.text_lines.specs.WordLine.{contradictory_word_line}
use Rattle.text_lines.specs.Holds.{HoldsLine}
use Rattle.text_lines.proofs.contradictory_word.Goals as goal

pub returns-clause-whole : goal.returns-clause-whole
returns-clause-whole c = λ l.
    let e = c.put_nine-length.ensures in
    let w : c.in-Ok.word ≡ c.args.word = search rules in
    subst (λ n. HoldsLine (record { bytes = c.put_nine-length.new.out; length = c.put_nine-length.result }) (contradictory_word_line n c.args.group)) w
    (record { size = e.size; most = e.most; contents = e.out ∙ written-padded 1024 _ })
