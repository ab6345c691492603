use Rattle.std.proofs.Common.{true, false, ◌≡◌, sym, ◌∙◌}
use Rattle.catalogue_lines.specs.ReadingLaws.{name-taken, line-unnamed, read-gone, read-rest}
use Rattle.catalogue_text.specs.Names.{good_name}
use Rattle.text.specs.Records.{line_name}
use Rattle.catalogue_lines.proofs.read_line.Goals as goal

pub returns-then-not-is_name : goal.returns-then-not-is_name
returns-then-not-is_name c =
    let line = c.args.line.now in
    let p = c.part_end-size.ensures.end in
    let r = c.is_name in
    let e = c.if-not-is_name.true in
    let n : good_name (line_name line) ≡ false = cc (name-taken line, r.ensures) in
    sym (line-unnamed line n)

pub returns-then-is_gone : goal.returns-then-is_gone
returns-then-is_gone c =
    let line = c.args.line.now in
    let p = c.part_end-size in
    let v = c.field_after-revision in
    let g = c.is_gone in
    let size = p.ensures.end in
    let r = c.is_name in
    let e = c.if-not-is_name.false in
    let named : good_name (line_name line) ≡ true = cc (name-taken line, r.ensures) in
    c.gone_if.ensures ∙ sym (read-gone line p.result v.result size v.ensures.value named (sym g.ensures ∙ c.if-is_gone.true))

pub returns-then-c-line : goal.returns-then-c-line
returns-then-c-line c =
    let line = c.args.line.now in
    let p = c.part_end-size in
    let v = c.field_after-revision in
    let size = p.ensures.end in
    let r = c.is_name in
    let e = c.if-not-is_name.false in
    let named : good_name (line_name line) ≡ true = cc (name-taken line, r.ensures) in
    let rest = read-rest line p.result v.result size v.ensures.value (sym c.is_gone.ensures ∙ c.if-is_gone.false) _ _ _
    c.field_after-m.ensures.value c.field_after-w.ensures.value c.field_after-c.ensures.value named in
    sym (rest.0 c.if-c-line.true)

pub returns : goal.returns
returns c =
    let line = c.args.line.now in
    let p = c.part_end-size in
    let v = c.field_after-revision in
    let size = p.ensures.end in
    let r = c.is_name in
    let e = c.if-not-is_name.false in
    let named : good_name (line_name line) ≡ true = cc (name-taken line, r.ensures) in
    let rest = read-rest line p.result v.result size v.ensures.value (sym c.is_gone.ensures ∙ c.if-is_gone.false) _ _ _
    c.field_after-m.ensures.value c.field_after-w.ensures.value c.field_after-c.ensures.value named in
    c.line_if.ensures ∙ sym (rest.1 c.if-c-line.false)
