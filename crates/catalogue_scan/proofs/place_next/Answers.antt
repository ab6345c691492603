use Rattle.std.proofs.Common.{false, ◌≡◌, sym, ◌∙◌}
use Rattle.catalogue_scan.specs.PlacesLaws.{next-before, next-same, next-after}
use Rattle.catalogue_text.specs.Names.{before}
use Rattle.catalogue_text.specs.Catalogue.{Entry}
use Rattle.catalogue_scan.proofs.place_next.Goals as goal

pub returns-then-is_before : goal.returns-then-is_before
returns-then-is_before c =
    let entry : Entry =
    let a = c.args in
    record { name = a.named.now; revision = a.line.revision; m = a.line.m; w = a.line.w; c = a.line.c } in
    let a = c.args in
    c.place_at.ensures ∙ sym (next-before a.name.now a.at a.next entry a.place (sym c.is_before.ensures ∙ c.if-is_before.true))

pub returns-then-is_same : goal.returns-then-is_same
returns-then-is_same c =
    let entry : Entry =
    let a = c.args in
    record { name = a.named.now; revision = a.line.revision; m = a.line.m; w = a.line.w; c = a.line.c } in
    let later : before entry.name c.args.name.now ≡ false = sym c.is_before.ensures ∙ c.if-is_before.false in
    let a = c.args in
    sym (next-same a.name.now a.at a.next entry a.place later (sym c.is_same.ensures ∙ c.if-is_same.true))

pub returns : goal.returns
returns c =
    let entry : Entry =
    let a = c.args in
    record { name = a.named.now; revision = a.line.revision; m = a.line.m; w = a.line.w; c = a.line.c } in
    let later : before entry.name c.args.name.now ≡ false = sym c.is_before.ensures ∙ c.if-is_before.false in
    let a = c.args in
    sym (next-after a.name.now a.at a.next entry a.place later (sym c.is_same.ensures ∙ c.if-is_same.false))
