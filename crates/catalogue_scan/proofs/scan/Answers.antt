use Rattle.std.proofs.Common.{Option, List, ℕ, length, take, length-take-le, ◌≤◌, ◌<◌, ◌⊎◌, inl, inr, arith, ◌≡◌, sym, ap, ◌∙◌, subst}
use Rattle.catalogue_scan.specs.declared.Head.{Head}
use Rattle.catalogue_scan.specs.Places.{read_head}
use Rattle.catalogue_scan.specs.ScanLaws.{scan-endless, scan-headless, head-size, lines-bad, scan-gone, scan-found}
use Rattle.text.specs.Fields.{end_of}
use Rattle.catalogue_scan.proofs.scan.Goals as goal

-- the first line ends at the first line feed
headed : (text : List ℕ) (end : ℕ) (head h : Option Head) → end ≡ end_of 10 0 text → head ≡ read_head (take end text) → head ≡ h
    → read_head (take (end_of 10 0 text) text) ≡ h
headed text end head h e is was = sym (is ∙ ap (λ x. read_head (take x text)) e) ∙ was

inner : (text : List ℕ) (end : ℕ) → end ≡ end_of 10 0 text → end < length text → end_of 10 0 text < length text
inner text end e l = subst (λ x. x < length text) e l

-- version 1 has no gone line
none : (version top : ℕ) → ((version ≡ 1) × (top ≡ 0)) ⊎ (version ≡ 1 → ⊥) → version ≡ 1 → top ≡ 0
none version top (inl e) v = e.1
none version top (inr n) v = absurd (n v)

pub returns-then-text-end : goal.returns-then-text-end
returns-then-text-end c =
    let a = c.args in
    let text = a.text.now in
    let p = c.part_end-end in
    sym (scan-endless text a.name.now (subst (λ x. length text ≤ x) p.ensures.end c.if-text-end.true))

pub slice_bounds-read_head-end : goal.slice_bounds-read_head-end
slice_bounds-read_head-end c =
    sym (length-take-le c.part_end-end.result c.args.text.now (omega arith))

pub returns-in_err-head : goal.returns-in_err-head
returns-in_err-head c =
    let a = c.args in
    let e = c.part_end-end.ensures.end in
    c.from_residual.ensures ∙ sym (scan-headless a.text.now a.name.now (headed a.text.now _ _ _ e c.read_head.ensures c.in_err-head.was))

pub scan_lines-requires : goal.scan_lines-requires
scan_lines-requires c =
    let a = c.args in
    let e = c.part_end-end.ensures.end in
    head-size a.text.now a.name.now (inner a.text.now _ e c.if-text-end.false) _ (headed a.text.now _ _ _ e c.read_head.ensures c.in_ok-head.was)

pub returns-in_err-found : goal.returns-in_err-found
returns-in_err-found c =
    let a = c.args in
    let e = c.part_end-end.ensures.end in
    c.from_residual-in_err-found.ensures
    ∙ sym (lines-bad a.text.now a.name.now (inner a.text.now _ e c.if-text-end.false) _ (headed a.text.now _ _ _ e c.read_head.ensures c.in_ok-head.was)
    (sym c.scan_lines.ensures ∙ c.in_err-found.was))

pub returns-then-found-ne0 : goal.returns-then-found-ne0
returns-then-found-ne0 c =
    let a = c.args in
    let e = c.part_end-end.ensures.end in
    sym (scan-gone a.text.now a.name.now (inner a.text.now _ e c.if-text-end.false) _ (headed a.text.now _ _ _ e c.read_head.ensures c.in_ok-head.was)
    c.in_ok-found.found (sym c.scan_lines.ensures ∙ c.in_ok-found.was) c.if-head-eq1.true c.if-found-ne0.true)

pub returns : goal.returns
returns c =
    let a = c.args in
    let e = c.part_end-end.ensures.end in
    scan-found a.text.now a.name.now (inner a.text.now _ e c.if-text-end.false) _ (headed a.text.now _ _ _ e c.read_head.ensures c.in_ok-head.was)
    c.in_ok-found.found (sym c.scan_lines.ensures ∙ c.in_ok-found.was) (none _ _ c.else-head-eq1.either)
