use Rattle.std.proofs.Common.{◌≡◌, refl, sym, ap, ◌∙◌, subst, ◌+◌, ◌-◌, ◌<◌, ◌≤◌, arith, length, get_or}
use Rattle.profile.specs.Search.{found_in, NoneSmaller, found_at}
use Rattle.counting.specs.SetsLaws.{sets-found}
use Rattle.profile.specs.SearchLaws.{too_many, none-wanted, some-wanted, taken, passed, smaller-taken, smaller-passed, not-needed}
use Rattle.profile.specs.SearchLaws.{found-set, shows_first, found_nothing}
use Rattle.profile.proofs.+search.Goals as goal
use Rattle.profile.proofs.+search.Goals.{then-size-gt0+then-out-more+in_default, else-size-gt0, else-size-gt0-via-then-size-gt0+else-out-more}
use Rattle.profile.proofs.+search.Goals.{else-size-gt0-via-else-size-gt0}
use Rattle.std.proofs.Math.Option.{none}
use Rattle.std.specs.Prelude.{Some}

pub returns-then-out-gt2 : goal.returns-then-out-gt2
returns-then-out-gt2 t c =
    let a = c.args in
    sym (ap found_at (too_many a.counts.now a.w a.size a.left a.out c.if-out-gt2.true))

pub returns-then-size-eq0 : goal.returns-then-size-eq0
returns-then-size-eq0 t c =
    let a = c.args in
    ap Some c.no_places.ensures
    ∙ sym (ap found_at (none-wanted a.counts.now a.w a.size a.left a.out c.if-size-eq0.true c.if-left-eq0.true c.if-out-gt2.false))

pub returns-then-left-eq0 : goal.returns-then-left-eq0
returns-then-left-eq0 t c =
    let a = c.args in
    sym (ap found_at (some-wanted a.counts.now a.w a.size a.left a.out c.if-size-eq0.false c.if-left-eq0.true))

pub search-requires : goal.search-requires
search-requires t c =
    let a = c.args in
    let n = smaller-taken a.counts.now a.w a.size a.left a.out (omega arith) c.requires.w_bound.1 c.requires.none_smaller in
    (omega arith, ((omega arith, omega arith, omega arith), n))

pub with_first-requires : goal.with_first-requires
with_first-requires t c =
    let a = c.args in
    let o = found_in a.counts.now a.w (a.size - 1) (a.left - 1) a.out in
    let i = found-set o c.in-Some.s (sym c.in-Some.is ∙ c.search.ensures) in
    let l : length i.s ≡ a.size - 1 = (sets-found _ (a.size - 1) _ _ _ refl i.s i.found).1 in
    let e = ap (λ p. p.count) i.shows in
    (omega arith, omega arith)

pub returns-in-Some : goal.returns-in-Some
returns-in-Some t c =
    let a = c.args in
    let o = found_in a.counts.now a.w (a.size - 1) (a.left - 1) a.out in
    let i = found-set o c.in-Some.s (sym c.in-Some.is ∙ c.search.ensures) in
    ap Some (shows_first (a.w - a.left) i.s c.in-Some.s c.with_first.result i.shows c.with_first.ensures)
    ∙ sym (ap found_at (taken a.counts.now a.w a.size a.left a.out (omega arith) (omega arith) c.requires.w_bound.1 i.s i.found))

pub search-requires-2 : goal.search-requires-2
search-requires-2 t c =
    let a = c.args in
    let e : get_or a.counts.now (a.w - a.left) 0 ≡ c.from.result = sym c.from.ensures in (
      omega arith,
      (
        (omega arith, omega arith, omega arith),
        subst (λ n. NoneSmaller a.counts.now a.w a.size (a.left - 1) (a.out + n)) e
            (smaller-passed a.counts.now a.w a.size a.left a.out (omega arith) c.requires.w_bound.1 c.requires.none_smaller),
      ),
    )

pub returns-in-Some-search : goal.returns-in-Some-search
returns-in-Some-search t c =
    let a = c.args in
    let z = not-needed a.counts.now a.w a.size a.left a.out (omega arith) c.requires.w_bound.1 c.requires.none_smaller in
    let none-lost : a.out + c.from.result ≤ a.out → get_or a.counts.now (a.w - a.left) 0 ≡ 0 = λ l. let e = c.from.ensures in omega arith in
    let p : 0 < a.size → found_in a.counts.now a.w (a.size - 1) (a.left - 1) a.out ≡ none =
    elim c.if-size-gt0.branch [
      | then-size-gt0+then-out-more+in_default w ↦ (λ _. found_nothing _ (sym w.in_default.is ∙ w.search.ensures))
      | else-size-gt0 w ↦ (elim w.else-size-gt0.branch [
        | else-size-gt0-via-then-size-gt0+else-out-more v ↦ z (none-lost v.if-out-more.false)
        | else-size-gt0-via-else-size-gt0 v ↦ (λ l. absurd (omega (arith, v.if-size-gt0.false)))
      ])
    ] in
    let n = passed a.counts.now a.w a.size a.left a.out (omega arith) c.requires.w_bound.1 p in
    sym c.in-Some-search.is ∙ c.search-2.ensures ∙ ap (λ n. found_at (found_in a.counts.now a.w a.size (a.left - 1) (a.out + n))) c.from.ensures ∙ sym (ap found_at n)

pub returns-in-None : goal.returns-in-None
returns-in-None t c =
    let a = c.args in
    let z = not-needed a.counts.now a.w a.size a.left a.out (omega arith) c.requires.w_bound.1 c.requires.none_smaller in
    let none-lost : a.out + c.from.result ≤ a.out → get_or a.counts.now (a.w - a.left) 0 ≡ 0 = λ l. let e = c.from.ensures in omega arith in
    let p : 0 < a.size → found_in a.counts.now a.w (a.size - 1) (a.left - 1) a.out ≡ none =
    elim c.if-size-gt0.branch [
      | then-size-gt0+then-out-more+in_default w ↦ (λ _. found_nothing _ (sym w.in_default.is ∙ w.search.ensures))
      | else-size-gt0 w ↦ (elim w.else-size-gt0.branch [
        | else-size-gt0-via-then-size-gt0+else-out-more v ↦ z (none-lost v.if-out-more.false)
        | else-size-gt0-via-else-size-gt0 v ↦ (λ l. absurd (omega (arith, v.if-size-gt0.false)))
      ])
    ] in
    let n = passed a.counts.now a.w a.size a.left a.out (omega arith) c.requires.w_bound.1 p in
    sym c.in-None.is ∙ c.search-2.ensures ∙ ap (λ n. found_at (found_in a.counts.now a.w a.size (a.left - 1) (a.out + n))) c.from.ensures ∙ sym (ap found_at n)
