use Rattle.std.proofs.Common.{◌≡◌, ℕ, ◌+◌, ◌-◌, ◌*◌, ◌≤◌, ◌<◌, mul-le-mul_left, arith, eq-eqb, ne_eqb, lt-ltb, le-ltb}
use Rattle.code.specs.Limits.{Limits, shape_refusal_in}
use Rattle.shape.proofs.shape_refusal.Goals as goal

-- the tests in turn
module _ (L : Limits) (m w c : ℕ) where
  no-groups : m ≡ 0 → 1 ≡ shape_refusal_in L m w c
  unfolding shape_refusal_in
  no-groups h = simp (eq-eqb m 0 h)

  module _ (some : m ≡ 0 → ⊥) where
    many-groups : L.groups < m → 1 ≡ shape_refusal_in L m w c
    unfolding shape_refusal_in
    many-groups h = simp (ne_eqb m 0 some, lt-ltb L.groups m h)

    module _ (few : m ≤ L.groups) where
      no-checks : c ≡ 0 → 2 ≡ shape_refusal_in L m w c
      unfolding shape_refusal_in
      no-checks h = simp (ne_eqb m 0 some, le-ltb L.groups m few, eq-eqb c 0 h)

      module _ (checked : c ≡ 0 → ⊥) where
        many-checks : L.checks < c → 2 ≡ shape_refusal_in L m w c
        unfolding shape_refusal_in
        many-checks h = simp (ne_eqb m 0 some, le-ltb L.groups m few, ne_eqb c 0 checked, lt-ltb L.checks c h)

        module _ (few-checks : c ≤ L.checks) where
          too-narrow : w < c + 2 → 3 ≡ shape_refusal_in L m w c
          unfolding shape_refusal_in
          too-narrow h = simp (ne_eqb m 0 some, le-ltb L.groups m few, ne_eqb c 0 checked, le-ltb L.checks c few-checks, lt-ltb w (c + 2) h)

          module _ (wide : c + 2 ≤ w) where
            too-wide : L.width < w → 3 ≡ shape_refusal_in L m w c
            unfolding shape_refusal_in
            too-wide h =
                simp (
                  ne_eqb m 0 some,
                  le-ltb L.groups m few,
                  ne_eqb c 0 checked,
                  le-ltb L.checks c few-checks,
                  le-ltb w (c + 2) wide,
                  lt-ltb L.width w h,
                )

            module _ (narrow : w ≤ L.width) where
              no-data : m * (w - c) ≤ 2 → 4 ≡ shape_refusal_in L m w c
              unfolding shape_refusal_in
              no-data h =
                  let z : m * (w - c) - 2 ≡ 0 = omega arith in
                  simp (
                    ne_eqb m 0 some,
                    le-ltb L.groups m few,
                    ne_eqb c 0 checked,
                    le-ltb L.checks c few-checks,
                    le-ltb w (c + 2) wide,
                    le-ltb L.width w narrow,
                    eq-eqb (m * (w - c) - 2) 0 z,
                  )

              module _ (room : 2 < m * (w - c)) where
                some-data : m * (w - c) - 2 ≡ 0 → ⊥
                some-data e = omega arith

                many-places : L.places < m * w → 26 ≡ shape_refusal_in L m w c
                unfolding shape_refusal_in
                many-places h =
                    simp (
                      ne_eqb m 0 some,
                      le-ltb L.groups m few,
                      ne_eqb c 0 checked,
                      le-ltb L.checks c few-checks,
                      le-ltb w (c + 2) wide,
                      le-ltb L.width w narrow,
                      ne_eqb (m * (w - c) - 2) 0 some-data,
                      lt-ltb L.places (m * w) h,
                    )

                good : m * w ≤ L.places → 0 ≡ shape_refusal_in L m w c
                unfolding shape_refusal_in
                good h =
                    simp (
                      ne_eqb m 0 some,
                      le-ltb L.groups m few,
                      ne_eqb c 0 checked,
                      le-ltb L.checks c few-checks,
                      le-ltb w (c + 2) wide,
                      le-ltb L.width w narrow,
                      ne_eqb (m * (w - c) - 2) 0 some-data,
                      le-ltb L.places (m * w) h,
                    )

pub returns-then-m-eq0 : goal.returns-then-m-eq0
returns-then-m-eq0 g c =
    let a = c.args in
    let e = g.E.Edition in
    no-groups e.limits a.m a.w a.c c.if-m-eq0.true

pub returns-then-MAX_GROUPS-m : goal.returns-then-MAX_GROUPS-m
returns-then-MAX_GROUPS-m g c =
    let a = c.args in
    let e = g.E.Edition in
    many-groups e.limits a.m a.w a.c c.if-m-eq0.false (omega (arith, e.groups))

pub returns-then-c-eq0 : goal.returns-then-c-eq0
returns-then-c-eq0 g c =
    let a = c.args in
    let e = g.E.Edition in
    no-checks e.limits a.m a.w a.c c.if-m-eq0.false (omega (arith, e.groups)) c.if-c-eq0.true

pub returns-then-MAX_CHECKS-c : goal.returns-then-MAX_CHECKS-c
returns-then-MAX_CHECKS-c g c =
    let a = c.args in
    let e = g.E.Edition in
    many-checks e.limits a.m a.w a.c c.if-m-eq0.false (omega (arith, e.groups)) c.if-c-eq0.false (omega (arith, e.checks))

pub overflow_add-c : goal.overflow_add-c
overflow_add-c g c = omega (arith, g.E.Edition.checks, g.E.Edition.few_checks)

pub returns-then-w-c : goal.returns-then-w-c
returns-then-w-c g c =
    let a = c.args in
    let e = g.E.Edition in
    too-narrow e.limits a.m a.w a.c c.if-m-eq0.false (omega (arith, e.groups)) c.if-c-eq0.false (omega (arith, e.checks)) c.if-w-c.true

pub returns-then-MAX_WIDTH-w : goal.returns-then-MAX_WIDTH-w
returns-then-MAX_WIDTH-w g c =
    let a = c.args in
    let e = g.E.Edition in
    too-wide e.limits a.m a.w a.c c.if-m-eq0.false (omega (arith, e.groups)) c.if-c-eq0.false (omega (arith, e.checks)) c.if-w-c.false (omega (arith, e.width))

pub overflow_mul-m : goal.overflow_mul-m
overflow_mul-m g c =
    let a = c.args in
    let e = g.E.Edition in
    let l : a.m * (a.w - a.c) ≤ a.m * 256 = mul-le-mul_left a.m (omega (arith, e.width, e.narrow)) in
    omega (arith, e.groups, e.few_groups)

pub returns-then-m-w-le2 : goal.returns-then-m-w-le2
returns-then-m-w-le2 g c =
    let a = c.args in
    let e = g.E.Edition in
    no-data e.limits a.m a.w a.c c.if-m-eq0.false (omega (arith, e.groups)) c.if-c-eq0.false (omega (arith, e.checks)) c.if-w-c.false
    (omega (arith, e.width)) c.if-m-w-le2.true

pub overflow_mul-m-2 : goal.overflow_mul-m-2
overflow_mul-m-2 g c =
    let a = c.args in
    let e = g.E.Edition in
    let l : a.m * a.w ≤ a.m * 256 = mul-le-mul_left a.m (omega (arith, e.width, e.narrow)) in
    omega (arith, e.groups, e.few_groups)

pub returns-then-MAX_PLACES-m : goal.returns-then-MAX_PLACES-m
returns-then-MAX_PLACES-m g c =
    let a = c.args in
    let e = g.E.Edition in
    many-places e.limits a.m a.w a.c c.if-m-eq0.false (omega (arith, e.groups)) c.if-c-eq0.false (omega (arith, e.checks)) c.if-w-c.false
    (omega (arith, e.width)) c.if-m-w-le2.false (omega (arith, e.places))

pub returns : goal.returns
returns g c =
    let a = c.args in
    let e = g.E.Edition in
    good e.limits a.m a.w a.c c.if-m-eq0.false (omega (arith, e.groups)) c.if-c-eq0.false (omega (arith, e.checks)) c.if-w-c.false
    (omega (arith, e.width)) c.if-m-w-le2.false (omega (arith, e.places))
