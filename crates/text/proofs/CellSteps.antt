-- What the stores of a text and of a number's digits leave, turn by turn.
use mathlib.Core.Path.{◌≡◌, sym, ap, ◌∙◌}
use mathlib.Core.List.{List, [], ◌∷◌, ◌++◌, append_assoc, append-nil}
use Prim.Native.Nat.{ℕ, suc, ◌+◌, ◌-◌, ◌/◌, ◌%◌, ◌^◌, ◌≤◌, ◌<◌}
use native.Mathlib.Omega.{arith}
use lib.ListN.{length, set, length-append}
use Rattle.text.specs.Decimal.{digits_of}
use Rattle.text.specs.DecimalLaws.{digits-one, digits-shift}
use Rattle.text.specs.Written.{written, put_at, next_at}
use Rattle.text.specs.WrittenLaws.{written-nothing, written_next, written-before, written_on, length-written, put-room}

-- a number with its digit split off
pub count-step : (rest : ℕ) → 10 ≤ rest → rest < 10 ^ 10 → length (digits_of 9 rest) ≡ length (digits_of 9 (rest / 10)) + 1
count-step rest l h = rw (digits-shift 9 rest l h, length-append)

-- the digits of x after those of rest are written, up to position i
pub record Back (out : List ℕ) (at end x : ℕ) (after : List ℕ) (i rest : ℕ) : Type 0 where
  pub tail : List ℕ
  pub digits : digits_of 9 x ≡ digits_of 9 rest ++ tail
  pub place : i ≡ at + length (digits_of 9 rest)
  pub ends : i + length tail ≡ end
  pub holds : after ≡ written out i tail
  pub small : rest < 10 ^ 10

module _ (out : List ℕ) (at end x : ℕ) (room : end ≤ length out) where
  pub back_start : x < 10 ^ 10 → end ≡ at + length (digits_of 9 x) → Back out at end x out end x
  back_start l e = record {
    tail = [];
    digits = sym (append-nil (digits_of 9 x));
    place = e;
    ends = omega arith;
    holds = sym
        (written-nothing out end);
    small = l;
  }

  module _ (after : List ℕ) (i rest : ℕ) (b : Back out at end x after i rest) where
    pub back-same : length after ≡ length out
    back-same = let e = b.ends in ap length b.holds ∙ length-written out i b.tail (omega arith)

    pub back_more : 10 ≤ rest → (at < i) × Back out at end x (set after (i - 1) (48 + rest % 10)) (i - 1) (rest / 10)
    back_more l =
        let k = b.small in
        let n = count-step rest l k in
        let p = b.place in
        let e = b.ends in
        let s : suc (i - 1) ≡ i = omega arith in (
          omega arith,
          record {
            tail = (48 + rest % 10) ∷ b.tail;
            digits = b.digits ∙ rw (digits-shift 9 rest l k, append_assoc);
            place = omega arith;
            ends = omega arith;
            small = omega arith;
            holds =
                rw b.holds
                (ap (λ k. set (written out k b.tail) (i - 1) (48 + rest % 10)) (sym s)
                ∙ written-before out (i - 1) (48 + rest % 10) b.tail (omega arith));
          },
        )

    pub back_last : rest < 10 → (at < length after) × (set after at (48 + rest) ≡ written out at (digits_of 9 x))
    back_last l =
        let d = digits-one 9 rest l in
        let p : i ≡ at + 1 = b.place ∙ ap (λ t. at + length t) d in
        let e = b.ends in
        let s : suc at ≡ i = omega arith in
        let n = back-same in (
          omega arith,
          rw (b.holds, b.digits, d)
              (ap (λ k. set (written out k b.tail) at (48 + rest)) (sym s) ∙ written-before out at (48 + rest) b.tail (omega arith)),
        )

-- a tab and the digits after it
pub number_put : (out tabbed after : List ℕ) (at x : ℕ) → at + 1 + length (digits_of 9 x) ≤ length out → tabbed ≡ set out at 9
    → after ≡ written tabbed (at + 1) (digits_of 9 x)
    → (at + 1 + length (digits_of 9 x) ≡ next_at out at (9 ∷ digits_of 9 x)) × (after ≡ put_at out at (9 ∷ digits_of 9 x))
number_put out tabbed after at x h t e =
    let room = put-room out at (9 ∷ digits_of 9 x) (omega arith) in
    let one : set out at 9 ≡ written out at (9 ∷ []) =
    ap (λ o. set o at 9) (sym (written-nothing out at)) ∙ written_next out at [] at 9 (omega arith) (omega arith) in (
      omega (arith, room.0),
      e ∙ rw (t, one) (written_on out at (9 ∷ []) (digits_of 9 x) (omega arith)) ∙ sym room.1,
    )
