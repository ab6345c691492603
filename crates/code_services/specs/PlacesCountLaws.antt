-- How many numbers below a bound are at least w with c added.
use Rattle.std.specs.Prelude.{◌≡◌, ℕ, zero, suc, ◌+◌, ◌-◌, ◌≤◌, ◌<◌, leb}
use Rattle.std.proofs.Common.{sym, arith, le-leb}
use Rattle.std.proofs.Math.Nat.{zero-sub}
use Rattle.std.proofs.Math.Decide.{dec_le}
use Rattle.std.proofs.lemmas.Bool.{lt-leb}
use Rattle.counting.specs.Count.{total_below, count_below}

pub count-from : (w c n : ℕ) → count_below n (λ j. leb w (j + c)) ≡ n - (w - c)
unfolding total_below
count-from w c zero = sym (zero-sub (w - c))
count-from w c (suc n) = go (count-from w c n) (dec_le w (n + c))
  where
    go : count_below n (λ j. leb w (j + c)) ≡ n - (w - c) → Dec (w ≤ n + c) → count_below (suc n) (λ j. leb w (j + c)) ≡ suc n - (w - c)
    go e (yes h) = rw (le-leb w (n + c) h) (omega arith)
    go e (no h) = let l : n + c < w = omega arith in rw (lt-leb w (n + c) l) (omega arith)
