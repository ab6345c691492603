-- Room that is cleared: its front, as long as is needed.
use mathlib.Core.Path.{◌≡◌, sym, ◌∙◌, subst}
use Prim.Native.Nat.{ℕ, ◌≤◌, ◌<◌}
use native.Mathlib.Omega.{arith}
use lib.ListN.{length, take, replicate, length-replicate, get_or-replicate}
use lib.Seq.{get_or-take, length-take-le, ext_get_or}

-- the front of a row of zeros
pub zeros : (w n : ℕ) → w ≤ n → take {A = ℕ} w (replicate n 0) ≡ replicate w 0
zeros w n l =
    ext_get_or 0 (take w (replicate n 0)) (replicate w 0) (size ∙ sym (length-replicate w 0)) λ j h.
    let b : j < w = subst (λ k. j < k) size h in
    get_or-take w (replicate n 0) j 0 b ∙ get_or-replicate n j 0 0 (omega arith) ∙ sym (get_or-replicate w j 0 0 b)
  where
    size : length (take {A = ℕ} w (replicate n 0)) ≡ w
    size = length-take-le w (replicate n 0) (subst (λ k. w ≤ k) (sym (length-replicate n 0)) l)
