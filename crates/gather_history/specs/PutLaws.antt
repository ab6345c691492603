-- A stretch put into a list: what each place holds then.
use Rattle.std.specs.Prelude.{◌≡◌, List, ◌++◌, ℕ, ◌+◌, ◌-◌, ◌<◌, ◌≤◌, take}
use Rattle.std.proofs.Common.{sym, ◌∙◌, arith, length-append, length-take-le, get_or-drop}
use Rattle.std.proofs.Math.Path.{ap}
use Rattle.std.proofs.Math.ListN.{length, drop, get_or, length-drop, get_or-append}
use Rattle.std.proofs.Math.Seq.{get_or-take, get_or-append-add}
use Rattle.gather_take.specs.Take.{put_at}

module _ (first : ℕ) (part xs : List ℕ) (fits : first + length part ≤ length xs) where
  before-long : length (take first xs) ≡ first
  before-long = length-take-le first xs (omega arith)

  pub put-length : length (put_at first part xs) ≡ length xs
  unfolding put_at
  put-length = simp (length-append, length-drop, before-long) (omega arith)

  -- from the first place on stands the part, and then what stood after it
  from : (i : ℕ) → get_or (put_at first part xs) (first + i) 0 ≡ get_or (part ++ drop (first + length part) xs) i 0
  unfolding put_at
  from i =
      ap (λ n. get_or (take first xs ++ (part ++ drop (first + length part) xs)) (n + i) 0) (sym before-long)
      ∙ get_or-append-add (take first xs) (part ++ drop (first + length part) xs) i 0

  pub put_in : (i : ℕ) → i < length part → get_or (put_at first part xs) (first + i) 0 ≡ get_or part i 0
  put_in i l = from i ∙ get_or-append part (drop (first + length part) xs) 0 i l

  pub put-below : (p : ℕ) → p < first → get_or (put_at first part xs) p 0 ≡ get_or xs p 0
  unfolding put_at
  put-below p l =
      get_or-append (take first xs) (part ++ drop (first + length part) xs) 0 p (omega (arith, before-long)) ∙ get_or-take first xs p 0 l

  pub put-above : (p : ℕ) → first + length part ≤ p → get_or (put_at first part xs) p 0 ≡ get_or xs p 0
  put-above p l =
      let i = p - (first + length part) in
      let e : p ≡ first + (length part + i) = omega arith in
      let d : first + length part + i ≡ p = omega arith in
      ap (λ n. get_or (put_at first part xs) n 0) e ∙ from (length part + i) ∙ get_or-append-add part (drop (first + length part) xs) i 0
      ∙ get_or-drop (first + length part) xs i 0 ∙ ap (λ n. get_or xs n 0) d
