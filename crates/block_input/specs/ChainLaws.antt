-- One line after the other: a refusal, or what comes after the line.
use Rattle.std.specs.Prelude.{◌≡◌, Bool, false, cond, ◌||◌, List, [], ◌++◌, ltb, length, take}
use Rattle.std.proofs.Math.Path.{refl, ap}
use Rattle.std.proofs.Common.{sym, ◌∙◌, subst, append-nil, arith, ltb-true}
use Rattle.std.proofs.Math.Bool.{true}
use Prim.Native.Nat.{ℕ, zero, suc, ◌+◌, ◌-◌, ◌≤◌, ◌<◌}
use Rattle.std.proofs.Math.Decide.{dec_lt}
use Rattle.code.specs.Refusals.{◌or_else◌}
use Rattle.text.specs.Lines.{refused_line}
use Rattle.block_input.specs.Lines.{until_line_feed, after_line, has_feed, settled}
use Rattle.block_input.specs.Output.{output_unless}
use Rattle.block_input.specs.LineLaws.{cut_line, cut-after, cut-long, more-line, more-after, more-long}

-- two refusals, the first first
pub unless-twice : (a b : ℕ) (output : List ℕ) → output_unless (a or_else b) output ≡ output_unless a (output_unless b output)
unless-twice zero b output = refl
unless-twice (suc a) b output = refl

-- A line with its refusal, which is 14 for a line of more than 1,024 bytes, and what is written after it.
module _ (refusal : List ℕ → ℕ) (long : (line : List ℕ) → 1024 < length line → refusal line ≡ 14) (next : List ℕ → List ℕ → List ℕ) where
  abbrev pub on_line : List ℕ → List ℕ
  on_line input = output_unless (refusal (until_line_feed input)) (next (until_line_feed input) (after_line input))

  both_long : (xs ys : List ℕ) → 1024 < length (until_line_feed xs) → 1024 < length (until_line_feed ys) → on_line xs ≡ on_line ys
  both_long xs ys p q = rw (long (until_line_feed xs) p, long (until_line_feed ys) q)

  -- the front of an input, where what comes after the line needs no more than b bytes
  pub on-cut : (b : ℕ) → ((line : List ℕ) (k : ℕ) (rest : List ℕ) → b ≤ k → next line (take k rest) ≡ next line rest)
      → (n : ℕ) (input : List ℕ) → b + 1025 ≤ n → on_line (take n input) ≡ on_line input
  on-cut b same n input l = elim (dec_lt (length (until_line_feed input)) n) [
    | no h ↦ (let e = cut-long n input (omega arith) in both_long (take n input) input (omega arith) (omega arith))
    | yes h ↦
        (rw (cut_line n input h, cut-after n input h)
        (go (until_line_feed input) (refusal (until_line_feed input)) refl))
  ]
    where
      go : (line : List ℕ) (r : ℕ) → refusal line ≡ r
          → output_unless r (next line (take (n - suc (length line)) (after_line input))) ≡ output_unless r (next line (after_line input))
      go line (suc r) e = refl
      go line zero e = elim (dec_lt 1024 (length line)) [
        | yes k ↦ absurd (let z : ◌≡◌ {A = ℕ} 14 0 = sym (long line k) ∙ e in omega arith)
        | no k ↦ same line (n - suc (length line)) (after_line input) (omega arith)
      ]

  -- an input that goes on, where a refusal of the settled lines is final
  pub on-more : (early : List ℕ → List ℕ → ℕ) (q : ℕ) (ys : List ℕ)
      → ((line rest : List ℕ) → early line rest ≡ suc q → next line (rest ++ ys) ≡ refused_line (suc q))
      → (xs : List ℕ) → cond (settled false xs) (refusal (until_line_feed xs) or_else early (until_line_feed xs) (after_line xs)) 0 ≡ suc q
      → on_line (xs ++ ys) ≡ refused_line (suc q)
  unfolding settled
  on-more early q ys final xs = go (has_feed xs) refl (ltb 1024 (length xs)) refl
    where
      fed : has_feed xs ≡ true → (r : ℕ) → refusal (until_line_feed xs) ≡ r → (r or_else early (until_line_feed xs) (after_line xs)) ≡ suc q
          → output_unless r (next (until_line_feed xs) (after_line xs ++ ys)) ≡ refused_line (suc q)
      fed h zero e d = final (until_line_feed xs) (after_line xs) d
      fed h (suc r) e d = ap refused_line d

      alone : has_feed xs ≡ false → 1024 < length xs → (refusal (until_line_feed xs) or_else early (until_line_feed xs) (after_line xs)) ≡ suc q
          → on_line (xs ++ ys) ≡ refused_line (suc q)
      alone h l d =
          let k = more-long xs ys h in
          let o : length xs ≤ length (until_line_feed (xs ++ [])) = more-long xs [] h in
          let p : 1024 < length (until_line_feed xs) = subst (λ zs. 1024 < length (until_line_feed zs)) (append-nil xs) (omega arith) in
          let e : 14 ≡ suc q = ap (λ r. r or_else early (until_line_feed xs) (after_line xs)) (sym (long (until_line_feed xs) p)) ∙ d in
          rw (long (until_line_feed (xs ++ ys)) (omega arith)) (ap refused_line e)

      go : (f : Bool) → has_feed xs ≡ f → (l : Bool) → ltb 1024 (length xs) ≡ l
          → cond (f || l) (refusal (until_line_feed xs) or_else early (until_line_feed xs) (after_line xs)) 0 ≡ suc q
          → on_line (xs ++ ys) ≡ refused_line (suc q)
      go true h l k d = rw (more-line xs ys h, more-after xs ys h) (fed h (refusal (until_line_feed xs)) refl d)
      go false h true k d = alone h (ltb-true 1024 (length xs) k) d
      go false h false k d = absurd (omega arith)
