-- The laws of the kept bytes of a line, and of bytes that come in parts.
use Rattle.std.specs.Prelude.{◌≡◌, refl, Bool, true, false, cond, List, [], ◌∷◌, ◌++◌, ℕ, zero, suc, ◌<◌, eqb, length, take}
use Rattle.std.proofs.Common.{sym, ap, ◌∙◌, append_assoc, arith, take_all, length-take-le}
use Rattle.std.proofs.Math.Decide.{dec_le}
use Rattle.text.specs.RecordLaws.{kind-long}
use Rattle.text_session.specs.Turn.{Turn, refused_turn, record_turn, turn_of}
use Rattle.text_stream.specs.Points.{Point, onward, turn_at, longer, next, after_bytes, said, adds, unless_empty, closing, kept_point}

-- ---- a line that is too long is answered 14, whatever it holds
turn-long : (line : List ℕ) (m w c : ℕ) → 1024 < length line → turn_of line m w c ≡ refused_turn 14 m w c
unfolding turn_of record_turn
turn-long line m w c l = rw (kind-long line l)

pub turn-cut : (line : List ℕ) (m w c : ℕ) → turn_of (take 1025 line) m w c ≡ turn_of line m w c
turn-cut line m w c = elim (dec_le (length line) 1025) [
  | yes h ↦ ap (λ l. turn_of l m w c) (take_all 1025 line h)
  | no h ↦
      (let k : length (take 1025 line) ≡ 1025 = length-take-le 1025 line (omega arith) in
      turn-long (take 1025 line) m w c (omega arith) ∙ sym (turn-long line m w c (omega arith)))
]

cut_on : (n : ℕ) (xs ys : List ℕ) → take n (take n xs ++ ys) ≡ take n (xs ++ ys)
cut_on zero xs ys = refl
cut_on (suc n) [] ys = refl
cut_on (suc n) (x ∷ xs) ys = ap (λ l. x ∷ l) (cut_on n xs ys)

-- ---- so the kept bytes serve for the whole line
pub said-kept : (p : Point) (x : ℕ) → said (kept_point p) x ≡ said p x
unfolding said kept_point
said-kept p x = ap (λ (t : Turn). cond (eqb x 10) t.output []) (turn-cut p.line p.m p.w p.c)

pub next-kept : (p : Point) (x : ℕ) → kept_point (next (kept_point p) x) ≡ kept_point (next p x)
unfolding next kept_point
next-kept p x = go (eqb x 10)
  where
    go : (b : Bool)
        → kept_point (cond b (onward (turn_at (kept_point p))) (longer (kept_point p) x)) ≡ kept_point (cond b (onward (turn_at p)) (longer p x))
    go true = ap (λ (t : Turn). kept_point (onward t)) (turn-cut p.line p.m p.w p.c)
    go false = ap (λ l. record { line = l; m = p.m; w = p.w; c = p.c }) (cut_on 1025 p.line (x ∷ []))

pub kept-kept : (p : Point) → kept_point (kept_point p) ≡ kept_point p
unfolding kept_point
kept-kept p = ap (λ l. record { line = l; m = p.m; w = p.w; c = p.c }) (go 1025 p.line)
  where
    go : (n : ℕ) (xs : List ℕ) → take n (take n xs) ≡ take n xs
    go zero xs = refl
    go (suc n) [] = refl
    go (suc n) (x ∷ xs) = ap (λ l. x ∷ l) (go n xs)

pub closing-kept : (p : Point) → closing (kept_point p) ≡ closing p
unfolding closing kept_point
closing-kept p = go p.line (turn-cut p.line p.m p.w p.c)
  where
    go : (line : List ℕ) → turn_of (take 1025 line) p.m p.w p.c ≡ turn_of line p.m p.w p.c
        → unless_empty (take 1025 line) (turn_of (take 1025 line) p.m p.w p.c).output ≡ unless_empty line (turn_of line p.m p.w p.c).output
    go [] e = refl
    go (x ∷ line) e = ap (λ (t : Turn). t.output) e

-- two points of which the same is kept go on alike
pub kept-after : (p q : Point) (xs : List ℕ) → kept_point p ≡ kept_point q → kept_point (after_bytes p xs) ≡ kept_point (after_bytes q xs)
unfolding after_bytes
kept-after p q [] e = e
kept-after p q (x ∷ xs) e =
    kept-after (next p x) (next q x) xs (sym (next-kept p x) ∙ ap (λ r. kept_point (next r x)) e ∙ next-kept q x)

pub kept-adds : (p q : Point) (xs : List ℕ) → kept_point p ≡ kept_point q → adds p xs ≡ adds q xs
unfolding adds
kept-adds p q [] e = refl
kept-adds p q (x ∷ xs) e =
    let s : said p x ≡ said q x = sym (said-kept p x) ∙ ap (λ r. said r x) e ∙ said-kept q x in
    let n : kept_point (next p x) ≡ kept_point (next q x) = sym (next-kept p x) ∙ ap (λ r. kept_point (next r x)) e ∙ next-kept q x in
    rw (s, kept-adds (next p x) (next q x) xs n)

-- ---- bytes in parts
pub after-append : (p : Point) (xs ys : List ℕ) → after_bytes p (xs ++ ys) ≡ after_bytes (after_bytes p xs) ys
unfolding after_bytes
after-append p [] ys = refl
after-append p (x ∷ xs) ys = after-append (next p x) xs ys

pub adds-append : (p : Point) (xs ys : List ℕ) → adds p (xs ++ ys) ≡ adds p xs ++ adds (after_bytes p xs) ys
unfolding adds after_bytes
adds-append p [] ys = refl
adds-append p (x ∷ xs) ys = rw (adds-append (next p x) xs ys, append_assoc)
