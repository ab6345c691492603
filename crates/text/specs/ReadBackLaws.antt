-- Laws: What is printed reads back as what was meant.
use Rattle.std.specs.Prelude.{◌≡◌, refl, Bool, true, false, cond, List, [], ◌∷◌, ◌++◌, map, ℕ, suc, ◌+◌, ◌*◌, ◌%◌, ◌/◌, ◌≤◌, ◌<◌, T, length, replicate}
use Rattle.std.proofs.Common.{sym, ap₂, ◌∙◌, append_assoc, mod-eq_of_lt, arith, le-leb, lt-ltb, length-append}
use Rattle.std.proofs.Math.Path.{ap}
use Rattle.std.proofs.lemmas.List.{append_cancel_right}
use Rattle.std.proofs.Math.Nat.{div-eq_of_lt}
use Rattle.text.specs.Decimal.{digits_of, decimal, number_of, without}
use Rattle.text.specs.DecimalLaws.{digits-of-number, number-never, without-append, number-of-digits, digits-most, digits-without}
use Rattle.text.specs.Fields.{fields, same, lost_place, meaning, up_to, later}
use Rattle.text.specs.FieldLaws.{parts-front, same-eq, meaning-of-number}
use Rattle.text.specs.Records.{word_name, name_kind, line_name, contents, all_under, line_kind, line_bytes, line_marks}
use Rattle.text.specs.Lines.{cells_of, cells, line_with, line_of}
use Rattle.text.specs.ReadBack.{Bytes}

pub meaning-decimal : (b : ℕ) → b < 256 → meaning (decimal b) ≡ b
meaning-decimal b l = let n = number-of-digits 2 256 b (omega arith) l in meaning-of-number (decimal b) (omega arith) ∙ n

-- a field means a number only if it is that number's text, and a lost place only if it is -
pub number-only : (xs : List ℕ) → meaning xs < 256 → decimal (meaning xs) ≡ xs
unfolding meaning
number-only xs = go (same xs (45 ∷ []))
  where
    go : (b : Bool) → cond b lost_place (number_of 256 xs) < 256 → decimal (cond b lost_place (number_of 256 xs)) ≡ xs
    go true l = absurd (omega arith)
    go false l = digits-of-number 2 256 xs (omega arith) l

pub lost-only : (xs : List ℕ) → meaning xs ≡ lost_place → xs ≡ 45 ∷ []
unfolding meaning
lost-only xs = go (same xs (45 ∷ [])) refl
  where
    go : (b : Bool) → same xs (45 ∷ []) ≡ b → cond b lost_place (number_of 256 xs) ≡ lost_place → xs ≡ 45 ∷ []
    go true s e = same-eq xs (45 ∷ []) s
    go false s e = absurd (number-never 256 (omega arith) xs e)

meanings-back : (word : List ℕ) → Bytes word → map meaning (map decimal word) ≡ word
meanings-back [] h = refl
meanings-back (b ∷ word) h = ap₂ ◌∷◌ (meaning-decimal b (h 0)) (meanings-back word (λ i. h (suc i)))

-- the fields of a line
pub fields_back : (more : ℕ) (f numbers : List ℕ) → T (without 9 f) → fields (f ++ cells_of more numbers) ≡ f ∷ map (digits_of more) numbers
unfolding cells_of up_to later
fields_back more f [] t = parts-front 9 f [] t refl
fields_back more f (b ∷ numbers) t =
    parts-front 9 f (9 ∷ (digits_of more b ++ cells_of more numbers)) t refl
    ∙ ap (λ fs. f ∷ fs) (fields_back more (digits_of more b) numbers (digits-without 9 more b (omega arith)))

pub cells-most : (more : ℕ) (xs : List ℕ) → length (cells_of more xs) ≤ (more + 2) * length xs
unfolding cells_of
cells-most more [] = omega arith
cells-most more (x ∷ xs) = simp length-append (omega (arith, digits-most more x, cells-most more xs))

all_under_lem : (bound : ℕ) → 256 ≤ bound → (word : List ℕ) → Bytes word → all_under bound word ≡ true
unfolding all_under
all_under_lem bound l [] h = refl
all_under_lem bound l (b ∷ word) h = let k = h 0 in rw (lt-ltb b bound (omega arith)) (all_under_lem bound l word (λ i. h (suc i)))

module _ (name word : List ℕ) (t : T (without 9 name)) (h : Bytes word) where
  pub name_back : line_name (name ++ cells word) ≡ name
  unfolding line_name
  name_back = rw (fields_back 2 name word t)

  pub contents-back : contents (name ++ cells word) ≡ word
  unfolding contents
  contents-back = rw (fields_back 2 name word t) (meanings-back word h)

word-kind : (line word : List ℕ) → line_name line ≡ word_name → contents line ≡ word → length line ≤ 1024 → Bytes word → line_kind line ≡ 3
unfolding line_kind name_kind same
word-kind line word n e l h = rw (n, e, le-leb (length line) 1024 l, all_under_lem 257 (omega arith) word h)

bytes_same : (word : List ℕ) → Bytes word → map (λ v. v % 256) word ≡ word
bytes_same [] h = refl
bytes_same (b ∷ word) h = ap₂ ◌∷◌ (mod-eq_of_lt (h 0)) (bytes_same word (λ i. h (suc i)))

marks-none : (word : List ℕ) → Bytes word → map (λ v. v / 256) word ≡ replicate (length word) 0
marks-none [] h = refl
marks-none (b ∷ word) h = ap₂ ◌∷◌ (div-eq_of_lt (h 0)) (marks-none word (λ i. h (suc i)))

module _ (word : List ℕ) (h : Bytes word) where
  -- a printed word of at most 240 bytes is read as a word record with these bytes and nothing lost
  pub word_back : length word ≤ 240 → line_kind (word_name ++ cells word) ≡ 3
  unfolding without
  word_back l =
      let k = cells-most 2 word in
      word-kind (word_name ++ cells word) word (name_back word_name word tt h) (contents-back word_name word tt h) (omega arith) h

  pub bytes_back : line_bytes (word_name ++ cells word) ≡ word
  unfolding line_bytes without
  bytes_back = ap (map (λ v. v % 256)) (contents-back word_name word tt h) ∙ bytes_same word h

  pub marks-back : line_marks (word_name ++ cells word) ≡ replicate (length word) 0
  unfolding line_marks without
  marks-back = ap (map (λ v. v / 256)) (contents-back word_name word tt h) ∙ marks-none word h

pub line-parts : (more : ℕ) (name numbers : List ℕ) → line_with more name numbers ≡ (name ++ cells_of more numbers) ++ (10 ∷ [])
unfolding line_with
line-parts more name numbers = sym (append_assoc name (cells_of more numbers) (10 ∷ []))

-- two printed lines of one name are the same only if their numbers are
pub numbers-same : (name xs ys : List ℕ) → T (without 9 name) → Bytes xs → Bytes ys → line_of name xs ≡ line_of name ys → xs ≡ ys
numbers-same name xs ys t h k e =
    let b : name ++ cells xs ≡ name ++ cells ys =
    append_cancel_right (name ++ cells xs) (name ++ cells ys) (10 ∷ []) (sym (line-parts 2 name xs) ∙ e ∙ line-parts 2 name ys) in
    sym (contents-back name xs t h) ∙ ap contents b ∙ contents-back name ys t k

cells-feed : (more : ℕ) (numbers : List ℕ) → T (without 10 (cells_of more numbers))
unfolding cells_of without
cells-feed more [] = tt
cells-feed more (x ∷ numbers) =
    without-append 10 (digits_of more x) (cells_of more numbers) (digits-without 10 more x (omega arith)) (cells-feed more numbers)

pub one_line : (more : ℕ) (name numbers : List ℕ) → T (without 10 name) → T (without 10 (name ++ cells_of more numbers))
one_line more name numbers t = without-append 10 name (cells_of more numbers) t (cells-feed more numbers)
