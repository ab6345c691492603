-- Laws: each row holds its text, by one test over all rows.
use Rattle.std.specs.Prelude.{◌≡◌, refl, Bool, true, false, ◌&&◌, ℕ, ◌+◌, ◌-◌, ◌≤◌, ◌<◌, T, eqb, ltb, leb, length, take, drop, get_or}
use Rattle.std.proofs.Common.{sym, ap, ◌∙◌, subst, arith, eqb→eq, leb→le, lt-ltb, le-ltb, ltb-true}
use Rattle.std.proofs.Math.Decide.{dec_lt}
use Rattle.std.proofs.Math.ListN.{get_or-eq_default}
use Rattle.counting.specs.Test.{all_below}
use Rattle.counting.specs.TestLaws.{and_l, and_r, all-at}
use Rattle.text.specs.Fields.{same}
use Rattle.text.specs.FieldLaws.{same-eq}
use Rattle.release.specs.Texts.{text_bytes, texts, other, number_text}
use Rattle.release.specs.Joined.{joined_texts, starts, row_of, row_text}

is_true : (b : Bool) → T b → b ≡ true
is_true true t = refl
is_true false t = absurd t

-- a row ends after it starts and within what is joined, holds its text and is as long as that
in_order : ℕ → Bool
in_order i = leb (get_or starts i 0) (get_or starts (i + 1) 0) && leb (get_or starts (i + 1) 0) 1247

holds_text : ℕ → Bool
holds_text i = eqb (get_or starts (i + 1) 0 - get_or starts i 0) (length (number_text i)) && same (row_text i) (number_text i)

row_right : ℕ → Bool
row_right i = in_order i && holds_text i

rule : T (all_below 33 row_right)
unfolding row_right in_order holds_text joined_texts starts number_text texts same
rule = tt

pub row_below : (number : ℕ) → row_of number < 33
unfolding row_of
row_below number = elim (dec_lt number 32) [
  | yes h ↦ rw (lt-ltb number 32 h) (omega arith)
  | no h ↦ let l : 32 ≤ number = omega arith in rw (le-ltb number 32 l) (omega arith)
]

-- the text of a number is that of its row
row-text : (number : ℕ) → number_text (row_of number) ≡ number_text number
unfolding row_of number_text texts
row-text number = elim (dec_lt number 32) [
  | yes h ↦ rw (lt-ltb number 32 h) refl
  | no h ↦ let l : 32 ≤ number = omega arith in rw (le-ltb number 32 l) (ap text_bytes (sym (get_or-eq_default texts other l)))
]

-- what stands from a to e is the text of a number
pub record Row (number a e : ℕ) : Type 0 where
  pub order : a ≤ e
  pub most : e ≤ 1247
  pub size : e - a ≡ length (number_text number)
  pub text : take (e - a) (drop a joined_texts) ≡ number_text number

row-of : (number : ℕ) → Row number (get_or starts (row_of number) 0) (get_or starts (row_of number + 1) 0)
unfolding row_right in_order holds_text
row-of number =
    let i = row_of number in
    let t = all-at 33 row_right rule i (row_below number) in
    let o = and_l (in_order i) (holds_text i) t in
    let h = and_r (in_order i) (holds_text i) t in
    record {
      order = leb→le _ _ (and_l (leb (get_or starts i 0) (get_or starts (i + 1) 0)) _ o);
      most = leb→le _ _ (and_r (leb (get_or starts i 0) (get_or starts (i + 1) 0)) _ o);
      size = eqb→eq _ _ (and_l (eqb (get_or starts (i + 1) 0 - get_or starts i 0) (length (number_text i))) _ h) ∙ ap length (row-text number);
      text = same-eq _ _ (is_true _ (and_r (eqb (get_or starts (i + 1) 0 - get_or starts i 0) (length (number_text i))) _ h)) ∙ row-text number;
    }

pub row_at : (number i a e : ℕ) → i ≡ row_of number → a ≡ get_or starts i 0 → e ≡ get_or starts (i + 1) 0 → Row number a e
row_at number i a e ei ea ee =
    subst (λ x. Row number x e) (sym (ea ∙ ap (λ x. get_or starts x 0) ei))
    (subst (λ x. Row number (get_or starts (row_of number) 0) x) (sym (ee ∙ ap (λ x. get_or starts (x + 1) 0) ei)) (row-of number))

-- every text fits in 64 bytes with a zero byte after it
short_text : ℕ → Bool
short_text i = ltb (length (number_text i)) 64

short-rule : T (all_below 33 short_text)
unfolding short_text number_text texts
short-rule = tt

pub text-short : (number : ℕ) → length (number_text number) < 64
unfolding short_text
text-short number =
    let t = is_true _ (all-at 33 short_text short-rule (row_of number) (row_below number)) in
    subst (λ x. length x < 64) (row-text number) (ltb-true (length (number_text (row_of number))) 64 t)
