-- A text put into a buffer, cut where it has no room.
use mathlib.Core.Path.{◌≡◌, refl, sym, ap, ◌∙◌, subst}
use mathlib.Core.List.{List, [], ◌∷◌, ◌++◌}
use Prim.Native.Nat.{ℕ, ◌+◌, ◌-◌, ◌≤◌, ◌<◌, min}
use native.Mathlib.Nat.{min-eq_left, min-eq_right, min-le_left}
use native.Mathlib.Decide.{dec_le}
use native.Mathlib.Omega.{arith}
use lib.ListN.{length, take, set}
use lib.Seq.{take_all, length-take-le}
use Rattle.text.specs.Written.{written, put_at, next_at}
use Rattle.text.specs.WrittenLaws.{put-room, written_next, length-written}
use Rattle.release.specs.Texts.{lent_text}

pub lent_none : (text out : List ℕ) → length out ≡ 0 → out ≡ lent_text text out
lent_none text [] e = refl
lent_none text (b ∷ bs) e = absurd (omega arith)

pub smaller-le : (a b n : ℕ) → n ≡ min a b → n ≤ a
smaller-le a b n e = subst (λ x. x ≤ a) (sym e) (min-le_left a b)

-- how much of the text is put
cut : (text : List ℕ) (room n : ℕ) → n ≡ min (length text) room → (take n text ≡ take room text) × (length (take n text) ≡ n) × (n ≤ room)
cut text room n l = elim (dec_le (length text) room) [
  | yes h ↦
      let e : n ≡ length text = l ∙ min-eq_left h in
      let a : length text ≤ n = omega arith in
      (take_all n text a ∙ sym (take_all room text h), ap length (take_all n text a) ∙ sym e, omega arith)
  | no h ↦
      let r : room ≤ length text = omega arith in
      let e : n ≡ room = l ∙ min-eq_right r in
      let a : n ≤ length text = omega arith in
      (ap (λ k. take k text) e, length-take-le n text a, omega arith)
]

pub lent : (text out mid : List ℕ) (n end : ℕ) → 0 < length out → n ≡ min (length text) (length out - 1)
    → end ≡ next_at out 0 (take n text) → mid ≡ put_at out 0 (take n text) → (end < length mid) × (set mid end 0 ≡ lent_text text out)
lent text [] mid n end h l e p = absurd (omega arith)
lent text (b ∷ bs) mid n end h l e p =
    let out : List ℕ = b ∷ bs in
    let room : length out - 1 ≡ length bs = omega arith in
    let k = cut text (length bs) n (l ∙ ap (min (length text)) room) in
    let s : List ℕ = take n text in
    let ls : length s ≡ n = k.1 in
    let lo : n ≤ length bs = k.2 in
    let fits : 0 + length s ≤ length out = omega arith in
    let r = put-room out 0 s fits in
    let at : end ≡ 0 + length s = e ∙ r.0 in
    let is : mid ≡ written out 0 s = p ∙ r.1 in
    let lm : length mid ≡ length out = ap length is ∙ length-written out 0 s fits in
    (omega arith, ap (λ m. set m end 0) is ∙ written_next out 0 s end 0 at (omega arith) ∙ ap (λ t. written out 0 (t ++ (0 ∷ []))) k.0)
