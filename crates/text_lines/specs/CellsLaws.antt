-- Numbers as text: one more number.
use Rattle.std.specs.Prelude.{◌≡◌, refl, List, [], ◌∷◌, ◌++◌, ℕ, ◌+◌, ◌<◌, length, get_or, take}
use Rattle.std.proofs.Common.{append_assoc, append-nil, add-one, take-suc}
use Rattle.text.specs.Decimal.{decimal}
use Rattle.text.specs.Lines.{cells_of, cells}

cells-append : (xs ys : List ℕ) → cells (xs ++ ys) ≡ cells xs ++ cells ys
unfolding cells_of
cells-append [] ys = refl
cells-append (x ∷ xs) ys = rw (cells-append xs ys, append_assoc)

pub cells-next : (xs : List ℕ) (i : ℕ) → i < length xs → cells (take (i + 1) xs) ≡ cells (take i xs) ++ (9 ∷ decimal (get_or xs i 0))
unfolding cells_of
cells-next xs i h = rw (add-one, take-suc xs i 0 h, cells-append, append-nil)
