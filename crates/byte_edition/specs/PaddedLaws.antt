-- Laws: A part of at most sixteen places, followed by zeros up to sixteen: the sums over a group stay.
use Rattle.std.specs.Prelude.{◌≡◌, List, ℕ, ◌-◌, ◌≤◌, length}
use Rattle.byte_edition.specs.Edition.{byte_edition}
use Rattle.code.specs.Word.{group_sum}
use Rattle.code_engine.specs.Padded.{Padded}
use Rattle.code_engine.specs.PaddedLaws.{padded-sum}

-- in the edition of bytes
pub padded-group : {part x : List ℕ} → Padded part x → length part ≤ 16 → (h : ℕ → ℕ) → group_sum byte_edition (length x) x 0 h
    ≡ group_sum byte_edition (length part) part 0 h
padded-group = padded-sum byte_edition
