-- Laws: What the service Recover answers, and what word and marks hold then.
use Rattle.std.specs.Prelude.{◌≡◌, refl, List, ℕ, zero, suc}
use Rattle.code.specs.Outcome.{Outcome, refused}
use Rattle.code_services.specs.Recover.{unless_before}

pub unless-before : (r : ℕ) (o : Outcome) (word marks : List ℕ) → (r ≡ 0 → ⊥) → unless_before r o word marks ≡ refused r word marks
unless-before zero o word marks h = absurd (h refl)
unless-before (suc r) o word marks h = refl
