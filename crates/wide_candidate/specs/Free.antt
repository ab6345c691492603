-- One or two different free places within a word, with bound marks for their directions.
use Rattle.std.specs.Prelude.{◌≡◌, ℕ, ◌*◌, ◌≤◌, ◌<◌, List}
use Rattle.erasures.specs.declared.Free.{Free}
use Rattle.code_engine.specs.FreePlaces.{free_at}
use Rattle.code_engine.specs.Mended.{BoundFew}

pub record OneOrTwo (m w c : ℕ) (f : Free) (bound : List ℕ) : Type 0 where
  pub some : 0 < f.count
  pub most : f.count ≤ 2
  pub less : (i : ℕ) → i < f.count → free_at f.first f.second i < m * w
  pub few : (i : ℕ) → i < f.count → BoundFew m w c (free_at f.first f.second i) bound
  pub apart : f.count ≡ 2 → f.first ≡ f.second → ⊥
