-- What holds between services: Recover and Judge, Check and Recover, and a word that the desk serves.
use Rattle.std.specs.Prelude.{◌≡◌, ◌↔◌, List, ℕ, Some, None, Ok}
use Rattle.code.specs.Word.{Codeword}
use Rattle.code_services.specs.Recover.{recover_in}
use Rattle.code.specs.Edition.{Edition}
use Rattle.code_services.specs.RecoverDemand.{Named}
use Rattle.code_services.specs.Check.{checked_in}
use Rattle.text_stream.specs.NoneLost.{none_lost}
use Rattle.desk_serve.specs.Serve.{Serving}

-- Check answers as Recover does with no place lost: yes where that gives 0, and no with the group of its 9.
pub record CheckedAsRecovered (E : Edition) (m w c : ℕ) (word : List ℕ) : Type 0 where
  pub yes : (checked_in E m w c word ≡ Ok None) ↔ ((recover_in E m w c word (none_lost word)).number ≡ 0)
  pub no : (g : ℕ) → (checked_in E m w c word ≡ Ok (Some g))
      ↔ (((recover_in E m w c word (none_lost word)).number ≡ 9) × ((recover_in E m w c word (none_lost word)).group ≡ g))
  -- "the lowest group whose present bytes no filling can satisfy locally, or m"
  pub named : (g : ℕ) → checked_in E m w c word ≡ Ok (Some g) → Named E m w c word (none_lost word) g

-- Two serves under one handle end alike: the same number, the same group, the same desk and, where the number is 0, the same word.
pub record SameServing (a b : Serving) : Type 0 where
  pub number : a.number ≡ b.number
  pub group : a.group ≡ b.group
  pub word : a.number ≡ 0 → a.word ≡ b.word
  pub desk : a.desk ≡ b.desk
