-- Demands 2 and 3 and what holds of Judge in the edition of bytes: the statements over the edition, at this one.
use Rattle.std.specs.Prelude.{◌≡◌, ◌↔◌, List, ℕ, ◌*◌, ◌<◌, ◌≤◌, length, get_or, Ok}
use Rattle.shape.specs.Shapes.{byte_limits}
use Rattle.code.specs.Marks.{excess}
use Rattle.code.specs.Outcome.{SameEnd}
use Rattle.code.specs.Determined.{Ambiguous, Undetermined}
use Rattle.code.specs.Limits.{place_count, data_count, sure_count, GoodIn, SoldIn}
use Rattle.byte_edition.specs.Edition.{byte_edition}
use Rattle.byte_edition.specs.EditionLaws.{bytes-sound}
use Rattle.code_engine.specs.Columns.{ColumnsIndependent}
use Rattle.code_engine.specs.ColumnsLaws as ColumnsLaws
use Rattle.code_services.specs.Marks.{marks_refusal_in}
use Rattle.code_services.specs.Judge.{judged_number_in}
use Rattle.code_services.specs.SureCount.{IsSureIn}
use Rattle.code_services.specs.JudgeLaws as JudgeLaws
use Rattle.code_services.specs.AnyTwoLaws as AnyTwoLaws
use Rattle.code_services.specs.RecoverDemand as Recover
use Rattle.code_services.specs.RecoverDemandLaws as RecoverLaws
use Rattle.code_services.specs.Recover.{recover_in}
use Rattle.code_services.specs.RepairDemand as Repair
use Rattle.code_services.specs.RepairDemandLaws as RepairLaws
use Rattle.code_services.specs.Encode.{encode_in, encoded_buffer_in}
use Rattle.code_services.specs.EncodeDemand as Encode
use Rattle.code_services.specs.EncodeLaws as EncodeLaws
use Rattle.code_services.specs.RepairOrder.{recover_after, OrderHolds}
use Rattle.code_services.specs.RepairOrderLaws.{order-theorem, same-recovery}

-- "Encoding gives the one codeword that carries the data, and the data come out again", for c up to 3
pub encode-done : (m w c : ℕ) (carried word : List ℕ) → SoldIn byte_limits m w c → length carried ≡ data_count m w c → ((i : ℕ) → get_or carried i 0 < 256)
    → length word ≡ place_count m w → (encode_in byte_limits m w c carried word ≡ Ok tt)
    × Encode.Encoded byte_edition m w c carried (encoded_buffer_in byte_edition m w c carried word)
encode-done m w c carried word sold size small long =
    let D = EncodeLaws.encode-demand-two bytes-sound m w c carried word sold size small long in
    (D.done, D.encoded)

-- a good shape with four checks is refused 29
pub encode-retired : (m w c : ℕ) (carried word : List ℕ) → GoodIn byte_limits m w c → c ≡ 4 → Encode.Retired byte_edition m w c carried word
encode-retired m w c carried word good e = EncodeLaws.retired byte_edition m w c carried word good e

-- for a good shape, n bytes and n marks of 0 or 1
module _ (m w c : ℕ) (word marks : List ℕ) (good : GoodIn byte_limits m w c) (size : length word ≡ m * w) (small : (p : ℕ) → get_or word p 0 < 256)
    (marks-size : length marks ≡ m * w) (each : (p : ℕ) → get_or marks p 0 < 2) where
  -- Recover, of recover_in
  pub recover-demand : Recover.RecoverDemandTwo byte_edition m w c word marks
  recover-demand = RecoverLaws.recover-demand-two bytes-sound m w c word marks good size small marks-size each

  -- Repair, of repair_in
  pub repair-demand : (g : ℕ) → g < m → Repair.RepairDemandTwo byte_edition m w c g word marks
  repair-demand g l = RepairLaws.repair-demand-two bytes-sound m w c g word marks good size small marks-size each l

  -- Order doesn't matter
  pub order-demand : (list : List ℕ) → OrderHolds byte_edition m w c list word marks
  order-demand list = order-theorem bytes-sound m w c list word marks good size small marks-size each

-- and of every call, good or bad: the recovery after a list of repairs answers as the recovery at once
pub order-any : (m w c : ℕ) (list word marks : List ℕ) → ((p : ℕ) → get_or word p 0 < 256)
    → SameEnd (recover_after byte_edition m w c list word marks) (recover_in byte_edition m w c word marks)
order-any m w c list word marks small = same-recovery bytes-sound m w c list word marks small

-- for marks that Judge accepts
module _ (m w c : ℕ) (marks : List ℕ) (accepted : marks_refusal_in byte_limits m w c marks ≡ 0) where
  -- "0 if no two different codewords agree at all present places, else 8"
  pub judge-determined : (judged_number_in byte_limits m w c marks ≡ 0) ↔ ¬ Undetermined byte_edition m w c marks
  judge-determined = JudgeLaws.zero-determined bytes-sound m w c marks accepted

  -- and 8 otherwise
  pub judge-undetermined : (judged_number_in byte_limits m w c marks ≡ 8) ↔ Undetermined byte_edition m w c marks
  judge-undetermined = JudgeLaws.eight-undetermined bytes-sound m w c marks accepted

  -- that is an excess above two
  pub judge-excess : (judged_number_in byte_limits m w c marks ≡ 8) ↔ (2 < excess m w c marks)
  judge-excess = JudgeLaws.eight-excess byte_limits m w c marks accepted

  -- no other two sums across would determine more
  pub any-two : (h₁ h₂ : ℕ → ℕ → ℕ) → 2 < excess m w c marks → Ambiguous byte_edition m w c marks h₁ h₂
  any-two h₁ h₂ = AnyTwoLaws.any-two bytes-sound m w c marks accepted h₁ h₂

-- "for every good shape and such marks the one or two columns left for the equations across are independent"
pub columns-independent : (m w c : ℕ) (marks : List ℕ) → GoodIn byte_limits m w c → length marks ≡ m * w → excess m w c marks ≤ 2
    → ColumnsIndependent byte_edition m w c marks
columns-independent m w c marks good size low = ColumnsLaws.columns-independent bytes-sound m w c good marks size low

-- the sure count is "the largest number such that every pattern of that many losses or fewer is judged 0"
pub sure-largest : (m w c : ℕ) → GoodIn byte_limits m w c
    → IsSureIn byte_limits m w c (sure_count w c) × ((s : ℕ) → IsSureIn byte_limits m w c s → s ≤ sure_count w c)
sure-largest m w c good = JudgeLaws.largest good
