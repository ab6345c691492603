-- Laws: the job of an open handle.
use Rattle.std.specs.Prelude.{◌≡◌, true, ℕ}
use Rattle.std.proofs.Common.{arith}
use Rattle.std.proofs.lemmas.Bool.{not-false}
use Rattle.code.specs.RefusalsLaws.{refuse-zero, or_else-zero}
use Rattle.desk_record.specs.declared.Desk.{Desk}
use Rattle.desk_record.specs.Desks.{job_at, slot_of, is_open}
use Rattle.desk_job.specs.Jobs.{is_good}
use Rattle.desk_record.specs.Refusal.{handle_refusal}
use Rattle.desk_record.specs.Laws.{Taken, sound-parts, taken_of, open-slot}

pub open-taken : (handle : ℕ) (desk : Desk) → handle_refusal handle desk ≡ 0 → Taken desk.t (slot_of handle) (job_at desk (slot_of handle))
unfolding handle_refusal
open-taken handle desk e =
    let z = or_else-zero _ _ e in
    let o : is_open desk handle ≡ true = not-false _ (refuse-zero 11 _ z.1) in
    let S = sound-parts desk (not-false _ (refuse-zero 30 _ z.0)) in
    taken_of desk.t (slot_of handle) (job_at desk (slot_of handle)) (S.slots (slot_of handle) (omega arith)) (open-slot desk handle o).0

pub open-good : (handle : ℕ) (desk : Desk) → handle_refusal handle desk ≡ 0 → is_good (job_at desk (slot_of handle)) ≡ true
open-good handle desk e = (open-taken handle desk e).good
