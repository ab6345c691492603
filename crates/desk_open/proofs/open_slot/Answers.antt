use Rattle.std.proofs.Common.{◌≡◌, sym, ap, ◌∙◌, subst, true, false, ℕ, List, rules, eqb, length, IfOk, eq-eqb, ne_eqb}
use Rattle.std.specs.Option.{ok_or}
use Rattle.code.specs.Refusals.{refuse}
use Rattle.answers.specs.declared.Refusal.{Refusal}
use Rattle.answers.specs.Answers.{refused_number}
use Rattle.answers.specs.AnswersLaws.{passed, else-first}
use Rattle.shape.specs.Shapes.{byte_limits}
use Rattle.code_services.specs.Judge.{judged_number_in}
use Rattle.desk_record.specs.declared.Desk.{Desk}
use Rattle.desk_record.specs.Desks.{is_sound}
use Rattle.desk_open.specs.Open.{open_number, free_from}
use Rattle.desk_open.specs.SlotsLaws.{slot-number, slot-found}
use Rattle.desk_open.proofs.open_slot.Goals as goal

pub returns-then-not-is_sound-clause-number : goal.returns-then-not-is_sound-clause-number
unfolding open_number
returns-then-not-is_sound-clause-number c =
    let e : is_sound c.args.desk ≡ false = sym c.is_sound.ensures ∙ c.if-not-is_sound.true in
    simp e

pub returns-in_err-judged-clause-number : goal.returns-in_err-judged-clause-number
unfolding open_number
returns-in_err-judged-clause-number c =
    let e : is_sound c.args.desk ≡ true = sym c.is_sound.ensures ∙ c.if-not-is_sound.false in
    ap refused_number (passed c.from_residual.ensures) ∙ simp e (else-first _ c.in_err-judged.ensures _)

pub returns-then-desk-eq-MAX_ISSUED-clause-number : goal.returns-then-desk-eq-MAX_ISSUED-clause-number
unfolding open_number
returns-then-desk-eq-MAX_ISSUED-clause-number c =
    let a = c.args in
    let e : is_sound a.desk ≡ true = sym c.is_sound.ensures ∙ c.if-not-is_sound.false in
    let z : judged_number_in byte_limits a.m a.w a.c a.marks.now ≡ 0 = sym c.in_ok-judged.ensures in
    let t : eqb a.desk.t 65535 ≡ true = eq-eqb _ _ c.if-desk-eq-MAX_ISSUED.true in
    simp (e, z, t)

-- none of 31, 1 to 8 and 10: 11 by the search for a free slot
late : (m w c : ℕ) (marks : List ℕ) (desk : Desk) → is_sound desk ≡ true → judged_number_in byte_limits m w c marks ≡ 0
    → eqb desk.t 65535 ≡ false → open_number m w c marks desk ≡ refuse 11 (eqb (free_from desk.jobs 0) 8)
unfolding open_number
late m w c marks desk e z t = simp (e, z, t)

pub returns-clause-number : goal.returns-clause-number
returns-clause-number c =
    let a = c.args in
    let l : length a.desk.jobs ≡ 8 = search rules in
    ap refused_number (c.ok_or.ensures.value ∙ ap (λ o. ok_or o Refusal.DeskFull) c.free_slot.ensures)
    ∙ slot-number a.desk.jobs l
    ∙ sym (late a.m a.w a.c a.marks.now a.desk (sym c.is_sound.ensures ∙ c.if-not-is_sound.false) (sym c.in_ok-judged.ensures)
    (ne_eqb _ _ c.if-desk-eq-MAX_ISSUED.false))

pub returns-clause-slot : goal.returns-clause-slot
returns-clause-slot c =
    let a = c.args in
    let e = c.ok_or.ensures.value ∙ ap (λ o. ok_or o Refusal.DeskFull) c.free_slot.ensures in
    subst (λ r. IfOk r (λ s. s ≡ free_from a.desk.jobs 0)) (sym e) (slot-found a.desk.jobs)
