use Rattle.std.proofs.Common.{◌≡◌, sym, ap, ◌∙◌, List, ◌++◌, Result, ℕ, ◌≤◌, arith, length, take, length-append, length-take-le, take_at}
use Rattle.answers.specs.declared.Refusal.{Refusal}
use Rattle.answers.specs.Answers.{mending_at, mending_number}
use Rattle.answers.specs.AnswersLaws.{refusal-some, passed}
use Rattle.code.specs.Refusals.{unless_refused}
use Rattle.code.specs.RefusalsLaws.{unless-refused}
use Rattle.code.specs.Outcome.{Outcome}
use Rattle.code.specs.LimitsLaws.{places-most}
use Rattle.byte_edition.specs.Edition.{byte_edition}
use Rattle.code_services.specs.Recover.{recover_in}
use Rattle.gather_record.specs.declared.Gather.{Gather}
use Rattle.gather_record.specs.Record.{Whole}
use Rattle.gather_record.proofs.Laws.{whole}
use Rattle.gather_finish.specs.Finish.{finish_refusal, gather_recovery}
use Rattle.gather_finish.specs.FinishLaws.{finish-parts}
use Rattle.code_services.specs.Answered.{AnswersBy}
use Rattle.code_services.specs.AnsweredLaws.{answers_at}
use Rattle.gather_finish.proofs.recover_copy.Goals as goal

-- a word of the record's size fits its arrays
room : (size : ℕ) (g : Gather) → finish_refusal size g ≡ 0 → size ≤ 240
room size g e = let R = finish-parts size g e in let k = places-most R.opened.good in omega (arith, R.fits)

within-bytes : (size : ℕ) (g : Gather) → finish_refusal size g ≡ 0 → Whole g → size ≤ length g.bytes
within-bytes size g e W = omega (arith, room size g e, W.bytes-long)

within-marks : (size : ℕ) (g : Gather) → finish_refusal size g ≡ 0 → Whole g → size ≤ length g.marks
within-marks size g e W = omega (arith, room size g e, W.marks-long)

-- the recovery of the first n bytes and marks
abbrev first : Gather → ℕ → Outcome
first g n = recover_in byte_edition g.m g.w g.c (take n g.bytes) (take n g.marks)

-- it is called for over the word's own length
is-asked : (size : ℕ) (g : Gather) → finish_refusal size g ≡ 0 → first g size ≡ gather_recovery g
is-asked size g e = ap (first g) (finish-parts size g e).fits

-- what the recovery answers, for a record
abbrev Answered : Gather → Result Unit Refusal → Type 0
Answered g a = a ≡ mending_at (gather_recovery g).number (gather_recovery g).group

answer : (size : ℕ) (g : Gather) (a : Result Unit Refusal) → finish_refusal size g ≡ 0 → AnswersBy a (first g size) → Answered g a
answer size g a e h = answers_at h ∙ ap (λ o. mending_at o.number o.group) (is-asked size g e)

numbered : (size : ℕ) (g : Gather) (a : Result Unit Refusal) → finish_refusal size g ≡ 0 → AnswersBy a (first g size)
    → mending_number a ≡ (gather_recovery g).number
numbered size g a e h = h.number ∙ ap (λ o. o.number) (is-asked size g e)

-- a refusal's number is not 0, and the word stays
stays : (g : Gather) (word : List ℕ) → ((gather_recovery g).number ≡ 0 → ⊥)
    → word ≡ unless_refused (gather_recovery g).number (gather_recovery g).word word
stays g word some = sym (unless-refused _ _ _ some)

-- what the recovery left is as long as the word
kept : (size : ℕ) (found : List ℕ) (g : Gather) → finish_refusal size g ≡ 0 → Whole g → length found ≡ length (take size g.bytes) → length found ≡ size
kept size found g e W h = h ∙ length-take-le size g.bytes (within-bytes size g e W)

kept-within : (size : ℕ) (found : List ℕ) (g : Gather) (rest : List ℕ) → finish_refusal size g ≡ 0 → Whole g → length found ≡ length (take size g.bytes)
    → size ≤ length (found ++ rest)
kept-within size found g rest e W h = simp length-append (omega (arith, kept size found g e W h))

pub slice_bounds-found-end : goal.slice_bounds-found-end
slice_bounds-found-end c = within-bytes _ _ c.requires (whole c.args.gather _ c.well_formed.0)

pub slice_bounds-recover-end : goal.slice_bounds-recover-end
slice_bounds-recover-end c = sym (length-take-le _ c.args.gather.bytes (within-bytes _ _ c.requires (whole c.args.gather _ c.well_formed.0)))

pub slice_bounds-marks-end : goal.slice_bounds-marks-end
slice_bounds-marks-end c = within-marks _ _ c.requires (whole c.args.gather _ c.well_formed.0)

pub slice_bounds-recover-end-2 : goal.slice_bounds-recover-end-2
slice_bounds-recover-end-2 c = sym (length-take-le _ c.args.gather.marks (within-marks _ _ c.requires (whole c.args.gather _ c.well_formed.0)))

pub slice_bounds-found-end-2 : goal.slice_bounds-found-end-2
slice_bounds-found-end-2 c =
    kept-within _ _ c.args.gather _ c.requires (whole c.args.gather _ c.well_formed.0) c.recover.auto.word

pub slice_bounds-copy_from_slice-end : goal.slice_bounds-copy_from_slice-end
slice_bounds-copy_from_slice-end c =
    sym (length-take-le _ _ (kept-within _ _ c.args.gather _ c.requires (whole c.args.gather _ c.well_formed.0) c.recover.auto.word))

pub copy_from_slice-requires : goal.copy_from_slice-requires
copy_from_slice-requires c =
    sym (length-take-le _ _ (kept-within _ _ c.args.gather _ c.requires (whole c.args.gather _ c.well_formed.0) c.recover.auto.word))

pub returns-in_err-recover : goal.returns-in_err-recover
returns-in_err-recover c =
    let g = c.args.gather in
    let n = length c.args.word.now in
    let A = c.recover.ensures.answer in
    let k = sym (ap mending_number c.in_err-recover.was) ∙ numbered n g _ c.requires A in
    rw (passed c.from_residual.ensures) record {
      answer = sym c.in_err-recover.was ∙ answer n g _ c.requires A;
      number = k;
      word = stays g _ (λ z. refusal-some _ (k ∙ z));
    }

pub returns : goal.returns
returns c =
    let g = c.args.gather in
    let n = length c.args.word.now in
    let W = whole g _ c.well_formed.0 in
    let o = gather_recovery g in
    let A = c.recover.ensures.answer in
    let k = sym (ap mending_number c.in_ok-recover.was) ∙ numbered n g _ c.requires A in
    record {
      answer = sym c.in_ok-recover.was ∙ answer n g _ c.requires A;
      number = k;
      word = c.copy_from_slice.ensures.after
          ∙ take_at c.recover.new.word _ n (kept n c.recover.new.word g c.requires W c.recover.auto.word)
          ∙ c.recover.ensures.word
          ∙ ap (λ x. x.word) (is-asked n g c.requires)
          ∙ ap (λ r. unless_refused r o.word c.args.word.now) k;
    }
