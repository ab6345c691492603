-- Laws: Recover of n symbols with no place lost, in every sound edition: a codeword is given back, and every other word is refused 9.
use Rattle.std.specs.Prelude.{◌≡◌, refl, false, List, ℕ, ◌+◌, ◌*◌, ◌<◌, T, eqb, length}
use Rattle.std.proofs.Common.{sym, ◌∙◌, subst, arith, ext_get_or}
use Rattle.std.proofs.Math.Path.{ap}
use Rattle.std.proofs.lemmas.List.{length-replicate}
use Rattle.counting.specs.Count.{one, count_below}
use Rattle.counting.specs.CountLaws.{total-zero}
use Rattle.code.specs.Edition.{Edition, Sound}
use Rattle.code.specs.Word.{is_codeword, Symbols, Codeword}
use Rattle.code.specs.Marks.{lost, lost_in, excess}
use Rattle.code.specs.BlankLaws.{blank-at}
use Rattle.code.specs.Outcome.{done_with, contradictory}
use Rattle.code.specs.Contradiction.{contradicting_group}
use Rattle.code.specs.Recovery.{Agrees}
use Rattle.code.specs.Limits.{GoodIn}
use Rattle.code_services.specs.Marks.{MarkedIn}
use Rattle.code_services.specs.Recover.{recover_in}
use Rattle.code_services.specs.Attempt.{AcceptedIn}
use Rattle.code_services.specs.AttemptLaws.{accepted, service-done, service-nine}
use Rattle.code_services.specs.RecoverDemandLaws.{good_start}
use Rattle.text_stream.specs.NoneLost.{none_lost}

module _ {E : Edition} (S : Sound E) {m w c : ℕ} (g : GoodIn E.limits m w c) (word : List ℕ) (s : Symbols E (m * w) word) where
  none-excess : excess m w c (none_lost word) ≡ 0
  unfolding excess lost_in
  none-excess =
      total-zero m _ (λ i _.
      let z : count_below w (λ j. lost (none_lost word) (i * w + j)) ≡ 0 =
      total-zero w _ (λ j _. ap (λ v. one (eqb v 1)) (blank-at (length word) (i * w + j))) in
      omega arith)

  pub none-marked : MarkedIn E.limits m w c (none_lost word)
  none-marked = record {
    good = g;
    size = length-replicate (length word) 0 ∙ s.size;
    each = λ p. let z = blank-at (length word) p in omega arith;
  }

  none-accepted : AcceptedIn E.limits m w c word (none_lost word)
  none-accepted = accepted m w c word (none_lost word) 0 (sym (good_start m w c word (none_lost word) none-marked s.size)) refl

  pub codeword-stays : Codeword E m w c word → recover_in E m w c word (none_lost word) ≡ done_with word (none_lost word)
  codeword-stays C =
      let e = none-excess in
      service-done S m w c word (none_lost word) none-accepted s.each word (omega arith) (record { codeword = C; agree = λ p l e. refl })

  -- a word that agrees at every place is the word
  agreeing-same : (y : List ℕ) → Agrees E m w c (none_lost word) word y → y ≡ word
  agreeing-same y Y =
      let size = Y.codeword.symbols.size in
      ext_get_or 0 y word (size ∙ sym s.size)
      (λ p l. Y.agree p (subst (λ n. p < n) size l) (ap (λ v. eqb v 1) (blank-at (length word) p)))

  pub other-nine : is_codeword E m w c word ≡ false
      → recover_in E m w c word (none_lost word) ≡ contradictory (contradicting_group E m w c word (none_lost word)) word (none_lost word)
  other-nine e =
      let x = none-excess in
      service-nine S m w c word (none_lost word) none-accepted s.each (omega arith)
      (λ y Y. subst T (ap (is_codeword E m w c) (agreeing-same y Y) ∙ e) Y.codeword.zero)
