-- Laws: The refusals of a shape and of lengths are numbers of refusals without a group.
use Rattle.std.specs.Prelude.{refl, not, ◌||◌, ℕ, ◌+◌, ◌*◌, eqb, ltb}
use Rattle.std.proofs.Common.{arith}
use Rattle.code.specs.Refusals.{refuse}
use Rattle.code.specs.Limits.{Limits, place_count, data_count, shape_refusal_in, retired_refusal, sale_refusal_in, word_refusal_in, buffer_refusal_in}
use Rattle.answers.specs.Answers.{Plain}
use Rattle.answers.specs.AnswersLaws.{plain-refuse, plain-else}

module _ (L : Limits) (m w c : ℕ) where
  pub shape-plain : Plain (shape_refusal_in L m w c)
  unfolding shape_refusal_in
  shape-plain =
      plain-else (refuse 1 (eqb m 0 || ltb L.groups m)) _ (plain-refuse 1 (eqb m 0 || ltb L.groups m) (refl, λ z. omega arith))
      (plain-else (refuse 2 (eqb c 0 || ltb L.checks c)) _ (plain-refuse 2 (eqb c 0 || ltb L.checks c) (refl, λ z. omega arith))
      (plain-else (refuse 3 (ltb w (c + 2) || ltb L.width w)) _ (plain-refuse 3 (ltb w (c + 2) || ltb L.width w) (refl, λ z. omega arith))
      (plain-else (refuse 4 (eqb (data_count m w c) 0)) _ (plain-refuse 4 (eqb (data_count m w c) 0) (refl, λ z. omega arith))
      (plain-refuse 26 (ltb L.places (m * w)) (refl, λ z. omega arith)))))

  pub sale-plain : Plain (sale_refusal_in L m w c)
  unfolding sale_refusal_in retired_refusal
  sale-plain = plain-else (shape_refusal_in L m w c) _ shape-plain (plain-refuse 29 (eqb c 4) (refl, λ z. omega arith))

  pub word-plain : (n : ℕ) → Plain (word_refusal_in L m w c n)
  unfolding word_refusal_in
  word-plain n = plain-else (shape_refusal_in L m w c) _ shape-plain (plain-refuse 5 (not (eqb n (place_count m w))) (refl, λ z. omega arith))

  pub buffer-plain : (n k : ℕ) → Plain (buffer_refusal_in L m w c n k)
  unfolding buffer_refusal_in
  buffer-plain n k = plain-else (word_refusal_in L m w c n) _ (word-plain n) (plain-refuse 5 (not (eqb k (data_count m w c))) (refl, λ z. omega arith))
