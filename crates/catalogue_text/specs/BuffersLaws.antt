-- Laws: A text at the start of a lent buffer.
use Rattle.std.specs.Prelude.{◌≡◌, true, ◌&&◌, List, ◌++◌, ℕ, ◌≤◌, T, leb, length, take}
use Rattle.std.proofs.Math.Path.{refl, ap}
use Rattle.std.proofs.Common.{◌∙◌, length-take-le}
use native.Mathlib.Omega.{arith}
use borrow.Author.Tests.{le-leb}
use Rattle.std.proofs.Math.Dec.{leb→le}
use Rattle.std.proofs.Math.ListN.{drop, length-append, length-drop, take-append-drop}
use Rattle.std.proofs.Math.Seq.{take_at, drop_at}
use Rattle.counting.specs.TestLaws.{and_l, and_r}
use Rattle.catalogue_text.specs.NamesLaws.{is_true, true-is}
use Rattle.catalogue_text.specs.Catalogue.{Catalogue, good_catalogue, catalogue_text, catalogue_of, of_form}
use Rattle.catalogue_text.specs.CatalogueLaws.{read-of-text, text-formed, read-good, text-of-read}
use Rattle.catalogue_text.specs.Buffers.{formed, catalogue_in, with_text}

-- a text of the form, with its length
pub record Formed (buffer : List ℕ) (size : ℕ) : Type 0 where
  pub held : size ≤ length buffer
  pub most : size ≤ 4096
  pub text : T (of_form (take size buffer))

module _ (buffer : List ℕ) (size : ℕ) (e : formed buffer size ≡ true) where
  pub formed-parts : Formed buffer size
  unfolding formed
  formed-parts =
      let t = true-is (formed buffer size) e in
      let u = and_r (leb size (length buffer)) (leb size 4096 && of_form (take size buffer)) t in
      record {
        held = leb→le size (length buffer) (and_l (leb size (length buffer)) (leb size 4096 && of_form (take size buffer)) t);
        most = leb→le size 4096 (and_l (leb size 4096) (of_form (take size buffer)) u);
        text = and_r (leb size 4096) (of_form (take size buffer)) u;
      }

  pub formed-good : T (good_catalogue (catalogue_in buffer size))
  unfolding catalogue_in
  formed-good = read-good (take size buffer) formed-parts.text

  pub formed-text : catalogue_text (catalogue_in buffer size) ≡ take size buffer
  unfolding catalogue_in
  formed-text = text-of-read (take size buffer) formed-parts.text

  pub formed-long : length (catalogue_text (catalogue_in buffer size)) ≡ size
  formed-long = ap length formed-text ∙ length-take-le size buffer formed-parts.held

  -- the text that is there already
  pub with-same : with_text (catalogue_text (catalogue_in buffer size)) buffer ≡ buffer
  unfolding with_text
  with-same =
      ap (λ n. catalogue_text (catalogue_in buffer size) ++ drop n buffer) formed-long ∙ ap (λ t. t ++ drop size buffer) formed-text
      ∙ take-append-drop size buffer

module _ (text buffer : List ℕ) (l : length text ≤ length buffer) where
  pub with-front : take (length text) (with_text text buffer) ≡ text
  unfolding with_text
  with-front = take_at text (drop (length text) buffer) (length text) refl

  pub with-past : drop (length text) (with_text text buffer) ≡ drop (length text) buffer
  unfolding with_text
  with-past = drop_at text (drop (length text) buffer) (length text) refl

  pub with-length : length (with_text text buffer) ≡ length buffer
  unfolding with_text
  with-length = let d = length-drop (length text) buffer in let a = length-append text (drop (length text) buffer) in omega arith

-- with the text of a good catalogue
module _ (cat : Catalogue) (g : T (good_catalogue cat)) (buffer : List ℕ) (l : length (catalogue_text cat) ≤ length buffer) where
  pub with_read : catalogue_in (with_text (catalogue_text cat) buffer) (length (catalogue_text cat)) ≡ cat
  unfolding catalogue_in
  with_read = ap catalogue_of (with-front (catalogue_text cat) buffer l) ∙ read-of-text cat g

  pub with-formed : length (catalogue_text cat) ≤ 4096 → formed (with_text (catalogue_text cat) buffer) (length (catalogue_text cat)) ≡ true
  unfolding formed
  with-formed m =
      rw (
        with-length (catalogue_text cat) buffer l,
        le-leb (length (catalogue_text cat)) (length buffer) l,
        le-leb (length (catalogue_text cat)) 4096 m,
        with-front (catalogue_text cat) buffer l,
        is_true (of_form (catalogue_text cat)) (text-formed cat g),
      )
