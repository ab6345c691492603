-- How long an answer is: at most 12 bytes for each byte of its line, the line feed counted.
use Rattle.std.specs.Prelude.{◌≡◌, Bool, cond, List, [], ◌∷◌, ℕ, zero, suc, ◌+◌, ◌-◌, ◌*◌, ◌≤◌, get_or}
use Rattle.std.proofs.Math.Path.{refl}
use Rattle.std.proofs.Common.{ap, ◌∙◌, mul_left_comm, mul-le-mul_left, eqb-true, length-append}
use Rattle.std.proofs.Math.Bool.{true, false}
use native.Mathlib.Omega.{arith}
use Rattle.std.proofs.Math.Dec.{eqb}
use Rattle.std.proofs.Math.ListN.{length}
use Rattle.std.proofs.lemmas.List.{length-map}
use Rattle.code.specs.Limits.{place_count, data_count, GoodIn, shape_refusal_in}
use Rattle.code.specs.LimitsLaws.{data-some, data-and-checks}
use Rattle.byte_edition.specs.Edition.{byte_edition}
use Rattle.code.specs.Outcome.{Outcome}
use Rattle.code.specs.OutcomeLaws.{answered-length}
use Rattle.code.specs.Recovery.{recovered}
use Rattle.shape.specs.Shapes.{byte_limits}
use Rattle.code_services.specs.Places.{placed_of, check_marks}
use Rattle.code_services.specs.PlacesLaws.{placed-length}
use Rattle.code_services.specs.Encode.{encoded_in, encode_refusal_in}
use Rattle.code_services.specs.EncodeLaws.{good-of-encode}
use Rattle.code_services.specs.Recover.{unless_before, recover_in, recover_refusal_in}
use Rattle.text.specs.Records.{word_name, contents, line_kind, line_bytes, line_marks}
use Rattle.text.specs.RecordLaws.{line-values, data-named}
use Rattle.text.specs.Lines.{line_with, line_of, refused_name, ok_line, refused_line, contradictory_line, word_line}
use Rattle.text.specs.ReadBackLaws.{cells-most}
use Rattle.text_session.specs.Turn.{Turn, turn, turn_unless, refused_turn, contradictory_turn, shape_turn, data_turn, word_turn, record_turn, turn_of}
use Rattle.text_session.specs.ContradictionLaws.{nine-accepted}

-- ---- the length of a printed line
line-size : (name numbers : List ℕ) → length (line_of name numbers) ≤ length name + 4 * length numbers + 1
unfolding line_with
line-size name numbers = simp length-append (omega (arith, cells-most 2 numbers))

refused-size : (r : ℕ) → length (refused_line r) ≤ 12
unfolding refused_line
refused-size r = line-size _ (r ∷ [])

contradictory-size : (group : ℕ) → length (contradictory_line group) ≤ 16
unfolding contradictory_line
contradictory-size group = line-size refused_name (9 ∷ group ∷ [])

ok-size : (n k : ℕ) → length (ok_line n k) ≤ 12
unfolding ok_line
ok-size n k = let h = line-size (111 ∷ 107 ∷ []) (n ∷ k ∷ []) in omega arith

word_size : (word : List ℕ) → length (word_line word) ≤ 4 * length word + 5
unfolding word_line
word_size word = let h = line-size word_name word in omega arith

-- a turn that is shorter than so much, whether a refusal comes before it or not
unless-size : (r most : ℕ) (t : Turn) (m w c : ℕ) → 12 ≤ most → (r ≡ 0 → length t.output ≤ most) → length (turn_unless r t m w c).output ≤ most
unless-size zero most t m w c l h = h refl
unless-size (suc r) most t m w c l h = let k = refused-size (suc r) in omega arith

-- ---- the length of a word that is answered
recovered-size : (m w c : ℕ) (word marks : List ℕ) → length (recover_in byte_edition m w c word marks).word ≡ length word
unfolding recover_in
recovered-size m w c word marks = go (recover_refusal_in byte_limits m w c word marks)
  where
    go : (r : ℕ) → length (unless_before r (recovered byte_edition m w c word marks) word marks).word ≡ length word
    go zero = answered-length _ _ _ _ word marks
    go (suc r) = refl

encoded-size : (m w c : ℕ) (carried : List ℕ) → length (encoded_in byte_edition m w c carried) ≡ m * w
unfolding encoded_in
encoded-size m w c carried = answered-length _ _ _ _ (placed_of m w c carried) (check_marks m w c) ∙ placed-length m w c carried

-- a 9 is answered to some bytes only: a call with none has the wrong length, or a bad shape
nine-some : (m w c : ℕ) (word marks : List ℕ) → (recover_in byte_edition m w c word marks).number ≡ 9 → 1 ≤ length word
nine-some m w c word marks e =
    let A = nine-accepted m w c word marks e in
    let n = A.word_size in
    let d = data-some A.good in
    let k = data-and-checks A.good in
    omega arith

-- "m from 1 to 15, c from 1 to 4, w from c+2": a word has at most three places for each data byte and six more
word-of-data : {m w c : ℕ} → GoodIn byte_limits m w c → place_count m w ≤ 3 * data_count m w c + 6
word-of-data {m} {w} {c} g =
    let l : m * w ≤ m * (3 * (w - c)) = mul-le-mul_left m (omega arith) in
    let e : m * (3 * (w - c)) ≡ 3 * (m * (w - c)) = mul_left_comm m 3 (w - c) in
    omega arith

-- ---- the turns
module _ (most m w c : ℕ) (some : 12 ≤ most) where
  shape-room : (a b d : ℕ) → length (shape_turn a b d m w c).output ≤ most
  unfolding shape_turn
  shape-room a b d = unless-size (shape_refusal_in byte_limits a b d) most _ m w c some (λ _. let h = ok-size (place_count a b) (data_count a b d) in omega arith)

  data-room : (values : List ℕ) → 12 * (length values + 5) ≤ most → length (data_turn values m w c).output ≤ most
  unfolding data_turn
  data-room values l = unless-size (encode_refusal_in byte_limits m w c (place_count m w) (length values)) most _ m w c some (λ z.
      let g = good-of-encode m w c (place_count m w) (length values) z in
      let h = word-of-data g.0 in
      let n = encoded-size m w c values in
      let k = word_size (encoded_in byte_edition m w c values) in
      omega arith)

  word_room : (values marks : List ℕ) → 12 * (length values + 1) ≤ most → length (word_turn values marks m w c).output ≤ most
  unfolding word_turn
  word_room values marks l = go (eqb out.number 9) refl
    where
      out : Outcome
      out = recover_in byte_edition m w c values marks

      go : (b : Bool) → eqb out.number 9 ≡ b
          → length (cond b (contradictory_turn out.group m w c) (turn_unless out.number (turn (word_line out.word) m w c) m w c)).output ≤ most
      go true e =
          let s = nine-some m w c values marks (eqb-true out.number 9 e) in
          let k = contradictory-size out.group in
          omega arith
      go false e = unless-size out.number most _ m w c some (λ z.
          let n = recovered-size m w c values marks in
          let k = word_size out.word in
          omega arith)

  record-room : (kind : ℕ) (values marks : List ℕ) → (kind ≡ 2 → 12 * (length values + 5) ≤ most) → 12 * (length values + 1) ≤ most
      → length (record_turn kind values marks m w c).output ≤ most
  unfolding record_turn
  record-room kind values marks d l = go (eqb kind 0) (eqb kind 1) (eqb m 0) (eqb kind 2) refl
    where
      go : (p q r s : Bool) → eqb kind 2 ≡ s
          → length (cond p (refused_turn 14 m w c) (cond q (shape_turn (get_or values 0 0) (get_or values 1 0) (get_or values 2 0) m w c)
          (cond r (refused_turn 15 m w c) (cond s (data_turn values m w c) (word_turn values marks m w c))))).output ≤ most
      go true q r s e = let h = refused-size 14 in omega arith
      go false true r s e = shape-room (get_or values 0 0) (get_or values 1 0) (get_or values 2 0)
      go false false true s e = let h = refused-size 15 in omega arith
      go false false false true e = data-room values (d (eqb-true kind 2 e))
      go false false false false e = word_room values marks l

pub turn-room : (line : List ℕ) (m w c : ℕ) → length (turn_of line m w c).output ≤ 12 * (length line + 1)
unfolding turn_of line_bytes
turn-room line m w c =
    let v = line-values line in
    let b : length (line_bytes line) ≡ length (contents line) = length-map (contents line) _ in
    record-room (12 * (length line + 1)) m w c (omega arith) (line_kind line) (line_bytes line) (line_marks line)
    (λ k. let n = ap length (data-named line k) in omega arith)
    (omega arith)
