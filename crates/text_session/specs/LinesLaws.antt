-- The turn of a line by the record that is read from it.
use Rattle.std.specs.Prelude.{◌≡◌, List, ℕ, get_or, take}
use Rattle.std.proofs.Common.{sym, ap, ◌∙◌}
use borrow.Author.Tests.{ne_eqb}
use Rattle.text.specs.Records.{line_kind}
use Rattle.text_lines.specs.declared.Kind.{Kind}
use Rattle.text_lines.specs.declared.Record.{Record}
use Rattle.text_lines.specs.Kinds.{kind_number}
use Rattle.text_lines.specs.KindsLaws.{kind-some, kind-shape, kind-word}
use Rattle.text_lines.specs.Held.{HoldsRecord}
use Rattle.text_lines.specs.HeldLaws.{bytes-taken, marks-taken, byte_at}
use Rattle.text_session.specs.declared.Reply.{Reply}
use Rattle.text_session.specs.Turn.{refused_turn, shape_turn, data_turn, word_turn, record_turn, turn_of}
use Rattle.text_session.specs.Replies.{Replies}

-- the cases of a line, in the order of the numbers given back
module _ (line : List ℕ) (m w c : ℕ) (reply : Reply) where
  pub turn-unreadable : 0 ≡ line_kind line → Replies reply (refused_turn 14 m w c) → Replies reply (turn_of line m w c)
  unfolding turn_of record_turn
  turn-unreadable k r = let z : line_kind line ≡ 0 = sym k in rw z r

  module _ (read : Record) (k : kind_number read.kind ≡ line_kind line) (held : HoldsRecord read line) where
    pub turn-shape : read.kind ≡ Kind.Shape → Replies reply (shape_turn (get_or read.bytes 0 0) (get_or read.bytes 1 0) (get_or read.bytes 2 0) m w c)
        → Replies reply (turn_of line m w c)
    unfolding turn_of record_turn
    turn-shape e r =
        let z : line_kind line ≡ 1 = sym k ∙ ap kind_number e in
        let b = byte_at line read held in
        rw z (rw (b 0, b 1, b 2) at r)

    pub turn-unset : (read.kind ≡ Kind.Shape → ⊥) → m ≡ 0 → Replies reply (refused_turn 15 m w c) → Replies reply (turn_of line m w c)
    unfolding turn_of record_turn
    turn-unset s e r =
        rw (← k, ne_eqb (kind_number read.kind) 0 (kind-some read.kind), ne_eqb (kind_number read.kind) 1 (λ z. s (kind-shape read.kind z)), e)
        (rw e at r)

    module _ (f : m ≡ 0 → ⊥) where
      pub turn-data : read.kind ≡ Kind.Data → Replies reply (data_turn (take read.count read.bytes) m w c) → Replies reply (turn_of line m w c)
      unfolding turn_of record_turn
      turn-data e r =
          let z : line_kind line ≡ 2 = sym k ∙ ap kind_number e in
          rw (z, ne_eqb m 0 f) (rw (bytes-taken line read held) at r)

      pub turn-word : (read.kind ≡ Kind.Shape → ⊥) → (read.kind ≡ Kind.Data → ⊥)
          → Replies reply (word_turn (take read.count read.bytes) (take read.count read.marks) m w c) → Replies reply (turn_of line m w c)
      unfolding turn_of record_turn
      turn-word s d r =
          let z : line_kind line ≡ 3 = sym k ∙ ap kind_number (kind-word read.kind s d) in
          rw (z, ne_eqb m 0 f) (rw (bytes-taken line read held, marks-taken line read held) at r)
