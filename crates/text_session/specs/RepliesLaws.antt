-- Laws: What a reply that is ready for output is.
use Rattle.std.specs.Prelude.{◌≡◌, refl, List, ℕ, ◌≤◌, length}
use Rattle.std.proofs.Common.{arith}
use Rattle.text.specs.PaddedLaws.{padded-length}
use Rattle.text_lines.specs.declared.Line.{Line}
use Rattle.text_lines.specs.Holds.{HoldsLine}
use Rattle.text_session.specs.declared.Reply.{Reply}
use Rattle.text_session.specs.Turn.{Turn, turn}
use Rattle.text_session.specs.Replies.{Replies}

pub replies : (line : Line) (reply : Reply) (output : List ℕ) (m w c : ℕ) → HoldsLine line output
    → reply ≡ record { bytes = line.bytes; length = line.length; m = m; w = w; c = c } → Replies reply (turn output m w c)
replies line reply output m w c h e =
    rw e (record { size = h.size; most = h.most; contents = h.contents; groups = refl; width = refl; checks = refl })

-- the line of a reply is a part of its row of bytes
pub reply-room : (reply : Reply) (t : Turn) → Replies reply t → reply.length ≤ length reply.bytes
reply-room reply t r =
    let s = r.size in
    let f = r.most in
    rw (r.contents, padded-length 1024 t.output (omega arith)) f
