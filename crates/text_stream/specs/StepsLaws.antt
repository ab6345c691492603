-- Laws: What the code's steps leave: a byte kept or passed over, a line answered, bytes one after the other.
use Rattle.std.specs.Prelude.{◌≡◌, ℕ, ◌+◌, ◌*◌, ◌≤◌, ◌<◌, min, get_or, take, set}
use Rattle.std.proofs.Math.Path.{refl, ap}
use Rattle.std.proofs.Common.{sym, ◌∙◌, add-one, ne_eqb, take-suc, take_at}
use mathlib.Core.List.{List, [], ◌∷◌, ◌++◌, append-nil}
use Rattle.std.proofs.Math.Nat.{zero-add}
use Rattle.std.proofs.Math.Decide.{dec_le}
use native.Mathlib.Omega.{arith}
use Rattle.std.proofs.Math.ListN.{length, length-append}
use Rattle.std.proofs.Math.Seq.{take_all, take-suc-set, length-take-le}
use Rattle.std.proofs.lemmas.List.{take-append-le}
use Rattle.text.specs.Written.{written}
use Rattle.text.specs.WrittenLaws.{written-nothing, written_on, length-written}
use Rattle.text_session.specs.Turn.{Turn}
use Rattle.text_session.specs.declared.Reply.{Reply}
use Rattle.text_session.specs.Replies.{Replies}
use Rattle.text_stream.specs.declared.Place.{Place}
use Rattle.text_stream.specs.declared.State.{State}
use Rattle.text_stream.specs.Points.{Point, longer, next, after_bytes, said, adds, unless_empty, closing, kept_point}
use Rattle.text_stream.specs.States.{point_of}
use Rattle.text_stream.specs.Places.{point_at, turn_on, ended_by, Taken, Passed}
use Rattle.text_stream.specs.CutLaws.{said-kept, next-kept, after-append, adds-append}
use Rattle.text_stream.specs.RoomLaws.{turn-room}
use Rattle.text_stream.specs.Steps.{Midway}

-- ---- a byte
said-other : (p : Point) (x : ℕ) → (x ≡ 10 → ⊥) → said p x ≡ []
unfolding said
said-other p x n = rw (ne_eqb x 10 n)

next-other : (p : Point) (x : ℕ) → (x ≡ 10 → ⊥) → next p x ≡ longer p x
unfolding next
next-other p x n = rw (ne_eqb x 10 n)

module _ (x : ℕ) (line : List ℕ) (at : Place) (out : List ℕ) (whole : length line ≡ 1025) (fits : at.length ≤ 1025) where
  pub taken-feed : x ≡ 10 → (at₂ : Place) (out₂ : List ℕ)
      → at₂ ≡ ended_by (turn_on line at) at.used
      → out₂ ≡ written out at.used (turn_on line at).output → Taken x line at out line at₂ out₂
  unfolding point_at next said kept_point
  taken-feed e at₂ out₂ p o =
      let r = turn-room (take at.length line) at.m at.w at.c in
      let l : length (take at.length line) ≡ at.length = length-take-le at.length line (omega arith) in
      rw (e, p) (record { point = refl; used = refl; output = o; fits = omega arith; room = omega arith })

  -- another byte: the point, where the line so far is the one of the next place
  other : (n : x ≡ 10 → ⊥) (line₂ : List ℕ) (at₂ : Place) → at₂.used ≡ at.used → at₂.length ≤ 1025 → at₂.length ≤ at.length + 1
      → point_at line₂ at₂ ≡ kept_point (longer (point_at line at) x)
      → Taken x line at out line₂ at₂ out
  unfolding point_at kept_point
  other n line₂ at₂ u f l p = record {
    point = p ∙ ap kept_point (sym (next-other (point_at line at) x n));
    used = rw (said-other (point_at line at) x n) (omega arith);
    output = rw (said-other (point_at line at) x n) (sym (written-nothing out at.used));
    fits = f;
    room = omega arith;
  }

  -- it goes on the line if there is room
  pub taken-kept : (x ≡ 10 → ⊥) → at.length < 1025
      → Taken x line at out (set line at.length x) (record { length = at.length + 1; used = at.used; m = at.m; w = at.w; c = at.c }) out
  unfolding point_at kept_point
  taken-kept n l =
      let k : length (take at.length line) ≡ at.length = length-take-le at.length line (omega arith) in
      other n (set line at.length x) (record { length = at.length + 1; used = at.used; m = at.m; w = at.w; c = at.c }) refl (omega arith) (omega arith)
      (ap (λ ys. record { line = ys; m = at.m; w = at.w; c = at.c })
      (rw (add-one, take-suc-set line at.length x (omega arith)) (sym (take_all 1025 _ (simp length-append (omega arith))))))

  -- and else is passed over
  pub taken-past : (x ≡ 10 → ⊥) → 1025 ≤ at.length → Taken x line at out line at out
  unfolding point_at kept_point
  taken-past n l =
      let a : at.length ≤ length line = omega arith in
      let k : length (take at.length line) ≡ 1025 = length-take-le at.length line a ∙ (let z : at.length ≡ 1025 = omega arith in z) in
      other n line at refl fits (omega arith)
      (ap (λ ys. record { line = ys; m = at.m; w = at.w; c = at.c })
      (sym (take-append-le 1025 (take at.length line) (x ∷ []) (omega arith) ∙ take_all 1025 (take at.length line) (omega arith))))

pub midway-first : (bytes : List ℕ) (line : List ℕ) (at : Place) (out : List ℕ) → length line ≡ 1025 → at.length ≤ 1025 → at.used ≡ 0
    → Midway bytes (point_at line at) at.length out line at out 0
unfolding point_at after_bytes adds kept_point
midway-first bytes line at out whole fits none = record {
  passed = record {
    point = ap (λ ys. record { line = ys; m = at.m; w = at.w; c = at.c })
        (sym (take_all 1025 (take at.length line) (let h = length-take-le at.length line (omega arith) in omega arith)));
    used = none;
    output = sym (written-nothing out 0);
    fits = fits;
  };
  room = omega arith;
}

module _ (bytes : List ℕ) (p : Point) (start : ℕ) (out line₂ : List ℕ) (at₂ : Place) (out₂ : List ℕ) (i : ℕ)
    (M : Midway bytes p start out line₂ at₂ out₂ i) (l : i < length bytes) (big : 12 * (start + (i + 1)) ≤ length out) where
  -- the point after i bytes, and what the next one says there
  x : ℕ
  x = get_or bytes i 0

  q : Point
  q = after_bytes p (take i bytes)

  so_far : List ℕ
  so_far = adds p (take i bytes)

  more : take (i + 1) bytes ≡ take i bytes ++ (x ∷ [])
  unfolding x
  more = rw (add-one) (take-suc bytes i 0 l)

  same-said : said (point_at line₂ at₂) x ≡ said q x
  unfolding q
  same-said = ap (λ r. said r x) M.passed.point ∙ said-kept q x

  adds-more : adds p (take (i + 1) bytes) ≡ so_far ++ said q x
  unfolding q so_far adds
  adds-more = ap (adds p) more ∙ adds-append p (take i bytes) (x ∷ []) ∙ ap (λ ys. so_far ++ ys) (append-nil (said q x))

  after_more : after_bytes p (take (i + 1) bytes) ≡ next q x
  unfolding q after_bytes
  after_more = ap (after_bytes p) more ∙ after-append p (take i bytes) (x ∷ [])

  out-same : length out₂ ≡ length out
  unfolding so_far
  out-same =
      let u = M.passed.used in
      let r = M.room in
      ap length M.passed.output ∙ length-written out 0 so_far (omega arith)

  pub midway-room : (at₂.length ≤ 1025) × (at₂.used + 12 * (at₂.length + 1) ≤ length out₂)
  midway-room = let s = out-same in let r = M.room in (M.passed.fits, omega arith)

  pub midway-more : (line₃ : List ℕ) (at₃ : Place) (out₃ : List ℕ) → Taken (get_or bytes i 0) line₂ at₂ out₂ line₃ at₃ out₃
      → Midway bytes p start out line₃ at₃ out₃ (i + 1)
  unfolding x q so_far
  midway-more line₃ at₃ out₃ t =
      let u = M.passed.used in
      let r = M.room in
      let v = t.room in
      let s : length (said (point_at line₂ at₂) x) ≡ length (said q x) = ap length same-said in
      let n = t.used in
      let o = rw zero-add at (written_on out 0 so_far (said q x) (omega arith)) in
      record {
        passed = record {
          point = t.point ∙ ap (λ r. kept_point (next r x)) M.passed.point ∙ next-kept q x ∙ ap kept_point (sym after_more);
          used = t.used ∙ rw (adds-more, length-append) (omega arith);
          output = t.output ∙ rw (adds-more, same-said, M.passed.output, M.passed.used) o;
          fits = t.fits;
        };
        room = omega arith;
      }

-- ---- the answer to a line
-- an output line is the front of its row of bytes
pub reply-line : (reply : Reply) (t : Turn) → Replies reply t → take reply.length reply.bytes ≡ t.output
reply-line reply t r = rw r.contents (take_at t.output _ reply.length (sym r.size))

module _ (line : List ℕ) (at : Place) (reply : Reply) (R : Replies reply (turn_on line at)) where
  pub reply-fits : at.length ≤ length line → reply.length ≤ 12 * (at.length + 1)
  reply-fits l =
      let r = turn-room (take at.length line) at.m at.w at.c in
      let k = length-take-le at.length line l in
      let s = R.size in
      omega arith

  pub answered-place : ◌≡◌ {A = Place} (record { length = 0; used = at.used + reply.length; m = reply.m; w = reply.w; c = reply.c })
      (ended_by (turn_on line at) at.used)
  answered-place = rw (R.size, R.groups, R.width, R.checks)

-- ---- states
-- a length past the row's end stands for the whole row
take-least : (row : List ℕ) (most n r : ℕ) → length row ≡ most → r ≡ min n most → take r row ≡ take n row
take-least row most n r whole e = elim (dec_le n most) [
  | yes h ↦ ap (λ k. take k row) (let z : r ≡ n = omega arith in z)
  | no h ↦ (let z : r ≡ most = omega arith in take_all r row (omega arith) ∙ sym (take_all n row (omega arith)))
]

module _ (s : State) (at : Place) (e : at.length ≡ min s.length 1025) (m : at.m ≡ s.m) (w : at.w ≡ s.w) (c : at.c ≡ s.c)
    (whole : length s.line ≡ 1025) where
  pub first-point : point_at s.line at ≡ point_of s
  unfolding point_at point_of
  first-point = rw (take-least s.line 1025 s.length at.length whole e, m, w, c)

  pub took : (input : List ℕ) (count n : ℕ) → length input ≡ 1024 → n ≡ min count 1024 → (out line₂ : List ℕ) (at₂ : Place) (out₂ : List ℕ)
      → Passed (take n input) (point_at s.line at) out line₂ at₂ out₂
      → (point_of (record { line = line₂; length = at₂.length; m = at₂.m; w = at₂.w; c = at₂.c }) ≡ kept_point (after_bytes (point_of s) (take count input)))
      × (at₂.used ≡ length (adds (point_of s) (take count input))) × (out₂ ≡ written out 0 (adds (point_of s) (take count input)))
      × (at₂.length ≤ 1025)
  unfolding point_of point_at
  took input count n size f out line₂ at₂ out₂ P =
      rw (← first-point, ← take-least input 1024 count n size f) (P.point, P.used, P.output, P.fits)

  pub closing-some : (at.length ≡ 0 → ⊥) → closing (point_of s) ≡ (turn_on s.line at).output
  unfolding closing point_of
  closing-some n =
      rw (← take-least s.line 1025 s.length at.length whole e, m, w, c)
      (some (take at.length s.line) _ (λ z. n (sym (length-take-le at.length s.line (omega arith)) ∙ z)))
    where
      some : (line output : List ℕ) → (length line ≡ 0 → ⊥) → unless_empty line output ≡ output
      some [] output n = absurd (n refl)
      some (x ∷ line) output n = refl

pub closing-none : (s : State) (r : ℕ) → r ≡ min s.length 1025 → r ≡ 0 → closing (point_of s) ≡ []
unfolding closing point_of
closing-none s r e z = let n : s.length ≡ 0 = omega arith in rw n
