-- Laws: A group's places: first those that carry data, then its checks. Runs of places that are all data or all checks, for any test of a place.
use Rattle.std.specs.Prelude.{◌≡◌, Bool, eqb, ltb, leb, length, drop}
use Rattle.std.proofs.Math.Path.{sym, ap}
use Rattle.std.proofs.Common.{ap₂, ◌∙◌, zero-add, add_comm, add-mul, zero-mul, le_of_suc-le-suc, div-lt_iff_lt-mul, arith, length-append, length-take, length-drop, drop_of_length-le, take_at, drop_at, take_all, length-take-le, drop-drop, le-leb, lt-ltb, le-ltb, eq-eqb, ne_eqb}
use Rattle.std.proofs.Math.Bool.{true, false}
use mathlib.Core.List.{List, [], ◌∷◌, ◌++◌, append_assoc, append-nil}
use Prim.Native.Nat.{ℕ, zero, suc, ◌+◌, ◌-◌, ◌*◌, ◌/◌, ◌≤◌, ◌<◌}
use Rattle.std.proofs.Math.Nat.{add-zero, suc-add, add-suc, suc-mul, one-mul, sub-zero, mul-le-mul_right}
use Rattle.std.proofs.Math.Numerals.{add-one}
use Rattle.std.proofs.Math.Decide.{ℕ_discrete, dec_lt}
use Rattle.std.proofs.Math.ListN.{get_or, take, replicate}
use Rattle.std.proofs.lemmas.List.{length-replicate}
use Rattle.std.proofs.Math.Seq.{drop-cons}
use Rattle.std.proofs.lemmas.Bool.{lt-leb}
use Rattle.code.specs.Limits.{Limits, data_count, GoodIn}
use Rattle.code_engine.specs.GroupsLaws.{group-next, groups-passed}
use Rattle.code_services.specs.Places.{is_check, others_from, data_places, symbols_at, extract_over, spread_over, placed_over, mark, marks_from, check_marks}
use Rattle.code_services.specs.PlacesLaws.{check-inner, check-last}
use Rattle.code_services.specs.PlacesRuns.{data_of, data_in}

-- nothing is read of no places
nothing : {A : Type 0} (z : A) (check : ℕ → Bool) (word : List A) (p : ℕ) (x : List A) → x ++ symbols_at z word (others_from check p 0) ≡ x
unfolding others_from symbols_at
nothing z check word p x = append-nil x

module _ (check : ℕ → Bool) where
  -- the places from p on as those from the next on
  after : (v : Bool) (p d : ℕ) → ((j : ℕ) → j < suc d → check (p + j) ≡ v) → (j : ℕ) → j < d → check (suc p + j) ≡ v
  after v p d h j l = ap check (suc-add p j ∙ sym (add-suc p j)) ∙ h (suc j) (omega arith)

  here : (v : Bool) (p d : ℕ) → ((j : ℕ) → j < suc d → check (p + j) ≡ v) → check p ≡ v
  here v p d h = ap check (sym (add-zero p)) ∙ h 0 (omega arith)

  pub data-run : {A : Type 0} (z : A) (d s p : ℕ) (bytes : List A) → ((j : ℕ) → j < d → check (p + j) ≡ false) → d ≤ length bytes
      → spread_over z check p (d + s) bytes ≡ take d bytes ++ spread_over z check (p + d) s (drop d bytes)
  unfolding spread_over
  data-run z zero s p bytes h l = rw (zero-add s, add-zero p)
  data-run z (suc d) s p [] h l = absurd (omega arith)
  data-run z (suc d) s p (b ∷ bytes) h l =
      rw (suc-add d s, here false p d h)
      (ap (λ t. b ∷ t) (data-run z d s (suc p) bytes (after false p d h) (le_of_suc-le-suc l)
      ∙ ap (λ q. take d bytes ++ spread_over z check q s (drop d bytes)) (suc-add p d ∙ sym (add-suc p d))))

  pub check-run : {A : Type 0} (z : A) (e s p : ℕ) (bytes : List A) → ((j : ℕ) → j < e → check (p + j) ≡ true)
      → spread_over z check p (e + s) bytes ≡ replicate e z ++ spread_over z check (p + e) s bytes
  unfolding spread_over
  check-run z zero s p bytes h = rw (zero-add s, add-zero p)
  check-run z (suc e) s p bytes h =
      rw (suc-add e s, here true p e h)
      (ap (λ t. z ∷ t) (check-run z e s (suc p) bytes (after true p e h)
      ∙ ap (λ q. replicate e z ++ spread_over z check q s bytes) (suc-add p e ∙ sym (add-suc p e))))

  pub marks-run : (v : Bool) (e s p : ℕ) → ((j : ℕ) → j < e → check (p + j) ≡ v)
      → marks_from check p (e + s) ≡ replicate e (mark v) ++ marks_from check (p + e) s
  unfolding marks_from
  marks-run v zero s p h = rw (zero-add s, add-zero p)
  marks-run v (suc e) s p h =
      rw (suc-add e s, here v p e h)
      (ap (λ t. mark v ∷ t) (marks-run v e s (suc p) (after v p e h) ∙ ap (λ q. replicate e (mark v) ++ marks_from check q s) (suc-add p e ∙ sym (add-suc p e))))

  -- what is read of a run of data
  pub read-run : {A : Type 0} (z : A) (d s p : ℕ) (word : List A) → ((j : ℕ) → j < d → check (p + j) ≡ false) → p + d ≤ length word
      → symbols_at z word (others_from check p (d + s)) ≡ take d (drop p word) ++ symbols_at z word (others_from check (p + d) s)
  unfolding others_from symbols_at
  read-run z zero s p word h l = rw (zero-add s, add-zero p)
  read-run z (suc d) s p word h l =
      rw (suc-add d s, here false p d h, drop-cons word p z (omega arith))
      (ap (λ t. get_or word p z ∷ t) (read-run z d s (suc p) word (after false p d h) (omega (arith, suc-add p d, add-suc p d))
      ∙ ap (λ q. take d (drop (suc p) word) ++ symbols_at z word (others_from check q s)) (suc-add p d ∙ sym (add-suc p d))))

  -- and of a run of checks nothing
  pub pass-run : (e s p : ℕ) → ((j : ℕ) → j < e → check (p + j) ≡ true) → others_from check p (e + s) ≡ others_from check (p + e) s
  unfolding others_from
  pass-run zero s p h = rw (zero-add s, add-zero p)
  pass-run (suc e) s p h =
      rw (suc-add e s, here true p e h) (pass-run e s (suc p) (after true p e h) ∙ ap (λ q. others_from check q s) (suc-add p e ∙ sym (add-suc p e)))

-- the two runs of a group that starts at p, of which the first has d places
pub record Runs (m w c p d : ℕ) : Type 0 where
  pub fits : d ≤ w
  pub others : (j : ℕ) → j < d → is_check m w c (p + j) ≡ false
  pub checks : (j : ℕ) → j < w - d → is_check m w c (p + d + j) ≡ true

-- in a group whose last k places are its checks
last-checks : (m w c g k : ℕ) → ((j : ℕ) → j < w → is_check m w c (g * w + j) ≡ leb w (j + k)) → Runs m w c (g * w) (w - k)
last-checks m w c g k is = record {
  fits = omega arith;
  others = λ j l. is j (omega arith) ∙ lt-leb w (j + k) (omega arith);
  checks = λ j l.
      ap (is_check m w c) (regroup j) ∙ is (w - k + j) (omega arith) ∙ le-leb w (w - k + j + k) (omega arith);
}
  where
    regroup : (j : ℕ) → g * w + (w - k) + j ≡ g * w + (w - k + j)
    regroup j = omega arith

pub runs_of : (m w c g : ℕ) → g < m → Runs m w c (g * w) (data_in m w c g)
unfolding data_of
runs_of m w c g l = elim (ℕ_discrete (g + 1) m) [
  | yes e ↦ (rw (eq-eqb (g + 1) m e) (last-checks m w c g (c + 2) (λ j h. check-last m w c g j e h)))
  | no n ↦ (rw (ne_eqb (g + 1) m n) (last-checks m w c g c (λ j h. check-inner m w c g j (omega arith) h)))
]

module _ {L : Limits} {m w c : ℕ} (good : GoodIn L m w c) (g : ℕ) (l : g < m) where
  more : m * (w - c) ≡ (m - (g + 1)) * (w - c) + (g * (w - c) + (w - c))
  more =
      let e : m ≡ (m - (g + 1)) + suc g = omega arith in
      ap (λ n. n * (w - c)) e ∙ add-mul (m - (g + 1)) (suc g) (w - c) ∙ ap (λ x. (m - (g + 1)) * (w - c) + x) (suc-mul g (w - c))

  -- the data of the groups before g and of g itself
  data-fits : g * (w - c) + data_in m w c g ≤ data_count m w c
  unfolding data_of
  data-fits = elim (ℕ_discrete (g + 1) m) [
    | yes e ↦ (rw (eq-eqb (g + 1) m e) (let q = more in let r = good.wide in omega arith))
    | no n ↦ (rw (ne_eqb (g + 1) m n)
        (let q = more in let r = good.wide in let s : 1 * (w - c) ≤ (m - (g + 1)) * (w - c) = mul-le-mul_right (w - c) (omega arith) in
        let u = one-mul (w - c) in omega arith))
  ]

  -- so in a list of all the data there is room for those of g
  pub data-room : (i d n : ℕ) → (g < m → i ≡ g * (w - c)) → d ≡ data_in m w c g → n ≡ data_count m w c → i + d ≤ n
  data-room i d n at_g e size = let f = data-fits in let h = at_g l in omega arith

  pub data-next : g + 1 < m → g * (w - c) + data_in m w c g ≡ (g + 1) * (w - c)
  unfolding data_of
  data-next h = rw (ne_eqb (g + 1) m (λ e. omega arith), add-one g, suc-mul g (w - c))

-- ---- one turn of each loop over the groups
module _ (m w c p d : ℕ) (R : Runs m w c p d) where
  halves : (r : ℕ) → w + r ≡ d + (w - d + r)
  halves r = let f = R.fits in omega arith

  ends : p + d + (w - d) ≡ p + w
  ends = let f = R.fits in omega arith

  marks-group : (r : ℕ) → marks_from (is_check m w c) p (w + r) ≡ (replicate d 0 ++ replicate (w - d) 1) ++ marks_from (is_check m w c) (p + w) r
  marks-group r =
      ap (marks_from (is_check m w c) p) (halves r) ∙ marks-run (is_check m w c) false d (w - d + r) p R.others
      ∙ ap (λ t. replicate d 0 ++ t) (marks-run (is_check m w c) true (w - d) r (p + d) R.checks)
      ∙ sym (append_assoc (replicate d 0) (replicate (w - d) 1) _) ∙ ap (λ q. (replicate d 0 ++ replicate (w - d) 1) ++ marks_from (is_check m w c) q r) ends

  spread-group : {A : Type 0} (z : A) (r : ℕ) (bytes : List A) → d ≤ length bytes
      → spread_over z (is_check m w c) p (w + r) bytes ≡ (take d bytes ++ replicate (w - d) z) ++ spread_over z (is_check m w c) (p + w) r (drop d bytes)
  spread-group z r bytes long =
      ap (λ n. spread_over z (is_check m w c) p n bytes) (halves r) ∙ data-run (is_check m w c) z d (w - d + r) p bytes R.others long
      ∙ ap (λ t. take d bytes ++ t) (check-run (is_check m w c) z (w - d) r (p + d) (drop d bytes) R.checks)
      ∙ sym (append_assoc (take d bytes) (replicate (w - d) z) _)
      ∙ ap (λ q. (take d bytes ++ replicate (w - d) z) ++ spread_over z (is_check m w c) q r (drop d bytes)) ends

  read-group : {A : Type 0} (z : A) (r : ℕ) (word : List A) → p + w ≤ length word
      → symbols_at z word (others_from (is_check m w c) p (w + r)) ≡ take d (drop p word) ++ symbols_at z word (others_from (is_check m w c) (p + w) r)
  read-group z r word long =
      ap (λ n. symbols_at z word (others_from (is_check m w c) p n)) (halves r)
      ∙ read-run (is_check m w c) z d (w - d + r) p word R.others (let f = R.fits in omega arith)
      ∙ ap (λ t. take d (drop p word) ++ symbols_at z word t)
      (pass-run (is_check m w c) (w - d) r (p + d) R.checks ∙ ap (λ q. others_from (is_check m w c) q r) ends)

-- what is written up to the end of a part of d places that starts at i, and what stays after it
module _ {A : Type 0} (i d : ℕ) (x part : List A) (l : i ≤ length x) (own : length part ≡ d) where
  length-written : length (take i x ++ part) ≡ i + d
  length-written = length-append (take i x) part ∙ (let t = length-take-le i x l in omega arith)

  written : (rest : List A) → take (i + d) (take i x ++ (part ++ rest)) ≡ take i x ++ part
  written rest = ap (take (i + d)) (sym (append_assoc (take i x) part rest)) ∙ take_at (take i x ++ part) rest (i + d) length-written

  pub stays : (y : List A) → drop i x ≡ drop i y → drop (i + d) (take i x ++ (part ++ drop (i + d - i) (drop i x))) ≡ drop (i + d) y
  stays y e =
      let z : i + d - i ≡ d = omega arith in
      ap (drop (i + d)) (sym (append_assoc (take i x) part (drop (i + d - i) (drop i x))))
      ∙ drop_at (take i x ++ part) (drop (i + d - i) (drop i x)) (i + d) length-written ∙ ap₂ drop z e ∙ drop-drop d i y

module _ (m w g : ℕ) (l : g < m) where
  pub group-end : (g + 1) * w ≡ g * w + w
  group-end = ap (λ n. n * w) (add-one g) ∙ suc-mul g w

  pub group-room : g * w + w ≤ m * w
  group-room = let r : suc g * w ≤ m * w = mul-le-mul_right w l in let q = suc-mul g w in omega arith

  groups-left : (m - g) * w ≡ w + (m - (g + 1)) * w
  groups-left =
      let e : m - g ≡ suc (m - (g + 1)) = omega arith in
      ap (λ n. n * w) e ∙ suc-mul (m - (g + 1)) w ∙ add_comm ((m - (g + 1)) * w) w

  pub marks-turn : (c p d : ℕ) → Runs m w c p d → (x part rest : List ℕ) → p + w ≤ length x → part ≡ replicate d 0 ++ replicate (w - d) 1
      → take (p + w) (take p x ++ (part ++ rest)) ++ marks_from (is_check m w c) (p + w) ((m - (g + 1)) * w)
      ≡ take p x ++ marks_from (is_check m w c) p ((m - g) * w)
  marks-turn c p d R x part rest long e =
      ap (λ t. t ++ marks_from (is_check m w c) (p + w) ((m - (g + 1)) * w)) (written p w x part (omega arith) (ap length e ∙ own) rest)
      ∙ append_assoc (take p x) part _
      ∙ ap (λ t. take p x ++ t)
      (ap (λ y. y ++ marks_from (is_check m w c) (p + w) ((m - (g + 1)) * w)) e ∙ sym (marks-group m w c p d R ((m - (g + 1)) * w))
      ∙ ap (marks_from (is_check m w c) p) (sym groups-left))
    where
      own : length {A = ℕ} (replicate d 0 ++ replicate (w - d) 1) ≡ w
      own = simp (length-append, length-replicate) (let f = R.fits in omega arith)

  module _ {A : Type 0} (z : A) (c d : ℕ) (R : Runs m w c (g * w) d) (x part rest : List A) where
    pub spread-turn : length x ≡ m * w → (bytes : List A) (i : ℕ) → i + d ≤ length bytes → part ≡ take d (drop i bytes) ++ replicate (w - d) z
        → take ((g + 1) * w) (take (g * w) x ++ (part ++ rest)) ++ spread_over z (is_check m w c) ((g + 1) * w) ((m - (g + 1)) * w) (drop (i + d) bytes)
        ≡ take (g * w) x ++ spread_over z (is_check m w c) (g * w) ((m - g) * w) (drop i bytes)
    spread-turn size bytes i long e =
        ap₂ ◌++◌ (ap (λ n. take n (take (g * w) x ++ (part ++ rest))) group-end
        ∙ written (g * w) w x part (let r = group-room in omega arith) (ap length e ∙ own) rest)
        (ap₂ (λ q b. spread_over z (is_check m w c) q ((m - (g + 1)) * w) b) group-end (sym (drop-drop d i bytes)))
        ∙ append_assoc (take (g * w) x) part _
        ∙ ap (λ t. take (g * w) x ++ t)
        (ap (λ y. y ++ spread_over z (is_check m w c) (g * w + w) ((m - (g + 1)) * w) (drop d (drop i bytes))) e
        ∙ sym (spread-group m w c (g * w) d R z ((m - (g + 1)) * w) (drop i bytes) enough)
        ∙ ap (λ n. spread_over z (is_check m w c) (g * w) n (drop i bytes)) (sym groups-left))
      where
        enough : d ≤ length (drop i bytes)
        enough = simp length-drop (omega arith)

        own : length (take d (drop i bytes) ++ replicate (w - d) z) ≡ w
        own = simp (length-append, length-replicate) (let f = R.fits in let t = length-take-le d (drop i bytes) enough in omega arith)

    pub read-turn : (word : List A) (i : ℕ) → length word ≡ m * w → i ≤ length x → part ≡ take d (drop (g * w) word)
        → take (i + d) (take i x ++ (part ++ rest)) ++ symbols_at z word (others_from (is_check m w c) ((g + 1) * w) ((m - (g + 1)) * w))
        ≡ take i x ++ symbols_at z word (others_from (is_check m w c) (g * w) ((m - g) * w))
    read-turn word i size long e =
        ap₂ ◌++◌ (written i d x part long own rest) (ap (λ q. symbols_at z word (others_from (is_check m w c) q ((m - (g + 1)) * w))) group-end)
        ∙ append_assoc (take i x) part _
        ∙ ap (λ t. take i x ++ t)
        (ap (λ y. y ++ symbols_at z word (others_from (is_check m w c) (g * w + w) ((m - (g + 1)) * w))) e
        ∙ sym (read-group m w c (g * w) d R z ((m - (g + 1)) * w) word room)
        ∙ ap (λ n. symbols_at z word (others_from (is_check m w c) (g * w) n)) (sym groups-left))
      where
        room : g * w + w ≤ length word
        room = let r = group-room in omega arith

        own : length part ≡ d
        own =
            ap length e
            ∙ length-take-le d (drop (g * w) word) (let k = length-drop (g * w) word in let r = room in let f = R.fits in omega arith)

-- ---- the start and the end
module _ (m w c : ℕ) where
  first-place : 0 * w ≡ 0
  first-place = zero-mul w

  pub marks-first : (x : List ℕ) → take 0 x ++ marks_from (is_check m w c) 0 ((m - 0) * w) ≡ check_marks m w c
  unfolding check_marks
  marks-first x = rw (sub-zero m)

  pub spread-first : {A : Type 0} (z : A) (x bytes : List A) → take (0 * w) x ++ spread_over z (is_check m w c) (0 * w) ((m - 0) * w) bytes ≡ placed_over z m w c bytes
  unfolding placed_over
  spread-first z x bytes = rw (first-place, sub-zero m)

  pub read_first : {A : Type 0} (z : A) (x word : List A) → take 0 x ++ symbols_at z word (others_from (is_check m w c) (0 * w) ((m - 0) * w)) ≡ extract_over z m w c word
  unfolding extract_over data_places
  read_first z x word = rw (first-place, sub-zero m)

  module _ (g : ℕ) (e : g ≡ m) where
    none_left : (m - g) * w ≡ 0
    none_left = let z : m - g ≡ 0 = omega arith in ap (λ n. n * w) z ∙ zero-mul w

    pub marks-last : (x : List ℕ) (p : ℕ) → take p x ++ marks_from (is_check m w c) p ((m - g) * w) ≡ take p x
    unfolding marks_from
    marks-last x p = rw (none_left, append-nil)

    pub spread-last : {A : Type 0} (z : A) (x : List A) → length x ≡ m * w → (bytes : List A) → take (g * w) x ++ spread_over z (is_check m w c) (g * w) ((m - g) * w) bytes ≡ x
    unfolding spread_over
    spread-last z x size bytes = rw (none_left, append-nil) (take_all (g * w) x (let q : g * w ≡ m * w = ap (λ n. n * w) e in omega arith))

    -- a list as long as the data, whose first places are the data, is the data
    pub read-last : {A : Type 0} (z : A) (x word : List A) (i : ℕ) → take i x ++ symbols_at z word (others_from (is_check m w c) (g * w) ((m - g) * w)) ≡ extract_over z m w c word
        → length x ≡ length (extract_over z m w c word) → x ≡ extract_over z m w c word
    read-last {A} z x word i h size =
        let front : take i x ≡ extract_over z m w c word = sym (none_read word i) ∙ h in
        sym (take_all i x (let n = length-take i x in let k = ap length front in omega arith)) ∙ front
      where
        none_read : (word : List A) (i : ℕ) → take i x ++ symbols_at z word (others_from (is_check m w c) (g * w) ((m - g) * w)) ≡ take i x
        none_read word i = rw none_left (nothing z (is_check m w c) word (g * w) (take i x))

-- ---- a part written in two pieces, p of d bytes and then q
module _ {A : Type 0} (d : ℕ) (xs p : List A) (e : length p ≡ d) where
  two-pieces : (q : List A) → take d (p ++ drop d xs) ++ (q ++ drop (length (p ++ drop d xs) - d) (drop d (p ++ drop d xs))) ≡ p ++ q
  two-pieces q =
      let z : length (drop d xs) ≤ length (p ++ drop d xs) - d = (let n = length-append p (drop d xs) in omega arith) in
      ap₂ ◌++◌ (take_at p (drop d xs) d e)
      (ap (λ t. q ++ drop (length (p ++ drop d xs) - d) t) (drop_at p (drop d xs) d e) ∙ ap (λ t. q ++ t) (drop_of_length-le (drop d xs) z) ∙ append-nil q)

  second-piece : length (take (length (p ++ drop d xs) - d) (drop d (p ++ drop d xs))) ≡ length xs - d
  second-piece =
      let n = length-append p (drop d xs) in
      let k = length-drop d xs in
      let t : length (drop d (p ++ drop d xs)) ≡ length (drop d xs) = ap length (drop_at p (drop d xs) d e) in
      length-take-le (length (p ++ drop d xs) - d) (drop d (p ++ drop d xs)) (omega arith) ∙ omega arith

  -- of which the second is a run of one value
  pub front-and-run : (v : A) (front q : List A) → p ≡ front → q ≡ replicate (length (take (length (p ++ drop d xs) - d) (drop d (p ++ drop d xs)))) v
      → take d (p ++ drop d xs) ++ (q ++ drop (length (p ++ drop d xs) - d) (drop d (p ++ drop d xs))) ≡ front ++ replicate (length xs - d) v
  front-and-run v front q f h = two-pieces q ∙ ap₂ ◌++◌ f (h ∙ ap (λ n. replicate n v) second-piece)

-- the part of group g that a loop lends
pub lent-size : {A : Type 0} (m w g : ℕ) → g < m → (x : List A) → length x ≡ m * w → length (take (g * w + w - g * w) (drop (g * w) x)) ≡ w
lent-size m w g l x size =
    let r = group-room m w g l in
    let k = length-drop (g * w) x in
    length-take-le (g * w + w - g * w) (drop (g * w) x) (omega arith) ∙ omega arith

-- ---- groups of w places in a list of n: a is where group g starts
module _ (w n g a : ℕ) (pos : 0 < w) (at : a ≡ g * w) (passed : a ≤ n) where
  pub group-below : w ≤ n - a → g < n / w
  group-below more = elim (dec_lt g (n / w)) [
    | yes l ↦ l
    | no l ↦ (let e = group-next w g a at in let k : n < (g + 1) * w = (div-lt_iff_lt-mul pos).0 (omega arith) in absurd (omega arith))
  ]

-- group g is the last if less than a group follows
pub last_of : (w n g a : ℕ) → 0 < w → a ≡ g * w → a + w ≤ n → ltb (n - (a + w)) w ≡ eqb (g + 1) (n / w)
last_of w n g a pos at fits = elim (dec_lt (n - (a + w)) w) [
  | yes l ↦ lt-ltb (n - (a + w)) w l ∙ sym (eq-eqb (g + 1) (n / w) (sym (groups-passed w n (g + 1) (a + w) (group-next w g a at) fits l)))
  | no l ↦
      (let k = group-below w n (g + 1) (a + w) pos (group-next w g a at) fits (omega arith) in
      le-ltb (n - (a + w)) w (omega arith) ∙ sym (ne_eqb (g + 1) (n / w) (λ e. omega arith)))
]
