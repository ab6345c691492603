-- Laws: The data of a word copied out of its data places, group by group.
use Rattle.std.specs.Prelude.{◌≡◌, List, ◌++◌, ℕ, ◌+◌, ◌-◌, ◌*◌, ◌≤◌, ◌<◌, length, take, drop}
use Rattle.std.proofs.Common.{sym, ap, ◌∙◌, zero-mul, arith, length-append, length-drop, length-take-le}
use Rattle.code.specs.Limits.{Limits, data_count, GoodIn}
use Rattle.code_services.specs.Places.{is_check, others_from, symbols_at, extract_over}
use Rattle.code_services.specs.PlacesLaws.{extract-over-length}
use Rattle.code_services.specs.PlacesRuns.{data_in}
use Rattle.code_loops.specs.RunsLaws.{Runs, runs_of, data-room, data-next, group-room, read-turn, read_first, read-last}

-- the groups before g are read, and gave the first i of the data
pub record Copied {A : Type 0} (z : A) (m w c : ℕ) (word carries : List A) (i g : ℕ) : Type 0 where
  pub passed : g ≤ m
  pub size : length carries ≡ data_count m w c
  pub at : g < m → i ≡ g * (w - c)
  pub read : take i carries ++ symbols_at z word (others_from (is_check m w c) (g * w) ((m - g) * w)) ≡ extract_over z m w c word

pub copy-starts : {A : Type 0} (z : A) (m w c : ℕ) (word carries : List A) → length carries ≡ data_count m w c → Copied z m w c word carries 0 0
copy-starts z m w c word carries size =
    record { passed = omega arith; size = size; at = λ _. sym (zero-mul (w - c)); read = read_first m w c z carries word }

pub copy-ends : {A : Type 0} {z : A} {B : Limits} {m w c : ℕ} → GoodIn B m w c → {word carries : List A} {i g : ℕ} → Copied z m w c word carries i g → m ≤ g
    → carries ≡ extract_over z m w c word
copy-ends {A} {z} {B} {m} {w} {c} good {word} {carries} {i} {g} S h =
    read-last m w c g (let p = S.passed in omega arith) z carries word i S.read (S.size ∙ sym (extract-over-length good z word))

-- one turn: group g gives the next d of the data
pub record CopyTurn {A : Type 0} (z : A) (B : Limits) (m w c : ℕ) (word carries : List A) (i g d : ℕ) : Type 0 where
  pub good : GoodIn B m w c
  pub whole : length word ≡ m * w
  pub more : g < m
  pub own : d ≡ data_in m w c g
  pub before : Copied z m w c word carries i g

module _ {A : Type 0} {z : A} {B : Limits} {m w c : ℕ} {word carries : List A} {i g d : ℕ} (T : CopyTurn z B m w c word carries i g d) where
  runs : Runs m w c (g * w) d
  runs = rw T.own (runs_of m w c g T.more)

  -- the places that it reads
  pub word-within : g * w + d ≤ length word
  word-within = let r = group-room m w g T.more in let f = runs.fits in let s = T.whole in omega arith

  -- the data that it writes
  pub data-within : i + d ≤ length carries
  data-within = data-room T.good g T.more i d (length carries) T.before.at T.own T.before.size

  read-size : length (take (g * w + d - g * w) (drop (g * w) word)) ≡ d
  read-size = let k = length-drop (g * w) word in let h = word-within in length-take-le (g * w + d - g * w) (drop (g * w) word) (omega arith) ∙ omega arith

  data-size : length (take (i + d - i) (drop i carries)) ≡ d
  data-size = let k = length-drop i carries in let h = data-within in length-take-le (i + d - i) (drop i carries) (omega arith) ∙ omega arith

  pub same_size : length (take (g * w + d - g * w) (drop (g * w) word)) ≡ length (take (i + d - i) (drop i carries))
  same_size = read-size ∙ sym data-size

  pub copy-on : (part : List A) → part ≡ take (g * w + d - g * w) (drop (g * w) word)
      → Copied z m w c word (take i carries ++ (part ++ drop (i + d - i) (drop i carries))) (i + d) (g + 1)
  copy-on part e = record {
    passed = let l = T.more in omega arith;
    size = whole;
    at = λ h. (let u = data-next T.good g T.more h in let a = T.before.at T.more in let o = T.own in omega arith);
    read = read-turn m w g T.more z c d runs carries part (drop (i + d - i) (drop i carries)) word i T.whole (let h = data-within in omega arith)
        (e ∙ ap (λ k. take k (drop (g * w) word)) (let z : g * w + d - g * w ≡ d = omega arith in z))
        ∙ T.before.read;
  }
    where
      whole : length (take i carries ++ (part ++ drop (i + d - i) (drop i carries))) ≡ data_count m w c
      whole =
          let n = ap length e in
          let k = read-size in
          let h = data-within in
          let l = length-take-le i carries (omega arith) in
          let r = length-drop i carries in
          let q = length-drop (i + d - i) (drop i carries) in
          let u = length-append part (drop (i + d - i) (drop i carries)) in
          let v = length-append (take i carries) (part ++ drop (i + d - i) (drop i carries)) in
          let s = T.before.size in
          omega arith
