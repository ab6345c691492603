-- Laws: Data written into the data places of a word and 0 into its check places, group by group.
use Rattle.std.specs.Prelude.{◌≡◌, refl, List, ◌++◌, ℕ, ◌+◌, ◌-◌, ◌*◌, ◌≤◌, ◌<◌, length, take, drop, replicate}
use Rattle.std.proofs.Common.{sym, ap, ap₂, ◌∙◌, zero-mul, arith, length-append, length-drop, length-take-le}
use Rattle.std.proofs.lemmas.List.{length-replicate}
use Rattle.code.specs.Limits.{Limits, data_count, GoodIn}
use Rattle.code_services.specs.Places.{is_check, spread_over, placed_over}
use Rattle.code_services.specs.PlacesRuns.{data_in}
use Rattle.code_loops.specs.RunsLaws.{Runs, runs_of, data-room, data-next, group-room, spread-turn, spread-first, spread-last, lent-size}

-- the groups before g are written, with the first i of the data
pub record Spread {A : Type 0} (z : A) (m w c : ℕ) (carries word : List A) (i g : ℕ) : Type 0 where
  pub passed : g ≤ m
  pub size : length word ≡ m * w
  pub at : g < m → i ≡ g * (w - c)
  pub written : take (g * w) word ++ spread_over z (is_check m w c) (g * w) ((m - g) * w) (drop i carries) ≡ placed_over z m w c carries

pub spread-starts : {A : Type 0} (z : A) (m w c : ℕ) (carries word : List A) → length word ≡ m * w → Spread z m w c carries word 0 0
spread-starts z m w c carries word size =
    record { passed = omega arith; size = size; at = λ _. sym (zero-mul (w - c)); written = spread-first m w c z word carries }

pub spread-ends : {A : Type 0} {z : A} {m w c : ℕ} {carries word : List A} {i g : ℕ} → Spread z m w c carries word i g → m ≤ g → word ≡ placed_over z m w c carries
spread-ends {A} {z} {m} {w} {c} {carries} {word} {i} {g} S h =
    sym (spread-last m w c g (let p = S.passed in omega arith) z word S.size (drop i carries)) ∙ S.written

-- the places of group g
pub group-within : {A : Type 0} {z : A} {m w c : ℕ} {carries word : List A} {i g : ℕ} → Spread z m w c carries word i g → g < m → g * w + w ≤ length word
group-within {A} {z} {m} {w} {c} {carries} {word} {i} {g} S l = let r = group-room m w g l in let s = S.size in omega arith

-- one turn: group g takes the next d of the data
pub record SpreadTurn {A : Type 0} (z : A) (B : Limits) (m w c : ℕ) (carries word : List A) (i g d : ℕ) : Type 0 where
  pub good : GoodIn B m w c
  pub all : length carries ≡ data_count m w c
  pub more : g < m
  pub own : d ≡ data_in m w c g
  pub before : Spread z m w c carries word i g

module _ {A : Type 0} {z : A} {B : Limits} {m w c : ℕ} {carries word : List A} {i g d : ℕ} (T : SpreadTurn z B m w c carries word i g d) where
  -- the data that it reads
  pub data-within : i + d ≤ length carries
  data-within = data-room T.good g T.more i d (length carries) T.before.at T.own T.all

  runs : Runs m w c (g * w) d
  runs = rw T.own (runs_of m w c g T.more)

  part-size : length (take (g * w + w - g * w) (drop (g * w) word)) ≡ w
  part-size = lent-size m w g T.more word T.before.size

  same : i + d - i ≡ d
  same = omega arith

  data-size : length (take (i + d - i) (drop i carries)) ≡ d
  data-size = let j = length-drop i carries in let h = data-within in length-take-le (i + d - i) (drop i carries) (omega arith) ∙ same

  pub part-holds : length (take (i + d - i) (drop i carries)) ≤ length (take (g * w + w - g * w) (drop (g * w) word))
  part-holds = let f = runs.fits in let p = part-size in let q = data-size in omega arith

  pub spread-on : (part : List A)
      → part ≡ take (i + d - i) (drop i carries)
      ++ replicate (length (take (g * w + w - g * w) (drop (g * w) word)) - length (take (i + d - i) (drop i carries))) z
      → Spread z m w c carries (take (g * w) word ++ (part ++ drop (g * w + w - g * w) (drop (g * w) word))) (i + d) (g + 1)
  spread-on part e = record {
    passed = let l = T.more in omega arith;
    size = whole;
    at = λ h. (let u = data-next T.good g T.more h in let a = T.before.at T.more in let o = T.own in omega arith);
    written = spread-turn m w g T.more z c d runs word part (drop (g * w + w - g * w) (drop (g * w) word)) T.before.size carries i data-within is
        ∙ T.before.written;
  }
    where
      is : part ≡ take d (drop i carries) ++ replicate (w - d) z
      is = e ∙ ap₂ (λ u v. take (i + d - i) (drop i carries) ++ replicate (u - v) z) part-size data-size
          ∙ ap (λ u. take u (drop i carries) ++ replicate (w - d) z) same

      whole : length (take (g * w) word ++ (part ++ drop (g * w + w - g * w) (drop (g * w) word))) ≡ m * w
      whole =
          let n = ap length is in
          let k = length-append (take d (drop i carries)) (replicate (w - d) z) in
          let z : length {A = A} (replicate (w - d) z) ≡ w - d = length-replicate (w - d) z in
          let j = length-drop i carries in
          let t = length-take-le d (drop i carries) (let h = data-within in omega arith) in
          let f = runs.fits in
          let r = length-drop (g * w) word in
          let l = length-take-le (g * w) word (let h = group-within T.before T.more in omega arith) in
          let q = length-drop (g * w + w - g * w) (drop (g * w) word) in
          let u = length-append part (drop (g * w + w - g * w) (drop (g * w) word)) in
          let v = length-append (take (g * w) word) (part ++ drop (g * w + w - g * w) (drop (g * w) word)) in
          let h = group-within T.before T.more in
          let s = T.before.size in
          omega arith
