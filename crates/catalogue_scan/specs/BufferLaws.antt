-- The scan of a buffer's text.
use Rattle.std.proofs.Math.Path.{◌≡◌, refl, sym, ap}
use Rattle.std.specs.Prelude.{Bool, Option, Some, None, Result, Ok, Err, List, ℕ, ◌≤◌, ◌<◌, length, take}
use Rattle.std.proofs.Math.Bool.{true, false, cond}
use Rattle.std.proofs.Common.{arith, ◌∙◌}
use Rattle.std.specs.Option.{ok_or}
use borrow.Author.Tests.{le-leb, lt-leb}
use Rattle.catalogue_text.specs.Buffers.{formed, catalogue_in}
use Rattle.catalogue_scan.specs.declared.Found.{Found}
use Rattle.catalogue_scan.specs.Places.{found_in, scanned_of, scanned_in, FoundIn}

module _ (buffer : List ℕ) (size : ℕ) (name : List ℕ) where
  pub scanned-short : length buffer < size → scanned_in buffer size name ≡ None
  unfolding scanned_in formed
  scanned-short l = rw (lt-leb size (length buffer) l)

  pub scanned-long : size ≤ length buffer → 4096 < size → scanned_in buffer size name ≡ None
  unfolding scanned_in formed
  scanned-long h l = rw (le-leb size (length buffer) h, lt-leb size 4096 l)

  pub scanned-text : size ≤ length buffer → size ≤ 4096 → scanned_of (take size buffer) name ≡ scanned_in buffer size name
  unfolding scanned_in scanned_of formed catalogue_in
  scanned-text h l = rw (le-leb size (length buffer) h, le-leb size 4096 l)

  pub at-found : (found : Found) → scanned_in buffer size name ≡ Some found → FoundIn found buffer size name
  unfolding scanned_in
  at-found found = go (formed buffer size) refl
    where
      go : (b : Bool) → formed buffer size ≡ b → cond b (Some (found_in name (catalogue_in buffer size))) None ≡ Some found
          → FoundIn found buffer size name
      go true e h = record { whole = e; is = cc }
      go false e h = let z : ◌≡◌ {A = ℕ} 0 1 = cc in absurd (omega arith)

  pub not_found : scanned_in buffer size name ≡ None → formed buffer size ≡ false
  unfolding scanned_in
  not_found = go (formed buffer size)
    where
      go : (b : Bool) → cond b (Some (found_in name (catalogue_in buffer size))) None ≡ None → b ≡ false
      go true h = let z : ◌≡◌ {A = ℕ} 0 1 = cc in absurd (omega arith)
      go false h = refl

  -- a scan as a `Result` with an error of the caller's
  pub found-at : {E : Type 0} {r : Result Found E} {found : Found} (e : E) (s : Option Found) → s ≡ scanned_in buffer size name → r ≡ ok_or s e
      → r ≡ Ok found → FoundIn found buffer size name
  found-at {E} {r} {found} e s is v w = go s is v
    where
      go : (s : Option Found) → s ≡ scanned_in buffer size name → r ≡ ok_or s e → FoundIn found buffer size name
      go None i v = let z : ◌≡◌ {A = ℕ} 0 1 = cc in absurd (omega arith)
      go (Some x) i v = let k : x ≡ found = cc in at-found found (sym i ∙ ap Some k)

  pub not-found-at : {E : Type 0} {r : Result Found E} {f : E} (e : E) (s : Option Found) → s ≡ scanned_in buffer size name → r ≡ ok_or s e
      → r ≡ Err f → (formed buffer size ≡ false) × (f ≡ e)
  not-found-at {E} {r} {f} e s is v w = go s is v
    where
      go : (s : Option Found) → s ≡ scanned_in buffer size name → r ≡ ok_or s e → (formed buffer size ≡ false) × (f ≡ e)
      go None i v = (not_found (sym i), cc)
      go (Some x) i v = let z : ◌≡◌ {A = ℕ} 0 1 = cc in absurd (omega arith)
