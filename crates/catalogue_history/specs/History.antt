-- "So in a text changed by our calls alone a name with a revision never stands for two shapes, compaction between or not."
use Rattle.std.specs.Prelude.{◌≡◌, true, List, [], ◌∷◌, ◌++◌, ℕ, ◌≤◌, get_or, take}
use Rattle.catalogue_text.specs.Catalogue.{Entry, Catalogue}
use Rattle.catalogue_text.specs.Buffers.{formed, catalogue_in}
use Rattle.catalogue_calls.specs.Calls.{lookup_figures, put_figures, put_buffer, remove_figures, remove_buffer}
use Rattle.catalogue_compact.specs.Compaction.{compact_figures, compact_buffer}

-- a buffer and the length of its text
pub record Lent : Type 0 where
  pub buffer : List ℕ
  pub size : ℕ

-- a call, with any arguments: it may be refused; or the text is lent again in another buffer, in which other bytes follow it
pub data CatalogueCall : Type 0 where
  put : (m w c : ℕ) (name : List ℕ) (expected : ℕ) → CatalogueCall
  remove : (name : List ℕ) (expected : ℕ) → CatalogueCall
  compact : CatalogueCall
  lookup : (name : List ℕ) → CatalogueCall
  lend : (rest : List ℕ) → CatalogueCall

-- what a call leaves, as the contracts say it; the length to be given to the next call is the one answered, or after a refusal the one before
abbrev pub after_call : CatalogueCall → Lent → Lent
after_call (put m w c name expected) lent = record {
  buffer = put_buffer m w c name expected lent.buffer lent.size;
  size = get_or (put_figures m w c name expected lent.buffer lent.size) 0 lent.size;
}
after_call (remove name expected) lent = record {
  buffer = remove_buffer name expected lent.buffer lent.size;
  size = get_or (remove_figures name expected lent.buffer lent.size) 0 lent.size;
}
after_call compact lent = record {
  buffer = compact_buffer lent.buffer lent.size;
  size = get_or (compact_figures lent.buffer lent.size) 0 lent.size;
}
after_call (lookup name) lent = lent
after_call (lend rest) lent = record { buffer = take lent.size lent.buffer ++ rest; size = lent.size }

-- any list of calls; each works on what the call before it left
abbrev pub after_calls : List CatalogueCall → Lent → Lent
after_calls [] lent = lent
after_calls (call ∷ calls) lent = after_calls calls (after_call call lent)

-- the catalogue that the text is read as
abbrev pub read_in : Lent → Catalogue
read_in lent = catalogue_in lent.buffer lent.size

-- an entry is one of a list: the text has its line
pub data LineOf (e : Entry) : List Entry → Type 0 where
  here : {list : List Entry} → LineOf e (e ∷ list)
  there : {f : Entry} {list : List Entry} → LineOf e list → LineOf e (f ∷ list)

-- a line of the text that is lent
abbrev pub LineIn : Entry → Lent → Type 0
LineIn e lent = LineOf e (read_in lent).list

-- What holds of the texts at two times: `early`, and `late` after more calls.
pub record Between (early late : Lent) : Type 0 where
  -- the text is of the form
  pub whole : formed late.buffer late.size ≡ true
  -- "a name with a revision never stands for two shapes": two lines with the same name and revision carry the same shape
  pub one-shape : (e f : Entry) → LineIn e early → LineIn f late → e.name ≡ f.name → e.revision ≡ f.revision → e ≡ f
  -- two lookups that give the same revision of a name give the same shape
  pub one-lookup : (name : List ℕ) (r m w c k l n : ℕ) → lookup_figures early.buffer early.size name ≡ r ∷ m ∷ w ∷ c ∷ []
      → lookup_figures late.buffer late.size name ≡ r ∷ k ∷ l ∷ n ∷ [] → (m ≡ k) × (w ≡ l) × (c ≡ n)
  -- a name's revisions only rise
  pub rises : (e f : Entry) → LineIn e early → LineIn f late → e.name ≡ f.name → e.revision ≤ f.revision
  -- the revision of a line that was dropped is at most the floor
  pub dropped : (e : Entry) → LineIn e early → ((f : Entry) → LineIn f late → e.name ≡ f.name → ⊥) → e.revision ≤ (read_in late).floor
  -- the floor never falls
  pub floor : (read_in early).floor ≤ (read_in late).floor

-- from any text of the form, at any two times of any list of calls
abbrev pub NeverTwo : Lent → Type 0
NeverTwo lent = (before between : List CatalogueCall) → Between (after_calls before lent) (after_calls between (after_calls before lent))
