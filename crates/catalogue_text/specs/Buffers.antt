-- A text at the start of a lent buffer.
use Rattle.std.specs.Prelude.{Bool, ◌&&◌, List, ◌++◌, ℕ, leb, length, take, drop}
use Rattle.catalogue_text.specs.Catalogue.{Catalogue, catalogue_of, of_form}

-- "Keep a text of at most 4,096 bytes in a lent buffer [..]. The text's length is given beside the buffer (above its length or 4,096: 16)"
unfoldable pub formed : List ℕ → ℕ → Bool
formed buffer size = leb size (length buffer) && (leb size 4096 && of_form (take size buffer))

-- the catalogue that the text is read as
unfoldable pub catalogue_in : List ℕ → ℕ → Catalogue
catalogue_in buffer size = catalogue_of (take size buffer)

-- a buffer with another text at its start: "bytes past a new text stay"
unfoldable pub with_text : List ℕ → List ℕ → List ℕ
with_text text buffer = text ++ drop (length text) buffer
