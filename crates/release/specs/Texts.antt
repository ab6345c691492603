-- The numbers that calls give back, in English.
use Rattle.std.specs.Prelude.{List, [], ◌∷◌, ◌++◌, ℕ, length, take, get_or}
use Prim.Native.Char.{code}
use Prim.Native.String.{String}
use Prim.Native.String as string
use Rattle.text.specs.Written.{written}

-- a text as bytes
abbrev pub text_bytes : String → List ℕ
text_bytes string.[] = []
text_bytes (string.◌∷◌ x s) = code x ∷ text_bytes s

-- the texts of 0 to 31, in this order
unfoldable pub texts : List String
texts =
    "done"
    ∷ "the number of groups is out of range"
    ∷ "the number of local checks is out of range"
    ∷ "the group width is out of range"
    ∷ "the shape has no room for data"
    ∷ "the number of bytes, symbols or marks does not match the shape"
    ∷ "a mark or a gather's finished byte is neither 0 nor 1"
    ∷ "there is no such group"
    ∷ "too many places are lost"
    ∷ "the present bytes fit no codeword"
    ∷ "the desk has issued all its handles"
    ∷ "the desk is full: eight jobs are open"
    ∷ "no open job has this handle"
    ∷ "the job has served as many words as it can count"
    ∷ "a line is unreadable, missing or out of order"
    ∷ "no good shape has been given yet"
    ∷ "the catalogue text is malformed or its length is wrong"
    ∷ "not a valid name: use 1 to 16 of a to z, 0 to 9 and hyphen"
    ∷ "the catalogue has no such name, or it is gone"
    ∷ "the name's revision is not the one you expected"
    ∷ "no revision is left: 65535 is the last"
    ∷ "the new catalogue text would exceed its buffer or 4096 bytes"
    ∷ "the gather is finished"
    ∷ "the stretch ends beyond the word"
    ∷ "a place in the stretch has already arrived"
    ∷ "the word has no such place"
    ∷ "the shape has more than 4096 places"
    ∷ "the blocks' total length is wrong, zero or above 65536"
    ∷ "outside the profile; the word may still be recoverable"
    ∷ "shapes with four local checks are retired"
    ∷ "there is no such byte of data"
    ∷ "the desk is not sound"
    ∷ []

-- and that of a number that no call gives back
abbrev pub other : String
other = "not a number of this library"

-- the text of a number
unfoldable pub number_text : ℕ → List ℕ
number_text number = text_bytes (get_or texts number other)

-- a buffer with a text at its start, cut where it has no room, and a zero byte after it; one of no bytes stays
abbrev pub lent_text : List ℕ → List ℕ → List ℕ
lent_text text [] = []
lent_text text (b ∷ bs) = written (b ∷ bs) 0 (take (length bs) text ++ (0 ∷ []))
