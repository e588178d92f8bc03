-- How the bytes of a text are read, if lines from '#' are comments.
use Rattle.std.specs.Prelude.{ℕ, ◌==◌, ◌||◌, if◌then◌else◌, List, [], ◌∷◌}
use Rattle.hash_comments.specs.declared.comments.HashLines.{HashLines}
use Rattle.hash_comments.specs.declared.comments.HashLines.TheVariants.{Refused, Comments}
use Rattle.hash_comments.specs.declared.place.Place.{Place}
use Rattle.hash_comments.specs.declared.place.Place.TheVariants.{Front, AfterOneOfMark, AfterTwoOfMark, LineStart, Within}

-- a '#' (35) that begins a line is read as an apostrophe (39), and each other byte as itself
abbrev pub byte_read : Place → ℕ → ℕ
byte_read Front b = if b == 35 then 39 else b
byte_read AfterOneOfMark b = b
byte_read AfterTwoOfMark b = b
byte_read LineStart b = if b == 35 then 39 else b
byte_read Within b = b

-- the place after a byte that ends no line; the byte order mark is EF BB BF
abbrev pub place_in_line : Place → ℕ → Place
place_in_line Front b = if b == 0xEF then AfterOneOfMark else Within
place_in_line AfterOneOfMark b = if b == 0xBB then AfterTwoOfMark else Within
place_in_line AfterTwoOfMark b = if b == 0xBF then LineStart else Within
place_in_line LineStart b = Within
place_in_line Within b = Within

-- the place after a byte; LF (10) and CR (13) end a line
abbrev pub place_after : Place → ℕ → Place
place_after p b = if b == 10 || b == 13 then LineStart else place_in_line p b

-- the bytes from a place on, as they are read if lines from '#' are comments
abbrev pub hashes_read : Place → List ℕ → List ℕ
hashes_read p [] = []
hashes_read p (b ∷ bs) = byte_read p b ∷ hashes_read (place_after p b) bs

-- the bytes from a place on, as they are read
abbrev pub bytes_read : HashLines → Place → List ℕ → List ℕ
bytes_read Refused p bytes = bytes
bytes_read Comments p bytes = hashes_read p bytes

-- a whole text, as it is read
abbrev pub text_read : HashLines → List ℕ → List ℕ
text_read lines bytes = bytes_read lines Front bytes
