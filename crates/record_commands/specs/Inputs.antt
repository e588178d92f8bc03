-- What a command reads from.
use Rattle.std.specs.Prelude.{◌≡◌, ◌≢◌, ℕ, List, Option, Some, None, codes}
use Rattle.std.specs.Borrow.{Bor}
use Rattle.hash_comments.specs.declared.comments.HashComments.{HashComments}
use Rattle.hash_comments.specs.declared.comments.HashLines.{HashLines}
use Rattle.hash_comments.specs.declared.place.Place.TheVariants.{Front}
use Rattle.record_commands.specs.declared.inputs.Input.{Input}
use Rattle.record_commands.specs.declared.inputs.Input.TheVariants.{Standard, File}

abbrev pub path_of : Option (Bor (List ℕ)) → Option (List ℕ)
path_of None = None
path_of (Some path) = Some path.now

-- what is still to be read, if it is known
abbrev pub rest_of : {S F : Type 0} → (S → Option (List ℕ)) → (F → Option (List ℕ)) → Input S F
    → Option (List ℕ)
rest_of standard file (Standard reader) = standard reader
rest_of standard file (File reader) = file reader

-- a name is given, and it is not `-`
abbrev pub NamesFile : Option (List ℕ) → Type 0
NamesFile None = ⊥
NamesFile (Some path) = path ≢ codes "-"

-- a file if one is named, else standard input
abbrev pub IsPicked : {S F : Type 0} → Option (List ℕ) → Input S F → Type 0
IsPicked path (Standard reader) = NamesFile path → ⊥
IsPicked path (File reader) = NamesFile path

-- that file or standard input, from its start, with lines from '#' read so: its text comes as
-- `text_read hash_lines` says
pub record IsOpenedAs {S F : Type 0} (path : Option (List ℕ)) (hash_lines : HashLines)
    (reader : HashComments (Input S F)) : Type 0 where
  pub picked : IsPicked path reader.inner
  pub lines : reader.hash_lines ≡ hash_lines
  pub start : reader.place ≡ Front
