-- Which server a plan has, and where its password is.
use Rattle.std.specs.Prelude.{ℕ, List, Option, Some, None}
use Rattle.shogi_words.specs.declared.play.PasswordSource.{PasswordSource}
use Rattle.shogi_words.specs.declared.play.PasswordSource.TheVariants.{File, Variable}
use Rattle.shogi_words.specs.declared.play.ServerChoice.{ServerChoice}
use Rattle.shogi_words.specs.declared.play.ServerChoice.TheVariants.{Started, At}

-- the address of a server that runs already
abbrev pub address_of : ServerChoice → Option (List ℕ)
address_of (Started program max_moves) = None
address_of (At address) = Some address.now

-- the program of a server to start
abbrev pub program_of : ServerChoice → Option (List ℕ)
program_of (Started program max_moves) = Some program.now
program_of (At address) = None

-- the greatest number of moves of the game of a server to start
abbrev pub most_moves_of : ServerChoice → Option ℕ
most_moves_of (Started program max_moves) = Some max_moves
most_moves_of (At address) = None

-- the file with the password, if one is named
abbrev pub password_file : PasswordSource → Option (List ℕ)
password_file (File path) = Some path.now
password_file Variable = None
