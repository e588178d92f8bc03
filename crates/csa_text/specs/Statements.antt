-- The canonical text of each statement, which is what is written.
use Rattle.std.specs.Prelude.{ℕ, List, [], ◌∷◌, ◌++◌, codes}
use Rattle.csa_text.specs.Codes.{sign, move_text}
use Rattle.csa_text.specs.Endings.{ending_name}
use Rattle.csa_text.specs.PairTexts.{pairs_text}
use Rattle.csa_text.specs.Saying.{Saying, version, name, header, even, rank, pieces, turn, walked, time, ending}
use Rattle.csa_text.specs.Spelling.{rank_text}
use Rattle.csa_text.specs.TimeTexts.{time_text}

abbrev pub statement_of : Saying → List ℕ
statement_of version = codes "V2.2"
statement_of (name color text) = codes "N" ++ sign color ∷ text
statement_of (header key text) = codes "$" ++ (key ++ 58 ∷ text)
statement_of (even pairs) = codes "PI" ++ pairs_text pairs
statement_of (rank number cells) = rank_text number cells
statement_of (pieces color pairs) = codes "P" ++ sign color ∷ pairs_text pairs
statement_of (turn color) = sign color ∷ []
statement_of (walked color m) = move_text color m
statement_of (time t) = codes "T" ++ time_text t
statement_of (ending e) = codes "%" ++ ending_name e
