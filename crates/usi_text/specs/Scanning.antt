-- What private helpers of the readers and writers promise. A reader of the public contracts may
-- skip this file.
use Rattle.std.specs.Prelude.{◌≡◌, ◌≢◌, ℕ, ◌+◌, ◌≤◌, ◌==◌, ◌⊎◌, List, [], ◌∷◌, ◌++◌, Option, Some, None, Err, codes, if◌then◌else◌}
use Rattle.std.specs.List.{AllByRecursion}
use Rattle.std.specs.Borrow.{Bor}
use Prim.Native.Char.{code}
use Rattle.shogi_board.specs.Placed.{Placed}
use Rattle.shogi_rules.specs.declared.line.PlayFault.{PlayFault}
use Rattle.shogi_rules.specs.declared.line.PlayFault.TheVariants as play
use Rattle.shogi_board.specs.declared.moves.Move.{Move}
use Rattle.usi_text.specs.declared.fault.UsiFault.{UsiFault}
use Rattle.usi_text.specs.declared.fault.UsiFault.TheVariants as usi
use Rattle.usi_text.specs.declared.line.GivenStart.{GivenStart}
use Rattle.usi_text.specs.declared.line.GivenStart.TheVariants.{Even, Sfen}
use Rattle.usi_text.specs.Boards.{ranks_of}
use Rattle.usi_text.specs.Lines.{HasMoves, EvenLine, SfenLine, IsPlayed, WordFault, Plays, NeedsMemory}
use Rattle.usi_text.specs.Words.{words}

-- how the words of a line give its start, and the words of the moves
abbrev pub GivesStart : List (List ℕ) → GivenStart → List (List ℕ) → Type 0
GivesStart ws Even moves = EvenLine ws moves
GivesStart ws (Sfen text) moves = SfenLine ws (words text.now) moves

-- the words before the first word moves, and those after it
abbrev pub Split : List (List ℕ) → List (List ℕ) → List (List ℕ) → Type 0
Split all front moves =
    (tail : List (List ℕ)) × (all ≡ front ++ tail) × AllByRecursion (λ w. w ≢ codes "moves") front
    × HasMoves tail moves

-- why the words are not played to their end: their first fault, or lack of memory
abbrev pub Stops : Placed → List (List ℕ) → UsiFault → Type 0
Stops start words fault = ((fault ≡ usi.OutOfMemory) × NeedsMemory start words)
    ⊎ Plays start [] words (Err fault)

-- why a word is not played: its first fault, or lack of memory
abbrev pub WordStops : Placed → List Move → List ℕ → UsiFault → Type 0
WordStops start before w fault =
    ((fault ≡ usi.OutOfMemory) × (m : Move) × IsPlayed start before w m)
    ⊎ WordFault start before w fault

-- the fault of a position line whose move with that number `play` refused
abbrev pub word_fault : ℕ → PlayFault → UsiFault
word_fault n play.TooManyMoves = usi.TooManyMoves
word_fault n (play.Broken rule) = usi.Broken n rule
word_fault n play.OutOfMemory = usi.OutOfMemory

-- the ranks after a slash, if there is one
abbrev pub ranks_after : Option (Bor (List ℕ)) → List (List ℕ)
ranks_after None = []
ranks_after (Some text) = ranks_of text.now

-- the text begins with that digit, and this follows it
abbrev pub IsDigitBefore : List ℕ → ℕ → List ℕ → Type 0
IsDigitBefore text digit following = (digit ≤ 9) × (text ≡ (code "0" + digit) ∷ following)

abbrev pub HasNoDigit : List ℕ → Type 0
HasNoDigit text = (digit : ℕ) (following : List ℕ) → IsDigitBefore text digit following → ⊥

-- so many empty squares, as one digit
abbrev pub run_text : ℕ → List ℕ
run_text n = if n == 0 then [] else (code "0" + n) ∷ []
