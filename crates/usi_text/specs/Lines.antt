-- Position lines: a start, and the words of the moves from it.
use Rattle.std.specs.Prelude.{◌≡◌, ◌≢◌, ℕ, ◌+◌, ◌<◌, ◌≤◌, ◌⊎◌, List, [], ◌∷◌, ◌++◌, Option, Some, None, Result, Ok, Err, length, codes}
use Rattle.std.specs.List.{AllByRecursion}
use Rattle.shogi_board.specs.Placed.{Placed, even_start}
use Rattle.shogi_rules.specs.declared.line.PlayFault.{PlayFault}
use Rattle.shogi_rules.specs.declared.line.PlayFault.TheVariants as play
use Rattle.shogi_board.specs.declared.moves.Move.{Move}
use Rattle.shogi_rules.specs.Play.{Answers}
use Rattle.shogi_rules.specs.Positions.{line_of, max_moves, now_of}
use Rattle.usi_text.specs.declared.fault.UsiFault.{UsiFault}
use Rattle.usi_text.specs.declared.fault.UsiFault.TheVariants.{BadLine, BadMoveText, Broken, TooManyMoves, OutOfMemory}
use Rattle.usi_text.specs.declared.fault.UsiFault.TheVariants as usi
use Rattle.usi_text.specs.EngineTexts as texts
use Rattle.usi_text.specs.Moves.{UsiMove}
use Rattle.usi_text.specs.Sfen.{Sfen, FirstFault}

-- nothing after the start, or the word moves and the words of the moves
abbrev pub HasMoves : List (List ℕ) → List (List ℕ) → Type 0
HasMoves [] moves = moves ≡ []
HasMoves (w ∷ ws) moves = (w ≡ codes "moves") × (moves ≡ ws)

-- position startpos
abbrev pub EvenLine : List (List ℕ) → List (List ℕ) → Type 0
EvenLine ws moves =
    (tail : List (List ℕ)) × (ws ≡ texts.position ∷ codes "startpos" ∷ tail) × HasMoves tail moves

-- position sfen, and at least one word before the word moves
pub record SfenLine (ws sfen moves : List (List ℕ)) : Type 0 where
  pub tail : List (List ℕ)
  pub whole : ws ≡ texts.position ∷ codes "sfen" ∷ (sfen ++ tail)
  pub some : 0 < length sfen
  pub before : AllByRecursion (λ w. w ≢ codes "moves") sfen
  pub following : HasMoves tail moves

-- the words give that start, and these are the words of the moves
abbrev pub Starts : List (List ℕ) → Placed → List (List ℕ) → Type 0
Starts ws start moves =
    (EvenLine ws moves × (start ≡ even_start))
    ⊎ ((sfen : List (List ℕ)) × SfenLine ws sfen moves × Sfen sfen start)

abbrev pub position_now : Placed → List Move → Placed
position_now start moves = now_of (line_of start moves)

-- what playing a move of the side to move returns there
abbrev pub Judged : Placed → List Move → Move → Option PlayFault → Type 0
Judged start before m answer =
    Answers (line_of start before) (position_now start before).side m answer

-- the word is that move, and it may be played
abbrev pub IsPlayed : Placed → List Move → List ℕ → Move → Type 0
IsPlayed start before w m = UsiMove (position_now start before) w m × Judged start before m None

-- the first fault of a word after those moves; moves are numbered from 1
abbrev pub WordFault : Placed → List Move → List ℕ → UsiFault → Type 0
WordFault start before w TooManyMoves = max_moves ≤ length before
WordFault start before w (BadMoveText n) =
    (n ≡ length before + 1) × (length before < max_moves)
    × ((m : Move) → UsiMove (position_now start before) w m → ⊥)
WordFault start before w (Broken n rule) =
    (n ≡ length before + 1) × (m : Move) × UsiMove (position_now start before) w m
    × Judged start before m (Some (play.Broken rule))
WordFault start before w BadLine = ⊥
WordFault start before w (usi.Sfen fault) = ⊥
WordFault start before w OutOfMemory = ⊥

-- the words are played as moves, one after another, after those before, and this is the answer: all
-- moves, or the fault of a word after those that were played
abbrev pub Plays : Placed → List Move → List (List ℕ) → Result (List Move) UsiFault → Type 0
Plays start before [] answer = answer ≡ Ok before
Plays start before (w ∷ ws) answer =
    ((fault : UsiFault) × WordFault start before w fault × (answer ≡ Err fault))
    ⊎ ((m : Move) × IsPlayed start before w m × Plays start (before ++ m ∷ []) ws answer)

-- the words are the position line of that start and these moves
abbrev pub UsiLine : List (List ℕ) → Placed → List Move → Type 0
UsiLine ws start moves = (words : List (List ℕ)) × Starts ws start words
    × Plays start [] words (Ok moves)

-- the first fault of the words after the start that the line gives
abbrev pub MovesFault : List (List ℕ) → UsiFault → Type 0
MovesFault ws fault = (start : Placed) × (words : List (List ℕ)) × Starts ws start words
    × Plays start [] words (Err fault)

-- the first fault of a line, memory aside
abbrev pub LineFault : List (List ℕ) → UsiFault → Type 0
LineFault ws BadLine =
    ((moves : List (List ℕ)) → EvenLine ws moves → ⊥)
    × ((sfen moves : List (List ℕ)) → SfenLine ws sfen moves → ⊥)
LineFault ws (usi.Sfen fault) =
    (sfen : List (List ℕ)) × (moves : List (List ℕ)) × SfenLine ws sfen moves
    × FirstFault sfen fault
LineFault ws (BadMoveText n) = MovesFault ws (BadMoveText n)
LineFault ws (Broken n rule) = MovesFault ws (Broken n rule)
LineFault ws TooManyMoves = MovesFault ws TooManyMoves
LineFault ws OutOfMemory = ⊥

-- the words before this one are played, and this one may be played as this move
pub record MayPlayOn (start : Placed) (words : List (List ℕ)) : Type 0 where
  pub front : List (List ℕ)
  pub word : List ℕ
  pub rest : List (List ℕ)
  pub whole : words ≡ front ++ word ∷ rest
  pub before : List Move
  pub played : Plays start [] front (Ok before)
  pub mv : Move
  pub allowed : IsPlayed start before word mv

-- memory can be lacking for a word that may be played, or if there is no word
abbrev pub NeedsMemory : Placed → List (List ℕ) → Type 0
NeedsMemory start words = (words ≡ []) ⊎ MayPlayOn start words

-- memory can be lacking for the words after the start that the line gives
abbrev pub LineNeedsMemory : List (List ℕ) → Type 0
LineNeedsMemory ws = (start : Placed) × (words : List (List ℕ)) × Starts ws start words
    × NeedsMemory start words
