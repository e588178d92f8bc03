-- Where a record is refused, and why.
use Rattle.std.specs.Prelude.{◌≡◌, ℕ, ◌+◌, ◌<◌, ◌≤◌, List, [], ◌∷◌, ◌++◌, length, Option, Some, None, Result, Ok, Err, ◌⊎◌}
use Rattle.shogi_board.specs.declared.color.Color.{Color}
use Rattle.shogi_board.specs.declared.setup.SetupFault.{SetupFault}
use Rattle.shogi_board.specs.declared.setup.SetupFault.TheVariants.{OpponentInCheck}
use Rattle.shogi_board.specs.Layout.{Layout}
use Rattle.shogi_board.specs.Pieces.{opponent}
use Rattle.shogi_board.specs.Reach.{InCheck}
use Rattle.shogi_board.specs.Setup.{position_of}
use Rattle.shogi_rules.specs.declared.line.PlayFault.{PlayFault}
use Rattle.shogi_rules.specs.declared.line.PlayFault.TheVariants as playing
use Rattle.shogi_rules.specs.Play as plays
use Rattle.shogi_rules.specs.Positions.{Played}
use Rattle.csa_cutting.specs.Cut.{TextUnit, IsCut, statement_bytes, longest_statement}
use Rattle.csa_text.specs.Saying.{Saying, version, name, header, even, rank, pieces, turn, walked, time, ending}
use Rattle.csa_text.specs.Spelling.{Spells, fault_of_row}
use Rattle.csa_text.specs.declared.fault.TextFault.TheVariants.{StatementTooLong}
use Rattle.record_game.specs.declared.fault.OrderFault.{OrderFault}
use Rattle.record_game.specs.declared.fault.OrderFault.TheVariants.{MissingTurn}
use Rattle.record_game.specs.declared.fault.Why.{Why}
use Rattle.record_game.specs.declared.fault.Why.TheVariants.{Text, Order, Start, Rule}
use Rattle.record_game.specs.Game.{Game}
use Rattle.record_game.specs.Items.{sides, moves}
use Rattle.record_game.specs.Order.{order_fault}
use Rattle.record_game.specs.LaidOut.{laid_out}
use Rattle.record_game.specs.Tells.{Tells, IsSpelt}

abbrev pub start_why : Result Layout SetupFault → Option Why
start_why (Ok s) = None
start_why (Err fault) = Some (Start fault)

-- the side to move completes the start: the other side's king may not be attacked
abbrev pub Finishes : Result Layout SetupFault → Color → Option Why → Type 0
Finishes (Err fault) color answer = ⊥
Finishes (Ok s) color None = InCheck s.material.board (opponent color) → ⊥
Finishes (Ok s) color (Some why) = InCheck s.material.board (opponent color)
    × (why ≡ Start OpponentInCheck)

-- the line with the start that the items before have laid out, and their moves
pub record IsLineOf (before : List Saying) (line : Played) : Type 0 where
  pub layout : Layout
  pub side : Color
  pub laid : laid_out before ≡ Ok layout
  pub side_is : sides before ≡ side ∷ []
  pub start : line.start ≡ position_of layout side
  pub moves_are : line.moves ≡ moves before

-- what playing a move returns, as a fault of its statement
abbrev pub IsJudged : Option PlayFault → Option Why → Type 0
IsJudged None answer = answer ≡ None
IsJudged (Some (playing.Broken rule)) answer = answer ≡ Some (Rule rule)
IsJudged (Some playing.TooManyMoves) answer = ⊥
IsJudged (Some playing.OutOfMemory) answer = ⊥

-- why an item without an order fault is refused after those before it; None if it is taken
abbrev pub AnswersInOrder : List Saying → Saying → Option Why → Type 0
AnswersInOrder before version answer = answer ≡ None
AnswersInOrder before (name color text) answer = answer ≡ None
AnswersInOrder before (header key text) answer = answer ≡ None
AnswersInOrder before (even pairs) answer = answer
    ≡ start_why (laid_out (before ++ even pairs ∷ []))
AnswersInOrder before (rank number cells) answer = answer
    ≡ start_why (laid_out (before ++ rank number cells ∷ []))
AnswersInOrder before (pieces color pairs) answer = answer
    ≡ start_why (laid_out (before ++ pieces color pairs ∷ []))
AnswersInOrder before (turn color) answer = Finishes (laid_out before) color answer
AnswersInOrder before (walked color m) answer =
    (line : Played) × IsLineOf before line × (played : Option PlayFault)
    × plays.Answers line color m played × IsJudged played answer
AnswersInOrder before (time t) answer = answer ≡ None
AnswersInOrder before (ending e) answer = answer ≡ None

abbrev pub AnswersAfter : Option OrderFault → List Saying → Saying → Option Why → Type 0
AnswersAfter (Some fault) before saying answer = answer ≡ Some (Order fault)
AnswersAfter None before saying answer = AnswersInOrder before saying answer

-- why the next item is refused after the items before it, order faults first; None if it is taken
abbrev pub AnswersItem : List Saying → Saying → Option Why → Type 0
AnswersItem before saying answer = AnswersAfter (order_fault before saying) before saying answer

abbrev pub IsTooLong : TextUnit → Why → Type 0
IsTooLong unit why = (longest_statement < length unit.bytes) × (why ≡ Text StatementTooLong)

-- it spells no item, and has the fault of its row
abbrev pub IsUnspelt : TextUnit → Why → Type 0
IsUnspelt unit why =
    (length unit.bytes ≤ longest_statement)
    × ((saying : Saying) → Spells (statement_bytes unit.bytes) saying → ⊥)
    × (why ≡ Text (fault_of_row (statement_bytes unit.bytes)))

abbrev pub IsRefusedItem : List Saying → TextUnit → Why → Type 0
IsRefusedItem before unit why = (saying : Saying) × IsSpelt unit saying
    × AnswersItem before saying (Some why)

-- why the next statement is refused after these items
abbrev pub Fault : List Saying → TextUnit → Why → Type 0
Fault before unit why = IsTooLong unit why ⊎ (IsUnspelt unit why ⊎ IsRefusedItem before unit why)

-- each statement spells its item, which is taken after the items before it
abbrev pub Faultless : List Saying → List TextUnit → List Saying → Type 0
Faultless before [] [] = Unit {0}
Faultless before [] (s ∷ ss) = ⊥
Faultless before (u ∷ us) [] = ⊥
Faultless before (u ∷ us) (s ∷ ss) = IsSpelt u s × AnswersItem before s None
    × Faultless (before ++ s ∷ []) us ss

-- the first statement with a fault is this one
pub record RefusedAt (source : List ℕ) (number offset : ℕ) (why : Why) : Type 0 where
  pub front : List TextUnit
  pub unit : TextUnit
  pub following : List TextUnit
  pub sayings : List Saying
  pub cut : IsCut source (front ++ unit ∷ following)
  pub faultless : Faultless [] front sayings
  pub fault : Fault sayings unit why
  pub number_is : number ≡ length front + 1
  pub place : offset ≡ unit.offset

-- no statement has a fault, and none is the side to move
pub record RefusedAtEnd (source : List ℕ) (number offset : ℕ) (why : Why) : Type 0 where
  pub statements : List TextUnit
  pub sayings : List Saying
  pub cut : IsCut source statements
  pub faultless : Faultless [] statements sayings
  pub no_side : sides sayings ≡ []
  pub number_is : number ≡ length statements + 1
  pub place : offset ≡ length source
  pub why_is : why ≡ Order MissingTurn

abbrev pub Refused : List ℕ → ℕ → ℕ → Why → Type 0
Refused source number offset why = RefusedAt source number offset why
    ⊎ RefusedAtEnd source number offset why

-- the statements up to the one with this number and offset have no fault
pub record FaultlessTo (source : List ℕ) (number offset : ℕ) : Type 0 where
  pub front : List TextUnit
  pub unit : TextUnit
  pub following : List TextUnit
  pub sayings : List Saying
  pub cut : IsCut source (front ++ unit ∷ following)
  pub faultless : Faultless [] (front ++ unit ∷ []) sayings
  pub number_is : number ≡ length front + 1
  pub place : offset ≡ unit.offset

-- the bytes contain this game and no other, and are not refused
pub record TellsAlone (source : List ℕ) : Type 0 where
  pub game : Game
  pub tells : Tells source game
  pub only : (other : Game) → Tells source other → other ≡ game
  pub not_refused : (number offset : ℕ) (why : Why) → Refused source number offset why → ⊥

-- the bytes are refused in this way and no other, and contain no game
pub record RefusedAlone (source : List ℕ) : Type 0 where
  pub number : ℕ
  pub offset : ℕ
  pub why : Why
  pub refused : Refused source number offset why
  pub only : (n o : ℕ) (w : Why) → Refused source n o w → (n ≡ number) × (o ≡ offset) × (w ≡ why)
  pub tells_no_game : (game : Game) → Tells source game → ⊥
