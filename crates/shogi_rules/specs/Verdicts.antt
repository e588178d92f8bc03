-- The state of a game after the moves of a line.
use Rattle.std.specs.Prelude.{ℕ, ◌⊎◌, List}
use Rattle.shogi_board.specs.Pieces.{opponent}
use Rattle.shogi_board.specs.Placed.{Placed}
use Rattle.shogi_board.specs.Reach.{InCheck}
use Rattle.shogi_board.specs.declared.color.Color.{Color}
use Rattle.shogi_rules.specs.declared.line.Verdict.{Verdict}
use Rattle.shogi_rules.specs.declared.line.Verdict.TheVariants.{Ongoing, Mate, NoMove, Repetition, Perpetual}
use Rattle.shogi_board.specs.declared.moves.Move.{Move}
use Rattle.shogi_board.specs.Legal.{Legal}
use Rattle.shogi_rules.specs.Positions.{Played, Over, all_of, now_of}
use Rattle.shogi_rules.specs.Repetition.{IsNth, Pressed}

abbrev pub NoLegalMove : Placed → Type 0
NoLegalMove p = (m : Move) → Legal p m → ⊥

-- that side pressed and the other did not
abbrev pub PressedAlone : List Placed → ℕ → ℕ → Color → Type 0
PressedAlone ps first fourth color =
    Pressed ps first fourth color × (Pressed ps first fourth (opponent color) → ⊥)

-- the moves from the first place of the last position to its fourth
pub record IsStretch (line : Played) (first fourth : ℕ) : Type 0 where
  pub begins : IsNth (all_of line) (now_of line) 1 first
  pub ends : IsNth (all_of line) (now_of line) 4 fourth

-- that side alone pressed in the stretch
pub record IsPerpetual (line : Played) (color : Color) : Type 0 where
  pub first : ℕ
  pub fourth : ℕ
  pub stretch : IsStretch line first fourth
  pub alone : PressedAlone (all_of line) first fourth color

-- neither side alone pressed in the stretch
pub record IsRepetition (line : Played) : Type 0 where
  pub first : ℕ
  pub fourth : ℕ
  pub stretch : IsStretch line first fourth
  pub nobody_alone : (color : Color) → PressedAlone (all_of line) first fourth color → ⊥

-- by check and the legal moves of the side to move
abbrev pub StandsByMoves : Placed → Verdict → Type 0
StandsByMoves p Ongoing = (m : Move) × Legal p m
StandsByMoves p Mate = InCheck p.material.board p.side × NoLegalMove p
StandsByMoves p NoMove = (InCheck p.material.board p.side → ⊥) × NoLegalMove p
StandsByMoves p Repetition = ⊥
StandsByMoves p (Perpetual color) = ⊥

-- by who pressed, if the last position occurs for the fourth time
abbrev pub StandsByStretch : Played → Verdict → Type 0
StandsByStretch line Ongoing = ⊥
StandsByStretch line Mate = ⊥
StandsByStretch line NoMove = ⊥
StandsByStretch line Repetition = IsRepetition line
StandsByStretch line (Perpetual color) = IsPerpetual line color

-- the state of the game after the moves of the line
abbrev pub Stands : Played → Verdict → Type 0
Stands line verdict =
    (Over line × StandsByStretch line verdict)
    ⊎ ((Over line → ⊥) × StandsByMoves (now_of line) verdict)
