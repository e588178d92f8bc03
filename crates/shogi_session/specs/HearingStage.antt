-- For private functions: what the values of the summary reader mean, and the place of a line.
-- A reader of the public contracts may skip this file.
use Rattle.std.specs.Prelude.{◌≡◌, ℕ, true, false, List, Option, Some, None, nat_eq, bytes_eq}
use Rattle.std.specs.List.{starts_with}
use Rattle.csa_record.specs.Game.{Game}
use Rattle.shogi_session.specs.PositionTexts.{IsPositionRead}
use Rattle.shogi_session.specs.declared.summary_reader.Begun.{Begun}
use Rattle.shogi_session.specs.declared.summary_reader.Begun.TheVariants.{Nothing, Position, Another, Other}
use Rattle.shogi_session.specs.declared.summary_reader.SummaryPlace.{SummaryPlace}
use Rattle.shogi_session.specs.declared.summary_reader.SummaryPlace.TheVariants.{Begins, Outside, Ends, InPosition, Skipped}
use Rattle.shogi_session.specs.declared.summary_reader.Positions.{Positions}
use Rattle.shogi_session.specs.declared.summary_reader.Positions.TheVariants.{Missing, One, Several}
use Rattle.session_lines.specs.LineTexts as texts
use Rattle.bridge_table.specs.Summary.{PositionBlocks, none, one, several, end_line, is_position}

-- the position blocks that have ended
abbrev pub ended_blocks : Positions → PositionBlocks
ended_blocks Missing = none
ended_blocks (One text) = one text
ended_blocks Several = several

-- with the text of the block if it is the first
abbrev pub first_block : Positions → List ℕ → PositionBlocks
first_block Missing text = one text
first_block (One other) text = several
first_block Several text = several

-- with the block that has not ended
abbrev pub blocks_of : Positions → Begun → PositionBlocks
blocks_of positions Nothing = ended_blocks positions
blocks_of positions (Position text) = first_block positions text
blocks_of positions Another = several
blocks_of positions (Other title) = ended_blocks positions

abbrev pub title_of : Begun → Option (List ℕ)
title_of Nothing = None
title_of (Position text) = Some texts.position_title
title_of Another = Some texts.position_title
title_of (Other title) = Some title.items

-- another block is no position block
abbrev pub IsFitting : Begun → Type 0
IsFitting Nothing = Unit {0}
IsFitting (Position text) = Unit {0}
IsFitting Another = Unit {0}
IsFitting (Other title) = is_position title.items ≡ false

-- the game of the only position block, or that there is none
abbrev pub IsGameIn : Positions → Option Game → Type 0
IsGameIn Missing None = Unit {0}
IsGameIn Missing (Some g) = ⊥
IsGameIn (One text) found = IsPositionRead text found
IsGameIn Several None = Unit {0}
IsGameIn Several (Some g) = ⊥

-- the place of a line, by the title of the block that has not ended
abbrev pub IsPlace : Option (List ℕ) → List ℕ → SummaryPlace → Type 0
IsPlace begun line Begins = (begun ≡ None) × (starts_with nat_eq line texts.begin ≡ true)
IsPlace begun line Outside = (begun ≡ None) × (starts_with nat_eq line texts.begin ≡ false)
IsPlace begun line Ends =
    (title : List ℕ) × (begun ≡ Some title) × (bytes_eq line (end_line title) ≡ true)
IsPlace begun line InPosition =
    (title : List ℕ) × (begun ≡ Some title)
    × (bytes_eq line (end_line title) ≡ false) × (is_position title ≡ true)
IsPlace begun line Skipped =
    (title : List ℕ) × (begun ≡ Some title)
    × (bytes_eq line (end_line title) ≡ false) × (is_position title ≡ false)
