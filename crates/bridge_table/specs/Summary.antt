-- What the lines of a game summary say, from after `BEGIN Game_Summary` to before
-- `END Game_Summary`.
use Rattle.std.specs.Prelude.{◌≡◌, ◌≢◌, ℕ, ◌≤◌, ◌&&◌, Bool, not, true, false, List, [], ◌∷◌, ◌++◌, length, drop, Option, Some, None, IfSome, option_map, nat_eq, bytes_eq, if◌then◌else◌}
use Rattle.std.specs.List.{AllByRecursion, AllZip, filter_map, flat_map, starts_with}
use Rattle.std.specs.Option.{option_to_list}
use Rattle.shogi_board.specs.declared.color.Color.{Color}
use Rattle.csa_text.specs.Codes.{sign}
use Rattle.csa_cutting.specs.Cut.{TextUnit, IsCut}
use Rattle.csa_text.specs.Saying.{Saying}
use Rattle.record_game.specs.Game.{Game}
use Rattle.record_game.specs.Items.{is_body, is_ending}
use Rattle.record_game.specs.Says.{Says}
use Rattle.record_game.specs.Tells.{IsSpelt}
use Rattle.session_lines.specs.LineTexts as texts
use Rattle.session_lines.specs.Texts.{text_of}

-- 1. What counts of the lines
-- the position blocks: none, the text of the only one, or several
pub data PositionBlocks : Type 0 where
  none : PositionBlocks
  one : List ℕ → PositionBlocks
  several : PositionBlocks

pub record SummaryContent : Type 0 where
  -- what follows the last `Name+:`, `Name-:` and `Your_Turn:`; the empty text if there is none
  pub black : List ℕ
  pub white : List ℕ
  pub turn : List ℕ
  -- the position blocks; one that has not ended, as far as it goes
  pub positions : PositionBlocks
  -- the `x` of the block `BEGIN x` that has not ended
  pub begun : Option (List ℕ)

abbrev pub no_content : SummaryContent
no_content = record { black = []; white = []; turn = []; positions = none; begun = None }

-- 2. The parts of a summary
-- the `x` of `BEGIN x`, and the lines after it
pub record Block : Type 0 where
  pub title : List ℕ
  pub lines : List (List ℕ)

-- a line that begins no block, or a block that `END x` ends
pub data Part : Type 0 where
  line : List ℕ → Part
  block : Block → Part

abbrev pub begin_line : List ℕ → List ℕ
begin_line title = texts.begin ++ title

abbrev pub end_line : List ℕ → List ℕ
end_line title = texts.end ++ title

abbrev pub begun_lines : Block → List (List ℕ)
begun_lines b = begin_line b.title ∷ b.lines

abbrev pub part_lines : Part → List (List ℕ)
part_lines (line text) = text ∷ []
part_lines (block b) = begun_lines b ++ end_line b.title ∷ []

-- a block goes to the first `END x`, whatever comes before it
abbrev pub IsBlock : Block → Type 0
IsBlock b = AllByRecursion (λ text. text ≢ end_line b.title) b.lines

abbrev pub IsPart : Part → Type 0
IsPart (line text) = starts_with nat_eq text texts.begin ≡ false
IsPart (block b) = IsBlock b

-- what follows a key, such as `Name+:`
abbrev pub value_of : List ℕ → Part → Option (List ℕ)
value_of key (line text) =
    if starts_with nat_eq text key then Some (drop (length key) text) else None
value_of key (block b) = None

abbrev pub last_text : List (List ℕ) → List ℕ
last_text [] = []
last_text (text ∷ []) = text
last_text (text ∷ other ∷ rest) = last_text (other ∷ rest)

-- the last one counts
abbrev pub last_value : List ℕ → List Part → List ℕ
last_value key parts = last_text (filter_map (value_of key) parts)

abbrev pub block_of : Part → Option Block
block_of (line text) = None
block_of (block b) = Some b

abbrev pub is_position : List ℕ → Bool
is_position title = bytes_eq title texts.position_title

-- the text of a block `BEGIN Position`: its lines, each followed by LF
abbrev pub position_text : Block → Option (List ℕ)
position_text b = if is_position b.title then Some (text_of b.lines) else None

abbrev pub position_blocks : List (List ℕ) → PositionBlocks
position_blocks [] = none
position_blocks (text ∷ []) = one text
position_blocks (text ∷ other ∷ texts) = several

abbrev pub title_of : Block → List ℕ
title_of b = b.title

-- what counts of these lines, which are whole parts and then perhaps a block that has not ended;
-- all else is skipped
pub record CountsAs (lines : List (List ℕ)) (h : SummaryContent) : Type 0 where
  pub parts : List Part
  pub begun : Option Block
  pub whole : lines ≡ flat_map part_lines parts ++ flat_map begun_lines (option_to_list begun)
  pub fit : AllByRecursion IsPart parts
  pub begun_fits : IfSome begun IsBlock
  pub black : h.black ≡ last_value texts.black_name parts
  pub white : h.white ≡ last_value texts.white_name parts
  pub turn : h.turn ≡ last_value texts.your_turn parts
  pub positions : h.positions ≡ position_blocks
      (filter_map position_text (filter_map block_of parts ++ option_to_list begun))
  pub title : h.begun ≡ option_map title_of begun

-- 3. What a whole summary offers
-- the client's side, and a game, some of whose moves may have been played
pub record Offer : Type 0 where
  pub client : Color
  pub game : Game

-- position, side, move and time statements: the body without the ending
abbrev pub in_position : Saying → Bool
in_position said = is_body said && not (is_ending said)

abbrev pub nameless : Game → Game
nameless g = record g { black = None; white = None }

-- the text has only statements of these kinds, and they are this game without names
pub record TellsPosition (text : List ℕ) (g : Game) : Type 0 where
  pub statements : List TextUnit
  pub sayings : List Saying
  pub cut : IsCut text statements
  pub spelt : AllZip IsSpelt statements sayings
  pub no_others : AllByRecursion (λ s. in_position s ≡ true) sayings
  pub says : Says sayings (nameless g)

-- an empty name counts as none
abbrev pub name_given : List ℕ → Option (List ℕ)
name_given [] = None
name_given (b ∷ bs) = Some (b ∷ bs)

-- what counts describes this offer; it describes none if a block is open, a name is too long,
-- `Your_Turn` is neither `+` nor `-`, there are no position block or several, or the one has a
-- fault, another statement or no side
pub record TellsOffer (h : SummaryContent) (o : Offer) : Type 0 where
  pub no_block : h.begun ≡ None
  pub black_fits : length h.black ≤ 4094
  pub white_fits : length h.white ≤ 4094
  pub black : o.game.black ≡ name_given h.black
  pub white : o.game.white ≡ name_given h.white
  pub client : h.turn ≡ sign o.client ∷ []
  pub text : List ℕ
  pub one_position : h.positions ≡ one text
  pub position : TellsPosition text o.game

-- the lines of a summary describe this offer
abbrev pub TellsSummary : List (List ℕ) → Offer → Type 0
TellsSummary lines o = (h : SummaryContent) × CountsAs lines h × TellsOffer h o
