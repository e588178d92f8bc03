-- What single items give.
use Rattle.std.specs.Prelude.{ℕ, List, [], ◌∷◌, Bool, true, false, Option, Some, None, filter, if◌then◌else◌}
use Rattle.std.specs.List.{filter_map}
use Rattle.shogi_board.specs.declared.color.Color.{Color}
use Rattle.shogi_board.specs.Pieces.{same_color}
use Rattle.shogi_board.specs.declared.moves.Move.{Move}
use Rattle.csa_text.specs.Saying.{Saying, version, name, header, even, rank, pieces, turn, walked, time, ending}

-- what one item gives to a game; the body, whose order matters, is all items but versions, names
-- and headers
pub record Part : Type 0 where
  pub of_version : Bool
  pub of_name : Option (Color × List ℕ)
  pub of_header : Option (List ℕ × List ℕ)
  pub of_body : Bool
  pub of_start : Bool
  pub of_even : Bool
  pub of_rank : Option ℕ
  pub of_side : Option Color
  pub of_move : Option Move
  pub of_ending : Bool

abbrev pub nothing : Part
nothing = record {
  of_version = false;
  of_name = None;
  of_header = None;
  of_body = false;
  of_start = false;
  of_even = false;
  of_rank = None;
  of_side = None;
  of_move = None;
  of_ending = false;
}

-- a name or a text that is not empty; an empty one counts as none
abbrev pub unless_empty : {X : Type 0} → List ℕ → X → Option X
unless_empty [] x = None
unless_empty (b ∷ bs) x = Some x

abbrev pub part_of : Saying → Part
part_of version = record nothing { of_version = true }
part_of (name color text) = record nothing { of_name = unless_empty text (color, text) }
part_of (header key text) = record nothing { of_header = unless_empty text (key, text) }
part_of (even pairs) = record nothing { of_body = true; of_start = true; of_even = true }
part_of (rank number cells) =
    record nothing { of_body = true; of_start = true; of_rank = Some number }
part_of (pieces color pairs) = record nothing { of_body = true; of_start = true }
part_of (turn color) = record nothing { of_body = true; of_side = Some color }
part_of (walked color m) = record nothing { of_body = true; of_move = Some m }
part_of (time t) = record nothing { of_body = true }
part_of (ending e) = record nothing { of_body = true; of_ending = true }

abbrev pub is_version : Saying → Bool
is_version s = (part_of s).of_version

-- `PI`
abbrev pub is_even : Saying → Bool
is_even s = (part_of s).of_even

-- `PI`, a rank, or pieces of a side
abbrev pub is_position : Saying → Bool
is_position s = (part_of s).of_start

abbrev pub is_ending : Saying → Bool
is_ending s = (part_of s).of_ending

abbrev pub is_body : Saying → Bool
is_body s = (part_of s).of_body

-- the name, if it is this side's
abbrev pub name_of_side : Color → Option (Color × List ℕ) → Option (List ℕ)
name_of_side side None = None
name_of_side side (Some n) = if same_color side n.0 then Some n.1 else None

abbrev pub name_given : Color → Saying → Option (List ℕ)
name_given side s = name_of_side side (part_of s).of_name

abbrev pub names : Color → List Saying → List (List ℕ)
names side sayings = filter_map (name_given side) sayings

abbrev pub header_given : Saying → Option (List ℕ × List ℕ)
header_given s = (part_of s).of_header

abbrev pub headers : List Saying → List (List ℕ × List ℕ)
headers sayings = filter_map header_given sayings

abbrev pub positions : List Saying → List Saying
positions sayings = filter is_position sayings

abbrev pub rank_given : Saying → Option ℕ
rank_given s = (part_of s).of_rank

abbrev pub ranks : List Saying → List ℕ
ranks sayings = filter_map rank_given sayings

abbrev pub side_given : Saying → Option Color
side_given s = (part_of s).of_side

abbrev pub sides : List Saying → List Color
sides sayings = filter_map side_given sayings

abbrev pub move_given : Saying → Option Move
move_given s = (part_of s).of_move

abbrev pub moves : List Saying → List Move
moves sayings = filter_map move_given sayings

abbrev pub body : List Saying → List Saying
body sayings = filter is_body sayings

abbrev pub AtMostOne : {X : Type 0} → List X → Type 0
AtMostOne [] = Unit {0}
AtMostOne (x ∷ []) = Unit {0}
AtMostOne (x ∷ y ∷ ys) = ⊥
