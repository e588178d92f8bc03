-- How the pieces move: the steps and rays of each kind, as black sees them.
use Rattle.std.specs.Prelude.{ℕ, ◌≡◌, ◌-◌, ◌≤◌, List, [], ◌∷◌, ◌++◌}
use Rattle.shogi_board.specs.declared.color.Color.{Color}
use Rattle.shogi_board.specs.declared.color.Color.TheVariants.{Black, White}
use Rattle.shogi_board.specs.Squares.{Direction}
use Rattle.shogi_board.specs.declared.kind.Kind.{Kind}
use Rattle.shogi_board.specs.declared.kind.Kind.TheVariants.{Pawn, Lance, Knight, Silver, Gold, Bishop, Rook, King, ProPawn, ProLance, ProKnight, ProSilver, Horse, Dragon}

abbrev pub to : ℕ → ℕ → Direction
to files ranks = record { files = files; ranks = ranks }

abbrev pub forward : Direction
forward = to 2 1

abbrev pub back : Direction
back = to 2 3

abbrev pub left : Direction
left = to 3 2

abbrev pub right : Direction
right = to 1 2

abbrev pub forward_left : Direction
forward_left = to 3 1

abbrev pub forward_right : Direction
forward_right = to 1 1

abbrev pub back_left : Direction
back_left = to 3 3

abbrev pub back_right : Direction
back_right = to 1 3

abbrev pub orthogonals : List Direction
orthogonals = forward ∷ back ∷ left ∷ right ∷ []

abbrev pub diagonals : List Direction
diagonals = forward_left ∷ forward_right ∷ back_left ∷ back_right ∷ []

-- two forward and one aside
abbrev pub jumps : List Direction
jumps = to 3 0 ∷ to 1 0 ∷ []

abbrev pub gold : List Direction
gold = forward ∷ back ∷ left ∷ right ∷ forward_left ∷ forward_right ∷ []

abbrev pub steps : Kind → List Direction
steps Pawn = forward ∷ []
steps Lance = []
steps Knight = jumps
steps Silver = forward ∷ forward_left ∷ forward_right ∷ back_left ∷ back_right ∷ []
steps Gold = gold
steps Bishop = []
steps Rook = []
steps King = orthogonals ++ diagonals
steps ProPawn = gold
steps ProLance = gold
steps ProKnight = gold
steps ProSilver = gold
steps Horse = orthogonals
steps Dragon = diagonals

abbrev pub rays : Kind → List Direction
rays Pawn = []
rays Lance = forward ∷ []
rays Knight = []
rays Silver = []
rays Gold = []
rays Bishop = diagonals
rays Rook = orthogonals
rays King = []
rays ProPawn = []
rays ProLance = []
rays ProKnight = []
rays ProSilver = []
rays Horse = diagonals
rays Dragon = orthogonals

-- white sees the board turned round
abbrev pub turned_for : Color → Direction → Direction
turned_for Black d = d
turned_for White d = to (4 - d.files) (4 - d.ranks)

-- at most one file and one rank, and not both none
abbrev pub IsRay : Direction → Type 0
IsRay d = (1 ≤ d.files) × (d.files ≤ 3) × (1 ≤ d.ranks) × (d.ranks ≤ 3)
    × (d.files ≡ 2 → d.ranks ≡ 2 → ⊥)
