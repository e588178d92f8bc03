-- Where a piece may promote, and where it may stand.
use Rattle.std.specs.Prelude.{ℕ, ◌-◌, ◌≤◌}
use Rattle.shogi_board.specs.declared.color.Color.{Color}
use Rattle.shogi_board.specs.declared.color.Color.TheVariants.{Black, White}
use Rattle.shogi_board.specs.declared.kind.Kind.{Kind}
use Rattle.shogi_board.specs.declared.kind.Kind.TheVariants.{Pawn, Lance, Knight, Silver, Gold, Bishop, Rook, King, ProPawn, ProLance, ProKnight, ProSilver, Horse, Dragon}
use Rattle.shogi_board.specs.declared.square.Square.{Square}
use Rattle.shogi_board.specs.Squares.{rank_of}

-- the rank as that side counts it, its last rank being 1
abbrev pub rank_for : Color → Square → ℕ
rank_for Black s = rank_of s
rank_for White s = 10 - rank_of s

-- the square lies in the last three ranks of that side
abbrev pub InZone : Color → Square → Type 0
InZone color s = rank_for color s ≤ 3

-- the last rank on which a piece of that kind still has a move
abbrev pub last_rank : Kind → ℕ
last_rank Pawn = 2
last_rank Lance = 2
last_rank Knight = 3
last_rank Silver = 1
last_rank Gold = 1
last_rank Bishop = 1
last_rank Rook = 1
last_rank King = 1
last_rank ProPawn = 1
last_rank ProLance = 1
last_rank ProKnight = 1
last_rank ProSilver = 1
last_rank Horse = 1
last_rank Dragon = 1
