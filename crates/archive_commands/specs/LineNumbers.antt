-- For private functions of `explain`: the number of a line.
-- A reader of the public contracts may skip this file.
use Rattle.std.specs.Prelude.{ℕ, ◌+◌, ◌==◌, ◌||◌, ◌&&◌, Bool, not, false, List, [], ◌∷◌, if◌then◌else◌}

-- whether a line ends at this byte: the LF of CR LF ends none
abbrev pub ends_line : Bool → ℕ → Bool
ends_line follows_cr b = b == 13 || (b == 10 && not follows_cr)

-- how many lines end in these bytes, of which the first may follow a CR
abbrev pub line_ends : Bool → List ℕ → ℕ
line_ends follows_cr [] = 0
line_ends follows_cr (b ∷ bytes) =
    (if ends_line follows_cr b then 1 else 0) + line_ends (b == 13) bytes

-- the number of the line after these bytes, counted from 1
abbrev pub line_number : List ℕ → ℕ
line_number front = line_ends false front + 1
