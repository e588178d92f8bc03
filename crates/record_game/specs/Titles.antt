-- The names and the headers of a record.
use Rattle.std.specs.Prelude.{◌≡◌, ℕ, nat_le, nat_eq, is_some, List, [], ◌∷◌, length, filter, Option, Some, None, if◌then◌else◌}
use Rattle.std.specs.Cmp.Lexicographic.{pointwise}
use Rattle.shogi_board.specs.declared.color.Color.{Color}
use Rattle.shogi_board.specs.declared.color.Color.TheVariants.{Black, White}
use Rattle.record_game.specs.declared.fault.OrderFault.TheVariants.{RepeatedName, RepeatedHeader, TooManyHeaders}
use Rattle.record_game.specs.declared.fault.Why.{Why}
use Rattle.record_game.specs.declared.fault.Why.TheVariants.{Order}
use Rattle.record_game.specs.Game.{HeaderText, Entry}
use Rattle.record_game.specs.Limits.{is_below, most_headers}
use Rattle.record_game.specs.Order.{stands}
use Rattle.record_game.specs.Says.{IsValue}

-- the names and the headers of a record
pub record Titled : Type 0 where
  pub black : Option (List ℕ)
  pub white : Option (List ℕ)
  pub headers : List Entry

-- no name and no header
abbrev pub untitled : Titled
untitled = record { black = None; white = None; headers = [] }

-- that side's name
abbrev pub name_of : Titled → Color → Option (List ℕ)
name_of t Black = t.black
name_of t White = t.white

-- the entries with this key
abbrev pub under : List ℕ → List Entry → List Entry
under key entries = filter (λ (e : Entry). pointwise nat_eq e.key key) entries

-- why this name is refused: that side already has one; an empty name counts as none
abbrev pub name_fault : Titled → Color → List ℕ → Option Why
name_fault t color [] = None
name_fault t color (b ∷ bs) = if is_some (name_of t color) then Some (Order RepeatedName) else None

-- why this header is refused: there is one with its key, or there are already 64; an empty text
-- counts as none
abbrev pub header_fault : Titled → List ℕ → List ℕ → Option Why
header_fault t key [] = None
header_fault t key (b ∷ bs) =
    if stands (under key t.headers) then Some (Order RepeatedHeader)
    else if nat_le most_headers (length t.headers) then Some (Order TooManyHeaders)
    else None

-- with this name
abbrev pub with_name : Titled → Color → List ℕ → Titled
with_name t color [] = t
with_name t Black (b ∷ bs) = record t { black = Some (b ∷ bs) }
with_name t White (b ∷ bs) = record t { white = Some (b ∷ bs) }

-- the entries with this one added, in its place by its key
abbrev pub with_entry : List Entry → Entry → List Entry
with_entry [] e = e ∷ []
with_entry (f ∷ es) e = if is_below e.key f.key then e ∷ f ∷ es else f ∷ with_entry es e

-- the titles with this header: a moment if the key is one of those and the text spells one, else
-- the text
abbrev pub IsWithHeader : Titled → List ℕ → List ℕ → Titled → Type 0
IsWithHeader t key [] new = new ≡ t
IsWithHeader t key (b ∷ bs) new =
    (value : HeaderText) × IsValue key (b ∷ bs) value
    × (new ≡ record t { headers = with_entry t.headers (record { key = key; text = value }) })
