-- For private functions and fields of `PieceCutter`: where it is, what it holds, and what a piece
-- holds next.
-- A reader of the public contracts may skip this file.
use Rattle.std.specs.Prelude.{◌≡◌, ℕ, ◌+◌, ◌-◌, ◌^◌, not, ◌<◌, ◌≤◌, ◌==◌, ◌⊎◌, Bool, true, false, List, [], ◌∷◌, ◌++◌, length, take, drop, slice_range}
use Rattle.csa_cutting.specs.Cut.{TextUnit, Statements, IsUnit, byte_order_mark, begins_with, longest_statement}
use Rattle.csa_cutting.specs.Cutting.{IsStatementUnit}
use Rattle.csa_cutting.specs.PieceCutting.{Follows}
use Rattle.csa_cutting.specs.declared.units.Found.{Found}
use Rattle.csa_cutting.specs.declared.units.Found.TheVariants.{Part, LeadsTo}
use Rattle.csa_cutting.specs.declared.units.Origin.{Origin}
use Rattle.csa_cutting.specs.declared.units.Origin.TheVariants.{EarlierPiece, ThisPiece}
use Rattle.csa_cutting.specs.declared.units.Place.{Place}
use Rattle.csa_cutting.specs.declared.units.Unspoken.{Unspoken}
use Rattle.csa_cutting.specs.declared.units.Place.TheVariants.{Mark, Gap, Unit as InUnit, Comment}

abbrev pub begins : Place → Bool
begins Mark = true
begins Gap = false
begins InUnit = false
begins Comment = false

-- what is unfinished, from what is held; a comment's first byte comes before what is held of it
abbrev pub open_of : Place → List ℕ → List ℕ
open_of Mark held = held
open_of Gap held = []
open_of InUnit held = held
open_of Comment held = 39 ∷ held

-- what is held in each place
abbrev pub IsHeld : Place → List ℕ → Type 0
IsHeld Mark held = (length held < 3) × (held ≡ take (length held) byte_order_mark)
IsHeld Gap held = Unit {0}
IsHeld InUnit held = IsUnit held [] × (begins_with 39 held ≡ false)
IsHeld Comment held = held ≡ []

-- the same, with how many bytes have been used and how many statements yielded
abbrev pub IsKept : Place → List ℕ → ℕ → ℕ → Type 0
IsKept place held fed number = (number + length (open_of place held) ≤ fed)
    × (length held ≤ longest_statement) × IsHeld place held
    × (begins place ≡ true → fed ≡ length held) × (fed ≤ 2 ^ 63)

-- these bytes of a piece lead from the cutter's place to one where those are unfinished: what is to
-- come from there is to come from here
abbrev pub Passes : Place → List ℕ → List ℕ → List ℕ → Type 0
Passes place held front unfinished = (fed : ℕ) (more : List ℕ) (others : List TextUnit)
    → length (open_of place held) ≤ fed
    → Statements (fed + length front - length unfinished) (unfinished ++ more) others
    → Follows (begins place) fed (open_of place held) (front ++ more) others

-- the same of a piece from one place up to another, whose byte begins what is unfinished
abbrev pub PassesTo : Place → List ℕ → List ℕ → ℕ → ℕ → Type 0
PassesTo place held piece from at =
    Passes place held (slice_range piece from (at + 1)) (slice_range piece at (at + 1))

-- what is held of a unit that begins there
abbrev pub kept_of : Origin → List ℕ → List ℕ
kept_of EarlierPiece held = held
kept_of ThisPiece held = []

-- a statement's unit in the piece from one place on, or the part of it so far: what is held of it
-- and the bytes from start to end; and what leads to it, up to the byte that ends it
pub record IsPart (place : Place) (held piece : List ℕ) (from : ℕ) (origin : Origin)
    (start end : ℕ) : Type 0 where
  pub order : from ≤ start
  pub first : origin ≡ EarlierPiece → (start ≡ 0) × (open_of place held ≡ held)
  pub unit : IsStatementUnit (kept_of origin held) piece start end
  pub passed : Passes place held (slice_range piece from (end + 1))
      (kept_of origin held ++ slice_range piece start (end + 1))

-- what the piece holds next from one place on: a statement's unit, or else where it leads
abbrev pub IsFoundIn : Place → List ℕ → List ℕ → ℕ → Found → Type 0
IsFoundIn place held piece from (LeadsTo InUnit) = ⊥
IsFoundIn place held piece from (LeadsTo Mark) =
    (place ≡ Mark) × (length held + length piece < 3)
    × (held ++ piece ≡ take (length held + length piece) byte_order_mark)
IsFoundIn place held piece from (LeadsTo Gap) = Passes place held (drop from piece) []
IsFoundIn place held piece from (LeadsTo Comment) = ((place ≡ Comment) ⊎ (0 < length piece))
    × Passes place held (drop from piece) (39 ∷ [])
IsFoundIn place held piece from (Part part) =
    IsPart place held piece from part.origin part.start part.end

-- so many bytes of the piece are part of no statement; they lead to that place, with nothing held
pub record IsUnspoken (place : Place) (held piece : List ℕ) (unspoken : Unspoken) : Type 0 where
  pub within : unspoken.used ≤ length piece
  pub begun : begins unspoken.place ≡ false
  pub clear : IsHeld unspoken.place []
  pub passed : Passes place held (take unspoken.used piece) (open_of unspoken.place [])

-- a statement's unit, or what may become one, is unfinished
abbrev pub has_unit : Place → List ℕ → Bool
has_unit Mark held = not (length held == 0)
has_unit Gap held = false
has_unit InUnit held = true
has_unit Comment held = false
