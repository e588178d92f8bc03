-- The groups of an archive's entries.
use Rattle.std.specs.Prelude.{◌≡◌, ◌↔◌, ℕ, ◌+◌, ◌≤◌, List, [], ◌∷◌, slice_index_or}
use Rattle.game_archive.specs.Alike.{AreAlike}
use Rattle.game_archive.specs.declared.grouping.Placing.{Placing}
use Rattle.game_archive.specs.declared.grouping.Placing.TheVariants as placing
use Rattle.record_game.specs.declared.likeness.Likeness.{Likeness}
use Rattle.record_game.specs.declared.fault.Refusal.{Refusal}
use Rattle.record_game.specs.Refused.{Refused}

-- where an entry belongs
abbrev pub placing_at : List Placing → ℕ → Placing
placing_at placings at = slice_index_or placings at placing.Unreadable

-- the entry is in the group of that first entry, its leader
abbrev pub HasLeader : List Placing → ℕ → ℕ → Type 0
HasLeader placings at leader = placing_at placings at ≡ placing.Group leader

-- how many entries are in no group
abbrev pub outside : List Placing → ℕ
outside [] = 0
outside (placing.Group leader ∷ placings) = outside placings
outside (placing.Refused r ∷ placings) = outside placings + 1
outside (placing.Unreadable ∷ placings) = outside placings + 1

abbrev pub IsAccepted : List Placing → ℕ → Type 0
IsAccepted placings at = (leader : ℕ) × HasLeader placings at leader

abbrev pub InOneGroup : List Placing → ℕ → ℕ → Type 0
InOneGroup placings i j = (leader : ℕ) × HasLeader placings i leader × HasLeader placings j leader

-- the leader is in its own group, and no entry of that group is before it
abbrev pub IsFirst : List Placing → ℕ → Type 0
IsFirst placings leader = HasLeader placings leader leader
    × ((j : ℕ) → HasLeader placings j leader → leader ≤ j)

-- two entries are in one group exactly if both are in groups and alike; each leader is the first of
-- its group; and the bytes of a refused entry are refused in that way
pub record IsGrouped (likeness : Likeness) (bytes : ℕ → List ℕ) (placings : List Placing)
    : Type 0 where
  pub together : (i j : ℕ) → InOneGroup placings i j
      ↔ (IsAccepted placings i × IsAccepted placings j × AreAlike likeness (bytes i) (bytes j))
  pub first : (i leader : ℕ) → HasLeader placings i leader → IsFirst placings leader
  pub refused : (i : ℕ) (r : Refusal) → placing_at placings i ≡ placing.Refused r
      → Refused (bytes i) r.number r.offset r.why
