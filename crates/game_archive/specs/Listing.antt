-- The entries that are in a group with others, in order.
use Rattle.std.specs.Prelude.{◌≢◌, ◌↔◌, ℕ, ◌<◌, List, length, slice_index_or}
use Rattle.std.specs.List.{Contains}
use Rattle.std.specs.List.Sorted.{IsSorted}
use Rattle.std.specs.Ordering.{nat_cmp, ordering_then}
use Rattle.std.specs.declared.cmp.Ordering.{Ordering}
use Rattle.game_archive.specs.declared.grouping.Placing.{Placing}
use Rattle.game_archive.specs.Groups.{HasLeader}

-- another entry is in this leader's group
abbrev pub IsShared : List Placing → ℕ → Type 0
IsShared placings leader = (other : ℕ) × (other ≢ leader) × HasLeader placings other leader

-- the pairs of a leader and an entry of its group, of all groups that have others
abbrev pub ListsShared : List Placing → List (ℕ × ℕ) → Type 0
ListsShared placings pairs = (leader at : ℕ)
    → ((HasLeader placings at leader × IsShared placings leader) ↔ Contains pairs (leader, at))

-- no entry is listed twice
abbrev pub ListsOnce : List (ℕ × ℕ) → Type 0
ListsOnce pairs = (i j : ℕ) (d : ℕ × ℕ) → i < j → j < length pairs
    → (slice_index_or pairs i d).1 ≢ (slice_index_or pairs j d).1

-- by leader, and then by entry
abbrev pub pair_order : ℕ × ℕ → ℕ × ℕ → Ordering
pair_order x y = ordering_then (nat_cmp x.0 y.0) (nat_cmp x.1 y.1)

abbrev pub IsInOrder : List (ℕ × ℕ) → Type 0
IsInOrder pairs = IsSorted pair_order pairs
