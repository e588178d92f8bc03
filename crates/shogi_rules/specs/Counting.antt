-- For private functions and fields of `Line`: its positions, each with how often it occurs and
-- where first, and the turn of each place.
-- A reader of the public contracts may skip this file.
use Rattle.std.specs.Prelude.{◌≡◌, ◌≤◌, ◌↔◌, IsTrue, ℕ, List, Some, length, slice_get}
use Rattle.shogi_board.specs.Placed.{Placed}
use Rattle.shogi_board.specs.Reach.{InCheck}
use Rattle.shogi_rules.specs.Searching.{keys}
use Rattle.shogi_rules.specs.Repetition.{times, IsNth}
use Rattle.shogi_rules.specs.declared.occurrences.Entry.{Entry}
use Rattle.shogi_rules.specs.declared.seen.Turn.{Turn}

-- it is the position of that entry, if there is one
abbrev pub StandsAt : List Entry → ℕ → Placed → Type 0
StandsAt entries n p = (e : Entry) → slice_get entries n ≡ Some e → e.position ≡ p

-- each position of the list has one entry, with how often it occurs there and where for the first
-- time; there are no more entries than positions
pub record AreCounts (ps : List Placed) (entries : List Entry) : Type 0 where
  pub each : (i : ℕ) (e : Entry) → slice_get entries i ≡ Some e
      → (e.count ≡ times ps e.position) × IsNth ps e.position 1 e.first
  pub once : (i j : ℕ) (d e : Entry) → slice_get entries i ≡ Some d → slice_get entries j ≡ Some e
      → d.position ≡ e.position → i ≡ j
  pub all : (q : Placed) → times (keys entries) q ≡ 0 → times ps q ≡ 0
  pub few : length entries ≤ length ps

-- each place has its turn: the side to move, and whether it is in check
pub record AreTurns (ps : List Placed) (turns : List Turn) : Type 0 where
  pub long : length turns ≡ length ps
  pub each : (i : ℕ) (p : Placed) (turn : Turn) → slice_get ps i ≡ Some p
      → slice_get turns i ≡ Some turn → (turn.side ≡ p.side)
      × (IsTrue turn.in_check ↔ InCheck p.material.board p.side)

-- what is kept of the positions of a line
pub record Seeing : Type 0 where
  pub counts : List Entry
  pub here : ℕ
  pub turns : List Turn

-- that is kept of these positions, and the entry of the last one is that of this position
pub record IsSeen (ps : List Placed) (last : Placed) (seen : Seeing) : Type 0 where
  pub counts : AreCounts ps seen.counts
  pub here : StandsAt seen.counts seen.here last
  pub turns : AreTurns ps seen.turns
