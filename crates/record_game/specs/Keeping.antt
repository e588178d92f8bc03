-- What a reader keeps of the items so far.
use Rattle.std.specs.Prelude.{◌≡◌, ◌⊎◌, Bool, List, [], ◌∷◌, ◌++◌, drop, filter, Ok}
use Rattle.std.specs.Option.{option_to_list}
use Rattle.shogi_board.specs.declared.color.Color.TheVariants.{Black, White}
use Rattle.shogi_board.specs.Layout.{Layout}
use Rattle.shogi_board.specs.Setup.{position_of}
use Rattle.csa_text.specs.Saying.{Saying, turn}
use Rattle.record_game.specs.Course.{Course}
use Rattle.record_game.specs.Items.{is_version, names, headers, is_even, ranks, positions, body}
use Rattle.record_game.specs.Laying.{Laid, Lays}
use Rattle.record_game.specs.Order.{stands}
use Rattle.record_game.specs.LaidOut.{laid_out}
use Rattle.record_game.specs.Says.{AreEntries, RanksOnce, move_items, ending_items}
use Rattle.record_game.specs.Titles.{Titled}

-- the start while it is laid out, or the moves once the side to move is given
pub data Stage : Type 0 where
  laying : Laid → Stage
  playing : Course → Stage

pub record Kept : Type 0 where
  pub begun : Bool
  pub titles : Titled
  pub stage : Stage

-- the body of the items so far is position statements; or it is these, the side to move, and what
-- was played from the start
abbrev pub KeepsStage : List Saying → Stage → Type 0
KeepsStage before (laying l) = Lays before l × (body before ≡ positions before)
KeepsStage before (playing c) =
    (layout : Layout) × (laid_out before ≡ Ok layout) × (c.start ≡ position_of layout c.start.side)
    × (body before
    ≡ positions before
    ++ turn c.start.side ∷ (move_items c.start.side c.moves ++ ending_items c.ending))

-- what a reader keeps of the items so far
pub record HasKept (before : List Saying) (k : Kept) : Type 0 where
  pub begun : k.begun ≡ stands before
  pub version_first : filter is_version (drop 1 before) ≡ []
  pub black : names Black before ≡ option_to_list k.titles.black
  pub white : names White before ≡ option_to_list k.titles.white
  pub headers : AreEntries (headers before) k.titles.headers
  pub even_first : filter is_even (drop 1 (positions before)) ≡ []
  pub even_or_ranks : (filter is_even before ≡ []) ⊎ (ranks before ≡ [])
  pub ranks_once : RanksOnce before
  pub stage : KeepsStage before k.stage
