-- For private functions and fields of `csa_record`: which titles and courses a record can have.
-- A reader of the public contracts may skip this file.
use Rattle.std.specs.Prelude.{◌≤◌, length, map, IfSome}
use Rattle.std.specs.List.{AllByRecursion}
use Rattle.shogi_board.specs.Sound.{IsSound}
use Rattle.shogi_rules.specs.Positions as rules
use Rattle.shogi_rules.specs.Positions.{max_moves}
use Rattle.record_game.specs.Game.{Timed, move_of}
use Rattle.record_game.specs.Limits.{IsTimed, EndsInTime, IsName, IsEntry, Rising, most_headers}
use Rattle.record_game.specs.Course.{Course}
use Rattle.record_game.specs.Titles.{Titled}

-- a sound start, legal moves, none of them played in a position that occurs for the fourth time,
-- and times within the limit
pub record IsCourse (c : Course) : Type 0 where
  pub sound : IsSound c.start
  pub line : rules.IsGame c.start (map move_of c.moves)
  pub few_moves : length c.moves ≤ max_moves
  pub times : AllByRecursion (λ (t : Timed). IsTimed t.time) c.moves
  pub last_time : EndsInTime c.ending

-- valid titles: names that fit, and at most 64 entries that fit, in the order of their keys
pub record IsTitled (t : Titled) : Type 0 where
  pub black : IfSome t.black IsName
  pub white : IfSome t.white IsName
  pub entries : AllByRecursion IsEntry t.headers
  pub rising : Rising t.headers
  pub few_headers : length t.headers ≤ most_headers
