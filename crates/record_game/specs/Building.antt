-- A game's parts, and games made of parts.
use Rattle.std.specs.Prelude.{map, None}
use Rattle.shogi_rules.specs.Positions.{Played}
use Rattle.record_game.specs.Game.{Game}
use Rattle.record_game.specs.Course.{Course, untimed}
use Rattle.record_game.specs.Titles.{Titled, untitled}

-- its names and headers
abbrev pub titled_of : Game → Titled
titled_of g = record { black = g.black; white = g.white; headers = g.headers }

-- its start, its moves and its ending
abbrev pub course_of : Game → Course
course_of g = record { start = g.start; moves = g.moves; ending = g.ending }

-- the game of both
abbrev pub game_of : Titled → Course → Game
game_of t c =
    record {
      black = t.black;
      white = t.white;
      headers = t.headers;
      start = c.start;
      moves = c.moves;
      ending = c.ending;
    }

-- with these names and headers
abbrev pub with_titled : Game → Titled → Game
with_titled g t = record g { black = t.black; white = t.white; headers = t.headers }

-- with this start, these moves and this ending
abbrev pub with_course : Game → Course → Game
with_course g c = record g { start = c.start; moves = c.moves; ending = c.ending }

-- the game of a line alone: no names, headers, times or ending
abbrev pub game_along : Played → Game
game_along line =
    game_of untitled (record { start = line.start; moves = map untimed line.moves; ending = None })
