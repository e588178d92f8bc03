-- What is kept of items with a side to move is the game that they say.
use Rattle.std.proofs.Common.{◌≡◌, Bool, List, [], sym, subst}
use Rattle.std.specs.List.{AllByRecursion}
use Rattle.csa_text.specs.Saying.{Saying}
use Rattle.record_game.specs.Building.{game_of}
use Rattle.record_game.specs.Course.{Course}
use Rattle.record_game.specs.Validity.{IsCourse}
use Rattle.record_game.specs.Items.{positions, sides}
use Rattle.record_game.specs.Keeping.{Kept, laying, playing, HasKept, KeepsStage}
use Rattle.record_game.specs.Laying.{Laid}
use Rattle.record_game.specs.Limits.{IsGame}
use Rattle.record_game.specs.Outcome.{IsWritten}
use Rattle.record_game.specs.Says.{Says}
use Rattle.record_game.specs.Titles.{Titled}
use Rattle.record_game.specs.Validity.{IsTitled}
use Rattle.record_game.specs.Union.{GiveStart}
use Rattle.record_game.proofs.LaidOut.{laid_out_gives}
use Rattle.record_game.proofs.Played.{laying_body}
use Rattle.record_game.proofs.Progressing.{kept}

pub game_of_titled : (t : Titled) (c : Course) → IsTitled t → IsCourse c → IsGame (game_of t c)
game_of_titled t c titled course = record {
  black = titled.black;
  white = titled.white;
  entries = titled.entries;
  rising = titled.rising;
  few_headers = titled.few_headers;
  sound = course.sound;
  line = course.line;
  few_moves = course.few_moves;
  times = course.times;
  last_time = course.last_time;
}

pub says_of_kept : (sayings : List Saying) (k : Kept) (c : Course) → AllByRecursion IsWritten sayings → HasKept sayings k → k.stage ≡ playing c → IsGame (game_of k.titles c) → Says sayings (game_of k.titles c)
says_of_kept sayings k c written h is game =
    let now : KeepsStage sayings (playing c) = subst (KeepsStage sayings) is h.stage in
    record {
      version_first = h.version_first;
      black = h.black;
      white = h.white;
      headers = h.headers;
      even_first = h.even_first;
      even_or_ranks = h.even_or_ranks;
      ranks_once = h.ranks_once;
      start = subst (GiveStart (positions sayings)) (sym now.2) (laid_out_gives sayings now.0 c.start.side written h.even_first now.1);
      in_order = now.3;
      game = game;
    }

pub no_side_of_kept : (sayings : List Saying) (b : Bool) (t : Titled) (l : Laid) → HasKept sayings (kept b t (laying l)) → sides sayings ≡ []
no_side_of_kept sayings b t l h = (laying_body sayings h.stage.1).sides
