-- What position statements place, one after another.
use Rattle.std.specs.Prelude.{List, Result}
use Rattle.shogi_board.specs.declared.setup.SetupFault.{SetupFault}
use Rattle.shogi_board.specs.Layout.{Layout}
use Rattle.shogi_board.specs.Placing.{place_all, board_alone}
use Rattle.csa_text.specs.Saying.{Saying}
use Rattle.record_game.specs.Items.{positions}
use Rattle.record_game.specs.Placings.{placings}
use Rattle.record_game.specs.Union.{first_board}

-- what the position statements among the items place, or the fault of the first that cannot be
-- placed
abbrev pub laid_out : List Saying → Result Layout SetupFault
laid_out sayings =
    place_all (board_alone (first_board (positions sayings))) (placings (positions sayings))
