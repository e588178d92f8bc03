-- Rows of canonical texts, worked out.
use Rattle.std.proofs.Common.{◌≡◌, List, [], ◌∷◌, ◌++◌, Option, Some, None, refl, set}
use Rattle.std.specs.Fmt.{digits}
use Rattle.std.specs.Prelude.{codes}
use Rattle.shogi_board.specs.declared.color.Color.TheVariants.{White}
use Rattle.shogi_board.specs.declared.kind.Kind.TheVariants.{Pawn}
use Rattle.shogi_board.specs.Cells.{even_cells}
use Rattle.shogi_board.specs.Placed.{Placed, even_start}
use Rattle.shogi_board.specs.Totals.{bare_board}
use Rattle.shogi_board.specs.declared.moves.Move.TheVariants.{Walk}
use Rattle.csa_text.specs.declared.ending.Ending.TheVariants.{Toryo}
use Rattle.csa_text.specs.TimeTexts.{time_text}
use Rattle.record_game.specs.Canon.{canon}
use Rattle.record_game.specs.Game.{Game, Timed, Ended}
use Rattle.record_game.specs.Squares.{square_at}

abbrev started : Placed → List Timed → Option Ended → Game
started start moves ending = record { black = None; white = None; headers = []; start = start; moves = moves; ending = ending }

even_row : canon (started even_start [] None) ≡ codes "V2.2" ++ 10 ∷ (codes "PI" ++ 10 ∷ 43 ∷ 10 ∷ [])
even_row = refl

-- without white's bishop and rook, white to move
handicap_row : canon (started (record { material = bare_board (set (set even_cells 10 None) 64 None); side = White }) [] None) ≡ codes "V2.2" ++ 10 ∷ (codes "PI22KA82HI" ++ 10 ∷ 45 ∷ 10 ∷ [])
handicap_row = refl

played_row : canon (started even_start (record { move = Walk (square_at 60) (square_at 59) Pawn; time = Some 12000 } ∷ record { move = Walk (square_at 20) (square_at 21) Pawn; time = Some 6500 } ∷ []) (Some (record { ending = Toryo; time = None })))
    ≡ codes "V2.2" ++ 10 ∷ (codes "PI" ++ 10 ∷ 43 ∷ 10 ∷ (codes "+7776FU" ++ 10 ∷ (codes "T12" ++ 10 ∷ (codes "-3334FU" ++ 10 ∷ (codes "T6.5" ++ 10 ∷ (codes "%TORYO" ++ 10 ∷ []))))))
unfolding digits
played_row = refl

no_time_row : time_text 0 ≡ codes "0"
unfolding digits
no_time_row = refl

short_time_row : time_text 50 ≡ codes "0.05"
unfolding digits
short_time_row = refl

longest_time_row : time_text 4294967295999 ≡ codes "4294967295.999"
unfolding digits
longest_time_row = refl
