-- The start that position statements give can be laid out, one piece after another.
use Rattle.std.proofs.Common.{◌≡◌, List, [], drop, filter, Ok}
use Rattle.std.specs.List.{AllByRecursion, filter_map}
use Rattle.shogi_board.specs.Layout.{Layout}
use Rattle.shogi_board.specs.Totals.{IsWithinTotals}
use Rattle.csa_text.specs.Saying.{Saying}
use Rattle.record_game.specs.Items.{is_even, positions}
use Rattle.record_game.specs.LaidOut.{laid_out}
use Rattle.record_game.specs.Placings.{placings}
use Rattle.record_game.specs.Union.{first_board, IsUnion, rest_given, with_rest_given}
use Rattle.record_game.proofs.LaidOut.{IsWritten, statements_in_turn, kept, board_squares}
use Rattle.record_game.proofs.PlacedUnion.{begins}
use Rattle.record_game.proofs.UnionPlaced.{union_is_placed}

pub union_laid_out : (ss : List Saying) (u : Layout) → AllByRecursion IsWritten ss → filter is_even (drop 1 (positions ss)) ≡ [] → IsUnion (first_board (positions ss)) (placings (positions ss)) u → IsWithinTotals u.material → laid_out ss ≡ Ok (with_rest_given (filter_map rest_given (placings (positions ss))) u)
union_laid_out ss u w h union within =
    union_is_placed (first_board (positions ss)) (placings (positions ss)) _ u (begins (first_board (positions ss)) (board_squares (positions ss))) (statements_in_turn (positions ss) (kept ss w) h) union within
