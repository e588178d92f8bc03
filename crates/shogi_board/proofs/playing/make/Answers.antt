use Rattle.std.proofs.Common.{◌≡◌, subst, sym}
use Rattle.shogi_board.specs.Cells.{at, piece}
use Rattle.shogi_board.specs.Danger.{ComesFrom}
use Rattle.shogi_board.specs.declared.kind.Kind.TheVariants.{King}
use Rattle.shogi_board.specs.After.{board_after}
use Rattle.shogi_board.specs.Legal.{FitsBoard}
use Rattle.shogi_board.specs.declared.moves.Move.{Move}
use Rattle.shogi_board.specs.declared.moves.Move.TheVariants.{Walk, Put}
use Rattle.shogi_board.proofs.Pieces.{captured-held}
use Rattle.shogi_board.proofs.Kept.{after-within}
use Rattle.shogi_board.proofs.Walks.{start-of, no-king-taken}
use Rattle.shogi_board.proofs.playing.make.Goals as goal

pub walk-requires-clause-totals : goal.walk-requires-clause-totals
walk-requires-clause-totals c =
    let fits = subst (λ (m : Move). FitsBoard c.args.position.now m) c.in-Walk.is c.requires.fits in
    after-within c.args.position.now (Walk c.in-Walk.from c.in-Walk.to c.in-Walk.kind) c.requires.sound fits

pub walk-requires-clause-captured : goal.walk-requires-clause-captured
walk-requires-clause-captured c = λ x there.
    let p = c.args.position.now in
    let fits = subst (λ (m : Move). FitsBoard p m) c.in-Walk.is c.requires.fits in
    let start = start-of p c.in-Walk.from c.in-Walk.to c.in-Walk.kind c.requires.sound fits in
    captured-held x.kind (no-king-taken p c.in-Walk.from c.in-Walk.to c.in-Walk.kind x start there)

pub walk-requires-clause-danger : goal.walk-requires-clause-danger
walk-requires-clause-danger c = λ s there.
    let p = c.args.position.now in
    let before = subst (λ (m : Move). at (board_after p m) s ≡ piece p.side King) (sym c.in-Walk.is) there in
    subst (λ (m : Move). ComesFrom (board_after p m) p.side s c.args.danger) c.in-Walk.is (c.requires.danger s before)

pub drop_piece-requires-clause-totals : goal.drop_piece-requires-clause-totals
drop_piece-requires-clause-totals c =
    let fits = subst (λ (m : Move). FitsBoard c.args.position.now m) c.in-Put.is c.requires.fits in
    after-within c.args.position.now (Put c.in-Put.to c.in-Put.kind) c.requires.sound fits

pub drop_piece-requires-clause-danger : goal.drop_piece-requires-clause-danger
drop_piece-requires-clause-danger c = λ s there.
    let p = c.args.position.now in
    let before = subst (λ (m : Move). at (board_after p m) s ≡ piece p.side King) (sym c.in-Put.is) there in
    subst (λ (m : Move). ComesFrom (board_after p m) p.side s c.args.danger) c.in-Put.is (c.requires.danger s before)

pub returns-in-Walk-clause-safe : goal.returns-in-Walk-clause-safe
returns-in-Walk-clause-safe c = rw c.in-Walk.is c.walk.ensures.answer

pub returns-in-Put-clause-safe : goal.returns-in-Put-clause-safe
returns-in-Put-clause-safe c = rw c.in-Put.is c.drop_piece.ensures.answer
