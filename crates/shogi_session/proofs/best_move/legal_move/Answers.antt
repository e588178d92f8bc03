use Rattle.std.proofs.Common.{◌≡◌, None, Some, MatchOption, subst}
use Rattle.shogi_board.specs.declared.moves.Move.{Move}
use Rattle.shogi_board.specs.Legal.{Legal}
use Rattle.usi_text.specs.Moves.{UsiMove}
use Rattle.usi_text.proofs.OneMove.{one_move}
use Rattle.shogi_session.proofs.best_move.legal_move.Goals as goal

pub returns-in-Some : goal.returns-in-Some
returns-in-Some c =
    let position = c.args.position.now in
    let text = c.args.text.now in
    let none : MatchOption None ((m : Move) → UsiMove position text m → Legal position m → ⊥) (λ m. UsiMove position text m × Legal position m) = λ m spelt legal.
    let same : m ≡ c.in_ok-mv.mv = one_move position text m c.in_ok-mv.mv spelt c.in_ok-mv.ensures.stated in
    let stated : Some c.in-Some.field-0 ≡ None = c.in-Some.ensures.legal.1 (c.side.ensures.value, subst (λ n. Legal position n) same legal) in
    cc in
    none
