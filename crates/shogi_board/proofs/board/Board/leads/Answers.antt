use Rattle.std.proofs.Common.{◌≡◌, refl}
use Rattle.shogi_board.specs.Directions.{Lies}
use Rattle.shogi_board.specs.Moves.{turned_for}
use Rattle.shogi_board.specs.Directions.{Goes}
use Rattle.shogi_board.specs.declared.kind.Kind.TheVariants.{Knight}
use Rattle.shogi_board.proofs.Goes.{goes-moves, moves-goes, nowhere-none}
use Rattle.shogi_board.proofs.Same.{kind-eq}
use Rattle.shogi_board.proofs.board.Board.leads.Goals as goal

pub returns-in_default : goal.returns-in_default
returns-in_default c =
    let other : c.args.piece.kind ≡ Knight → ⊥ = λ e. let no = c.if-eq.ensures in let yes = (kind-eq c.args.piece.kind Knight).1 e in cc in
    (λ no. cc, λ moves. absurd (nowhere-none c.args.self.now c.args.piece c.args.from c.args.to other c.in_default.ensures moves))

pub returns-then-goes : goal.returns-then-goes
returns-then-goes c =
    let lies : Lies c.args.from c.args.to c.in-Some.found.direction c.in-Some.found.distance = c.in-Some.ensures in
    let goes : Goes c.args.piece.kind (turned_for c.args.piece.color c.in-Some.found.direction) c.in-Some.found.distance = rw c.turned_for-turned.ensures at c.if-goes.ensures.0 refl in (
      λ yes. goes-moves c.args.self.now c.args.piece c.args.from c.args.to c.in-Some.found.direction c.in-Some.found.distance lies (c.is_clear.ensures.0 yes) goes,
      λ moves. c.is_clear.ensures.1 (moves-goes c.args.self.now c.args.piece c.args.from c.args.to c.in-Some.found.direction c.in-Some.found.distance lies moves).1,
    )

pub returns-else-goes : goal.returns-else-goes
returns-else-goes c =
    let lies : Lies c.args.from c.args.to c.in-Some.found.direction c.in-Some.found.distance = c.in-Some.ensures in (
      λ yes. let no = c.if-goes.false in cc,
      λ moves.
          let goes = (moves-goes c.args.self.now c.args.piece c.args.from c.args.to c.in-Some.found.direction c.in-Some.found.distance lies moves).0 in
          c.goes.ensures.1 (rw c.turned_for-turned.ensures goes),
    )
