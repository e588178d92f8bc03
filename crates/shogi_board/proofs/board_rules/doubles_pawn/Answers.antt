use Rattle.std.proofs.Common.{◌≡◌, IsTrue, ◌↔◌, arith}
use Rattle.shogi_board.specs.Cells.{HasPawnOnFile}
use Rattle.shogi_board.specs.declared.kind.Kind.TheVariants.{Pawn}
use Rattle.shogi_board.proofs.board_rules.doubles_pawn.Goals as goal

pub returns-then-eq : goal.returns-then-eq
returns-then-eq c =
    let p = c.args.position.now in
    let pawn : c.args.kind ≡ Pawn = grind arith in
    let there : IsTrue c.pawn_on_file.result ↔ HasPawnOnFile p.material.board p.side c.args.to = rw c.side.ensures.value at c.pawn_on_file.ensures.answer in
    (λ yes. (pawn, there.0 yes), λ both. there.1 both.1)
