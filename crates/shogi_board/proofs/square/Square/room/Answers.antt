use Rattle.std.proofs.Common.{◌≡◌, ℕ, ◌≤◌, arith, ap}
use Rattle.shogi_board.specs.Squares.{Direction, IsAway}
use Rattle.shogi_board.specs.Moves.{IsRay}
use Rattle.shogi_board.specs.declared.square.Square.{Square}
use Rattle.shogi_board.proofs.Sight.{Room, in-room}
use Rattle.shogi_board.proofs.square.Square.room.Goals as goal

abbrev files_of : Direction → ℕ
files_of d = d.files

abbrev ranks_of : Direction → ℕ
ranks_of d = d.ranks

in-room-of : (a : Square) (d : Direction) (x y f r n : ℕ) → x ≡ d.files → y ≡ d.ranks → IsRay d → Room a.file x f → Room a.rank y r → n ≤ f → n ≤ r → (s : Square) × IsAway a d n s
in-room-of a d x y f r n e k ray files ranks low high = in-room a d f r n ray (rw e at files) (rw k at ranks) low high

pub returns-then-files-ranks-clause-there : goal.returns-then-files-ranks-clause-there
returns-then-files-ranks-clause-there c = λ n near.
    let less = c.if-files-ranks.true in
    in-room-of c.args.self c.args.direction c.direction.inside.files c.direction.inside.ranks c.room-files.result c.room-ranks.result n (ap files_of c.direction.view_is) (ap ranks_of c.direction.view_is) c.requires
    (record { back = c.room-files.ensures.back; still = c.room-files.ensures.still; on = c.room-files.ensures.on })
    (record { back = c.room-ranks.ensures.back; still = c.room-ranks.ensures.still; on = c.room-ranks.ensures.on })
    near (omega (arith, near, less))

pub returns-else-files-ranks-clause-there : goal.returns-else-files-ranks-clause-there
returns-else-files-ranks-clause-there c = λ n near.
    in-room-of c.args.self c.args.direction c.direction.inside.files c.direction.inside.ranks c.room-files.result c.room-ranks.result n (ap files_of c.direction.view_is) (ap ranks_of c.direction.view_is) c.requires
    (record { back = c.room-files.ensures.back; still = c.room-files.ensures.still; on = c.room-files.ensures.on })
    (record { back = c.room-ranks.ensures.back; still = c.room-ranks.ensures.still; on = c.room-ranks.ensures.on })
    (omega arith) near
