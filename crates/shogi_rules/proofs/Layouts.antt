-- A piece more in a hand or on the board.
use Rattle.std.proofs.Common.{◌≡◌, ℕ, ◌+◌, ◌<◌, ◌==◌, true, false, cond, None, length, set, get_or, count_by, arith, refl, nat_le}
use Rattle.std.proofs.lemmas.Bool.{lt-leb}
use Rattle.std.proofs.lemmas.List.Sums.{sum_by-set}
use Rattle.shogi_board.specs.Cells.{piece}
use Rattle.shogi_board.specs.Layout.{Layout}
use Rattle.shogi_board.specs.Material.{Material}
use Rattle.shogi_board.specs.Pieces.{place_of, is_hand_kind}
use Rattle.shogi_board.specs.Setup.{add_fault}
use Rattle.shogi_board.specs.Totals.{total, limit, is_of}
use Rattle.shogi_board.specs.declared.color.Color.{Color}
use Rattle.shogi_board.specs.declared.kind.Kind.{Kind}

pub add-fits : (s : Layout) (kind : Kind) → s.rest_given ≡ false → is_hand_kind kind ≡ true → total s.material kind < limit kind → add_fault s kind ≡ None
add-fits s kind free held room =
    let full : nat_le (limit kind) (total s.material kind) ≡ false = lt-leb _ _ room in
    rw (free, held, full) refl

-- one more of the kind of a piece that is put on an empty square
pub put-total : (m : Material) (i : ℕ) (color : Color) (kind k : Kind) → i < length m.board → get_or m.board i None ≡ None → total (record m { board = set m.board i (piece color kind) }) k ≡ total m k + cond (place_of kind == place_of k) 1 0
put-total m i color kind k low empty =
    let step = sum_by-set (λ x. cond (is_of k x) 1 0) m.board i (piece color kind) None low in
    let e : count_by (is_of k) (set m.board i (piece color kind)) + 0 ≡ count_by (is_of k) m.board + cond (place_of kind == place_of k) 1 0 = rw empty at step in
    omega (arith, e)
