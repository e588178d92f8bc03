-- The bytes of a move are seven, and ASCII.
use Rattle.std.proofs.Common.{◌≡◌, ℕ, zero, suc, ◌<◌, arith, List, [], ◌∷◌, ◌++◌, length, get_or, sym, ap, subst}
use Rattle.std.specs.List.{AllByRecursion}
use Rattle.shogi_board.specs.declared.color.Color.{Color}
use Rattle.shogi_board.specs.declared.color.Color.TheVariants.{Black, White}
use Rattle.shogi_board.specs.declared.kind.Kind.{Kind}
use Rattle.shogi_board.specs.declared.kind.Kind.TheVariants.{Pawn, Lance, Knight, Silver, Gold, Bishop, Rook, King, ProPawn, ProLance, ProKnight, ProSilver, Horse, Dragon}
use Rattle.shogi_board.specs.declared.square.Square.{Square}
use Rattle.shogi_board.specs.declared.moves.Move.{Move}
use Rattle.shogi_board.specs.declared.moves.Move.TheVariants.{Walk, Put}
use Rattle.csa_text.specs.Codes.{sign, square_text, kind_code, squares_text, move_text}
use Rattle.csa_text.specs.CodesOnce.{kind_length}
use Rattle.csa_cutting.proofs.LineCutting.{all_joined}

abbrev IsAscii : ℕ → Type 0
IsAscii b = b < 128

ascii_sign : (color : Color) → sign color < 128
ascii_sign Black = omega arith
ascii_sign White = omega arith

ascii_kind : (k : Kind) → AllByRecursion IsAscii (kind_code k)
ascii_kind Pawn = (omega arith, (omega arith, tt))
ascii_kind Lance = (omega arith, (omega arith, tt))
ascii_kind Knight = (omega arith, (omega arith, tt))
ascii_kind Silver = (omega arith, (omega arith, tt))
ascii_kind Gold = (omega arith, (omega arith, tt))
ascii_kind Bishop = (omega arith, (omega arith, tt))
ascii_kind Rook = (omega arith, (omega arith, tt))
ascii_kind King = (omega arith, (omega arith, tt))
ascii_kind ProPawn = (omega arith, (omega arith, tt))
ascii_kind ProLance = (omega arith, (omega arith, tt))
ascii_kind ProKnight = (omega arith, (omega arith, tt))
ascii_kind ProSilver = (omega arith, (omega arith, tt))
ascii_kind Horse = (omega arith, (omega arith, tt))
ascii_kind Dragon = (omega arith, (omega arith, tt))

ascii_square : (s : Square) → AllByRecursion IsAscii (square_text s)
ascii_square s = let h = s.on_board in (omega (arith, h), (omega (arith, h), tt))

ascii_squares : (m : Move) → AllByRecursion IsAscii (squares_text m)
ascii_squares (Walk from to k) =
    all_joined IsAscii (square_text from) (square_text to ++ kind_code k) (ascii_square from)
    (all_joined IsAscii (square_text to) (kind_code k) (ascii_square to) (ascii_kind k))
ascii_squares (Put to k) =
    all_joined IsAscii (48 ∷ 48 ∷ []) (square_text to ++ kind_code k) (omega arith, (omega arith, tt))
    (all_joined IsAscii (square_text to) (kind_code k) (ascii_square to) (ascii_kind k))

ascii_at : (bytes : List ℕ) (i : ℕ) → AllByRecursion IsAscii bytes → i < length bytes → get_or bytes i 0 < 128
ascii_at [] i h less = absurd (omega arith)
ascii_at (b ∷ bs) zero h less = h.0
ascii_at (b ∷ bs) (suc i) h less = ascii_at bs i h.1 (omega arith)

pub move_length : (color : Color) (m : Move) → length (move_text color m) ≡ 7
move_length color (Walk from to k) = omega (arith, kind_length k)
move_length color (Put to k) = omega (arith, kind_length k)

pub move_ascii : (bytes : List ℕ) (color : Color) (m : Move) (i : ℕ) → bytes ≡ move_text color m → i < 7 → get_or bytes i 0 < 128
move_ascii bytes color m i is less =
    let all : AllByRecursion IsAscii bytes = subst (λ bs. AllByRecursion IsAscii bs) (sym is) (ascii_sign color, ascii_squares m) in
    ascii_at bytes i all (omega (arith, less, ap length is, move_length color m))
