-- The key after a walk, after a drop, and as the turn passes.
use Rattle.std.proofs.Common.{◌≡◌, ◌≢◌, ℕ, ◌+◌, ◌-◌, ◌%◌, ◌^◌, ◌<◌, true, List, Option, Some, None, get_or, set, length, length-set, get_or-set_other, arith, refl, ap, sym}
use Rattle.shogi_board.specs.Cells.{Cells}
use Rattle.shogi_board.specs.Keys.{cell_key, cells_key, held_key, counts_key, side_key, key_of}
use Rattle.shogi_board.specs.KeySteps.{captured_key}
use Rattle.shogi_board.specs.Material.{Material, bag_of, with_bag}
use Rattle.shogi_board.specs.After.{with_captured}
use Rattle.shogi_board.specs.Pieces.{is_hand_kind, opponent, place_of, unpromoted}
use Rattle.shogi_board.specs.Placed.{Placed}
use Rattle.shogi_board.specs.Setup.{one_less, one_more}
use Rattle.shogi_board.specs.Totals.{count_in}
use Rattle.shogi_board.specs.declared.color.Color.{Color}
use Rattle.shogi_board.specs.declared.color.Color.TheVariants.{Black, White}
use Rattle.shogi_board.specs.declared.kind.Kind.{Kind}
use Rattle.shogi_board.specs.declared.kind.Piece.{Piece}
use Rattle.shogi_board.proofs.Pieces.{unpromoted-place}
use Rattle.shogi_board.proofs.Sums.{grown, shrunk, sum_from-set, sum_from-gain, sum_from-lose}
use Rattle.shogi_board.proofs.Forms.{held-low}

-- the key of a whole position
pub whole-key : (b h w s : ℕ) → s < 2 ^ 64 → (b + (h + w) + s) % 2 ^ 64 ≡ ((b % 2 ^ 64 + (h % 2 ^ 64 + w % 2 ^ 64) % 2 ^ 64) % 2 ^ 64 + s) % 2 ^ 64
whole-key b h w s low = omega arith

-- the board after a piece was put on an empty square
cells-put : (cells : Cells) (i : ℕ) (x : Option Piece) → i < length cells → get_or cells i None ≡ None → cells_key (set cells i x) ≡ cells_key cells + cell_key i x
cells-put cells i x low empty =
    let put = sum_from-set cell_key 0 cells i i x None (omega arith) low in
    let none : cell_key i (get_or cells i None) ≡ 0 = ap (cell_key i) empty in
    omega (arith, put, none)

-- and after a square was emptied
cells-cleared : (cells : Cells) (i : ℕ) → i < length cells → cells_key (set cells i None) + cell_key i (get_or cells i None) ≡ cells_key cells
cells-cleared cells i low =
    let put = sum_from-set cell_key 0 cells i i None None (omega arith) low in
    omega (arith, put)

cells-walked : (cells : Cells) (i j : ℕ) (x : Option Piece) → i < length cells → j < length cells → i ≢ j → cells_key (set (set cells i None) j x) + cell_key i (get_or cells i None) + cell_key j (get_or cells j None) ≡ cells_key cells + cell_key j x
cells-walked cells i j x low high apart =
    let lifted = cells-cleared cells i low in
    let put = sum_from-set cell_key 0 (set cells i None) j j x None (omega arith) (rw length-set high) in
    let other : cell_key j (get_or (set cells i None) j None) ≡ cell_key j (get_or cells j None) = ap (cell_key j) (get_or-set_other cells i j None None (λ e. apart (sym e))) in
    omega (arith, lifted, put, other)

-- a hand with one piece more or less
more-key : (color : Color) (bag : List ℕ) (kind : Kind) → length bag ≡ 7 → is_hand_kind kind ≡ true → counts_key color (one_more bag kind) ≡ counts_key color bag + held_key color (place_of kind)
more-key color bag kind seven held =
    let low = held-low kind held in
    rw held (sum_from-gain (held_key color) bag (place_of kind) (omega (arith, low, seven)))

captured-more : (color : Color) (bag : List ℕ) (captured : Option Piece) → length bag ≡ 7 → ((x : Piece) → captured ≡ Some x → is_hand_kind (unpromoted x.kind) ≡ true) → counts_key color (with_captured bag captured) ≡ counts_key color bag + captured_key color captured
captured-more color bag None seven held = omega arith
captured-more color bag (Some x) seven held =
    let more = more-key color bag (unpromoted x.kind) seven (held x refl) in
    let same : held_key color (place_of (unpromoted x.kind)) ≡ held_key color (place_of x.kind) = ap (held_key color) (unpromoted-place x.kind) in
    omega (arith, more, same)

less-key : (color : Color) (bag : List ℕ) (kind : Kind) → length bag ≡ 7 → is_hand_kind kind ≡ true → 0 < count_in bag kind → counts_key color (one_less bag kind) + held_key color (place_of kind) ≡ counts_key color bag
less-key color bag kind seven held some =
    let low = held-low kind held in
    let there : 0 < get_or bag (place_of kind) 0 = rw held at some in
    rw held (sum_from-lose (held_key color) bag (place_of kind) (omega (arith, low, seven)) there)

-- both hands where that side has another
abbrev hands_key : Material → ℕ
hands_key m = counts_key Black m.black + counts_key White m.white

hands-with : (m : Material) (color : Color) (board : Cells) (bag : List ℕ) → hands_key (record (with_bag m color bag) { board = board }) + counts_key color (bag_of m color) ≡ hands_key m + counts_key color bag
hands-with m Black board bag = omega arith
hands-with m White board bag = omega arith

abbrev pub place-in : Material → Color → Placed
place-in m side = record { material = m; side = side }

abbrev pub changed : Material → Color → Cells → List ℕ → Placed
changed m side board bag = place-in (record (with_bag m side bag) { board = board }) side

pub walked-key : (m : Material) (side : Color) (i j key a b : ℕ) (x captured : Option Piece) → key_of (place-in m side) ≡ key → length m.board ≡ 81 → length (bag_of m side) ≡ 7 → i < 81 → j < 81 → i ≢ j
    → get_or m.board j None ≡ captured → ((y : Piece) → captured ≡ Some y → is_hand_kind (unpromoted y.kind) ≡ true)
    → a ≡ cell_key i (get_or m.board i None) → b ≡ cell_key j captured → a < 2 ^ 64 → b < 2 ^ 64
    → key_of (changed m side (set (set m.board i None) j x) (with_captured (bag_of m side) captured))
    ≡ ((((key + cell_key j x) % 2 ^ 64 + captured_key side captured) % 2 ^ 64 + (2 ^ 64 - a)) % 2 ^ 64 + (2 ^ 64 - b)) % 2 ^ 64
walked-key m side i j key a b x captured is squares seven low high apart there held left gone small few =
    let board = set (set m.board i None) j x in
    let bag = with_captured (bag_of m side) captured in
    let cells = cells-walked m.board i j x (rw squares low) (rw squares high) apart in
    let same : cell_key j (get_or m.board j None) ≡ cell_key j captured = ap (cell_key j) there in
    let hands = hands-with m side board bag in
    let more = captured-more side (bag_of m side) captured seven held in
    let whole = cells_key m.board + hands_key m + side_key side in
    let one = grown key whole (whole + cell_key j x) (cell_key j x) is refl in
    let two = grown _ (whole + cell_key j x) (whole + cell_key j x + captured_key side captured) (captured_key side captured) one refl in
    let after = cells_key board + hands_key (record (with_bag m side bag) { board = board }) + side_key side in
    let three = shrunk _ (whole + cell_key j x + captured_key side captured) (after + b) a two (omega (arith, cells, same, hands, more, left, gone)) small in
    shrunk _ (after + b) after b three refl few

pub dropped-key : (m : Material) (side : Color) (j key a : ℕ) (x : Option Piece) (kind : Kind) → key_of (place-in m side) ≡ key → length m.board ≡ 81 → length (bag_of m side) ≡ 7 → j < 81
    → get_or m.board j None ≡ None → is_hand_kind kind ≡ true → 0 < count_in (bag_of m side) kind → a ≡ held_key side (place_of kind) → a < 2 ^ 64
    → key_of (changed m side (set m.board j x) (one_less (bag_of m side) kind)) ≡ ((key + cell_key j x) % 2 ^ 64 + (2 ^ 64 - a)) % 2 ^ 64
dropped-key m side j key a x kind is squares seven high empty held some left small =
    let board = set m.board j x in
    let bag = one_less (bag_of m side) kind in
    let cells = cells-put m.board j x (rw squares high) empty in
    let hands = hands-with m side board bag in
    let less = less-key side (bag_of m side) kind seven held some in
    let whole = cells_key m.board + hands_key m + side_key side in
    let one = grown key whole (whole + cell_key j x) (cell_key j x) is refl in
    let after = cells_key board + hands_key (record (with_bag m side bag) { board = board }) + side_key side in
    shrunk _ (whole + cell_key j x) after a one (omega (arith, cells, hands, less, left)) small

passed : (n key : ℕ) → (n + 0) % 2 ^ 64 ≡ key → (n + 2 ^ 63) % 2 ^ 64 ≡ (key + 2 ^ 63) % 2 ^ 64
passed n key is = omega (arith, is)

passed-back : (n key : ℕ) → (n + 2 ^ 63) % 2 ^ 64 ≡ key → (n + 0) % 2 ^ 64 ≡ (key + 2 ^ 63) % 2 ^ 64
passed-back n key is = omega (arith, is)

-- the turn passes
pub passed-key : (m : Material) (side : Color) (key : ℕ) → key_of (place-in m side) ≡ key → key_of (place-in m (opponent side)) ≡ (key + 2 ^ 63) % 2 ^ 64
passed-key m Black key is = passed _ key is
passed-key m White key is = passed-back _ key is
