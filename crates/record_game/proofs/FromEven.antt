-- `PI` with the missing pieces gives a start from the even board.
use Rattle.std.proofs.Common.{◌≡◌, ℕ, zero, suc, ◌+◌, ◌<◌, ◌≤◌, true, List, [], ◌∷◌, ◌++◌, length, filter, map, get_or, Option, Some, None, refl, sym, ap, ◌∙◌, arith}
use Rattle.std.specs.Prelude.{replicate}
use Rattle.std.specs.List.{AllByRecursion, filter_map, flat_map}
use Rattle.std.specs.Option.{option_to_list}
use Rattle.std.proofs.lemmas.Bool.{ne_eqb}
use Rattle.std.proofs.lemmas.List.{append-nil}
use Rattle.shogi_board.specs.declared.color.Color.{Color}
use Rattle.shogi_board.specs.declared.color.Color.TheVariants.{Black, White}
use Rattle.shogi_board.specs.declared.kind.Kind.{Kind}
use Rattle.shogi_board.specs.declared.kind.Piece.{Piece}
use Rattle.shogi_board.specs.Cells.{Cells, even_cells}
use Rattle.shogi_board.specs.Placed.{Placed}
use Rattle.shogi_board.specs.Squares.{place}
use Rattle.shogi_board.specs.Setup.{layout_of}
use Rattle.shogi_board.specs.Totals.{hand_kinds}
use Rattle.shogi_board.proofs.Forms.{eq-self}
use Rattle.csa_text.specs.PairTexts.{AllOnBoard}
use Rattle.csa_text.specs.Saying.{even}
use Rattle.shogi_board.specs.Placing.{Placing, on, off, in_hand, rest}
use Rattle.record_game.specs.Placings.{taken_off, placings}
use Rattle.record_game.specs.Union.{off_at, put_on, is_held, rest_given, MayBeHeld, RestIsLast, MayTakeOff, left_on, bag_given, IsUnion, GiveStart}
use Rattle.record_game.specs.Canon.{stands_in, is_part_of, missing}
use Rattle.record_game.specs.Squares.{square_at}
use Rattle.record_game.proofs.ItemLines.{even_line}
use Rattle.record_game.proofs.Lined.{IsItemLine}
use Rattle.record_game.proofs.Pieces.{and_left, and_right, same_pieces, kind_itself}

-- what is taken off, from this place on
abbrev offs : ℕ → Cells → Cells → List Placing
offs m cs ds = flat_map taken_off (missing m cs ds)

missing_on_board : (m : ℕ) (cs ds : Cells) → AllOnBoard (missing m cs ds)
missing_on_board m [] ds = tt
missing_on_board m (c ∷ cs) [] = tt
missing_on_board m (None ∷ cs) (d ∷ ds) = missing_on_board (m + 1) cs ds
missing_on_board m (Some p ∷ cs) (None ∷ ds) = (tt, missing_on_board (m + 1) cs ds)
missing_on_board m (Some p ∷ cs) (Some q ∷ ds) = missing_on_board (m + 1) cs ds

missing_few : (m : ℕ) (cs ds : Cells) → length (missing m cs ds) ≤ length cs
missing_few m [] ds = omega arith
missing_few m (c ∷ cs) [] = omega arith
missing_few m (None ∷ cs) (d ∷ ds) = omega (arith, missing_few (m + 1) cs ds)
missing_few m (Some p ∷ cs) (None ∷ ds) = omega (arith, missing_few (m + 1) cs ds)
missing_few m (Some p ∷ cs) (Some q ∷ ds) = omega (arith, missing_few (m + 1) cs ds)

-- a list of placings that only take pieces off
abbrev OnlyOff : Placing → Type 0
OnlyOff (on m p) = ⊥
OnlyOff (off m k) = Unit {0}
OnlyOff (in_hand c k) = ⊥
OnlyOff (rest c) = ⊥

only_off : (m : ℕ) (cs ds : Cells) → AllByRecursion OnlyOff (offs m cs ds)
only_off m [] ds = tt
only_off m (c ∷ cs) [] = tt
only_off m (None ∷ cs) (d ∷ ds) = only_off (m + 1) cs ds
only_off m (Some p ∷ cs) (None ∷ ds) = (tt, only_off (m + 1) cs ds)
only_off m (Some p ∷ cs) (Some q ∷ ds) = only_off (m + 1) cs ds

none_put : (n : ℕ) (ps : List Placing) → AllByRecursion OnlyOff ps → filter_map (put_on n) ps ≡ []
none_put n [] h = refl
none_put n (on m p ∷ ps) h = absurd h.0
none_put n (off m k ∷ ps) h = none_put n ps h.1
none_put n (in_hand c k ∷ ps) h = absurd h.0
none_put n (rest c ∷ ps) h = absurd h.0

none_held : (c : Color) (k : Kind) (ps : List Placing) → AllByRecursion OnlyOff ps → filter (is_held c k) ps ≡ []
none_held c k [] h = refl
none_held c k (on m p ∷ ps) h = absurd h.0
none_held c k (off m l ∷ ps) h = none_held c k ps h.1
none_held c k (in_hand d l ∷ ps) h = absurd h.0
none_held c k (rest d ∷ ps) h = absurd h.0

none_given : (ps : List Placing) → AllByRecursion OnlyOff ps → filter_map rest_given ps ≡ []
none_given [] h = refl
none_given (on m p ∷ ps) h = absurd h.0
none_given (off m k ∷ ps) h = none_given ps h.1
none_given (in_hand c k ∷ ps) h = absurd h.0
none_given (rest c ∷ ps) h = absurd h.0

may_be_held : (ps : List Placing) → AllByRecursion OnlyOff ps → AllByRecursion MayBeHeld ps
may_be_held [] h = tt
may_be_held (on m p ∷ ps) h = absurd h.0
may_be_held (off m k ∷ ps) h = (tt, may_be_held ps h.1)
may_be_held (in_hand c k ∷ ps) h = absurd h.0
may_be_held (rest c ∷ ps) h = absurd h.0

rest_last : (ps : List Placing) → AllByRecursion OnlyOff ps → RestIsLast ps
rest_last [] h = tt
rest_last (on m p ∷ ps) h = absurd h.0
rest_last (off m k ∷ ps) h = rest_last ps h.1
rest_last (in_hand c k ∷ ps) h = absurd h.0
rest_last (rest c ∷ ps) h = absurd h.0

counted : (c : Color) (ps : List Placing) (ks : List Kind) → AllByRecursion OnlyOff ps → map (λ k. length (filter (is_held c k) ps)) ks ≡ replicate (length ks) 0
counted c ps [] h = refl
counted c ps (k ∷ ks) h = rw (none_held c k ps h) (ap (λ ns. 0 ∷ ns) (counted c ps ks h))

bag_of_none : (c : Color) (ps : List Placing) → AllByRecursion OnlyOff ps → bag_given c ps ≡ 0 ∷ 0 ∷ 0 ∷ 0 ∷ 0 ∷ 0 ∷ 0 ∷ []
bag_of_none c ps h = counted c ps hand_kinds h

-- the kind that is taken off a square
gone : Option Piece → Option Piece → List Kind
gone None d = []
gone (Some p) None = p.kind ∷ []
gone (Some p) (Some q) = []

place_is : (m : ℕ) → m < 81 → place (square_at m) ≡ m
place_is m h = omega (arith, h)

off_other : (n m : ℕ) (k : Kind) (ps : List Placing) → (m ≡ n → ⊥) → filter_map (off_at n) (off m k ∷ ps) ≡ filter_map (off_at n) ps
off_other n m k ps h = rw (ne_eqb m n h) refl

off_same : (n m : ℕ) (k : Kind) (ps : List Placing) → m ≡ n → filter_map (off_at n) (off m k ∷ ps) ≡ k ∷ filter_map (off_at n) ps
off_same n m k ps h = rw (eq-self m n h) refl

before : (n m : ℕ) (cs ds : Cells) → n < m → m + length cs ≤ 81 → filter_map (off_at n) (offs m cs ds) ≡ []
before n m [] ds h few = refl
before n m (c ∷ cs) [] h few = refl
before n m (None ∷ cs) (d ∷ ds) h few = before n (m + 1) cs ds (omega (arith, h)) (omega (arith, few))
before n m (Some p ∷ cs) (None ∷ ds) h few =
    let is = place_is m (omega (arith, few)) in
    off_other n (place (square_at m)) p.kind (offs (m + 1) cs ds) (λ e. omega (arith, is, e, h))
    ∙ before n (m + 1) cs ds (omega (arith, h)) (omega (arith, few))
before n m (Some p ∷ cs) (Some q ∷ ds) h few = before n (m + 1) cs ds (omega (arith, h)) (omega (arith, few))

taken_here : (n i m : ℕ) (cs ds : Cells) → n ≡ m + i → m + length cs ≤ 81 → length cs ≡ length ds → filter_map (off_at n) (offs m cs ds) ≡ gone (get_or cs i None) (get_or ds i None)
unfolding gone
taken_here n i m [] ds e few same = refl
taken_here n i m (c ∷ cs) [] e few same = absurd (omega (arith, same))
taken_here n zero m (None ∷ cs) (d ∷ ds) e few same = before n (m + 1) cs ds (omega (arith, e)) (omega (arith, few))
taken_here n zero m (Some p ∷ cs) (None ∷ ds) e few same =
    let is = place_is m (omega (arith, few)) in
    off_same n (place (square_at m)) p.kind (offs (m + 1) cs ds) (omega (arith, is, e))
    ∙ ap (λ ks. p.kind ∷ ks) (before n (m + 1) cs ds (omega (arith, e)) (omega (arith, few)))
taken_here n zero m (Some p ∷ cs) (Some q ∷ ds) e few same = before n (m + 1) cs ds (omega (arith, e)) (omega (arith, few))
taken_here n (suc i) m (None ∷ cs) (d ∷ ds) e few same = taken_here n i (m + 1) cs ds (omega (arith, e)) (omega (arith, few)) (omega (arith, same))
taken_here n (suc i) m (Some p ∷ cs) (None ∷ ds) e few same =
    let is = place_is m (omega (arith, few)) in
    off_other n (place (square_at m)) p.kind (offs (m + 1) cs ds) (λ f. omega (arith, is, e, f))
    ∙ taken_here n i (m + 1) cs ds (omega (arith, e)) (omega (arith, few)) (omega (arith, same))
taken_here n (suc i) m (Some p ∷ cs) (Some q ∷ ds) e few same = taken_here n i (m + 1) cs ds (omega (arith, e)) (omega (arith, few)) (omega (arith, same))

part_at : (cs ds : Cells) (i : ℕ) → is_part_of cs ds ≡ true → stands_in (get_or cs i None) (get_or ds i None) ≡ true
part_at [] ds i h = refl
part_at (c ∷ cs) [] i h = cc
part_at (c ∷ cs) (d ∷ ds) zero h = and_left _ _ h
part_at (c ∷ cs) (d ∷ ds) (suc i) h = part_at cs ds i (and_right _ _ h)

left_is : (e b : Option Piece) → stands_in b e ≡ true → left_on e (gone e b) ++ [] ≡ option_to_list b
unfolding gone
left_is None None h = refl
left_is None (Some p) h = cc
left_is (Some q) None h = refl
left_is (Some q) (Some p) h = ap (λ (x : Piece). x ∷ []) (sym (same_pieces p q h))

may_take : (e b : Option Piece) → MayTakeOff e (gone e b)
unfolding gone
may_take None b = tt
may_take (Some q) None = kind_itself q.kind
may_take (Some q) (Some p) = tt

even_union : (p : Placed) → length p.material.board ≡ 81 → is_part_of p.material.board even_cells ≡ true → p.material.black ≡ 0 ∷ 0 ∷ 0 ∷ 0 ∷ 0 ∷ 0 ∷ 0 ∷ [] → p.material.white ≡ 0 ∷ 0 ∷ 0 ∷ 0 ∷ 0 ∷ 0 ∷ 0 ∷ [] → IsUnion even_cells (offs 0 even_cells p.material.board) (layout_of p)
even_union p squares part black white =
    let only = only_off 0 even_cells p.material.board in
    let same : length even_cells ≡ length p.material.board = sym squares in
    let here : (n : ℕ) → filter_map (off_at n) (offs 0 even_cells p.material.board) ≡ gone (get_or even_cells n None) (get_or p.material.board n None)
    = λ n. taken_here n n 0 even_cells p.material.board (omega arith) (omega arith) same in
    record {
      squares = squares;
      cells = λ n less.
          rw (here n, none_put n (offs 0 even_cells p.material.board) only)
          (left_is (get_or even_cells n None) (get_or p.material.board n None) (part_at p.material.board even_cells n part));
      taken = λ n. rw (here n) (may_take (get_or even_cells n None) (get_or p.material.board n None));
      held = may_be_held (offs 0 even_cells p.material.board) only;
      black = black ∙ sym (bag_of_none Black (offs 0 even_cells p.material.board) only);
      white = white ∙ sym (bag_of_none White (offs 0 even_cells p.material.board) only);
      no_rest = refl;
      rest_last = rest_last (offs 0 even_cells p.material.board) only;
    }

pub even_gives : (p : Placed) → length p.material.board ≡ 81 → is_part_of p.material.board even_cells ≡ true → p.material.black ≡ 0 ∷ 0 ∷ 0 ∷ 0 ∷ 0 ∷ 0 ∷ 0 ∷ [] → p.material.white ≡ 0 ∷ 0 ∷ 0 ∷ 0 ∷ 0 ∷ 0 ∷ 0 ∷ [] → GiveStart (even (missing 0 even_cells p.material.board) ∷ []) p
even_gives p squares part black white =
    let whole : placings (even (missing 0 even_cells p.material.board) ∷ []) ≡ offs 0 even_cells p.material.board = append-nil (offs 0 even_cells p.material.board) in
    record {
      layout = layout_of p;
      union = rw whole (even_union p squares part black white);
      start_is = rw (whole, none_given (offs 0 even_cells p.material.board) (only_off 0 even_cells p.material.board)) refl;
    }

pub even_item : (p : Placed) → IsItemLine (even (missing 0 even_cells p.material.board))
even_item p =
    let few : length (missing 0 even_cells p.material.board) ≤ 81 = missing_few 0 even_cells p.material.board in
    even_line (missing 0 even_cells p.material.board) (missing_on_board 0 even_cells p.material.board) (omega (arith, few))
