-- What position statements place, one after another.
use Rattle.std.proofs.Common.{◌≡◌, ℕ, ◌+◌, ◌-◌, ◌*◌, ◌<◌, ◌≤◌, List, [], ◌∷◌, ◌++◌, length, drop, map, get_or, Option, Some, None, Ok, Err, refl, sym, ap, ◌∙◌, arith}
use Rattle.std.specs.List.{flat_map, slice_get}
use Rattle.std.proofs.lemmas.List.{drop_more, drop_all}
use Rattle.std.proofs.lemmas.Option.{slice_get_within, get_or_from_slice_get, slice_get-get_or}
use Rattle.shogi_board.specs.declared.kind.Piece.{Piece}
use Rattle.shogi_board.specs.declared.setup.SetupFault.{SetupFault}
use Rattle.shogi_board.specs.declared.square.Square.{Square}
use Rattle.shogi_board.specs.Layout.{Layout}
use Rattle.shogi_board.specs.Setup as setup
use Rattle.shogi_board.specs.Squares.{place}
use Rattle.csa_text.specs.declared.pair.Pair.{Pair}
use Rattle.csa_text.specs.declared.pair.Pair.TheVariants.{Rest}
use Rattle.shogi_board.specs.Placing.{Placing, on, placing_fault, placed, unless, place_all}
use Rattle.record_game.specs.Placings.{cells_placings}

step_on : (o : Option SetupFault) (s t : Layout) (ps qs : List Placing) → unless o (place_all s ps) ≡ Ok t → (place_all s ps ≡ Ok t → place_all s (ps ++ qs) ≡ place_all t qs) → unless o (place_all s (ps ++ qs)) ≡ place_all t qs
step_on None s t ps qs h k = k h
step_on (Some f) s t ps qs h k = cc

-- what follows is placed on what is placed
pub placed_on : (s t : Layout) (ps qs : List Placing) → place_all s ps ≡ Ok t → place_all s (ps ++ qs) ≡ place_all t qs
placed_on s t [] qs h = let same : s ≡ t = cc in ap (λ r. place_all r qs) same
placed_on s t (p ∷ ps) qs h = step_on (placing_fault s p) (placed s p) t ps qs h (placed_on (placed s p) t ps qs)

step_fault : (o : Option SetupFault) (s : Layout) (f : SetupFault) (ps qs : List Placing) → unless o (place_all s ps) ≡ Err f → (place_all s ps ≡ Err f → place_all s (ps ++ qs) ≡ Err f) → unless o (place_all s (ps ++ qs)) ≡ Err f
step_fault None s f ps qs h k = k h
step_fault (Some g) s f ps qs h k = h

-- the first fault stays, whatever follows
pub placed_fault : (s : Layout) (f : SetupFault) (ps qs : List Placing) → place_all s ps ≡ Err f → place_all s (ps ++ qs) ≡ Err f
placed_fault s f [] qs h = cc
placed_fault s f (p ∷ ps) qs h = step_fault (placing_fault s p) (placed s p) f ps qs h (placed_fault (placed s p) f ps qs)

-- the pairs from this place on are still to be placed
abbrev pub Left : (Pair → List Placing) → List Pair → Layout → Layout → ℕ → Type 0
Left f ps start now i = place_all start (flat_map f ps) ≡ place_all now (flat_map f (drop i ps))

cut : (ps : List Pair) (i : ℕ) (pair : Pair) → Some pair ≡ slice_get ps i → drop i ps ≡ pair ∷ drop (i + 1) ps
cut ps i pair e =
    drop_more ps i pair (slice_get_within ps i pair (sym e))
    ∙ ap (λ x. x ∷ drop (i + 1) ps) (get_or_from_slice_get ps i pair pair (sym e))

pub left_more : (f : Pair → List Placing) (ps : List Pair) (start now next : Layout) (i : ℕ) (pair : Pair) → Left f ps start now i → Some pair ≡ slice_get ps i → place_all now (f pair) ≡ Ok next → Left f ps start next (i + 1)
left_more f ps start now next i pair left e h =
    left ∙ (ap (λ xs. place_all now (flat_map f xs)) (cut ps i pair e) ∙ placed_on now next (f pair) (flat_map f (drop (i + 1) ps)) h)

pub left_fault : (f : Pair → List Placing) (ps : List Pair) (start now : Layout) (i : ℕ) (pair : Pair) (fault : SetupFault) → Left f ps start now i → Some pair ≡ slice_get ps i → place_all now (f pair) ≡ Err fault → place_all start (flat_map f ps) ≡ Err fault
left_fault f ps start now i pair fault left e h =
    left ∙ (ap (λ xs. place_all now (flat_map f xs)) (cut ps i pair e) ∙ placed_fault now fault (f pair) (flat_map f (drop (i + 1) ps)) h)

pub never_past : (ps : List Pair) (i : ℕ) → i < length ps → None ≡ slice_get ps i → ⊥
never_past ps i low e = let here = slice_get-get_or ps i Rest low in cc

-- one placing for each pair
pub singles : (g : Pair → Placing) (ps : List Pair) → flat_map (λ p. g p ∷ []) ps ≡ map g ps
singles g [] = refl
singles g (p ∷ ps) = ap (λ qs. g p ∷ qs) (singles g ps)

-- the cells of a rank from this one on are still to be placed
abbrev pub CellsLeft : ℕ → List (Option Piece) → Layout → Layout → ℕ → Type 0
CellsLeft number cells start now i =
    place_all start (cells_placings 9 number cells) ≡ place_all now (cells_placings (9 - i) number (drop i cells))

cut_cell : (cells : List (Option Piece)) (i : ℕ) (c : Option Piece) → i < length cells → get_or cells i None ≡ c → drop i cells ≡ c ∷ drop (i + 1) cells
cut_cell cells i c low here = drop_more cells i None low ∙ ap (λ x. x ∷ drop (i + 1) cells) here

less_file : (i : ℕ) → (9 - i) - 1 ≡ 9 - (i + 1)
less_file i = omega arith

pub cells_none : (number : ℕ) (cells : List (Option Piece)) (start now : Layout) (i : ℕ) → CellsLeft number cells start now i → i < length cells → get_or cells i None ≡ None → CellsLeft number cells start now (i + 1)
cells_none number cells start now i left low here =
    left ∙ (ap (λ cs. place_all now (cells_placings (9 - i) number cs)) (cut_cell cells i None low here)
    ∙ ap (λ file. place_all now (cells_placings file number (drop (i + 1) cells))) (less_file i))

-- a piece of a rank, if its square has this place
at_square : (number : ℕ) (cells : List (Option Piece)) (now : Layout) (i : ℕ) (x : Piece) (square : Square) → i < length cells → get_or cells i None ≡ Some x → place square ≡ (9 - i - 1) * 9 + (number - 1) → place_all now (cells_placings (9 - i) number (drop i cells)) ≡ place_all now (on (place square) x ∷ cells_placings (9 - (i + 1)) number (drop (i + 1) cells))
at_square number cells now i x square low here e =
    ap (λ cs. place_all now (cells_placings (9 - i) number cs)) (cut_cell cells i (Some x) low here)
    ∙ (ap (λ n. place_all now (on n x ∷ cells_placings (9 - i - 1) number (drop (i + 1) cells))) (sym e)
    ∙ ap (λ file. place_all now (on (place square) x ∷ cells_placings file number (drop (i + 1) cells))) (less_file i))

pub cells_some : (number : ℕ) (cells : List (Option Piece)) (start now next : Layout) (i : ℕ) (x : Piece) (square : Square) → CellsLeft number cells start now i → i < length cells → get_or cells i None ≡ Some x → place square ≡ (9 - i - 1) * 9 + (number - 1) → setup.place_fault now x.color square x.kind ≡ None → next ≡ setup.with_piece now x.color square x.kind → CellsLeft number cells start next (i + 1)
cells_some number cells start now next i x square left low here e fits is =
    let rest = cells_placings (9 - (i + 1)) number (drop (i + 1) cells) in
    left ∙ (at_square number cells now i x square low here e
    ∙ (ap (λ o. unless o (place_all (placed now (on (place square) x)) rest)) fits ∙ ap (λ s. place_all s rest) (sym is)))

pub cells_end : (number : ℕ) (cells : List (Option Piece)) (start now : Layout) (i : ℕ) → CellsLeft number cells start now i → length cells ≤ i → place_all start (cells_placings 9 number cells) ≡ Ok now
cells_end number cells start now i left past = left ∙ ap (λ cs. place_all now (cells_placings (9 - i) number cs)) (drop_all i cells past)
