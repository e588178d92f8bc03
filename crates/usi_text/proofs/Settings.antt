-- Setting up the pieces of a text, one after another.
use Rattle.std.proofs.Common.{◌≡◌, ℕ, suc, ◌+◌, ◌-◌, ◌<◌, List, [], ◌∷◌, ◌++◌, Option, Some, None, Ok, Err, length, get_or, set, drop, replicate, arith, refl, sym, ap, ◌∙◌}
use Rattle.std.specs.List.{flat_map}
use Rattle.std.proofs.lemmas.List.{drop_more}
use Rattle.shogi_board.specs.declared.kind.Piece.{Piece}
use Rattle.shogi_board.specs.declared.setup.SetupFault.{SetupFault}
use Rattle.shogi_board.specs.declared.square.Square.{Square}
use Rattle.shogi_board.specs.Layout.{Layout}
use Rattle.shogi_board.specs.Placing as placing
use Rattle.shogi_board.specs.Placing.{Placing, on, placing_fault, unless, place_all}
use Rattle.shogi_board.specs.Setup.{empty_layout, place_fault, with_piece, add_fault}
use Rattle.shogi_board.specs.Squares.{place}
use Rattle.usi_text.specs.Hands.{Pile, SpellsPiles, SpellsHands, IsPile, pile_text, pile_pieces}
use Rattle.usi_text.specs.Setting.{board_place, cell_placings}
use Rattle.usi_text.proofs.Piles.{pile_first, no_pile, dash_no_pile}
use Rattle.usi_text.proofs.Setups.{Cells, held, hold_pieces}

same_fault : (s : Layout) (square : Square) (n : ℕ) (p : Piece) → place square ≡ n → place_fault s p.color square p.kind ≡ placing_fault s (on n p)
same_fault s square n p here = ap (λ i. placing_fault s (on i p)) here

-- the first n cells are placed
pub record Putting (cells : Cells) (s : Layout) (n : ℕ) : Type 0 where
  pub whole : (others : List Placing) → place_all empty_layout (cell_placings 0 cells ++ others) ≡ place_all s (cell_placings n (drop n cells) ++ others)

pub putting_start : (cells : Cells) → Putting cells empty_layout 0
putting_start cells = record { whole = λ others. refl }

cut_here : (cells : Cells) (n : ℕ) (c : Option Piece) → n < length cells → get_or cells n None ≡ c → drop n cells ≡ c ∷ drop (n + 1) cells
cut_here cells n c low here = drop_more cells n None low ∙ ap (λ x. x ∷ drop (n + 1) cells) here

pub putting_none : (cells : Cells) (s : Layout) (n : ℕ) → Putting cells s n → n < length cells → get_or cells n None ≡ None → Putting cells s (n + 1)
putting_none cells s n p low here = record {
  whole = λ others. p.whole others ∙ ap (λ c. place_all s (cell_placings n c ++ others)) (cut_here cells n None low here);
}

pub putting_some : (cells : Cells) (s next : Layout) (n : ℕ) (x : Piece) (square : Square) → Putting cells s n → n < length cells → get_or cells n None ≡ Some x → place square ≡ board_place n → place_fault s x.color square x.kind ≡ None → next ≡ with_piece s x.color square x.kind → Putting cells next (n + 1)
putting_some cells s next n x square p low here there fits e =
    let free : placing_fault s (on (board_place n) x) ≡ None = sym (same_fault s square (board_place n) x there) ∙ fits in
    let same : next ≡ placing.placed s (on (board_place n) x) = e ∙ ap (λ i. record s { material = record s.material { board = set s.material.board i (Some x) } }) there in
    record {
      whole = λ others.
          let rest = cell_placings (n + 1) (drop (n + 1) cells) ++ others in
          p.whole others
          ∙ (ap (λ c. place_all s (cell_placings n c ++ others)) (cut_here cells n (Some x) low here)
          ∙ (ap (λ f. unless f (place_all (placing.placed s (on (board_place n) x)) rest)) free ∙ ap (λ t. place_all t rest) (sym same)));
    }

pub putting_fault : (cells : Cells) (s : Layout) (n : ℕ) (x : Piece) (square : Square) (fault : SetupFault) → Putting cells s n → n < length cells → get_or cells n None ≡ Some x → place square ≡ board_place n → place_fault s x.color square x.kind ≡ Some fault → (others : List Placing) → place_all empty_layout (cell_placings 0 cells ++ others) ≡ Err fault
putting_fault cells s n x square fault p low here there fails others =
    let found : placing_fault s (on (board_place n) x) ≡ Some fault = sym (same_fault s square (board_place n) x there) ∙ fails in
    let rest = cell_placings (n + 1) (drop (n + 1) cells) ++ others in
    p.whole others
    ∙ (ap (λ c. place_all s (cell_placings n c ++ others)) (cut_here cells n (Some x) low here)
    ∙ ap (λ f. unless f (place_all (placing.placed s (on (board_place n) x)) rest)) found)

-- some piles of a text are held
abbrev pub Holding : List ℕ → List ℕ → Layout → Layout → Type 0
Holding text rest old s =
    (piles : List Pile) → SpellsPiles text piles → (more : List Pile) × SpellsPiles rest more × (hold_pieces old (flat_map pile_pieces piles) ≡ hold_pieces s (flat_map pile_pieces more))

pub holding_more : (text rest following : List ℕ) (old s next : Layout) (p : Pile) → Holding text rest old s → IsPile p → rest ≡ pile_text p ++ following → ((others : List Piece) → hold_pieces s (pile_pieces p ++ others) ≡ hold_pieces next others) → Holding text following old next
holding_more text rest following old s next p holding h e step piles spelt =
    let q = holding piles spelt in
    let f = pile_first p following q.0 h (rw e at q.1) in
    (f.others, f.spelt, q.2 ∙ (ap (λ ps. hold_pieces s (flat_map pile_pieces ps)) f.whole ∙ step (flat_map pile_pieces f.others)))

pub holding_fault : (text rest following : List ℕ) (old s : Layout) (p : Pile) (fault : SetupFault) → Holding text rest old s → IsPile p → rest ≡ pile_text p ++ following → ((others : List Piece) → hold_pieces s (pile_pieces p ++ others) ≡ Err fault) → (piles : List Pile) → SpellsPiles text piles → hold_pieces old (flat_map pile_pieces piles) ≡ Err fault
holding_fault text rest following old s p fault holding h e step piles spelt =
    let q = holding piles spelt in
    let f = pile_first p following q.0 h (rw e at q.1) in
    q.2 ∙ (ap (λ ps. hold_pieces s (flat_map pile_pieces ps)) f.whole ∙ step (flat_map pile_pieces f.others))

pub holding_end : (text rest : List ℕ) (old s : Layout) → Holding text rest old s → ((p : Pile) (following : List ℕ) → IsPile p → rest ≡ pile_text p ++ following → ⊥) → (piles : List Pile) → SpellsPiles text piles → hold_pieces old (flat_map pile_pieces piles) ≡ Ok s
holding_end text rest old s holding none piles spelt =
    let q = holding piles spelt in
    let n = no_pile rest q.0 none q.1 in
    q.2 ∙ ap (λ ps. hold_pieces s (flat_map pile_pieces ps)) n.0

-- a text that is not a dash is piles
pub as_piles : (text : List ℕ) (piles : List Pile) → (text ≡ 45 ∷ [] → ⊥) → SpellsHands text piles → SpellsPiles text piles
as_piles text [] dash s = absurd (dash s)
as_piles text (p ∷ ps) dash s = s

-- a dash is not a pile
pub as_none : (text : List ℕ) (piles : List Pile) → text ≡ 45 ∷ [] → SpellsHands text piles → piles ≡ []
as_none text [] dash s = refl
as_none text (p ∷ ps) dash s = absurd (dash_no_pile p (flat_map pile_text ps) s.0.0.0 (sym dash ∙ s.1))

replicate_less : (n k : ℕ) (p : Piece) → k < n → replicate (n - k) p ≡ p ∷ replicate (n - (k + 1)) p
replicate_less n k p low = let e : n - k ≡ suc (n - (k + 1)) = omega arith in ap (λ m. replicate m p) e

pub held_more : (s next : Layout) (p : Piece) (n k : ℕ) (others : List Piece) → k < n → add_fault s p.kind ≡ None → next ≡ held s p → hold_pieces s (replicate (n - k) p ++ others) ≡ hold_pieces next (replicate (n - (k + 1)) p ++ others)
held_more s next p n k others low fits e =
    let rest = replicate (n - (k + 1)) p ++ others in
    ap (λ ps. hold_pieces s (ps ++ others)) (replicate_less n k p low) ∙ (ap (λ f. unless f (hold_pieces (held s p) rest)) fits ∙ ap (λ t. hold_pieces t rest) (sym e))

pub held_fault : (s : Layout) (p : Piece) (n k : ℕ) (others : List Piece) (fault : SetupFault) → k < n → add_fault s p.kind ≡ Some fault → hold_pieces s (replicate (n - k) p ++ others) ≡ Err fault
held_fault s p n k others fault low fails =
    let rest = replicate (n - (k + 1)) p ++ others in
    ap (λ ps. hold_pieces s (ps ++ others)) (replicate_less n k p low) ∙ ap (λ f. unless f (hold_pieces (held s p) rest)) fails
