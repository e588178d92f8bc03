-- How pieces of an SFEN are refused.
use Rattle.std.proofs.Common.{◌≡◌, ℕ, zero, suc, ◌+◌, ◌⊎◌, inl, inr, Bool, true, false, not, List, [], ◌∷◌, ◌++◌, Option, Some, None, Result, Ok, Err, replicate, unwrap_or, refl, sym, ap, ◌∙◌, subst}
use Rattle.std.specs.List.{AllByRecursion, flat_map}
use Rattle.shogi_board.specs.declared.color.Color.{Color}
use Rattle.shogi_board.specs.declared.kind.Piece.{Piece}
use Rattle.shogi_board.specs.declared.setup.SetupFault.{SetupFault}
use Rattle.shogi_board.specs.declared.setup.SetupFault.TheVariants.{TooMany, SecondKing, OpponentInCheck, AfterRest, NotForHand}
use Rattle.shogi_board.specs.Layout.{Layout}
use Rattle.shogi_board.specs.Pieces.{is_hand_kind}
use Rattle.shogi_board.specs.Placing.{unless}
use Rattle.shogi_board.specs.Setup.{empty_layout, first_fault, add_fault}
use Rattle.usi_text.specs.declared.fault.SfenFault.TheVariants.{Start}
use Rattle.usi_text.specs.Hands.{Pile, IsPile, SpellsHands, pile_pieces}
use Rattle.usi_text.specs.Setting.{Finishes}
use Rattle.usi_text.specs.Sfen.{FirstFault}
use Rattle.usi_text.specs.Words.{nth_word}
use Rattle.usi_text.proofs.Setups.{more_fault, put, put_cells, held, hold_pieces, hold_after, set_up_is, board_size}

abbrev IsStartFault : SetupFault → Type 0
IsStartFault f = (f ≡ SecondKing) ⊎ (f ≡ TooMany) ⊎ (f ≡ OpponentInCheck)

two_faults : (king full : Bool) (f : SetupFault) → first_fault ((SecondKing, king) ∷ (TooMany, full) ∷ []) ≡ Some f → IsStartFault f
two_faults true full f h = inl cc
two_faults false true f h = inr (inl cc)
two_faults false false f h = cc

-- a fault comes from this piece or a later one
stated_or_on : (here : Option SetupFault) (next : Result Layout SetupFault) (f : SetupFault) → unless here next ≡ Err f → (here ≡ Some f) ⊎ (next ≡ Err f)
stated_or_on None next f h = inr h
stated_or_on (Some g) next f h = inl (let e : g ≡ f = cc in ap Some e)

pub goes_on : (here : Option SetupFault) (next : Result Layout SetupFault) (t : Layout) → unless here next ≡ Ok t → next ≡ Ok t
goes_on None next t h = h
goes_on (Some g) next t h = cc

put_fault : (cells : List (Option Piece)) (s : Layout) (n : ℕ) (f : SetupFault) → put_cells s n cells ≡ Err f → IsStartFault f
put_fault [] s n f h = cc
put_fault (None ∷ cells) s n f h = put_fault cells s (n + 1) f h
put_fault (Some p ∷ cells) s n f h =
    elim (stated_or_on (more_fault s p) (put_cells (put s n p) (n + 1) cells) f h) [
      | inl stated ↦ two_faults _ _ f stated
      | inr on ↦ put_fault cells (put s n p) (n + 1) f on
    ]

put_free : (cells : List (Option Piece)) (s t : Layout) (n : ℕ) → s.rest_given ≡ false → put_cells s n cells ≡ Ok t → t.rest_given ≡ false
put_free [] s t n free h = let e : s ≡ t = cc in sym (ap (λ (l : Layout). l.rest_given) e) ∙ free
put_free (None ∷ cells) s t n free h = put_free cells s t (n + 1) free h
put_free (Some p ∷ cells) s t n free h = put_free cells (put s n p) t (n + 1) free (goes_on (more_fault s p) _ t h)

abbrev pub InHand : Piece → Type 0
InHand p = is_hand_kind p.kind ≡ true

full_alone : (given held full : Bool) (f : SetupFault) → given ≡ false → held ≡ true → first_fault ((AfterRest, given) ∷ (NotForHand, not held) ∷ (TooMany, full) ∷ []) ≡ Some f → IsStartFault f
full_alone given held true f free h stated = let e = rw (free, h) at stated in inr (inl cc)
full_alone given held false f free h stated = let e = rw (free, h) at stated in cc

hold_fault : (ps : List Piece) (s : Layout) (f : SetupFault) → s.rest_given ≡ false → AllByRecursion InHand ps → hold_pieces s ps ≡ Err f → IsStartFault f
hold_fault [] s f free all h = cc
hold_fault (p ∷ ps) s f free all h =
    elim (stated_or_on (add_fault s p.kind) (hold_pieces (held s p) ps) f h) [
      | inl stated ↦ full_alone _ _ _ f free all.0 stated
      | inr on ↦ hold_fault ps (held s p) f free all.1 on
    ]

pile_held : (n : ℕ) (p : Piece) (ps : List Piece) → InHand p → AllByRecursion InHand ps → AllByRecursion InHand (replicate n p ++ ps)
pile_held zero p ps h all = all
pile_held (suc n) p ps h all = (h, pile_held n p ps h all)

piles_held : (piles : List Pile) → AllByRecursion IsPile piles → AllByRecursion InHand (flat_map pile_pieces piles)
piles_held [] all = all
piles_held (pile ∷ piles) all = pile_held (unwrap_or pile.count 1) pile.piece (flat_map pile_pieces piles) all.0.1 (piles_held piles all.1)

pub hands_held : (text : List ℕ) (piles : List Pile) → SpellsHands text piles → AllByRecursion InHand (flat_map pile_pieces piles)
hands_held text [] h = tt
hands_held text (pile ∷ piles) h = piles_held (pile ∷ piles) h.0

after_fault : (r : Result Layout SetupFault) (ps : List Piece) (f : SetupFault) → ((g : SetupFault) → r ≡ Err g → IsStartFault g) → ((t : Layout) → r ≡ Ok t → t.rest_given ≡ false) → AllByRecursion InHand ps → hold_after r ps ≡ Err f → IsStartFault f
after_fault (Ok s) ps f first free all h = hold_fault ps s f (free s refl) all h
after_fault (Err g) ps f first free all h = first f h

finish_fault : (r : Result Layout SetupFault) (side : Color) (f : SetupFault) → ((g : SetupFault) → r ≡ Err g → IsStartFault g) → Finishes r side (Err f) → IsStartFault f
finish_fault (Err g) side f first h = first f (let e : g ≡ f = cc in ap Err e)
finish_fault (Ok s) side f first h = inr (inr h.1)

pub start_faults : (ws : List (List ℕ)) (f : SetupFault) → FirstFault ws (Start f) → IsStartFault f
start_faults ws f (cells, side, piles, shape, stands) =
    finish_fault (hold_after (put_cells empty_layout 0 cells) (flat_map pile_pieces piles)) side f
    (λ g. after_fault (put_cells empty_layout 0 cells) (flat_map pile_pieces piles) g
    (put_fault cells empty_layout 0)
    (λ t. put_free cells empty_layout t 0 refl)
    (hands_held (nth_word ws 2) piles shape.hands))
    (subst (λ r. Finishes r side (Err f)) (set_up_is cells piles (board_size (nth_word ws 0) cells shape.board)) stands)
