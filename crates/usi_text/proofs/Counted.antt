-- How many pieces the hands of an SFEN hold.
use Rattle.std.proofs.Common.{◌≡◌, ℕ, zero, suc, ◌+◌, ◌<◌, ◌==◌, ◌&&◌, Bool, true, false, cond, inl, inr, List, [], ◌∷◌, ◌++◌, Option, Some, None, Result, Ok, Err, length, get_or, replicate, unwrap_or, arith, refl, sym, ap, ◌∙◌}
use Rattle.std.specs.List.{AllByRecursion, flat_map}
use Rattle.std.proofs.lemmas.Bool.Decides.{eqb_tells}
use Rattle.std.proofs.lemmas.Grind.{get_or-set_at}
use Rattle.std.proofs.lemmas.List.{get_or-set_other, length-set}
use Rattle.shogi_board.specs.declared.color.Color.{Color}
use Rattle.shogi_board.specs.declared.color.Color.TheVariants.{Black, White}
use Rattle.shogi_board.specs.declared.kind.Kind.{Kind}
use Rattle.shogi_board.specs.declared.kind.Kind.TheVariants.{Pawn, Lance, Knight, Silver, Gold, Bishop, Rook, King, ProPawn, ProLance, ProKnight, ProSilver, Horse, Dragon}
use Rattle.shogi_board.specs.declared.kind.Piece.{Piece}
use Rattle.shogi_board.specs.declared.setup.SetupFault.{SetupFault}
use Rattle.shogi_board.specs.Layout.{Layout}
use Rattle.shogi_board.specs.Material.{bag_of}
use Rattle.shogi_board.specs.Pieces.{is_hand_kind, place_of, same_color}
use Rattle.shogi_board.specs.Placed.{Placed}
use Rattle.shogi_board.specs.Setup.{empty_layout, add_fault, one_more, added, position_of}
use Rattle.shogi_board.specs.Totals.{count_in, no_pieces}
use Rattle.usi_text.specs.Contents.{HasPiles}
use Rattle.usi_text.specs.Hands.{Pile, SpellsHands, pile_pieces, pile_total}
use Rattle.usi_text.specs.Setting.{set_up, Finishes}
use Rattle.usi_text.proofs.Setups.{more_fault, put, put_cells, held, hold_pieces, hold_after, set_up_is, board_size}
use Rattle.usi_text.specs.Sfen.{Sfen}
use Rattle.usi_text.specs.Words.{nth_word}
use Rattle.usi_text.proofs.SfenOnce.{hands_once}
use Rattle.usi_text.proofs.StartFaults.{goes_on, hands_held, InHand}

abbrev pub is_one : Color → Kind → Piece → Bool
is_one color kind p = same_color p.color color && (place_of p.kind == place_of kind)

abbrev pub pieces_total : Color → Kind → List Piece → ℕ
pieces_total color wanted [] = 0
pieces_total color wanted (p ∷ ps) = cond (is_one color wanted p) 1 0 + pieces_total color wanted ps

held_place : (k : Kind) → is_hand_kind k ≡ true → place_of k < 7
held_place Pawn h = omega arith
held_place Lance h = omega arith
held_place Knight h = omega arith
held_place Silver h = omega arith
held_place Gold h = omega arith
held_place Bishop h = omega arith
held_place Rook h = omega arith
held_place King h = cc
held_place ProPawn h = cc
held_place ProLance h = cc
held_place ProKnight h = cc
held_place ProSilver h = cc
held_place Horse h = cc
held_place Dragon h = cc

pub count_there : (bag : List ℕ) (k : Kind) → is_hand_kind k ≡ true → count_in bag k ≡ get_or bag (place_of k) 0
count_there bag k h = ap (λ b. cond b (get_or bag (place_of k) 0) 0) h

one_counted : (bag : List ℕ) (k kind : Kind) → length bag ≡ 7 → is_hand_kind k ≡ true → is_hand_kind kind ≡ true → count_in (one_more bag k) kind ≡ count_in bag kind + cond (place_of k == place_of kind) 1 0
one_counted bag k kind size h j =
    let low = held_place k h in
    let more = one_more bag k in
    elim (eqb_tells (place_of k) (place_of kind)) [
      | inl same ↦
          let here = get_or-set_at bag (place_of k) (place_of kind) (count_in bag k + 1) 0 (sym same.1) (omega arith) in
          let old = count_there bag k h ∙ (ap (λ i. get_or bag i 0) same.1 ∙ sym (count_there bag kind j)) in
          count_there more kind j ∙ (here ∙ (ap (λ n. n + 1) old ∙ ap (λ b. count_in bag kind + cond b 1 0) (sym same.0)))
      | inr other ↦
          let there = get_or-set_other bag (place_of k) (place_of kind) (count_in bag k + 1) 0 (λ e. other.1 (sym e)) in
          let old : count_in bag kind ≡ count_in bag kind + 0 = omega arith in
          count_there more kind j ∙ (there ∙ (sym (count_there bag kind j) ∙ (old ∙ ap (λ b. count_in bag kind + cond b 1 0) (sym other.0))))
    ]

pub nothing_more : (n : ℕ) → n ≡ n + 0
nothing_more n = omega arith

held_counted : (s : Layout) (c color : Color) (k kind : Kind) → length (bag_of s.material c) ≡ 7 → is_hand_kind k ≡ true → is_hand_kind kind ≡ true → count_in (bag_of (added s c k).material color) kind ≡ count_in (bag_of s.material color) kind + cond (same_color c color && (place_of k == place_of kind)) 1 0
held_counted s Black Black k kind size h j = one_counted s.material.black k kind size h j
held_counted s Black White k kind size h j = nothing_more (count_in s.material.white kind)
held_counted s White Black k kind size h j = nothing_more (count_in s.material.black kind)
held_counted s White White k kind size h j = one_counted s.material.white k kind size h j

pub held_size : (s : Layout) (c color : Color) (k : Kind) → length (bag_of s.material color) ≡ 7 → length (bag_of (added s c k).material color) ≡ 7
held_size s Black Black k h = length-set s.material.black (place_of k) (count_in s.material.black k + 1) ∙ h
held_size s Black White k h = h
held_size s White Black k h = h
held_size s White White k h = length-set s.material.white (place_of k) (count_in s.material.white k + 1) ∙ h

adds : (a b c d e : ℕ) → a ≡ b + c → b ≡ d + e → a ≡ d + (e + c)
adds a b c d e h j = omega (arith, h, j)

pub pieces_counted : (ps : List Piece) (s t : Layout) (color : Color) (kind : Kind) → ((c : Color) → length (bag_of s.material c) ≡ 7) → AllByRecursion InHand ps → is_hand_kind kind ≡ true → hold_pieces s ps ≡ Ok t → count_in (bag_of t.material color) kind ≡ count_in (bag_of s.material color) kind + pieces_total color kind ps
pieces_counted [] s t color kind size all j h =
    let e : t ≡ s = cc in
    ap (λ (l : Layout). count_in (bag_of l.material color) kind) e ∙ nothing_more (count_in (bag_of s.material color) kind)
pieces_counted (p ∷ ps) s t color kind size all j h =
    let on = goes_on (add_fault s p.kind) _ t h in
    adds _ _ _ _ _
    (pieces_counted ps (held s p) t color kind (λ c. held_size s p.color c p.kind (size c)) all.1 j on)
    (held_counted s p.color color p.kind kind (size p.color) all.0 j)

one_by_one : (b : Bool) (n x : ℕ) → cond b 1 0 + (cond b n 0 + x) ≡ cond b (suc n) 0 + x
one_by_one true n x = omega arith
one_by_one false n x = omega arith

none_at_all : (b : Bool) (x : ℕ) → x ≡ cond b 0 0 + x
none_at_all true x = omega arith
none_at_all false x = omega arith

pile_counted : (n : ℕ) (p : Piece) (ps : List Piece) (color : Color) (kind : Kind) → pieces_total color kind (replicate n p ++ ps) ≡ cond (is_one color kind p) n 0 + pieces_total color kind ps
pile_counted zero p ps color kind = none_at_all (is_one color kind p) (pieces_total color kind ps)
pile_counted (suc n) p ps color kind =
    ap (λ x. cond (is_one color kind p) 1 0 + x) (pile_counted n p ps color kind) ∙ one_by_one (is_one color kind p) n (pieces_total color kind ps)

pub piles_counted : (piles : List Pile) (color : Color) (kind : Kind) → pieces_total color kind (flat_map pile_pieces piles) ≡ pile_total color kind piles
piles_counted [] color wanted = refl
piles_counted (pile ∷ piles) color wanted =
    let n = unwrap_or pile.count 1 in
    pile_counted n pile.piece (flat_map pile_pieces piles) color wanted ∙ ap (λ x. cond (is_one color wanted pile.piece) n 0 + x) (piles_counted piles color wanted)

put_hands : (cells : List (Option Piece)) (s t : Layout) (n : ℕ) (color : Color) → put_cells s n cells ≡ Ok t → bag_of t.material color ≡ bag_of s.material color
put_hands [] s t n color h = let e : t ≡ s = cc in ap (λ (l : Layout). bag_of l.material color) e
put_hands (None ∷ cells) s t n color h = put_hands cells s t (n + 1) color h
put_hands (Some p ∷ cells) s t n Black h = put_hands cells (put s n p) t (n + 1) Black (goes_on (more_fault s p) _ t h)
put_hands (Some p ∷ cells) s t n White h = put_hands cells (put s n p) t (n + 1) White (goes_on (more_fault s p) _ t h)

bare_size : (s : Layout) → ((c : Color) → bag_of s.material c ≡ bag_of empty_layout.material c) → (c : Color) → length (bag_of s.material c) ≡ 7
bare_size s h Black = ap length (h Black)
bare_size s h White = ap length (h White)

pub none_held : (k : Kind) → count_in no_pieces k ≡ 0
none_held Pawn = refl
none_held Lance = refl
none_held Knight = refl
none_held Silver = refl
none_held Gold = refl
none_held Bishop = refl
none_held Rook = refl
none_held King = refl
none_held ProPawn = refl
none_held ProLance = refl
none_held ProKnight = refl
none_held ProSilver = refl
none_held Horse = refl
none_held Dragon = refl

bare_count : (c : Color) (k : Kind) → count_in (bag_of empty_layout.material c) k ≡ 0
bare_count Black k = none_held k
bare_count White k = none_held k

finished : (r : Result Layout SetupFault) (side : Color) (p : Placed) → Finishes r side (Ok p) → (t : Layout) × (r ≡ Ok t) × (p ≡ position_of t side)
finished (Ok t) side p h = (t, refl, h.1)
finished (Err f) side p h = cc

held_following : (r : Result Layout SetupFault) (ps : List Piece) (t : Layout) → hold_after r ps ≡ Ok t → (s : Layout) × (r ≡ Ok s) × (hold_pieces s ps ≡ Ok t)
held_following (Ok s) ps t h = (s, refl, h)
held_following (Err f) ps t h = cc

from_none : (a b c : ℕ) → a ≡ b + c → b ≡ 0 → a ≡ c
from_none a b c h j = omega (arith, h, j)

-- what the pieces are added to holds none
all_counted : (cells : List (Option Piece)) (piles : List Pile) (t : Layout) (text : List ℕ) (color : Color) (kind : Kind) → length cells ≡ 81 → SpellsHands text piles → is_hand_kind kind ≡ true → set_up cells piles ≡ Ok t → count_in (bag_of t.material color) kind ≡ pile_total color kind piles
all_counted cells piles t text color kind size spelt j h =
    let ps = flat_map pile_pieces piles in
    let g = held_following (put_cells empty_layout 0 cells) ps t (sym (set_up_is cells piles size) ∙ h) in
    let bare = λ (c : Color). put_hands cells empty_layout g.0 0 c g.1 in
    let count = pieces_counted ps g.0 t color kind (bare_size g.0 bare) (hands_held text piles spelt) j g.2 in
    from_none _ _ _ count (ap (λ b. count_in b kind) (bare color) ∙ bare_count color kind) ∙ piles_counted piles color kind

pub hands_counted : (ws : List (List ℕ)) (p : Placed) (piles : List Pile) → Sfen ws p → SpellsHands (nth_word ws 2) piles → HasPiles p piles
hands_counted ws p piles s h color kind j =
    let f = finished (set_up s.cells s.piles) p.side p s.stands in
    ap (λ (q : Placed). count_in (bag_of q.material color) kind) f.2
    ∙ (all_counted s.cells s.piles f.0 (nth_word ws 2) color kind (board_size (nth_word ws 0) s.cells s.shape.board) s.shape.hands j f.1 ∙ ap (λ ps. pile_total color kind ps) (hands_once (nth_word ws 2) s.piles piles s.shape.hands h))
