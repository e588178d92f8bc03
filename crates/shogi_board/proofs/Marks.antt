-- The landmarks of a side, and what they are after another cell is put on a square.
use Rattle.std.proofs.Common.{◌≡◌, ◌≢◌, ◌↔◌, IsTrue, Bool, true, false, cond, nat_lt, is_some, ℕ, suc, ◌+◌, ◌*◌, ◌-◌, ◌<◌, ◌≤◌, List, [], ◌∷◌, length, map, take, drop, Option, Some, None, set, get_or, arith, lit≤, refl, ap, sym, ◌∙◌, inl, inr, get_or-set_same, get_or-set_other, get_or-take, get_or-drop, length-set, length-take, length-drop}
use Rattle.std.specs.List.{list_any, position, position_or_len, range_with_len}
use Rattle.std.specs.Option.{option_map}
use Rattle.std.proofs.lemmas.Bool.{and_parts, cases_Bool, cases_eq, cases_lt, le-ltb, lt-ltb}
use Rattle.std.proofs.lemmas.Bool.Decides.{same_from_decides}
use Rattle.std.proofs.lemmas.List.{get_or_default}
use Rattle.std.proofs.lemmas.List.Folds.{Any-from_list_any, list_any_at}
use Rattle.std.proofs.lemmas.List.FromFn.{fill_by_all, get_or-map-range_with_len}
use Rattle.std.proofs.lemmas.List.Sums.{sum_by-set, sum_by-cons, get_or-le-sum_by, fails_before_first}
use Rattle.std.proofs.lemmas.List.Quantifiers.{position-Some}
use Rattle.shogi_board.specs.Cells.{Cells, HasPawnOnFile, at, piece}
use Rattle.shogi_board.specs.Landmarks.{HasLandmarks, HasReplaced, IsKingOf, has_pawn, square_at}
use Rattle.shogi_board.specs.Pieces.{is_king}
use Rattle.shogi_board.specs.Same.{same_cell}
use Rattle.shogi_board.specs.Squares.{file_of, place}
use Rattle.shogi_board.specs.Totals.{is_king_of, kings_of}
use Rattle.shogi_board.specs.declared.color.Color.{Color}
use Rattle.shogi_board.specs.declared.kind.Kind.{Kind}
use Rattle.shogi_board.specs.declared.kind.Kind.TheVariants.{King, Pawn}
use Rattle.shogi_board.specs.declared.kind.Piece.{Piece}
use Rattle.shogi_board.specs.declared.landmarks.Landmarks.{Landmarks}
use Rattle.shogi_board.specs.declared.square.Square.{Square}
use Rattle.shogi_board.proofs.Check.{one-king}
use Rattle.shogi_board.proofs.Pieces.{is_king_of-king}
use Rattle.shogi_board.proofs.Squares.{place-bound, place-same}
use Rattle.shogi_board.proofs.Tells.{cell-same, color-same, piece-same}

-- 1. The king's square
kind-is-king : (k : Kind) → is_king k ≡ true → k ≡ King
kind-is-king King h = refl
kind-is-king _ h = cc

king-is : (c : Color) (cell : Option Piece) → is_king_of c cell ≡ true → cell ≡ piece c King
king-is c None h = cc
king-is c (Some p) h =
    let parts = and_parts _ _ h in
    ap Some (piece-same p (record { color = c; kind = King }) ((color-same p.color c).0 parts.0) (kind-is-king p.kind parts.1))

placed : (n : ℕ) → n < 81 → place (square_at n) ≡ n
placed n low = omega arith

no-king : (c : Color) (cells : Cells) (n : ℕ) → n < 81 → (at cells (square_at n) ≡ piece c King → ⊥) → is_king_of c (get_or cells n None) ≡ false
no-king c cells n low none =
    elim (cases_Bool (is_king_of c (get_or cells n None))) [
      | inl on ↦ absurd (none (ap (λ k. get_or cells k None) (placed n low) ∙ king-is c _ on))
      | inr off ↦ off
    ]

king-found : (c : Color) (cells : Cells) → length cells ≡ 81 → IsKingOf cells c (option_map square_at (position (is_king_of c) cells))
king-found c cells whole =
    let n = position_or_len (is_king_of c) cells in
    elim (cases_lt n 81) [
      | inl low ↦
          let first : position (is_king_of c) cells ≡ Some n = rw (whole, lt-ltb n 81 low) refl in
          rw first (ap (λ k. get_or cells k None) (placed n low) ∙ king-is c _ (position-Some (is_king_of c) cells n None first).1)
      | inr high ↦
          let none : position (is_king_of c) cells ≡ None = rw (whole, le-ltb n 81 high) refl in
          rw none (λ s h.
          let low = place-bound s in
          let on = is_king_of-king c _ h in
          let off = fails_before_first (is_king_of c) cells (place s) None (omega (arith, low, high)) in
          cc)
    ]

kings-same : (c : Color) (cells : Cells) (o k : Option Square) → length cells ≡ 81 → kings_of cells c ≤ 1 → IsKingOf cells c o → IsKingOf cells c k → o ≡ k
kings-same c cells None None whole few h k = refl
kings-same c cells None (Some s) whole few h k = absurd (h s k)
kings-same c cells (Some s) None whole few h k = absurd (k s h)
kings-same c cells (Some s) (Some t) whole few h k = ap Some (one-king cells c t s whole few k h)

pub king-of : (c : Color) (cells : Cells) (marks : Landmarks) → HasLandmarks cells c marks → IsKingOf cells c marks.king
king-of c cells marks h = rw (← h.same) (king-found c cells h.squares)

-- 2. The files with pawns
abbrev on : Cells → ℕ → Cells
on cells f = take 9 (drop (9 * f) cells)

on-length : (cells : Cells) (f : ℕ) → length cells ≡ 81 → f < 9 → length (on cells f) ≡ 9
on-length cells f whole low = grind (arith, length-take, length-drop)

on-at : (cells : Cells) (f r : ℕ) (d : Option Piece) → r < 9 → get_or (on cells f) r d ≡ get_or cells (9 * f + r) d
on-at cells f r d low = get_or-take 9 (drop (9 * f) cells) r d low ∙ get_or-drop (9 * f) cells r d

pub pawn-on : (c : Color) (cells : Cells) (s : Square) → length cells ≡ 81 → IsTrue (has_pawn c cells (s.file - 1)) ↔ HasPawnOnFile cells c s
pawn-on c cells s whole =
    let d = s.on_board in
    let f = s.file - 1 in
    let p : Option Piece → Bool = λ x. same_cell x (piece c Pawn) in
    let nine = on-length cells f whole (omega (arith, d)) in (
      λ h.
          let a = Any-from_list_any p (on cells f) h in
          let low : a.0 < 9 = omega (arith, nine, a.2) in
          let t : Square = record { file = s.file; rank = a.0 + 1; on_board = (d.0, d.1, omega arith, omega (arith, low)) } in
          let there : place t ≡ 9 * f + a.0 = omega (arith, d) in
          let stands = sym (on-at cells f a.0 None low) ∙ (get_or_default (on cells f) a.0 None a.1 a.2 ∙ (a.3 ∙ (cell-same _ _).0 a.4)) in
          (t, refl, ap (λ k. get_or cells k None) there ∙ stands),
      λ (t, file, h).
          let e = t.on_board in
          let low : t.rank - 1 < 9 = omega (arith, e) in
          let there : 9 * f + (t.rank - 1) ≡ place t = omega (arith, d, e, file) in
          let stands = on-at cells f (t.rank - 1) None low ∙ (ap (λ k. get_or cells k None) there ∙ h) in
          list_any_at p (on cells f) (t.rank - 1) None (omega (arith, nine, low)) ((cell-same _ (piece c Pawn)).1 stands),
    )

pub pawns-of : (c : Color) (cells : Cells) (marks : Landmarks) → HasLandmarks cells c marks → (s : Square) → IsTrue (get_or marks.pawn_files (s.file - 1) false) ↔ HasPawnOnFile cells c s
pawns-of c cells marks h s =
    let d = s.on_board in
    rw (← h.same, get_or-map-range_with_len (has_pawn c cells) 0 9 (s.file - 1) (s.file - 1) false (omega (arith, d)) (omega arith)) (pawn-on c cells s h.squares)

files-same : (c : Color) (cells : Cells) (files : List Bool) → length cells ≡ 81 → length files ≡ 9 → ((s : Square) → IsTrue (get_or files (s.file - 1) false) ↔ HasPawnOnFile cells c s) → map (has_pawn c cells) (range_with_len 0 9) ≡ files
files-same c cells files whole nine pawns =
    sym (fill_by_all (has_pawn c cells) files 9 false nine (λ k low.
    let s : Square = record { file = k + 1; rank = 1; on_board = (omega arith, omega (arith, low), lit≤ tt, lit≤ tt) } in
    let e : s.file - 1 ≡ k = omega arith in
    rw e at (same_from_decides _ _ (pawns s) (pawn-on c cells s whole))))

pub has-landmarks : (c : Color) (cells : Cells) (marks : Landmarks) → length cells ≡ 81 → kings_of cells c ≤ 1 → IsKingOf cells c marks.king → map (has_pawn c cells) (range_with_len 0 9) ≡ marks.pawn_files → HasLandmarks cells c marks
has-landmarks c cells marks whole few king files = record {
  squares = whole;
  one_king = few;
  same = λ i. record {
    king = kings-same c cells _ marks.king whole few (king-found c cells whole) king i;
    pawn_files = files i;
  };
}

-- 3. Another cell on a square
abbrev Elsewhere : Square → Cells → Cells → Type 0
Elsewhere s before after = (t : Square) → place t ≢ place s → at before t ≡ at after t

pub back : (s : Square) (before after : Cells) → Elsewhere s before after → Elsewhere s after before
back s before after others = λ t differ. sym (others t differ)

carried : (before after : Cells) (s t : Square) (x : Option Piece) → Elsewhere s before after → (place t ≡ place s → at before s ≡ x → ⊥) → at before t ≡ x → at after t ≡ x
carried before after s t x others off h =
    elim (cases_eq (place t) (place s)) [
      | inl e ↦ absurd (off e (ap (λ k. get_or before k None) (sym e) ∙ h))
      | inr differ ↦ sym (others t differ) ∙ h
    ]

pub pawn-carried : (c : Color) (before after : Cells) (s t : Square) → Elsewhere s before after → (file_of t ≡ file_of s → at before s ≡ piece c Pawn → ⊥) → HasPawnOnFile before c t → HasPawnOnFile after c t
pawn-carried c before after s t others off (u, file, h) =
    let d = s.on_board in
    let e = u.on_board in
    (u, file, carried before after s u (piece c Pawn) others (λ same. off (omega (arith, d, e, file, same))) h)

pub king-goes : (c : Color) (before after : Cells) (s : Square) → length before ≡ 81 → kings_of before c ≤ 1 → Elsewhere s before after → at before s ≡ piece c King → (at after s ≡ piece c King → ⊥) → IsKingOf after c None
king-goes c before after s whole few others there off = λ t h.
    let e = one-king before c s t whole few there (carried after before s t (piece c King) (back s before after others) (λ _. off) h) in
    off (ap (at after) (sym e) ∙ h)

pub king-stays : (c : Color) (before after : Cells) (s : Square) (k : Option Square) → Elsewhere s before after → (at before s ≡ piece c King → ⊥) → (at after s ≡ piece c King → ⊥) → IsKingOf before c k → IsKingOf after c k
king-stays c before after s None others old new none = λ t h. none t (carried after before s t (piece c King) (back s before after others) (λ _. new) h)
king-stays c before after s (Some q) others old new h = carried before after s q (piece c King) others (λ _. old) h

pub replaced : (cells : Cells) (s : Square) (n : ℕ) (v was : Option Piece) → n ≡ place s → at cells s ≡ was → HasReplaced cells (set cells n v) s was
replaced cells s n v was e there = record { was = there; others = λ t differ. sym (get_or-set_other cells n (place t) v None (λ d. differ (d ∙ e))) }

pub marks-stay : (c : Color) (before : Cells) (s : Square) (n : ℕ) (v was : Option Piece) (marks : Landmarks) → n ≡ place s → at before s ≡ was → kings_of (set before n v) c ≤ 1 → (was ≡ piece c King → ⊥) × (was ≡ piece c Pawn → ⊥) → (v ≡ piece c King → ⊥) × (v ≡ piece c Pawn → ⊥) → HasLandmarks before c marks → HasLandmarks (set before n v) c marks
marks-stay c before s n v was marks e there few old new h =
    let r = replaced before s n v was e there in
    let after = set before n v in
    let low = place-bound s in
    let now : at after s ≡ v = rw e (get_or-set_same before (place s) v None (omega (arith, low, h.squares))) in
    let whole : length after ≡ 81 = rw length-set h.squares in
    has-landmarks c after marks whole few (king-stays c before after s marks.king r.others (λ k. old.0 (sym there ∙ k)) (λ k. new.0 (sym now ∙ k)) (king-of c before marks h))
    (files-same c after marks.pawn_files whole (rw (← h.same) refl) (λ t.
    let p = pawns-of c before marks h t in (
      λ yes. pawn-carried c before after s t r.others (λ _ k. old.1 (sym there ∙ k)) (p.0 yes),
      λ pawn. p.1 (pawn-carried c after before s t (back s before after r.others) (λ _ k. new.1 (sym now ∙ k)) pawn),
    )))

pub marks-kept : (c : Color) (before after : Cells) (s : Square) (cell : Option Piece) (marks : Landmarks) (k : Option Square) (b : Bool) → length after ≡ 81 → kings_of after c ≤ 1 → HasReplaced before after s cell → HasLandmarks before c marks → IsKingOf after c k → (IsTrue b ↔ HasPawnOnFile after c s) → HasLandmarks after c (record { king = k; pawn_files = set marks.pawn_files (s.file - 1) b })
marks-kept c before after s cell marks k b whole few r h king pawn =
    let d = s.on_board in
    let files = marks.pawn_files in
    let nine : length files ≡ 9 = rw (← h.same) refl in
    has-landmarks c after _ whole few king (files-same c after (set files (s.file - 1) b) whole (length-set files (s.file - 1) b ∙ nine) (λ t.
    elim (cases_eq t.file s.file) [
      | inl e ↦
          let here : get_or (set files (s.file - 1) b) (t.file - 1) false ≡ b = ap (λ (n : ℕ). get_or (set files (s.file - 1) b) (n - 1) false) e ∙ get_or-set_same files (s.file - 1) b false (omega (arith, d, nine)) in
          rw here (λ yes. let a = pawn.0 yes in (a.0, a.1 ∙ sym e, a.2), λ (u, f, q). pawn.1 (u, f ∙ e, q))
      | inr differ ↦
          let i = t.on_board in
          let other : get_or (set files (s.file - 1) b) (t.file - 1) false ≡ get_or files (t.file - 1) false = get_or-set_other files (s.file - 1) (t.file - 1) b false (λ e. differ (omega (arith, d, i, e))) in
          let p = pawns-of c before marks h t in
          rw other (λ yes. pawn-carried c before after s t r.others (λ e _. differ e) (p.0 yes), λ q. p.1 (pawn-carried c after before s t (back s before after r.others) (λ e _. differ e) q))
    ]))

pub cell-there : (cells : Cells) (s : Square) (n : ℕ) (x : Option Piece) → n ≡ place s → length cells ≡ 81 → get_or cells n x ≡ at cells s
cell-there cells s n x e whole = let low = place-bound s in rw e (get_or_default cells (place s) x None (omega (arith, low, whole)))

-- a square that is emptied adds no king
pub fewer-kings : (cells : Cells) (s : Square) → length cells ≡ 81 → ((c : Color) → kings_of cells c ≤ 1) → (c : Color) → kings_of (set cells (place s) None) c ≤ 1
fewer-kings cells s whole few c =
    let low = place-bound s in
    let step = sum_by-set (λ x. cond (is_king_of c x) 1 0) cells (place s) None None (omega (arith, low, whole)) in
    let most = few c in
    omega (arith, step, most)

-- 4. Counts
none-counted : (c : Color) (xs : Cells) → ((j : ℕ) → j < length xs → is_king_of c (get_or xs j None) ≡ false) → kings_of xs c ≡ 0
none-counted c [] none = refl
none-counted c (x ∷ xs) none =
    let first = sum_by-cons (λ y. cond (is_king_of c y) 1 0) x xs in
    let here : is_king_of c x ≡ false = none 0 (omega arith) in
    let zero : ℕ = 0 in
    let bit : cond (is_king_of c x) 1 0 ≡ zero = rw here refl in
    let rest = none-counted c xs (λ j h. none (suc j) (omega (arith, h))) in
    omega (arith, first, bit, rest)

-- kings are counted where the king's square is known
pub king-counted : (c : Color) (cells : Cells) (k : Option Square) → length cells ≡ 81 → kings_of cells c ≤ 1 → IsKingOf cells c k → is_some k ≡ nat_lt 0 (kings_of cells c)
king-counted c cells None whole few none = rw (none-counted c cells (λ n low. no-king c cells n (omega (arith, low, whole)) (none (square_at n)))) refl
king-counted c cells (Some s) whole few h =
    let low = place-bound s in
    let on = is_king_of-king c (at cells s) h in
    let least = get_or-le-sum_by (λ x. cond (is_king_of c x) 1 0) cells (place s) None (omega (arith, low, whole)) in
    let counts : 1 ≤ kings_of cells c = rw on at least in
    sym (lt-ltb 0 (kings_of cells c) (omega (arith, counts)))
