-- The pieces of a sound position, placed on the board and in the hands one after another, are not
-- refused.
use Rattle.std.proofs.Common.{◌≡◌, ◌≢◌, ℕ, zero, suc, ◌+◌, ◌*◌, ◌-◌, ◌/◌, ◌%◌, ◌<◌, ◌≤◌, ◌==◌, ◌&&◌, nat_lt, nat_le, ◌⊎◌, inl, inr, Bool, true, false, cond, List, [], ◌∷◌, ◌++◌, Option, Some, None, Ok, length, length-append, length-set, get_or, set, replicate, arith, refl, sym, ap, ◌∙◌, subst, count_by, slice_index}
use Rattle.std.proofs.lemmas.Bool.{cases_eq, cases_lt, lt-leb}
use Rattle.std.proofs.lemmas.List.{get_or-set_other, get_or-set_same, set-set, set-get_or, ext_get_or, get_or_append_left, get_or-append_right}
use Rattle.std.proofs.lemmas.List.Sums.{sum_by-set}
use Rattle.std.proofs.lemmas.List.Recursion.{is_sum_by}
use Rattle.shogi_board.specs.declared.color.Color.{Color}
use Rattle.shogi_board.specs.declared.color.Color.TheVariants.{Black, White}
use Rattle.shogi_board.specs.declared.kind.Kind.{Kind}
use Rattle.shogi_board.specs.declared.kind.Kind.TheVariants.{Pawn, Lance, Knight, Silver, Gold, Bishop, Rook, King, ProPawn, ProLance, ProKnight, ProSilver, Horse, Dragon}
use Rattle.shogi_board.specs.declared.kind.Piece.{Piece}
use Rattle.shogi_board.specs.Layout.{Layout}
use Rattle.shogi_board.specs.Pieces.{place_of, is_king, is_hand_kind, same_color}
use Rattle.shogi_board.specs.Placing.{unless}
use Rattle.shogi_board.specs.Setup.{empty_layout, add_fault}
use Rattle.shogi_board.specs.Totals.{total, limit, count_in, is_of, is_king_of, kings_of, no_pieces, bare_board}
use Rattle.shogi_board.proofs.Forms.{same_color-self, eq-self, held-low}
use Rattle.shogi_rules.proofs.Layouts.{add-fits, put-total}
use Rattle.usi_text.specs.SfenText.{cell, cells_from}
use Rattle.usi_text.specs.Setting.{board_place}
use Rattle.usi_text.proofs.Setups.{more_fault, put, put_cells, held, hold_pieces, place_bound, places_apart, none_there}
use Rattle.usi_text.proofs.Clean.{board_cells}

abbrev Cells : Type 0
Cells = List (Option Piece)

abbrev nothing : Option Piece
nothing = None

-- each cell is empty or the same
abbrev pub Part : Cells → Cells → Type 0
Part xs ys = (i : ℕ) → i < length ys → (get_or xs i nothing ≡ nothing) ⊎ (get_or xs i nothing ≡ get_or ys i nothing)

cell_less : (f : Option Piece → Bool) (x y : Option Piece) → f None ≡ false → (x ≡ nothing) ⊎ (x ≡ y) → cond (f x) 1 0 ≤ cond (f y) 1 0
cell_less f x y none (inl e) = rw (e, none) (omega arith)
cell_less f x y none (inr e) = rw e (omega arith)

abbrev tally : (Option Piece → Bool) → Cells → ℕ
tally f [] = 0
tally f (x ∷ xs) = cond (f x) 1 0 + tally f xs

tally_less : (f : Option Piece → Bool) (xs ys : Cells) → f None ≡ false → length xs ≡ length ys → Part xs ys → tally f xs ≤ tally f ys
tally_less f [] [] none same part = omega arith
tally_less f [] (y ∷ ys) none same part = absurd (omega arith)
tally_less f (x ∷ xs) [] none same part = absurd (omega arith)
tally_less f (x ∷ xs) (y ∷ ys) none same part =
    let head = cell_less f x y none (part 0 (omega arith)) in
    let tail = tally_less f xs ys none (omega arith) (λ i h. part (suc i) (omega arith)) in
    omega (arith, head, tail)

tally_is : (f : Option Piece → Bool) (xs : Cells) → tally f xs ≡ count_by f xs
tally_is f xs = is_sum_by (tally f) (λ x. cond (f x) 1 0) refl (λ x ys. refl) xs

-- a part has no more of what is counted
pub part_less : (f : Option Piece → Bool) (xs ys : Cells) → f None ≡ false → length xs ≡ length ys → Part xs ys → count_by f xs ≤ count_by f ys
part_less f xs ys none same part =
    let h = tally_less f xs ys none same part in
    omega (arith, h, tally_is f xs, tally_is f ys)

-- the place in the text of the square with this index on the board
abbrev text_place : ℕ → ℕ
text_place i = (i % 9) * 9 + (8 - i / 9)

text_place-is : (i : ℕ) → i < 81 → board_place (text_place i) ≡ i
text_place-is i h =
    let m : text_place i % 9 ≡ 8 - i / 9 = omega arith in
    let d : text_place i / 9 ≡ i % 9 = omega arith in
    rw (m, d) (omega arith)

text_place-bound : (i : ℕ) → i < 81 → text_place i < 81
text_place-bound i h = omega arith

-- the first n squares of the text are as on the board, and the others are empty
pub record Filled (board : Cells) (s : Layout) (n : ℕ) : Type 0 where
  pub free : s.rest_given ≡ false
  pub black : s.material.black ≡ no_pieces
  pub white : s.material.white ≡ no_pieces
  pub size : length s.material.board ≡ 81
  pub done : (m : ℕ) → m < n → m < 81 → get_or s.material.board (board_place m) nothing ≡ get_or board (board_place m) nothing
  pub todo : (m : ℕ) → n ≤ m → m < 81 → get_or s.material.board (board_place m) nothing ≡ nothing

abbrev So : Cells → Cells → ℕ → Type 0
So xs ys i = (get_or xs i nothing ≡ nothing) ⊎ (get_or xs i nothing ≡ get_or ys i nothing)

so_far : (board : Cells) (s : Layout) (n m : ℕ) → Filled board s n → m < 81 → So s.material.board board (board_place m)
so_far board s n m f h =
    elim (cases_lt m n) [ inl low ↦ inr (f.done m low h) | inr high ↦ inl (f.todo m high h) ]

filled_part : (board : Cells) (s : Layout) (n : ℕ) → length board ≡ 81 → Filled board s n → Part s.material.board board
filled_part board s n size f = λ i h.
    let low : i < 81 = omega arith in
    subst (So s.material.board board) (text_place-is i low) (so_far board s n (text_place i) f (text_place-bound i low))

pub no_pieces_at : (k : Kind) → slice_index no_pieces (place_of k) ≡ 0
no_pieces_at Pawn = refl
no_pieces_at Lance = refl
no_pieces_at Knight = refl
no_pieces_at Silver = refl
no_pieces_at Gold = refl
no_pieces_at Bishop = refl
no_pieces_at Rook = refl
no_pieces_at King = refl
no_pieces_at ProPawn = refl
no_pieces_at ProLance = refl
no_pieces_at ProKnight = refl
no_pieces_at ProSilver = refl
no_pieces_at Horse = refl
no_pieces_at Dragon = refl

pub put-kings : (cells : Cells) (i : ℕ) (p : Piece) (c : Color) → i < length cells → get_or cells i nothing ≡ nothing → kings_of (set cells i (Some p)) c ≡ kings_of cells c + cond (same_color p.color c && is_king p.kind) 1 0
put-kings cells i p c low empty =
    let step = sum_by-set (λ x. cond (is_king_of c x) 1 0) cells i (Some p) None low in
    let e : kings_of (set cells i (Some p)) c + 0 ≡ kings_of cells c + cond (same_color p.color c && is_king p.kind) 1 0 = rw empty at step in
    omega (arith, e)

put_done : (board : Cells) (s : Layout) (n : ℕ) (p : Piece) (m : ℕ) → Filled board s n → n < 81 → get_or board (board_place n) nothing ≡ Some p → m < 81 → m < n + 1 → (m ≡ n) ⊎ (m ≢ n) → get_or (set s.material.board (board_place n) (Some p)) (board_place m) nothing ≡ get_or board (board_place m) nothing
put_done board s n p m f low here k h (inl e) =
    let at : board_place n < length s.material.board = let b = place_bound n low in let z = f.size in omega arith in
    ap (λ i. get_or (set s.material.board (board_place n) (Some p)) (board_place i) nothing) e
    ∙ (get_or-set_same s.material.board (board_place n) (Some p) nothing at ∙ (sym here ∙ ap (λ i. get_or board (board_place i) nothing) (sym e)))
put_done board s n p m f low here k h (inr differ) =
    let apart = places_apart m n k low (λ e. differ (sym e)) in
    get_or-set_other s.material.board (board_place n) (board_place m) (Some p) nothing apart ∙ f.done m (omega arith) k

king-test : (b : Bool) (n : ℕ) → (b ≡ true → n ≡ 0) → (b && nat_lt 0 n) ≡ false
king-test true n h = rw (h refl) refl
king-test false n h = refl

next_filled : (board : Cells) (s : Layout) (n : ℕ) (p : Piece) → Filled board s n → n < 81 → get_or board (board_place n) nothing ≡ Some p → Filled board (put s n p) (n + 1)
next_filled board s n p f low here = record {
  free = f.free;
  black = f.black;
  white = f.white;
  size = length-set s.material.board (board_place n) (Some p) ∙ f.size;
  done = λ m h k. put_done board s n p m f low here k h (cases_eq m n);
  todo = λ m h k.
      let apart = places_apart m n k low (omega arith) in
      get_or-set_other s.material.board (board_place n) (board_place m) (Some p) nothing apart ∙ f.todo m (omega arith) k;
}

more_fits : (board : Cells) (s : Layout) (n : ℕ) (p : Piece) → length board ≡ 81 → ((k : Kind) → count_by (is_of k) board ≤ limit k) → ((c : Color) → kings_of board c ≤ 1) → Filled board s n → n < 81 → get_or board (board_place n) nothing ≡ Some p → more_fault s p ≡ None
more_fits board s n p size totals kings f low here =
    let next = next_filled board s n p f low here in
    let part = filled_part board (put s n p) (n + 1) size next in
    let same : length (put s n p).material.board ≡ length board = next.size ∙ sym size in
    let at : board_place n < length s.material.board = let b = place_bound n low in let z = f.size in omega arith in
    let empty = f.todo n (omega arith) low in
    let less = part_less (is_of p.kind) (put s n p).material.board board refl same part in
    let fewer = part_less (is_king_of p.color) (put s n p).material.board board refl same part in
    let t = put-total (bare_board s.material.board) (board_place n) p.color p.kind p.kind at empty in
    let one : (place_of p.kind == place_of p.kind) ≡ true = eq-self _ _ refl in
    let t1 = rw one at t in
    let k = put-kings s.material.board (board_place n) p p.color at empty in
    let own : same_color p.color p.color ≡ true = same_color-self p.color in
    let k1 = rw own at k in
    let none = no_pieces_at p.kind in
    let room : total s.material p.kind < limit p.kind =
    rw (f.black, f.white) (omega (arith, totals p.kind, less, t1, none)) in
    let alone : (is_king p.kind && nat_lt 0 (kings_of s.material.board p.color)) ≡ false =
    king-test (is_king p.kind) (kings_of s.material.board p.color) (λ h. let k2 = rw h at k1 in omega (arith, kings p.color, fewer, k2)) in
    let full : nat_le (limit p.kind) (total s.material p.kind) ≡ false = lt-leb _ _ room in
    rw (alone, full) refl

pub start_filled : (board : Cells) → Filled board empty_layout 0
start_filled board = record {
  free = refl;
  black = refl;
  white = refl;
  size = refl;
  done = λ m h k. absurd (omega arith);
  todo = λ m h k. none_there 81 (board_place m);
}

none_filled : (board : Cells) (s : Layout) (n : ℕ) → Filled board s n → n < 81 → get_or board (board_place n) nothing ≡ nothing → Filled board s (n + 1)
none_filled board s n f low here = record {
  free = f.free;
  black = f.black;
  white = f.white;
  size = f.size;
  done = λ m h k.
      elim (cases_eq m n) [
        | inl e ↦ rw e (f.todo n (omega arith) low ∙ sym here)
        | inr differ ↦ f.done m (omega arith) k
      ];
  todo = λ m h k. f.todo m (omega arith) k;
}

next_place : (n k : ℕ) → n + suc k ≡ n + 1 + k
next_place n k = omega arith

-- what is put in the end
pub record Full (board : Cells) (s : Layout) (n : ℕ) (cells : Cells) : Type 0 where
  pub last : Layout
  pub put_all : put_cells s n cells ≡ Ok last
  pub filled : Filled board last 81

pub fill : (board : Cells) (cells : Cells) (s : Layout) (n : ℕ) → length board ≡ 81 → ((k : Kind) → count_by (is_of k) board ≤ limit k) → ((c : Color) → kings_of board c ≤ 1) → Filled board s n → n + length cells ≡ 81 → ((k : ℕ) → k < length cells → get_or cells k nothing ≡ get_or board (board_place (n + k)) nothing) → Full board s n cells
fill board [] s n size totals kings f whole same =
    let e : n ≡ 81 = omega arith in
    record { last = s; put_all = refl; filled = subst (λ m. Filled board s m) e f }
fill board (None ∷ cells) s n size totals kings f whole same =
    let zero_on : n + 0 ≡ n = omega arith in
    let here : get_or board (board_place n) nothing ≡ nothing = ap (λ m. get_or board (board_place m) nothing) (sym zero_on) ∙ sym (same 0 (omega arith)) in
    let r = fill board cells s (n + 1) size totals kings (none_filled board s n f (omega arith) here) (omega arith) (λ k h. same (suc k) (omega arith) ∙ ap (λ m. get_or board (board_place m) nothing) (next_place n k)) in
    record { last = r.last; put_all = r.put_all; filled = r.filled }
fill board (Some p ∷ cells) s n size totals kings f whole same =
    let zero_on : n + 0 ≡ n = omega arith in
    let here : get_or board (board_place n) nothing ≡ Some p = ap (λ m. get_or board (board_place m) nothing) (sym zero_on) ∙ sym (same 0 (omega arith)) in
    let low : n < 81 = omega arith in
    let fits = more_fits board s n p size totals kings f low here in
    let r = fill board cells (put s n p) (n + 1) size totals kings (next_filled board s n p f low here) (omega arith) (λ k h. same (suc k) (omega arith) ∙ ap (λ m. get_or board (board_place m) nothing) (next_place n k)) in
    record {
      last = r.last;
      put_all = ap (λ x. unless x (put_cells (put s n p) (n + 1) cells)) fits ∙ r.put_all;
      filled = r.filled;
    }

-- then every square is as on the board
pub filled_board : (board : Cells) (s : Layout) → length board ≡ 81 → Filled board s 81 → s.material.board ≡ board
filled_board board s size f =
    ext_get_or nothing s.material.board board (f.size ∙ sym size) (λ i h.
    let low : i < 81 = let z = f.size in omega arith in
    subst (λ j. get_or s.material.board j nothing ≡ get_or board j nothing) (text_place-is i low) (f.done (text_place i) (text_place-bound i low) (text_place-bound i low)))

cells_from-length : (board : Cells) (r n : ℕ) → length (cells_from board r n) ≡ n
cells_from-length board r zero = refl
cells_from-length board r (suc n) = omega (arith, cells_from-length board r n)

cells_from-at : (board : Cells) (r n k : ℕ) → k < n → get_or (cells_from board r n) k nothing ≡ cell board (n - k) r
cells_from-at board r zero k h = absurd (omega arith)
cells_from-at board r (suc n) zero h = let e : suc n ≡ suc n - 0 = omega arith in ap (λ f. cell board f r) e
cells_from-at board r (suc n) (suc k) h =
    let e : suc n - suc k ≡ n - k = omega arith in
    cells_from-at board r n k (omega arith) ∙ ap (λ f. cell board f r) (sym e)

pub board_cells-length : (board : Cells) (r n : ℕ) → length (board_cells board r n) ≡ n * 9
board_cells-length board r zero = refl
board_cells-length board r (suc n) =
    omega (arith, length-append (cells_from board r 9) (board_cells board (r + 1) n), cells_from-length board r 9, board_cells-length board (r + 1) n)

board_cells-at : (board : Cells) (r n k : ℕ) → k < n * 9 → get_or (board_cells board r n) k nothing ≡ cell board (9 - k % 9) (r + k / 9)
board_cells-at board r zero k h = absurd (omega arith)
board_cells-at board r (suc n) k h =
    elim (cases_lt k 9) [
      | inl low ↦
          let a : 9 - k ≡ 9 - k % 9 = omega arith in
          let b : r ≡ r + k / 9 = omega arith in
          let here : k < length (cells_from board r 9) = let l = cells_from-length board r 9 in omega arith in
          get_or_append_left (cells_from board r 9) (board_cells board (r + 1) n) nothing k here
          ∙ (cells_from-at board r 9 k low ∙ (ap (λ f. cell board f r) a ∙ ap (λ q. cell board (9 - k % 9) q) b))
      | inr high ↦
          let a : 9 - (k - 9) % 9 ≡ 9 - k % 9 = omega arith in
          let b : r + 1 + (k - 9) / 9 ≡ r + k / 9 = omega arith in
          get_or-append_right (cells_from board r 9) (board_cells board (r + 1) n) 9 k nothing (cells_from-length board r 9) high
          ∙ (board_cells-at board (r + 1) n (k - 9) (omega arith) ∙ (ap (λ f. cell board f (r + 1 + (k - 9) / 9)) a ∙ ap (λ q. cell board (9 - k % 9) q) b))
    ]

pub board_cells-place : (board : Cells) (k : ℕ) → k < 81 → get_or (board_cells board 1 9) k nothing ≡ get_or board (board_place k) nothing
board_cells-place board k h =
    let e : (9 - k % 9 - 1) * 9 + (1 + k / 9 - 1) ≡ board_place k = omega arith in
    board_cells-at board 1 9 k (omega arith) ∙ ap (λ i. get_or board i nothing) e

-- the pieces of a hand
abbrev lay : Cells → List ℕ → List ℕ → Layout
lay b black white = record { material = record { board = b; black = black; white = white }; rest_given = false }

abbrev made : Color → Kind → Piece
made c k = record { color = c; kind = k }

held_count : (bag : List ℕ) (k : Kind) (x : ℕ) → is_hand_kind k ≡ true → get_or bag (place_of k) 0 ≡ x → count_in bag k ≡ x
held_count bag k x h e = rw h e

-- so many of a kind in black's hand, one after another
pub hold_black : (b : Cells) (bag white : List ℕ) (k : Kind) (n x y : ℕ) (rest : List Piece) → is_hand_kind k ≡ true → length bag ≡ 7 → get_or bag (place_of k) 0 ≡ x → y ≡ x + n → count_by (is_of k) b + y + get_or white (place_of k) 0 ≤ limit k → hold_pieces (lay b bag white) (replicate n (made Black k) ++ rest) ≡ hold_pieces (lay b (set bag (place_of k) y) white) rest
hold_black b bag white k zero x y rest h size at e room =
    let same : y ≡ get_or bag (place_of k) 0 = omega (arith, e, at) in
    let t : bag ≡ set bag (place_of k) y = sym (ap (set bag (place_of k)) same ∙ set-get_or bag (place_of k) 0) in
    ap (λ l. hold_pieces (lay b l white) rest) t
hold_black b bag white k (suc n) x y rest h size at e room =
    let i = place_of k in
    let one = set bag i (x + 1) in
    let low : i < length bag = let z = held-low k h in omega arith in
    let fits : add_fault (lay b bag white) k ≡ None = add-fits (lay b bag white) k refl h (omega (arith, at, room, e)) in
    let counted : count_in bag k ≡ x = held_count bag k x h at in
    let next : held (lay b bag white) (made Black k) ≡ lay b one white = ap (λ c. lay b (set bag i (c + 1)) white) counted in
    let more = hold_black b one white k n (x + 1) y rest h (length-set bag i (x + 1) ∙ size) (get_or-set_same bag i (x + 1) 0 low) (omega (arith, e)) room in
    let whole = replicate n (made Black k) ++ rest in
    ap (λ f. unless f (hold_pieces (held (lay b bag white) (made Black k)) whole)) fits
    ∙ (ap (λ s. hold_pieces s whole) next ∙ (more ∙ ap (λ l. hold_pieces (lay b l white) rest) (set-set bag i (x + 1) y)))

pub hold_white : (b : Cells) (black bag : List ℕ) (k : Kind) (n x y : ℕ) (rest : List Piece) → is_hand_kind k ≡ true → length bag ≡ 7 → get_or bag (place_of k) 0 ≡ x → y ≡ x + n → count_by (is_of k) b + get_or black (place_of k) 0 + y ≤ limit k → hold_pieces (lay b black bag) (replicate n (made White k) ++ rest) ≡ hold_pieces (lay b black (set bag (place_of k) y)) rest
hold_white b black bag k zero x y rest h size at e room =
    let same : y ≡ get_or bag (place_of k) 0 = omega (arith, e, at) in
    let t : bag ≡ set bag (place_of k) y = sym (ap (set bag (place_of k)) same ∙ set-get_or bag (place_of k) 0) in
    ap (λ l. hold_pieces (lay b black l) rest) t
hold_white b black bag k (suc n) x y rest h size at e room =
    let i = place_of k in
    let one = set bag i (x + 1) in
    let low : i < length bag = let z = held-low k h in omega arith in
    let fits : add_fault (lay b black bag) k ≡ None = add-fits (lay b black bag) k refl h (omega (arith, at, room, e)) in
    let counted : count_in bag k ≡ x = held_count bag k x h at in
    let next : held (lay b black bag) (made White k) ≡ lay b black one = ap (λ c. lay b black (set bag i (c + 1))) counted in
    let more = hold_white b black one k n (x + 1) y rest h (length-set bag i (x + 1) ∙ size) (get_or-set_same bag i (x + 1) 0 low) (omega (arith, e)) room in
    let whole = replicate n (made White k) ++ rest in
    ap (λ f. unless f (hold_pieces (held (lay b black bag) (made White k)) whole)) fits
    ∙ (ap (λ s. hold_pieces s whole) next ∙ (more ∙ ap (λ l. hold_pieces (lay b black l) rest) (set-set bag i (x + 1) y)))
