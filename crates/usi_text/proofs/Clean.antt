-- The bytes of what is written: no space within a word, no slash within a rank.
use Rattle.std.proofs.Common.{◌≡◌, ◌≢◌, ℕ, zero, suc, ◌+◌, ◌<◌, ◌≤◌, ◌==◌, if◌then◌else◌, Bool, true, false, cond, List, [], ◌∷◌, ◌++◌, Option, Some, None, length, arith, refl, sym, ap, ◌∙◌, subst, inl, inr, decimal, lit≤, replicate, append_assoc}
use Rattle.std.specs.List.{AllByRecursion, flat_map, filter, slice_split, onto_first}
use Rattle.std.proofs.lemmas.Bool.{cases_lt}
use Rattle.std.proofs.lemmas.Bool.Decides.{eqb_tells}
use Rattle.std.proofs.lemmas.List.{append-nil, replicate_more}
use Rattle.shogi_board.specs.declared.color.Color.{Color}
use Rattle.shogi_board.specs.declared.color.Color.TheVariants.{Black, White}
use Rattle.shogi_board.specs.declared.kind.Piece.{Piece}
use Rattle.shogi_board.specs.Pieces.{is_promoted}
use Rattle.usi_text.specs.Boards.{empty_squares, one_piece, SpellsCells, SpellsRanks, SpellsBoard, ranks_of}
use Rattle.usi_text.specs.Hands.{Pile, IsPile, IsCount, count_text, pile_text}
use Rattle.usi_text.specs.Letters.{piece_text, side_letter}
use Rattle.usi_text.specs.Sfen.{side_text}
use Rattle.usi_text.specs.SfenText.{cells_from, rank_text, ranks_text, board_text, hands_text}
use Rattle.usi_text.proofs.Runs.{text_after, after_is}
use Rattle.usi_text.specs.Words.{words, has_bytes}
use Rattle.usi_text.proofs.Ranks.{part_before}
use Rattle.usi_text.proofs.Spelt.{side_low, one_digit, two_digits}
use Rattle.usi_text.specs.Scanning.{run_text}

abbrev pub Lacks : ℕ → List ℕ → Type 0
Lacks c text = AllByRecursion (λ b. b ≢ c) text

-- split at a byte that the front does not contain
abbrev parts_at : ℕ → List ℕ → List (List ℕ)
parts_at c text = slice_split (λ b. b == c) text

byte_first : (c x : ℕ) (xs : List ℕ) → x ≢ c → parts_at c (x ∷ xs) ≡ onto_first x (parts_at c xs)
byte_first c x xs h =
    elim (eqb_tells x c) [
      | inl same ↦ absurd (h same.1)
      | inr other ↦ ap (λ b. cond b ([] ∷ parts_at c xs) (onto_first x (parts_at c xs))) other.0
    ]

mark_first : (c : ℕ) (xs : List ℕ) → parts_at c (c ∷ xs) ≡ [] ∷ parts_at c xs
mark_first c xs =
    elim (eqb_tells c c) [
      | inl same ↦ ap (λ b. cond b ([] ∷ parts_at c xs) (onto_first c (parts_at c xs))) same.0
      | inr other ↦ absurd (other.1 refl)
    ]

pub parts_front : (c : ℕ) (front rest : List ℕ) → Lacks c front → parts_at c (front ++ c ∷ rest) ≡ front ∷ parts_at c rest
parts_front c [] rest h = mark_first c rest
parts_front c (x ∷ xs) rest h =
    byte_first c x (xs ++ c ∷ rest) h.0 ∙ ap (onto_first x) (parts_front c xs rest h.1)

pub parts_alone : (c : ℕ) (text : List ℕ) → Lacks c text → parts_at c text ≡ text ∷ []
parts_alone c [] h = refl
parts_alone c (x ∷ xs) h = byte_first c x xs h.0 ∙ ap (onto_first x) (parts_alone c xs h.1)

kept : (w : List ℕ) (ws : List (List ℕ)) → 0 < length w → filter has_bytes (w ∷ ws) ≡ w ∷ filter has_bytes ws
kept [] ws h = absurd (omega arith)
kept (b ∷ bs) ws h = refl

pub words_front : (w rest : List ℕ) → Lacks 32 w → 0 < length w → words (w ++ 32 ∷ rest) ≡ w ∷ words rest
words_front w rest h some = ap (filter has_bytes) (parts_front 32 w rest h) ∙ kept w (parts_at 32 rest) some

pub words_alone : (w : List ℕ) → Lacks 32 w → 0 < length w → words w ≡ w ∷ []
words_alone w h some = ap (filter has_bytes) (parts_alone 32 w h) ∙ kept w [] some

-- bytes from ! (33) on
abbrev pub AreWord : List ℕ → Type 0
AreWord text = AllByRecursion (λ b. 33 ≤ b) text

-- and no slash is among them
abbrev IsRankByte : ℕ → Type 0
IsRankByte b = (33 ≤ b) × (b ≢ 47)

abbrev AreRank : List ℕ → Type 0
AreRank text = AllByRecursion IsRankByte text

pub no_space : (text : List ℕ) → AreWord text → Lacks 32 text
no_space [] h = tt
no_space (b ∷ bs) h = ((λ e. let low = h.0 in omega arith), no_space bs h.1)

no_slash : (text : List ℕ) → AreRank text → Lacks 47 text
no_slash [] h = tt
no_slash (b ∷ bs) h = (h.0.1, no_slash bs h.1)

as_word : (text : List ℕ) → AreRank text → AreWord text
as_word [] h = tt
as_word (b ∷ bs) h = (h.0.0, as_word bs h.1)

pub word_joined : (a b : List ℕ) → AreWord a → AreWord b → AreWord (a ++ b)
word_joined [] b h k = k
word_joined (x ∷ xs) b h k = (h.0, word_joined xs b h.1 k)

rank_joined : (a b : List ℕ) → AreRank a → AreRank b → AreRank (a ++ b)
rank_joined [] b h k = k
rank_joined (x ∷ xs) b h k = (h.0, rank_joined xs b h.1 k)

high_byte : (b : ℕ) → 48 ≤ b → IsRankByte b
high_byte b h = (omega arith, λ e. omega arith)

run_some : (n : ℕ) → run_text (suc n) ≡ (48 + suc n) ∷ []
run_some n =
    elim (eqb_tells (suc n) 0) [
      | inl same ↦ let e = same.1 in absurd (omega arith)
      | inr other ↦ ap (λ b. cond b [] ((48 + suc n) ∷ [])) other.0
    ]

run_bytes : (n : ℕ) → AreRank (run_text n)
run_bytes zero = tt
run_bytes (suc n) = rw (run_some n) (high_byte (48 + suc n) (omega arith), tt)

piece_stated : (b : Bool) (l : ℕ) → 65 ≤ l → AreRank (if b then 43 ∷ l ∷ [] else l ∷ [])
piece_stated true l h = ((lit≤ tt, λ e. omega arith), (high_byte l (omega arith), tt))
piece_stated false l h = (high_byte l (omega arith), tt)

piece_bytes : (p : Piece) → AreRank (piece_text p)
piece_bytes p = piece_stated (is_promoted p.kind) (side_letter p) (side_low p)

after_bytes : (n : ℕ) (cells : List (Option Piece)) → AreRank (text_after n cells)
after_bytes n [] = run_bytes n
after_bytes n (None ∷ cells) = after_bytes (n + 1) cells
after_bytes n (Some p ∷ cells) =
    rank_joined (run_text n) (piece_text p ++ text_after 0 cells) (run_bytes n) (rank_joined (piece_text p) (text_after 0 cells) (piece_bytes p) (after_bytes 0 cells))

rank_bytes : (board : List (Option Piece)) (r : ℕ) → AreRank (rank_text board r)
rank_bytes board r = subst AreRank (after_is 0 (cells_from board r 9)) (after_bytes 0 (cells_from board r 9))

ranks_bytes : (board : List (Option Piece)) (r n : ℕ) → AreWord (ranks_text board r n)
ranks_bytes board r zero = tt
ranks_bytes board r (suc n) =
    (lit≤ tt, word_joined (rank_text board r) (ranks_text board (r + 1) n) (as_word (rank_text board r) (rank_bytes board r)) (ranks_bytes board (r + 1) n))

pub board_bytes : (board : List (Option Piece)) → AreWord (board_text board)
board_bytes board =
    word_joined (rank_text board 1) (ranks_text board 2 8) (as_word (rank_text board 1) (rank_bytes board 1)) (ranks_bytes board 2 8)

-- the texts of so many ranks
abbrev pub ranks_list : List (Option Piece) → ℕ → ℕ → List (List ℕ)
ranks_list board r zero = []
ranks_list board r (suc n) = rank_text board r ∷ ranks_list board (r + 1) n

pub ranks_split : (board : List (Option Piece)) (r n : ℕ) (w : List ℕ) → Lacks 47 w → ranks_of (w ++ ranks_text board r n) ≡ w ∷ ranks_list board r n
ranks_split board r zero w h = ap ranks_of (append-nil w) ∙ parts_alone 47 w h
ranks_split board r (suc n) w h =
    parts_front 47 w (rank_text board r ++ ranks_text board (r + 1) n) h
    ∙ ap (λ t. w ∷ t) (ranks_split board (r + 1) n (rank_text board r) (no_slash (rank_text board r) (rank_bytes board r)))

pub board_split : (board : List (Option Piece)) → ranks_of (board_text board) ≡ ranks_list board 1 9
board_split board = ranks_split board 2 8 (rank_text board 1) (no_slash (rank_text board 1) (rank_bytes board 1))

pub ranks_count : (board : List (Option Piece)) (r n : ℕ) → length (ranks_list board r n) ≡ n
ranks_count board r zero = refl
ranks_count board r (suc n) = omega (arith, ranks_count board (r + 1) n)

abbrev Cells : Type 0
Cells = List (Option Piece)

abbrev nothing : Option Piece
nothing = None

spells_run : (n : ℕ) (rest : List ℕ) (more : Cells) → n ≤ 9 → SpellsCells rest more → SpellsCells (run_text n ++ rest) (replicate n nothing ++ more)
spells_run zero rest more h s = s
spells_run (suc n) rest more h s = rw (run_some n) (part_before (empty_squares (suc n)) rest more (omega arith, h) s)

none_moved : (n : ℕ) (cells : Cells) → replicate (n + 1) nothing ++ cells ≡ replicate n nothing ++ nothing ∷ cells
none_moved n cells = ap (λ c. c ++ cells) (sym (replicate_more n nothing)) ∙ append_assoc (replicate n nothing) (nothing ∷ []) cells

spells_after : (n : ℕ) (cells : Cells) → n + length cells ≤ 9 → SpellsCells (text_after n cells) (replicate n nothing ++ cells)
spells_after n [] h =
    subst (λ t. SpellsCells t (replicate n nothing ++ [])) (append-nil (run_text n)) (spells_run n [] [] (omega arith) ([], tt, refl, refl))
spells_after n (None ∷ cells) h =
    subst (λ c. SpellsCells (text_after (n + 1) cells) c) (none_moved n cells) (spells_after (n + 1) cells (omega arith))
spells_after n (Some p ∷ cells) h =
    spells_run n (piece_text p ++ text_after 0 cells) (Some p ∷ cells) (omega arith) (part_before (one_piece p) (text_after 0 cells) cells tt (spells_after 0 cells (omega arith)))

cells_count : (board : Cells) (r n : ℕ) → length (cells_from board r n) ≡ n
cells_count board r zero = refl
cells_count board r (suc n) = omega (arith, cells_count board r n)

-- the cells of so many ranks
abbrev pub board_cells : Cells → ℕ → ℕ → Cells
board_cells board r zero = []
board_cells board r (suc n) = cells_from board r 9 ++ board_cells board (r + 1) n

ranks_spelt : (board : Cells) (r n : ℕ) → SpellsRanks (ranks_list board r n) (board_cells board r n)
ranks_spelt board r zero = refl
ranks_spelt board r (suc n) = (
  cells_from board r 9,
  board_cells board (r + 1) n,
  refl,
  subst (λ t. SpellsCells t (cells_from board r 9)) (after_is 0 (cells_from board r 9)) (spells_after 0 (cells_from board r 9) (omega (arith, cells_count board r 9))),
  cells_count board r 9,
  ranks_spelt board (r + 1) n,
)

pub board_spelt : (board : Cells) → SpellsBoard (board_text board) (board_cells board 1 9)
board_spelt board =
    subst (λ t. (length t ≡ 9) × SpellsRanks t (board_cells board 1 9)) (sym (board_split board)) (ranks_count board 1 9, ranks_spelt board 1 9)

some_split : (text : List ℕ) → length (ranks_of text) ≡ 9 → 0 < length text
some_split [] h = absurd (omega arith)
some_split (x ∷ xs) h = omega arith

pub board_some : (board : Cells) → 0 < length (board_text board)
board_some board = some_split (board_text board) (board_spelt board).0

digits_word : (n : ℕ) → 1 ≤ n → n ≤ 99 → AreWord (decimal n)
digits_word n low high =
    elim (cases_lt n 10) [
      | inl small ↦ rw (one_digit n small) (omega arith, tt)
      | inr large ↦ rw (two_digits n large high) (omega arith, (omega arith, tt))
    ]

count_word : (count : Option ℕ) → IsCount count → AreWord (count_text count)
count_word None h = tt
count_word (Some n) h = digits_word n h.0 h.1

pile_word : (p : Pile) → IsPile p → AreWord (pile_text p)
pile_word p h = word_joined (count_text p.count) (side_letter p.piece ∷ []) (count_word p.count h.0) (let low = side_low p.piece in omega arith, tt)

piles_word : (ps : List Pile) → AllByRecursion IsPile ps → AreWord (flat_map pile_text ps)
piles_word [] h = tt
piles_word (p ∷ ps) h = word_joined (pile_text p) (flat_map pile_text ps) (pile_word p h.0) (piles_word ps h.1)

pub hands_word : (ps : List Pile) → AllByRecursion IsPile ps → AreWord (hands_text ps)
hands_word [] h = (lit≤ tt, tt)
hands_word (p ∷ ps) h = piles_word (p ∷ ps) h

pub side_word : (c : Color) → AreWord (side_text c)
side_word Black = (lit≤ tt, tt)
side_word White = (lit≤ tt, tt)
