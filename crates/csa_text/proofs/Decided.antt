-- Whether bytes spell one of the grammar's parts is decided.
use Rattle.std.proofs.Common.{◌≡◌, ◌≢◌, ℕ, zero, suc, ◌+◌, ◌-◌, ◌*◌, ◌^◌, ◌<◌, arith, List, [], ◌∷◌, ◌++◌, length, Option, Some, None, refl, sym, ap, ◌∙◌, subst, inl, inr, ◌⊎◌}
use Rattle.std.specs.Prelude.{codes}
use Rattle.std.specs.List.{flat_map}
use Rattle.std.specs.Char.{digit_value}
use Rattle.std.specs.Str.Parse.{AllDigits, digits_value}
use Rattle.std.proofs.lemmas.Bool.{cases_lt}
use Rattle.std.proofs.lemmas.Bool.Decides.{eqb_tells}
use Rattle.shogi_board.specs.declared.color.Color.{Color}
use Rattle.shogi_board.specs.declared.color.Color.TheVariants.{Black, White}
use Rattle.shogi_board.specs.declared.kind.Kind.{Kind}
use Rattle.shogi_board.specs.declared.kind.Piece.{Piece}
use Rattle.shogi_board.specs.declared.square.Square.{Square}
use Rattle.shogi_board.specs.Squares.{file_of, rank_of}
use Rattle.shogi_board.specs.declared.moves.Move.{Move}
use Rattle.shogi_board.specs.declared.moves.Move.TheVariants.{Walk, Put}
use Rattle.csa_text.specs.declared.pair.Pair.{Pair}
use Rattle.csa_text.specs.declared.pair.Pair.TheVariants.{On, InHand, Rest}
use Rattle.csa_text.specs.Codes.{sign, kind_code, cell_text, squares_text}
use Rattle.csa_text.specs.CodesOnce.{kind_length}
use Rattle.csa_text.proofs.Codings.{kind_or_not}
use Rattle.csa_text.specs.Fields.{IsSplit, HasNone}
use Rattle.csa_text.specs.PairTexts.{pair_text, pairs_text, IsOnBoard, AllOnBoard}
use Rattle.csa_text.specs.PairsOnce.{same_split, pair_length}
use Rattle.csa_text.specs.TimeTexts.{IsSeconds, IsFraction, IsTime}
use Rattle.csa_text.proofs.CellTexts.{cell_length, cells_length}
use Rattle.csa_text.proofs.Rows.{not_on_board}
use Rattle.csa_text.proofs.Texts.{head_same, tail_same}
use Rattle.std.proofs.lemmas.List.{length-append}
use Rattle.csa_text.proofs.TimesRead.{no_whole, no_front, no_fraction}

abbrev pub Decided : Type 0 → Type 0
Decided A = A ⊎ (A → ⊥)

pub same_or_not : (a b : List ℕ) → Decided (a ≡ b)
same_or_not [] [] = inl refl
same_or_not [] (y ∷ ys) = inr (λ e. cc)
same_or_not (x ∷ xs) [] = inr (λ e. cc)
same_or_not (x ∷ xs) (y ∷ ys) =
    elim (eqb_tells x y) [
      | inl heads ↦
          elim (same_or_not xs ys) [
            | inl tails ↦ inl (ap (λ z. z ∷ xs) heads.1 ∙ ap (λ zs. y ∷ zs) tails)
            | inr other ↦ inr (λ e. let tails : xs ≡ ys = cc in other tails)
          ]
      | inr heads ↦ inr (λ e. let head : x ≡ y = cc in heads.1 head)
    ]

-- one byte, and what follows it
pub following : (a : ℕ) (P : List ℕ → Type 0) → ((rest : List ℕ) → Decided (P rest)) → (bytes : List ℕ) → Decided ((rest : List ℕ) × (bytes ≡ a ∷ rest) × P rest)
following a P decide [] = inr (λ h. let e = h.1 in cc)
following a P decide (b ∷ bs) =
    elim (eqb_tells b a) [
      | inr other ↦ inr (λ h. other.1 (head_same b a bs h.0 h.1))
      | inl same ↦ elim (decide bs) [
        | inl yes_so ↦ inl (bs, ap (λ n. n ∷ bs) same.1, yes_so)
        | inr never ↦ inr (λ h. never (subst P (sym (tail_same b a bs h.0 h.1)) h.2))
      ]
    ]

no_sign : (b : ℕ) (color : Color) → b ≢ 43 → b ≢ 45 → b ≡ sign color → ⊥
no_sign b Black plus minus e = plus e
no_sign b White plus minus e = minus e

sign_or_not : (b : ℕ) → Decided ((color : Color) × (b ≡ sign color))
sign_or_not b =
    elim (eqb_tells b 43) [
      | inl plus ↦ inl (Black, plus.1)
      | inr other ↦ elim (eqb_tells b 45) [
        | inl minus ↦ inl (White, minus.1)
        | inr neither ↦ inr (λ h. no_sign b h.0 other.1 neither.1 h.1)
      ]
    ]

-- a sign, and what follows it
pub after_sign : (P : List ℕ → Type 0) → ((rest : List ℕ) → Decided (P rest)) → (bytes : List ℕ) → Decided ((color : Color) × (rest : List ℕ) × (bytes ≡ sign color ∷ rest) × P rest)
after_sign P decide [] = inr (λ h. let e = h.2 in cc)
after_sign P decide (b ∷ bs) =
    elim (sign_or_not b) [
      | inr other ↦ inr (λ h. other (h.0, head_same b (sign h.0) bs h.1 h.2))
      | inl same ↦ elim (decide bs) [
        | inl yes_so ↦ inl (same.0, bs, ap (λ n. n ∷ bs) same.1, yes_so)
        | inr never ↦ inr (λ h. never (subst P (sym (tail_same b (sign h.0) bs h.1 h.2)) h.3))
      ]
    ]

-- a text that contains a byte, with what comes before and after its first occurrence
pub split_or_not : (mark : ℕ) (bytes : List ℕ) → ((front rest : List ℕ) × IsSplit mark bytes front rest) ⊎ HasNone mark bytes
split_or_not mark [] = inr tt
split_or_not mark (b ∷ bs) =
    elim (eqb_tells b mark) [
      | inl here ↦ inl ([], bs, (ap (λ n. n ∷ bs) here.1, tt))
      | inr other ↦ elim (split_or_not mark bs) [
        | inl found ↦ inl (b ∷ found.0, found.1, (ap (λ x. b ∷ x) found.2.0, (other.0, found.2.1)))
        | inr none ↦ inr (other.0, none)
      ]
    ]

square_or_not : (a b : ℕ) → Decided ((s : Square) × (a ≡ 48 + file_of s) × (b ≡ 48 + rank_of s))
square_or_not a b =
    elim (cases_lt 48 a) [
      | inr small ↦ inr (λ h. let on = h.0.on_board in omega (arith, small, h.1, on))
      | inl low ↦ elim (cases_lt a 58) [
        | inr big ↦ inr (λ h. let on = h.0.on_board in omega (arith, big, h.1, on))
        | inl high ↦ elim (cases_lt 48 b) [
          | inr small ↦ inr (λ h. let on = h.0.on_board in omega (arith, small, h.2, on))
          | inl deep ↦ elim (cases_lt b 58) [
            | inr big ↦ inr (λ h. let on = h.0.on_board in omega (arith, big, h.2, on))
            | inl near ↦ inl (
              record { file = a - 48; rank = b - 48; on_board = (omega (arith, low), omega (arith, high), omega (arith, deep), omega (arith, near)) },
              omega (arith, low),
              omega (arith, deep),
            )
          ]
        ]
      ]
    ]

square_is : (a b : ℕ) (s : Square) (rest : List ℕ) → a ≡ 48 + file_of s → b ≡ 48 + rank_of s → a ∷ b ∷ rest ≡ (48 + file_of s) ∷ (48 + rank_of s) ∷ rest
square_is a b s rest f r = ap (λ n. n ∷ b ∷ rest) f ∙ ap (λ n. (48 + file_of s) ∷ n ∷ rest) r

-- no pair: neither a square nor `00`
no_pair : (a b c d : ℕ) → ((s : Square) → a ≡ 48 + file_of s → b ≡ 48 + rank_of s → ⊥) → (a ∷ b ∷ [] ≡ codes "00" → ⊥) → (p : Pair) → a ∷ b ∷ c ∷ d ∷ [] ≡ pair_text p → ⊥
no_pair a b c d square zeros (On s k) e = let file : a ≡ 48 + file_of s = cc in let rank : b ≡ 48 + rank_of s = cc in square s file rank
no_pair a b c d square zeros (InHand k) e = let x : a ≡ 48 = cc in let y : b ≡ 48 = cc in zeros (ap (λ n. n ∷ b ∷ []) x ∙ ap (λ n. 48 ∷ n ∷ []) y)
no_pair a b c d square zeros Rest e = let x : a ≡ 48 = cc in let y : b ≡ 48 = cc in zeros (ap (λ n. n ∷ b ∷ []) x ∙ ap (λ n. 48 ∷ n ∷ []) y)

-- no kind, and not `AL`, after a square or `00`
no_code : (a b c d : ℕ) → ((k : Kind) → c ∷ d ∷ [] ≡ kind_code k → ⊥) → (a ∷ b ∷ [] ≡ codes "00" → c ∷ d ∷ [] ≡ codes "AL" → ⊥) → (p : Pair) → a ∷ b ∷ c ∷ d ∷ [] ≡ pair_text p → ⊥
no_code a b c d kinds rest (On s k) e = let code : c ∷ d ∷ [] ≡ kind_code k = cc in kinds k code
no_code a b c d kinds rest (InHand k) e = let code : c ∷ d ∷ [] ≡ kind_code k = cc in kinds k code
no_code a b c d kinds rest Rest e =
    let x : a ≡ 48 = cc in
    let y : b ≡ 48 = cc in
    let code : c ∷ d ∷ [] ≡ codes "AL" = cc in
    rest (ap (λ n. n ∷ b ∷ []) x ∙ ap (λ n. 48 ∷ n ∷ []) y) code

joined : (a b c d e f : ℕ) (x : List ℕ) → a ∷ b ∷ [] ≡ e ∷ f ∷ [] → c ∷ d ∷ [] ≡ x → a ∷ b ∷ c ∷ d ∷ [] ≡ e ∷ f ∷ x
joined a b c d e f x h k =
    let first : a ≡ e = cc in
    let next : b ≡ f = cc in
    ap (λ n. n ∷ b ∷ c ∷ d ∷ []) first ∙ ap (λ n. e ∷ n ∷ c ∷ d ∷ []) next ∙ ap (λ t. e ∷ f ∷ t) k

zero_file_no : (a b : ℕ) (s : Square) → a ≡ 48 + file_of s → a ∷ b ∷ [] ≡ codes "00" → ⊥
zero_file_no a b s file e = let x : a ≡ 48 = cc in let on = s.on_board in omega (arith, x, file, on)

pub pair_or_not : (a b c d : ℕ) → Decided ((p : Pair) × (a ∷ b ∷ c ∷ d ∷ [] ≡ pair_text p))
pair_or_not a b c d =
    elim (square_or_not a b) [
      | inl square ↦ elim (kind_or_not (c ∷ d ∷ [])) [
        | inl code ↦ inl (On square.0 code.0, joined a b c d (48 + file_of square.0) (48 + rank_of square.0) (kind_code code.0) (square_is a b square.0 [] square.1 square.2) code.1)
        | inr none ↦ inr (λ h. no_code a b c d none (λ zeros al. zero_file_no a b square.0 square.1 zeros) h.0 h.1)
      ]
      | inr other ↦ elim (same_or_not (a ∷ b ∷ []) (codes "00")) [
        | inr neither ↦ inr (λ h. no_pair a b c d (λ s file rank. other (s, file, rank)) neither h.0 h.1)
        | inl zeros ↦ elim (kind_or_not (c ∷ d ∷ [])) [
          | inl code ↦ inl (InHand code.0, joined a b c d 48 48 (kind_code code.0) zeros code.1)
          | inr none ↦ elim (same_or_not (c ∷ d ∷ []) (codes "AL")) [
            | inl al ↦ inl (Rest, joined a b c d 48 48 (codes "AL") zeros al)
            | inr other_code ↦ inr (λ h. no_code a b c d none (λ _ al. other_code al) h.0 h.1)
          ]
        ]
      ]
    ]

pairs_short : (bytes : List ℕ) → 0 < length bytes → length bytes < 4 → (ps : List Pair) → bytes ≡ pairs_text ps → ⊥
pairs_short bytes some few [] e = let n : length bytes ≡ 0 = ap length e in omega (arith, some, n)
pairs_short bytes some few (p ∷ ps) e =
    let n : length bytes ≡ length (pair_text p ++ pairs_text ps) = ap length e in
    omega (arith, few, n, pair_length p, length-append (pair_text p) (pairs_text ps))

pairs_not : (a b c d : ℕ) (rest : List ℕ) → (((p : Pair) × (a ∷ b ∷ c ∷ d ∷ [] ≡ pair_text p)) → ((ps : List Pair) × (rest ≡ pairs_text ps)) → ⊥) → (ps : List Pair) → a ∷ b ∷ c ∷ d ∷ rest ≡ pairs_text ps → ⊥
pairs_not a b c d rest never [] e = cc
pairs_not a b c d rest never (p ∷ ps) e =
    let parts = same_split (a ∷ b ∷ c ∷ d ∷ []) (pair_text p) rest (pairs_text ps) (sym (pair_length p)) e in
    never (p, parts.0) (ps, parts.1)

pub pairs_or_not : (bytes : List ℕ) → Decided ((ps : List Pair) × (bytes ≡ pairs_text ps))
pairs_or_not [] = inl ([], refl)
pairs_or_not (a ∷ []) = inr (λ h. pairs_short (a ∷ []) (omega arith) (omega arith) h.0 h.1)
pairs_or_not (a ∷ b ∷ []) = inr (λ h. pairs_short (a ∷ b ∷ []) (omega arith) (omega arith) h.0 h.1)
pairs_or_not (a ∷ b ∷ c ∷ []) = inr (λ h. pairs_short (a ∷ b ∷ c ∷ []) (omega arith) (omega arith) h.0 h.1)
pairs_or_not (a ∷ b ∷ c ∷ d ∷ rest) =
    elim (pair_or_not a b c d) [
      | inr never ↦ inr (λ h. pairs_not a b c d rest (λ p ps. never p) h.0 h.1)
      | inl p ↦ elim (pairs_or_not rest) [
        | inr never ↦ inr (λ h. pairs_not a b c d rest (λ q ps. never ps) h.0 h.1)
        | inl ps ↦ inl (p.0 ∷ ps.0, ap (λ x. x ++ rest) p.1 ∙ ap (λ x. pair_text p.0 ++ x) ps.1)
      ]
    ]

one_on_board : (p : Pair) → Decided (IsOnBoard p)
one_on_board (On s k) = inl tt
one_on_board (InHand k) = inr (λ h. h)
one_on_board Rest = inr (λ h. h)

on_board_or_not : (ps : List Pair) → Decided (AllOnBoard ps)
on_board_or_not [] = inl tt
on_board_or_not (p ∷ ps) =
    elim (one_on_board p) [
      | inr off ↦ inr (λ h. off h.0)
      | inl on ↦ elim (on_board_or_not ps) [
        | inr off ↦ inr (λ h. off h.1)
        | inl all ↦ inl (on, all)
      ]
    ]

-- pairs of a square and a kind only
pub board_pairs_or_not : (bytes : List ℕ) → Decided ((ps : List Pair) × (bytes ≡ pairs_text ps) × AllOnBoard ps)
board_pairs_or_not bytes =
    elim (pairs_or_not bytes) [
      | inr never ↦ inr (λ h. never (h.0, h.1))
      | inl found ↦ elim (on_board_or_not found.0) [
        | inl on ↦ inl (found.0, found.1, on)
        | inr off ↦ inr (λ h. not_on_board bytes found.0 found.1 off h.0 h.1 h.2)
      ]
    ]

no_cell : (a b c : ℕ) → (a ∷ b ∷ c ∷ [] ≡ codes " * " → ⊥) → ((color : Color) → a ≡ sign color → (k : Kind) → b ∷ c ∷ [] ≡ kind_code k → ⊥) → (cell : Option Piece) → a ∷ b ∷ c ∷ [] ≡ cell_text cell → ⊥
no_cell a b c held never None e = held e
no_cell a b c held never (Some p) e =
    let signs : a ≡ sign p.color = cc in
    let code : b ∷ c ∷ [] ≡ kind_code p.kind = cc in
    never p.color signs p.kind code

cell_or_not : (a b c : ℕ) → Decided ((cell : Option Piece) × (a ∷ b ∷ c ∷ [] ≡ cell_text cell))
cell_or_not a b c =
    elim (same_or_not (a ∷ b ∷ c ∷ []) (codes " * ")) [
      | inl empty ↦ inl (None, empty)
      | inr held ↦ elim (sign_or_not a) [
        | inr other ↦ inr (λ h. no_cell a b c held (λ color x k y. other (color, x)) h.0 h.1)
        | inl signed ↦ elim (kind_or_not (b ∷ c ∷ [])) [
          | inr other ↦ inr (λ h. no_cell a b c held (λ color x k y. other k y) h.0 h.1)
          | inl code ↦ inl (Some (record { color = signed.0; kind = code.0 }), ap (λ n. n ∷ b ∷ c ∷ []) signed.1 ∙ ap (λ x. sign signed.0 ∷ x) code.1)
        ]
      ]
    ]

cells_not : (a b c n : ℕ) (rest : List ℕ) → (((cell : Option Piece) × (a ∷ b ∷ c ∷ [] ≡ cell_text cell)) → ((cells : List (Option Piece)) × (length cells ≡ n) × (rest ≡ flat_map cell_text cells)) → ⊥) → (cells : List (Option Piece)) → length cells ≡ suc n → a ∷ b ∷ c ∷ rest ≡ flat_map cell_text cells → ⊥
cells_not a b c n rest never [] size e = cc
cells_not a b c n rest never (cell ∷ cells) size e =
    let parts = same_split (a ∷ b ∷ c ∷ []) (cell_text cell) rest (flat_map cell_text cells) (sym (cell_length cell)) e in
    never (cell, parts.0) (cells, omega (arith, size), parts.1)

cells_short : (bytes : List ℕ) (n : ℕ) → length bytes < 3 → (cells : List (Option Piece)) → length cells ≡ suc n → bytes ≡ flat_map cell_text cells → ⊥
cells_short bytes n few cells size e = omega (arith, few, size, cells_length bytes cells e)

pub cells_or_not : (n : ℕ) (bytes : List ℕ) → Decided ((cells : List (Option Piece)) × (length cells ≡ n) × (bytes ≡ flat_map cell_text cells))
cells_or_not zero [] = inl ([], refl, refl)
cells_or_not zero (b ∷ bs) = inr (λ h. let size = cells_length (b ∷ bs) h.0 h.2 in omega (arith, h.1, size))
cells_or_not (suc n) [] = inr (λ h. cells_short [] n (omega arith) h.0 h.1 h.2)
cells_or_not (suc n) (a ∷ []) = inr (λ h. cells_short (a ∷ []) n (omega arith) h.0 h.1 h.2)
cells_or_not (suc n) (a ∷ b ∷ []) = inr (λ h. cells_short (a ∷ b ∷ []) n (omega arith) h.0 h.1 h.2)
cells_or_not (suc n) (a ∷ b ∷ c ∷ rest) =
    elim (cell_or_not a b c) [
      | inr never ↦ inr (λ h. cells_not a b c n rest (λ x xs. never x) h.0 h.1 h.2)
      | inl cell ↦ elim (cells_or_not n rest) [
        | inr never ↦ inr (λ h. cells_not a b c n rest (λ x xs. never xs) h.0 h.1 h.2)
        | inl cells ↦ inl (cell.0 ∷ cells.0, omega (arith, cells.1), ap (λ x. x ++ rest) cell.1 ∙ ap (λ x. cell_text cell.0 ++ x) cells.2)
      ]
    ]

walk_not : (a b c d e f : ℕ) (m : Move) → ((s : Square) → a ≡ 48 + file_of s → b ≡ 48 + rank_of s → ⊥) → (a ∷ b ∷ [] ≡ codes "00" → ⊥) → a ∷ b ∷ c ∷ d ∷ e ∷ f ∷ [] ≡ squares_text m → ⊥
walk_not a b c d e f (Walk from to k) square zeros h = let file : a ≡ 48 + file_of from = cc in let rank : b ≡ 48 + rank_of from = cc in square from file rank
walk_not a b c d e f (Put to k) square zeros h = let x : a ≡ 48 = cc in let y : b ≡ 48 = cc in zeros (ap (λ n. n ∷ b ∷ []) x ∙ ap (λ n. 48 ∷ n ∷ []) y)

target_not : (a b c d e f : ℕ) (m : Move) → ((s : Square) → c ≡ 48 + file_of s → d ≡ 48 + rank_of s → ⊥) → a ∷ b ∷ c ∷ d ∷ e ∷ f ∷ [] ≡ squares_text m → ⊥
target_not a b c d e f (Walk from to k) square h = let file : c ≡ 48 + file_of to = cc in let rank : d ≡ 48 + rank_of to = cc in square to file rank
target_not a b c d e f (Put to k) square h = let file : c ≡ 48 + file_of to = cc in let rank : d ≡ 48 + rank_of to = cc in square to file rank

kind_not : (a b c d e f : ℕ) (m : Move) → ((k : Kind) → e ∷ f ∷ [] ≡ kind_code k → ⊥) → a ∷ b ∷ c ∷ d ∷ e ∷ f ∷ [] ≡ squares_text m → ⊥
kind_not a b c d e f (Walk from to k) none h = let code : e ∷ f ∷ [] ≡ kind_code k = cc in none k code
kind_not a b c d e f (Put to k) none h = let code : e ∷ f ∷ [] ≡ kind_code k = cc in none k code

-- six bytes from their parts
six : (a b c d e f : ℕ) (m n : ℕ) (to : Square) (k : Kind) → a ∷ b ∷ [] ≡ m ∷ n ∷ [] → c ≡ 48 + file_of to → d ≡ 48 + rank_of to → e ∷ f ∷ [] ≡ kind_code k → a ∷ b ∷ c ∷ d ∷ e ∷ f ∷ [] ≡ m ∷ n ∷ (48 + file_of to) ∷ (48 + rank_of to) ∷ kind_code k
six a b c d e f m n to k from file rank code =
    let first : a ≡ m = cc in
    let next : b ≡ n = cc in
    ap (λ x. x ∷ b ∷ c ∷ d ∷ e ∷ f ∷ []) first ∙ ap (λ x. m ∷ x ∷ c ∷ d ∷ e ∷ f ∷ []) next
    ∙ ap (λ x. m ∷ n ∷ x) (square_is c d to (e ∷ f ∷ []) file rank) ∙ ap (λ x. m ∷ n ∷ (48 + file_of to) ∷ (48 + rank_of to) ∷ x) code

six_or_not : (a b c d e f : ℕ) → Decided ((m : Move) × (a ∷ b ∷ c ∷ d ∷ e ∷ f ∷ [] ≡ squares_text m))
six_or_not a b c d e f =
    elim (square_or_not c d) [
      | inr none ↦ inr (λ h. target_not a b c d e f h.0 (λ s x y. none (s, x, y)) h.1)
      | inl to ↦ elim (kind_or_not (e ∷ f ∷ [])) [
        | inr none ↦ inr (λ h. kind_not a b c d e f h.0 none h.1)
        | inl code ↦ elim (square_or_not a b) [
          | inl from ↦ inl (Walk from.0 to.0 code.0, six a b c d e f (48 + file_of from.0) (48 + rank_of from.0) to.0 code.0 (square_is a b from.0 [] from.1 from.2) to.1 to.2 code.1)
          | inr other ↦ elim (same_or_not (a ∷ b ∷ []) (codes "00")) [
            | inl zeros ↦ inl (Put to.0 code.0, six a b c d e f 48 48 to.0 code.0 zeros to.1 to.2 code.1)
            | inr neither ↦ inr (λ h. walk_not a b c d e f h.0 (λ s x y. other (s, x, y)) neither h.1)
          ]
        ]
      ]
    ]

move_length : (m : Move) → length (squares_text m) ≡ 6
move_length (Walk from to k) = omega (arith, kind_length k)
move_length (Put to k) = omega (arith, kind_length k)

other_length : (bytes : List ℕ) → length bytes ≢ 6 → Decided ((m : Move) × (bytes ≡ squares_text m))
other_length bytes other = inr (λ h. other (ap length h.1 ∙ move_length h.0))

pub squares_or_not : (bytes : List ℕ) → Decided ((m : Move) × (bytes ≡ squares_text m))
squares_or_not [] = other_length [] (λ e. omega (arith, e))
squares_or_not (a ∷ []) = other_length (a ∷ []) (λ e. omega (arith, e))
squares_or_not (a ∷ b ∷ []) = other_length (a ∷ b ∷ []) (λ e. omega (arith, e))
squares_or_not (a ∷ b ∷ c ∷ []) = other_length (a ∷ b ∷ c ∷ []) (λ e. omega (arith, e))
squares_or_not (a ∷ b ∷ c ∷ d ∷ []) = other_length (a ∷ b ∷ c ∷ d ∷ []) (λ e. omega (arith, e))
squares_or_not (a ∷ b ∷ c ∷ d ∷ e ∷ []) = other_length (a ∷ b ∷ c ∷ d ∷ e ∷ []) (λ h. omega (arith, h))
squares_or_not (a ∷ b ∷ c ∷ d ∷ e ∷ f ∷ []) = six_or_not a b c d e f
squares_or_not (a ∷ b ∷ c ∷ d ∷ e ∷ f ∷ g ∷ rest) = other_length (a ∷ b ∷ c ∷ d ∷ e ∷ f ∷ g ∷ rest) (λ h. omega (arith, h))

digits_or_not : (bytes : List ℕ) → Decided (AllDigits 10 bytes)
digits_or_not [] = inl tt
digits_or_not (b ∷ bs) =
    elim (cases_lt (digit_value b) 10) [
      | inr big ↦ inr (λ h. omega (arith, big, h.0))
      | inl digit ↦ elim (digits_or_not bs) [
        | inr never ↦ inr (λ h. never h.1)
        | inl digits ↦ inl (digit, digits)
      ]
    ]

seconds_or_not : (bytes : List ℕ) → Decided ((n : ℕ) × IsSeconds bytes n)
seconds_or_not [] = inr (λ h. let few = h.1.0.few in omega (arith, few))
seconds_or_not (b ∷ bs) =
    elim (digits_or_not (b ∷ bs)) [
      | inr never ↦ inr (λ h. never h.1.0.digits_only)
      | inl digits ↦ elim (cases_lt 4294967295 (digits_value 10 (b ∷ bs))) [
        | inl big ↦ inr (λ h. let n = h.1 in omega (arith, big, n.0.value_is, n.1))
        | inr small ↦ inl (digits_value 10 (b ∷ bs), (record { few = omega arith; many = omega arith; digits_only = digits; value_is = refl }, small))
      ]
    ]

fraction_or_not : (bytes : List ℕ) → Decided ((n : ℕ) × IsFraction bytes n)
fraction_or_not bytes =
    elim (cases_lt 0 (length bytes)) [
      | inr none ↦ inr (λ h. let few = h.1.1.few in omega (arith, none, few))
      | inl some ↦ elim (cases_lt 3 (length bytes)) [
        | inl more ↦ inr (λ h. let many = h.1.1.many in omega (arith, more, many))
        | inr few ↦ elim (digits_or_not bytes) [
          | inr never ↦ inr (λ h. never h.1.1.digits_only)
          | inl digits ↦ inl (
            digits_value 10 bytes * 10 ^ (3 - length bytes),
            (digits_value 10 bytes, record { few = omega (arith, some); many = few; digits_only = digits; value_is = refl }, refl),
          )
        ]
      ]
    ]

pub time_or_not : (text : List ℕ) → Decided ((n : ℕ) × IsTime text n)
time_or_not text =
    elim (split_or_not 46 text) [
      | inr none ↦ elim (seconds_or_not text) [
        | inr never ↦ inr (λ h. no_whole text none (λ s n. never (s, n)) h.0 h.1)
        | inl n ↦ inl (n.0 * 1000, inl (n.0, n.1, refl))
      ]
      | inl s ↦ elim (seconds_or_not s.0) [
        | inr never ↦ inr (λ h. no_front text s.0 s.1 s.2 (λ n m. never (n, m)) h.0 h.1)
        | inl n ↦ elim (fraction_or_not s.1) [
          | inr never ↦ inr (λ h. no_fraction text s.0 s.1 s.2 (λ m f. never (m, f)) h.0 h.1)
          | inl f ↦ inl (
            n.0 * 1000 + f.0,
            inr (record {
              digits = s.0;
              following = s.1;
              seconds = n.0;
              fraction = f.0;
              whole = s.2.0;
              seconds_are = n.1;
              fraction_is = f.1;
              value_is = refl;
            }),
          )
        ]
      ]
    ]
