-- The bytes of a statement spell one thing.
use Rattle.std.proofs.Common.{◌≡◌, ◌≢◌, ℕ, ◌+◌, ◌-◌, arith, List, [], ◌∷◌, ◌++◌, length, Option, refl, sym, ap, ◌∙◌, subst, inl, inr, ◌⊎◌}
use Rattle.std.specs.List.{flat_map}
use Rattle.std.specs.Prelude.{codes}
use Rattle.std.proofs.lemmas.Bool.{cases_lt}
use Rattle.std.proofs.lemmas.Bool.Decides.{eqb_tells}
use Rattle.csa_text.specs.Fields.{IsSplit}
use Rattle.std.proofs.lemmas.List.{length-append}
use Rattle.shogi_board.specs.declared.color.Color.{Color}
use Rattle.shogi_board.specs.declared.kind.Piece.{Piece}
use Rattle.shogi_board.specs.Squares.{file_of, rank_of}
use Rattle.shogi_board.specs.declared.moves.Move.{Move}
use Rattle.shogi_board.specs.declared.moves.Move.TheVariants.{Walk, Put}
use Rattle.csa_text.specs.declared.ending.Ending.{Ending}
use Rattle.csa_text.specs.declared.pair.Pair.{Pair}
use Rattle.csa_text.specs.Codes.{sign, kind_code, cell_text, squares_text}
use Rattle.csa_text.specs.CodesOnce.{kind_once, square_once, no_zero_file}
use Rattle.csa_text.proofs.Codings.{sign_once, ending_once, ending_or_not}
use Rattle.csa_text.specs.Endings.{ending_name}
use Rattle.csa_text.specs.PairTexts.{pairs_text, AllOnBoard}
use Rattle.csa_text.specs.PairsOnce.{pairs_once}
use Rattle.csa_text.specs.TimeTexts.{IsTime}
use Rattle.csa_text.specs.Saying.{Saying, version, name, header, even, rank, pieces, turn, walked, time, ending}
use Rattle.csa_text.specs.Spelling.{Spells, IsRank, rank_text}
use Rattle.csa_text.proofs.CellTexts.{cells_once, cells_length, CellsOf}
use Rattle.csa_text.proofs.Texts.{head_same, tail_same}
use Rattle.csa_text.proofs.Moments.{split_same}
use Rattle.csa_text.proofs.TimesRead.{time_once}
use Rattle.csa_text.proofs.Decided.{Decided, following, after_sign, split_or_not, same_or_not, pairs_or_not, board_pairs_or_not, cells_or_not, squares_or_not, time_or_not}
use Rattle.csa_text.proofs.Rows.{row_of, begins_so, rank_whole, no_colon, no_key, no_rank, rank_read}

squares_once : (m n : Move) → squares_text m ≡ squares_text n → m ≡ n
squares_once (Walk a b k) (Walk c d l) e =
    let files : 48 + file_of a ≡ 48 + file_of c = cc in
    let ranks : 48 + rank_of a ≡ 48 + rank_of c = cc in
    let files_to : 48 + file_of b ≡ 48 + file_of d = cc in
    let ranks_to : 48 + rank_of b ≡ 48 + rank_of d = cc in
    let kinds : kind_code k ≡ kind_code l = cc in
    ap (λ s. Walk s b k) (square_once a c files ranks) ∙ ap (λ s. Walk c s k) (square_once b d files_to ranks_to) ∙ ap (Walk c d) (kind_once k l kinds)
squares_once (Walk a b k) (Put d l) e = let zero_file : 48 + file_of a ≡ 48 = cc in absurd (no_zero_file a zero_file)
squares_once (Put b k) (Walk c d l) e = let zero_file : 48 + file_of c ≡ 48 = cc in absurd (no_zero_file c zero_file)
squares_once (Put b k) (Put d l) e =
    let files_to : 48 + file_of b ≡ 48 + file_of d = cc in
    let ranks_to : 48 + rank_of b ≡ 48 + rank_of d = cc in
    let kinds : kind_code k ≡ kind_code l = cc in
    ap (λ s. Put s k) (square_once b d files_to ranks_to) ∙ ap (Put d) (kind_once k l kinds)

two_same : (p a b : ℕ) (x y : List ℕ) → p ∷ a ∷ x ≡ p ∷ b ∷ y → (a ≡ b) × (x ≡ y)
two_same p a b x y e =
    let first : a ≡ b = cc in
    let rest : x ≡ y = cc in
    (first, rest)

signed_same : (a b : Color) (x y : List ℕ) → sign a ∷ x ≡ sign b ∷ y → (a ≡ b) × (x ≡ y)
signed_same a b x y e =
    let first : sign a ≡ sign b = cc in
    let rest : x ≡ y = cc in
    (sign_once a b first, rest)

two_lengths : (bytes : List ℕ) (m n : ℕ) (c d : List (Option Piece)) → length c ≡ 9 → length d ≡ 9 → bytes ≡ rank_text m c → bytes ++ 32 ∷ [] ≡ rank_text n d → ⊥
two_lengths bytes m n c d nine also e f =
    let one : length bytes ≡ 2 + length (flat_map cell_text c) = ap length e ∙ omega arith in
    let two : length (bytes ++ 32 ∷ []) ≡ 2 + length (flat_map cell_text d) = ap length f ∙ omega arith in
    omega (arith, one, two, nine, also, length-append bytes (32 ∷ []), cells_length (flat_map cell_text c) c refl, cells_length (flat_map cell_text d) d refl)

same_cells : (bytes : List ℕ) (m n : ℕ) (c d : List (Option Piece)) → length c ≡ 9 → length d ≡ 9 → (bytes ≡ rank_text m c) ⊎ (bytes ++ 32 ∷ [] ≡ rank_text m c) → (bytes ≡ rank_text n d) ⊎ (bytes ++ 32 ∷ [] ≡ rank_text n d) → (m ≡ n) × (c ≡ d)
same_cells bytes m n c d nine also (inl e) (inl f) =
    let parts = two_same 80 (48 + m) (48 + n) (flat_map cell_text c) (flat_map cell_text d) (sym e ∙ f) in
    (omega (arith, parts.0), cells_once c d parts.1)
same_cells bytes m n c d nine also (inr e) (inr f) =
    let parts = two_same 80 (48 + m) (48 + n) (flat_map cell_text c) (flat_map cell_text d) (sym e ∙ f) in
    (omega (arith, parts.0), cells_once c d parts.1)
same_cells bytes m n c d nine also (inl e) (inr f) = absurd (two_lengths bytes m n c d nine also e f)
same_cells bytes m n c d nine also (inr e) (inl f) = absurd (two_lengths bytes n m d c also nine f e)

same_rank : (bytes : List ℕ) (m n : ℕ) (c d : List (Option Piece)) → IsRank bytes m c → IsRank bytes n d → rank m c ≡ rank n d
same_rank bytes m n c d p q =
    let same = same_cells bytes m n c d p.nine q.nine p.whole q.whole in
    ap (λ k. rank k c) same.0 ∙ ap (rank n) same.1

pub same_saying : (bytes : List ℕ) (a b : Saying) → Spells bytes a → Spells bytes b → a ≡ b
same_saying bytes version version p q = refl
same_saying bytes (name a x) (name b y) p q =
    let same = signed_same a b x y (tail_same 78 78 (sign a ∷ x) (sign b ∷ y) (sym p ∙ q)) in
    ap (λ c. name c x) same.0 ∙ ap (name b) same.1
same_saying bytes (header a x) (header b y) p q =
    let line : p.line ≡ q.line = tail_same 36 36 p.line q.line (sym p.whole ∙ q.whole) in
    let same = split_same 58 p.line a x b y p.split (line ∙ q.split.0) q.split.1 in
    ap (λ k. header k x) same.0 ∙ ap (header b) same.1
same_saying bytes (even x) (even y) p q =
    ap even (pairs_once x y (two_same 80 73 73 (pairs_text x) (pairs_text y) (sym p.0 ∙ q.0)).1)
same_saying bytes (rank m c) (rank n d) p q = same_rank bytes m n c d p q
same_saying bytes (pieces a x) (pieces b y) p q =
    let same = signed_same a b (pairs_text x) (pairs_text y) (tail_same 80 80 (sign a ∷ pairs_text x) (sign b ∷ pairs_text y) (sym p ∙ q)) in
    ap (λ c. pieces c x) same.0 ∙ ap (pieces b) (pairs_once x y same.1)
same_saying bytes (turn a) (turn b) p q = ap turn (signed_same a b [] [] (sym p ∙ q)).0
same_saying bytes (walked a m) (walked b n) p q =
    let same = signed_same a b (squares_text m) (squares_text n) (sym p ∙ q) in
    ap (λ c. walked c m) same.0 ∙ ap (walked b) (squares_once m n same.1)
same_saying bytes (time m) (time n) p q =
    let text : p.0 ≡ q.0 = tail_same 84 84 p.0 q.0 (sym p.1 ∙ q.1) in
    ap time (time_once p.0 m n p.2 (rw text q.2))
same_saying bytes (ending a) (ending b) p q = ap ending (ending_once a b (tail_same 37 37 (ending_name a) (ending_name b) (sym p ∙ q)))
same_saying bytes a b p q = let row : row_of a ≡ row_of b = sym (begins_so bytes a p) ∙ begins_so bytes b q in absurd (omega (arith, row))

cells_of_or_not : (text : List ℕ) → Decided ((cells : List (Option Piece)) × (length cells ≡ 9) × CellsOf text cells)
cells_of_or_not text =
    elim (cells_or_not 9 text) [
      | inl found ↦ inl (found.0, found.1, inl found.2)
      | inr never ↦ elim (cells_or_not 9 (text ++ 32 ∷ [])) [
        | inl found ↦ inl (found.0, found.1, inr found.2)
        | inr neither ↦ inr (λ h. elim h.2 [ inl e ↦ never (h.0, h.1, e) | inr e ↦ neither (h.0, h.1, e) ])
      ]
    ]

version_or_not : (bytes : List ℕ) → Decided (Spells bytes version)
version_or_not bytes =
    elim (same_or_not bytes (codes "V2")) [
      | inl e ↦ inl (inl e)
      | inr a ↦ elim (same_or_not bytes (codes "V2.1")) [
        | inl e ↦ inl (inr (inl e))
        | inr b ↦ elim (same_or_not bytes (codes "V2.2")) [
          | inl e ↦ inl (inr (inr e))
          | inr c ↦ inr (λ h. elim h [ inl e ↦ a e | inr g ↦ elim g [ inl e ↦ b e | inr e ↦ c e ] ])
        ]
      ]
    ]

abbrev Named : List ℕ → Type 0
Named rest = (color : Color) × (text : List ℕ) × (rest ≡ sign color ∷ text) × Unit {0}

name_or_not : (bytes : List ℕ) → Decided ((color : Color) × (text : List ℕ) × Spells bytes (name color text))
name_or_not bytes =
    elim (following 78 Named (after_sign (λ _. Unit {0}) (λ _. inl tt)) bytes) [
      | inl h ↦ inl (h.2.0, h.2.1, h.1 ∙ ap (λ x. 78 ∷ x) h.2.2)
      | inr never ↦ inr (λ h. never (sign h.0 ∷ h.1, h.2, (h.0, h.1, refl, tt)))
    ]

abbrev Keyed : List ℕ → Type 0
Keyed line = (key text : List ℕ) × IsSplit 58 line key text × (key ≢ [])

keyed : (line key text : List ℕ) → IsSplit 58 line key text → Decided (Keyed line)
keyed line [] text split = inr (λ h. no_key line [] text split refl h.0 h.1 h.2 h.3)
keyed line (b ∷ bs) text split = inl (b ∷ bs, text, split, (λ e. cc))

keyed_or_not : (line : List ℕ) → Decided (Keyed line)
keyed_or_not line =
    elim (split_or_not 58 line) [
      | inr none ↦ inr (λ h. no_colon line none h.0 h.1 h.2 h.3)
      | inl s ↦ keyed line s.0 s.1 s.2
    ]

header_or_not : (bytes : List ℕ) → Decided ((key text : List ℕ) × Spells bytes (header key text))
header_or_not bytes =
    elim (following 36 Keyed keyed_or_not bytes) [
      | inl h ↦ inl (h.2.0, h.2.1, record { line = h.0; whole = h.1; split = h.2.2; some = h.2.3 })
      | inr never ↦ inr (λ h. let p = h.2 in never (p.line, p.whole, (h.0, h.1, p.split, p.some)))
    ]

abbrev BoardPairs : List ℕ → Type 0
BoardPairs rest = (pairs : List Pair) × (rest ≡ pairs_text pairs) × AllOnBoard pairs

even_or_not : (bytes : List ℕ) → Decided ((pairs : List Pair) × Spells bytes (even pairs))
even_or_not bytes =
    elim (following 80 (λ r. (rest : List ℕ) × (r ≡ 73 ∷ rest) × BoardPairs rest) (following 73 BoardPairs board_pairs_or_not) bytes) [
      | inl h ↦ inl (h.2.2.0, (h.1 ∙ ap (λ x. 80 ∷ x) h.2.1 ∙ ap (λ x. 80 ∷ 73 ∷ x) h.2.2.1, h.2.2.2))
      | inr never ↦ inr (λ h. never (73 ∷ pairs_text h.0, h.1.0, (pairs_text h.0, refl, (h.0, refl, h.1.1))))
    ]

abbrev AnyPairs : List ℕ → Type 0
AnyPairs rest = (pairs : List Pair) × (rest ≡ pairs_text pairs)

pieces_or_not : (bytes : List ℕ) → Decided ((color : Color) × (pairs : List Pair) × Spells bytes (pieces color pairs))
pieces_or_not bytes =
    elim (following 80 (λ r. (color : Color) × (rest : List ℕ) × (r ≡ sign color ∷ rest) × AnyPairs rest) (after_sign AnyPairs pairs_or_not) bytes) [
      | inl h ↦ inl (h.2.0, h.2.3.0, h.1 ∙ ap (λ x. 80 ∷ x) h.2.2 ∙ ap (λ x. 80 ∷ sign h.2.0 ∷ x) h.2.3.1)
      | inr never ↦ inr (λ h. never (sign h.0 ∷ pairs_text h.1, h.2, (h.0, pairs_text h.1, refl, (h.1, refl))))
    ]

next_same : (a b c d : ℕ) (x y : List ℕ) → a ∷ c ∷ x ≡ b ∷ d ∷ y → c ≡ d
next_same a b c d x y e = cc

one_byte : (a b c : ℕ) (y : List ℕ) → a ∷ [] ≡ b ∷ c ∷ y → ⊥
one_byte a b c y e = cc

rank_or_not : (bytes : List ℕ) → Decided ((number : ℕ) × (cells : List (Option Piece)) × Spells bytes (rank number cells))
rank_or_not [] = inr (λ h. let w = rank_whole [] h.0 h.1 h.2 in let e = w.1 in cc)
rank_or_not (a ∷ []) = inr (λ h. let w = rank_whole (a ∷ []) h.0 h.1 h.2 in one_byte a 80 (48 + h.0) w.0 w.1)
rank_or_not (a ∷ b ∷ text) =
    elim (eqb_tells a 80) [
      | inr other ↦ inr (λ h. let w = rank_whole (a ∷ b ∷ text) h.0 h.1 h.2 in other.1 (head_same a 80 (b ∷ text) ((48 + h.0) ∷ w.0) w.1))
      | inl first ↦ elim (cases_lt 48 b) [
        | inr small ↦ inr (λ h. let w = rank_whole (a ∷ b ∷ text) h.0 h.1 h.2 in let low = h.2.low in omega (arith, small, low, next_same a 80 b (48 + h.0) text w.0 w.1))
        | inl low ↦ elim (cases_lt b 58) [
          | inr big ↦ inr (λ h. let w = rank_whole (a ∷ b ∷ text) h.0 h.1 h.2 in let high = h.2.high in omega (arith, big, high, next_same a 80 b (48 + h.0) text w.0 w.1))
          | inl high ↦ elim (cells_of_or_not text) [
            | inr never ↦ inr (λ h. no_rank b text low high (λ cells nine whole. never (cells, nine, whole)) (rank h.0 h.1) (subst (λ n. Spells (n ∷ b ∷ text) (rank h.0 h.1)) first.1 h.2))
            | inl cells ↦ inl (b - 48, cells.0, subst (λ n. IsRank (n ∷ b ∷ text) (b - 48) cells.0) (sym first.1) (rank_read b text cells.0 low high cells.1 cells.2))
          ]
        ]
      ]
    ]

turn_or_not : (bytes : List ℕ) → Decided ((color : Color) × Spells bytes (turn color))
turn_or_not bytes =
    elim (after_sign (λ r. r ≡ []) (λ r. same_or_not r []) bytes) [
      | inl h ↦ inl (h.0, h.2 ∙ ap (λ x. sign h.0 ∷ x) h.3)
      | inr never ↦ inr (λ h. never (h.0, [], h.1, refl))
    ]

abbrev Squares : List ℕ → Type 0
Squares rest = (m : Move) × (rest ≡ squares_text m)

walked_or_not : (bytes : List ℕ) → Decided ((color : Color) × (m : Move) × Spells bytes (walked color m))
walked_or_not bytes =
    elim (after_sign Squares squares_or_not bytes) [
      | inl h ↦ inl (h.0, h.3.0, h.2 ∙ ap (λ x. sign h.0 ∷ x) h.3.1)
      | inr never ↦ inr (λ h. never (h.0, squares_text h.1, h.2, (h.1, refl)))
    ]

abbrev Timed : List ℕ → Type 0
Timed rest = (n : ℕ) × IsTime rest n

spent_or_not : (bytes : List ℕ) → Decided ((n : ℕ) × Spells bytes (time n))
spent_or_not bytes =
    elim (following 84 Timed time_or_not bytes) [
      | inl h ↦ inl (h.2.0, (h.0, h.1, h.2.1))
      | inr never ↦ inr (λ h. never (h.1.0, h.1.1, (h.0, h.1.2)))
    ]

abbrev Ended : List ℕ → Type 0
Ended rest = (e : Ending) × (rest ≡ ending_name e)

ended_or_not : (rest : List ℕ) → Decided (Ended rest)
ended_or_not rest = elim (ending_or_not rest) [ inl e ↦ inl e | inr never ↦ inr (λ h. never h.0 h.1) ]

end_or_not : (bytes : List ℕ) → Decided ((e : Ending) × Spells bytes (ending e))
end_or_not bytes =
    elim (following 37 Ended ended_or_not bytes) [
      | inl h ↦ inl (h.2.0, h.1 ∙ ap (λ x. 37 ∷ x) h.2.1)
      | inr never ↦ inr (λ h. never (ending_name h.0, h.1, (h.0, refl)))
    ]

-- bytes that spell nothing of any row
record OfNoRow (bytes : List ℕ) : Type 0 where
  versions : Spells bytes version → ⊥
  names : ((color : Color) × (text : List ℕ) × Spells bytes (name color text)) → ⊥
  headers : ((key text : List ℕ) × Spells bytes (header key text)) → ⊥
  evens : ((pairs : List Pair) × Spells bytes (even pairs)) → ⊥
  ranks : ((number : ℕ) × (cells : List (Option Piece)) × Spells bytes (rank number cells)) → ⊥
  placed : ((color : Color) × (pairs : List Pair) × Spells bytes (pieces color pairs)) → ⊥
  turns : ((color : Color) × Spells bytes (turn color)) → ⊥
  moves : ((color : Color) × (m : Move) × Spells bytes (walked color m)) → ⊥
  times : ((n : ℕ) × Spells bytes (time n)) → ⊥
  endings : ((e : Ending) × Spells bytes (ending e)) → ⊥

of_no_row : (bytes : List ℕ) → OfNoRow bytes → (s : Saying) → Spells bytes s → ⊥
of_no_row bytes none version p = none.versions p
of_no_row bytes none (name color text) p = none.names (color, text, p)
of_no_row bytes none (header key text) p = none.headers (key, text, p)
of_no_row bytes none (even pairs) p = none.evens (pairs, p)
of_no_row bytes none (rank number cells) p = none.ranks (number, cells, p)
of_no_row bytes none (pieces color pairs) p = none.placed (color, pairs, p)
of_no_row bytes none (turn color) p = none.turns (color, p)
of_no_row bytes none (walked color m) p = none.moves (color, m, p)
of_no_row bytes none (time n) p = none.times (n, p)
of_no_row bytes none (ending e) p = none.endings (e, p)

abbrev Said : List ℕ → Type 0
Said bytes = (s : Saying) × Spells bytes s

-- whether bytes spell something is decided
pub spells_or_not : (bytes : List ℕ) → Said bytes ⊎ ((s : Saying) → Spells bytes s → ⊥)
spells_or_not bytes =
    elim (version_or_not bytes) [
      | inl h ↦ inl (version, h)
      | inr versions ↦ elim (name_or_not bytes) [
        | inl h ↦ inl (name h.0 h.1, h.2)
        | inr names ↦ elim (header_or_not bytes) [
          | inl h ↦ inl (header h.0 h.1, h.2)
          | inr headers ↦ elim (even_or_not bytes) [
            | inl h ↦ inl (even h.0, h.1)
            | inr evens ↦ elim (rank_or_not bytes) [
              | inl h ↦ inl (rank h.0 h.1, h.2)
              | inr ranks ↦ elim (pieces_or_not bytes) [
                | inl h ↦ inl (pieces h.0 h.1, h.2)
                | inr placed ↦ elim (turn_or_not bytes) [
                  | inl h ↦ inl (turn h.0, h.1)
                  | inr turns ↦ elim (walked_or_not bytes) [
                    | inl h ↦ inl (walked h.0 h.1, h.2)
                    | inr moves ↦ elim (spent_or_not bytes) [
                      | inl h ↦ inl (time h.0, h.1)
                      | inr times ↦ elim (end_or_not bytes) [
                        | inl h ↦ inl (ending h.0, h.1)
                        | inr endings ↦ inr (of_no_row bytes (record {
                          versions = versions;
                          names = names;
                          headers = headers;
                          evens = evens;
                          ranks = ranks;
                          placed = placed;
                          turns = turns;
                          moves = moves;
                          times = times;
                          endings = endings;
                        }))
                      ]
                    ]
                  ]
                ]
              ]
            ]
          ]
        ]
      ]
    ]
