-- A written position line is read back as its start and its moves.
use Rattle.std.proofs.Common.{◌≡◌, ◌≢◌, ℕ, ◌+◌, ◌<◌, ◌≤◌, inl, inr, List, [], ◌∷◌, ◌++◌, Option, Some, None, Ok, length, length-append, get_or, take, arith, refl, sym, ap, ◌∙◌, subst, append_assoc, codes, lit≤}
use Rattle.std.specs.List.{AllByRecursion, flat_map}
use Rattle.std.proofs.lemmas.Bool.{cases_lt}
use Rattle.std.proofs.lemmas.List.{append-nil, take-append-le, get_or_append_left, get_or_at, take_at}
use Rattle.shogi_board.specs.declared.color.Color.{Color}
use Rattle.shogi_board.specs.declared.color.Color.TheVariants.{Black, White}
use Rattle.shogi_board.specs.declared.kind.Kind.{Kind}
use Rattle.shogi_board.specs.declared.kind.Kind.TheVariants.{Pawn, Lance, Knight, Silver, Gold, Bishop, Rook, King, ProPawn, ProLance, ProKnight, ProSilver, Horse, Dragon}
use Rattle.shogi_board.specs.declared.kind.Piece.{Piece}
use Rattle.shogi_board.specs.Placed.{Placed}
use Rattle.shogi_board.specs.Sound.{IsSound}
use Rattle.shogi_board.specs.declared.square.Square.{Square}
use Rattle.shogi_board.specs.After.{after}
use Rattle.shogi_rules.specs.Positions.{position_after, MayFollow, IsGame, begun, played}
use Rattle.shogi_board.specs.declared.moves.Move.{Move}
use Rattle.shogi_board.specs.declared.moves.Move.TheVariants.{Walk, Put}
use Rattle.usi_text.specs.Boards.{ranks_of}
use Rattle.usi_text.specs.Hands.{Pile, IsCount, SpellsHands, count_text, pile_text}
use Rattle.usi_text.specs.Letters.{color_letter, side_letter, square_text}
use Rattle.usi_text.specs.LineText.{StartText, MovesText, AfterStart, LineText}
use Rattle.usi_text.specs.Lines.{HasMoves, Starts, Judged, Plays, UsiLine}
use Rattle.usi_text.specs.Moves.{UsiMove}
use Rattle.usi_text.specs.Sfen.{side_text}
use Rattle.usi_text.specs.SfenText.{sfen_text, board_text, hands_text, both_piles}
use Rattle.usi_text.specs.Words.{EndsWord, words}
use Rattle.usi_text.proofs.Again.{again, sfen_words, hands_spelt, both_fit}
use Rattle.usi_text.proofs.Clean.{AreWord, no_space, word_joined, words_front, words_alone, board_spelt}
use Rattle.usi_text.proofs.Games.{after_more}
use Rattle.usi_text.proofs.Heads.{sizes}
use Rattle.usi_text.proofs.Splits.{words_joined}
use Rattle.usi_text.proofs.Spelt.{letter_low, leads}

abbrev Follows : Placed → List Move → ℕ → Move → Type 0
Follows start moves i d = MayFollow start (take i moves) (get_or moves i d)

last_at : (start : Placed) (before : List Move) (m : Move) (i : ℕ) (d : Move) → MayFollow start before m → i ≡ length before → Follows start (before ++ m ∷ []) i d
last_at start before m i d follow e =
    rw (take_at before (m ∷ []) i (sym e), get_or_at before m [] d i (sym e)) follow

early_at : (start : Placed) (before : List Move) (m : Move) (i : ℕ) (d : Move) → Follows start before i d → i < length before → Follows start (before ++ m ∷ []) i d
early_at start before m i d follow low =
    let within : i ≤ length before = omega arith in
    rw (take-append-le i before (m ∷ []) within, get_or_append_left before (m ∷ []) d i low) follow

follows_at : (start : Placed) (moves : List Move) → IsGame start moves → (i : ℕ) (d : Move) → i < length moves → Follows start moves i d
follows_at start moves begun i d low = absurd (omega arith)
follows_at start moves (played before m game follow) i d low =
    elim (cases_lt i (length before)) [
      | inl h ↦ early_at start before m i d (follows_at start before game i d h) h
      | inr h ↦ last_at start before m i d follow (omega (arith, length-append before (m ∷ [])))
    ]

-- a move of a game may follow those before it
follows : (start : Placed) (before rest : List Move) (m : Move) → IsGame start (before ++ m ∷ rest) → MayFollow start before m
follows start before rest m game =
    let f = follows_at start (before ++ m ∷ rest) game (length before) m (omega (arith, length-append before (m ∷ rest))) in
    rw (take_at before (m ∷ rest) (length before) refl, get_or_at before m rest m (length before) refl) at f

judged : (start : Placed) (before : List Move) (m : Move) → MayFollow start before m → length before < 10000 → Judged start before m None
judged start before m f few =
    let l = f.legal in
    let k = l.keeps in
    let b = k.fits in (
      few,
      inr (refl, inr (f.not_over, inr (b.has_piece, inr (b.kind_fits, inr (b.target_free, inr (b.reaches, inr (b.may_promote, inr (b.further_move, inr (b.lone_pawn, inr (k.king_safe, inr (l.no_drop_mate, refl))))))))))),
    )

-- each word is the move in its position
abbrev Match : Placed → List Move → List (List ℕ) → Type 0
Match p [] ws = ws ≡ []
Match p (m ∷ ms) ws = (w : List ℕ) × (vs : List (List ℕ)) × (ws ≡ w ∷ vs) × UsiMove p w m × Match (after p m) ms vs

game_plays : (start : Placed) (before rest : List Move) (ws : List (List ℕ)) → IsGame start (before ++ rest) → length (before ++ rest) ≤ 10000 → Match (position_after start before) rest ws → Plays start before ws (Ok (before ++ rest))
game_plays start before [] ws game few h = rw h (ap Ok (append-nil before))
game_plays start before (m ∷ ms) ws game few h =
    let p = follows start before ms m game in
    let e : before ++ m ∷ ms ≡ (before ++ m ∷ []) ++ ms = sym (append_assoc before (m ∷ []) ms) in
    let low : length before < 10000 = omega (arith, length-append before (m ∷ ms)) in
    let next = subst (λ q. Match q ms h.1) (sym (after_more start before m)) h.4 in
    let rest = game_plays start (before ++ m ∷ []) ms h.1 (subst (IsGame start) e game) (subst (λ x. length x ≤ 10000) e few) next in
    rw h.2 (inr (m, (h.3, judged start before m p low), subst (λ x. Plays start (before ++ m ∷ []) h.1 (Ok x)) (sym e) rest))

square_word : (s : Square) → AreWord (square_text s)
square_word s = let h = s.on_board in (omega arith, (omega arith, tt))

move_word : (p : Placed) (w : List ℕ) (m : Move) → UsiMove p w m → AreWord w × (0 < length w)
move_word p w (Walk from to kind) (x, h, inl e) =
    rw e.0 (word_joined (square_text from) (square_text to) (square_word from) (square_word to), omega arith)
move_word p w (Walk from to kind) (x, h, inr e) =
    rw e.0 (word_joined (square_text from ++ square_text to) (43 ∷ []) (word_joined (square_text from) (square_text to) (square_word from) (square_word to)) (lit≤ tt, tt), omega arith)
move_word p w (Put to kind) h =
    rw h.1 ((let l = letter_low kind in omega arith, (lit≤ tt, square_word to)), omega arith)

moves_end : (p : Placed) (ms : List Move) (text : List ℕ) → MovesText p ms text → EndsWord text
moves_end p [] text h = rw h tt
moves_end p (m ∷ ms) text h = rw h.2 refl

one_word : (w rest : List ℕ) → AreWord w → 0 < length w → EndsWord rest → words (w ++ rest) ≡ w ∷ words rest
one_word w rest h some ends =
    words_joined w rest ends ∙ ap (λ x. x ++ words rest) (words_alone w (no_space w h) some)

moves_match : (p : Placed) (ms : List Move) (text : List ℕ) → MovesText p ms text → Match p ms (words text)
moves_match p [] text h = ap words h
moves_match p (m ∷ ms) text h =
    let u = move_word p h.0 m h.3 in
    let e : words text ≡ h.0 ∷ words h.1 = ap words h.2 ∙ one_word h.0 h.1 u.0 u.1 (moves_end (after p m) ms h.1 h.4) in
    (h.0, words h.1, e, h.3, moves_match (after p m) ms h.1 h.4)

-- what follows the start
record AfterIt (p : Placed) (ms : List Move) (text : List ℕ) : Type 0 where
  moves : List (List ℕ)
  has : HasMoves (words text) moves
  match : Match p ms moves
  ends : EndsWord text

moves_word : AreWord (codes "moves")
moves_word = (lit≤ tt, (lit≤ tt, (lit≤ tt, (lit≤ tt, (lit≤ tt, tt)))))

following : (p : Placed) (ms : List Move) (text : List ℕ) → AfterStart p ms text → AfterIt p ms text
following p [] text h = record { moves = []; has = rw h refl; match = refl; ends = rw h tt }
following p (m ∷ ms) text h =
    let e : words text ≡ codes "moves" ∷ words h.0 = ap words h.1 ∙ one_word (codes "moves") h.0 moves_word (lit≤ tt) (moves_end p (m ∷ ms) h.0 h.2) in
    record {
      moves = words h.0;
      has = rw e (refl, refl);
      match = moves_match p (m ∷ ms) h.0 h.2;
      ends = rw h.1 refl;
    }

position_word : AreWord (codes "position")
position_word = (lit≤ tt, (lit≤ tt, (lit≤ tt, (lit≤ tt, (lit≤ tt, (lit≤ tt, (lit≤ tt, (lit≤ tt, tt))))))))

startpos_word : AreWord (codes "startpos")
startpos_word = (lit≤ tt, (lit≤ tt, (lit≤ tt, (lit≤ tt, (lit≤ tt, (lit≤ tt, (lit≤ tt, (lit≤ tt, tt))))))))

sfen_word : AreWord (codes "sfen")
sfen_word = (lit≤ tt, (lit≤ tt, (lit≤ tt, (lit≤ tt, tt))))

number_apart : (m n : ℕ) → m ≡ n → m ≢ n → ⊥
number_apart m n e h = h e

-- no word of an SFEN is moves
letter_no_m : (c : Color) (k : Kind) → color_letter c k ≡ 109 → ⊥
letter_no_m Black Pawn e = number_apart _ 109 e (omega arith)
letter_no_m Black Lance e = number_apart _ 109 e (omega arith)
letter_no_m Black Knight e = number_apart _ 109 e (omega arith)
letter_no_m Black Silver e = number_apart _ 109 e (omega arith)
letter_no_m Black Gold e = number_apart _ 109 e (omega arith)
letter_no_m Black Bishop e = number_apart _ 109 e (omega arith)
letter_no_m Black Rook e = number_apart _ 109 e (omega arith)
letter_no_m Black King e = number_apart _ 109 e (omega arith)
letter_no_m Black ProPawn e = number_apart _ 109 e (omega arith)
letter_no_m Black ProLance e = number_apart _ 109 e (omega arith)
letter_no_m Black ProKnight e = number_apart _ 109 e (omega arith)
letter_no_m Black ProSilver e = number_apart _ 109 e (omega arith)
letter_no_m Black Horse e = number_apart _ 109 e (omega arith)
letter_no_m Black Dragon e = number_apart _ 109 e (omega arith)
letter_no_m White Pawn e = number_apart _ 109 e (omega arith)
letter_no_m White Lance e = number_apart _ 109 e (omega arith)
letter_no_m White Knight e = number_apart _ 109 e (omega arith)
letter_no_m White Silver e = number_apart _ 109 e (omega arith)
letter_no_m White Gold e = number_apart _ 109 e (omega arith)
letter_no_m White Bishop e = number_apart _ 109 e (omega arith)
letter_no_m White Rook e = number_apart _ 109 e (omega arith)
letter_no_m White King e = number_apart _ 109 e (omega arith)
letter_no_m White ProPawn e = number_apart _ 109 e (omega arith)
letter_no_m White ProLance e = number_apart _ 109 e (omega arith)
letter_no_m White ProKnight e = number_apart _ 109 e (omega arith)
letter_no_m White ProSilver e = number_apart _ 109 e (omega arith)
letter_no_m White Horse e = number_apart _ 109 e (omega arith)
letter_no_m White Dragon e = number_apart _ 109 e (omega arith)

count_no_m : (count : Option ℕ) (p : Piece) (x rest : List ℕ) → IsCount count → 109 ∷ rest ≡ count_text count ++ side_letter p ∷ x → ⊥
count_no_m None p x rest h e = let f : side_letter p ≡ 109 = cc in letter_no_m p.color p.kind f
count_no_m (Some n) p x rest h e =
    let k = leads n (109 ∷ rest) (side_letter p ∷ x) h.0 h.1 e in
    let w = k.whole in
    let f : 109 ≡ 48 + k.digit = cc in
    let high = k.high in
    omega arith

hands_no_moves : (piles : List Pile) (text : List ℕ) → SpellsHands text piles → text ≡ codes "moves" → ⊥
hands_no_moves [] text h e = sizes (codes "-") (codes "moves") (sym h ∙ e) (omega arith)
hands_no_moves (p ∷ ps) text h e =
    count_no_m p.count p.piece (flat_map pile_text ps) (111 ∷ 118 ∷ 101 ∷ 115 ∷ []) h.0.0.0
    (sym e ∙ (h.1 ∙ append_assoc (count_text p.count) (side_letter p.piece ∷ []) (flat_map pile_text ps)))

side_no_moves : (c : Color) → side_text c ≡ codes "moves" → ⊥
side_no_moves Black e = sizes (codes "b") (codes "moves") e (omega arith)
side_no_moves White e = sizes (codes "w") (codes "moves") e (omega arith)

board_no_moves : (text : List ℕ) → length (ranks_of text) ≡ 9 → text ≡ codes "moves" → ⊥
board_no_moves text nine e =
    let f : length (ranks_of (codes "moves")) ≡ 9 = subst (λ t. length (ranks_of t) ≡ 9) e nine in
    number_apart 1 9 f (omega arith)

sfen_no_moves : (p : Placed) → IsSound p → AllByRecursion (λ w. w ≢ codes "moves") (words (sfen_text p)) × (0 < length (words (sfen_text p)))
sfen_no_moves p s =
    let e = sfen_words p s in
    rw e (
      (
        board_no_moves (board_text p.material.board) (board_spelt p.material.board).0,
        (
          side_no_moves p.side,
          (
            hands_no_moves (both_piles p) (hands_text (both_piles p)) (hands_spelt (both_piles p) (both_fit p s)),
            ((λ k. sizes (49 ∷ []) (codes "moves") k (omega arith)), tt),
          ),
        ),
      ),
      omega arith,
    )

head_words : (text x rest : List ℕ) → text ≡ codes "position " ++ (x ++ rest) → EndsWord rest → words text ≡ codes "position" ∷ (words x ++ words rest)
head_words text x rest e ends =
    ap words e ∙ (words_front (codes "position") (x ++ rest) (no_space (codes "position") position_word) (lit≤ tt) ∙ ap (λ t. codes "position" ∷ t) (words_joined x rest ends))

sfen_head : (text : List ℕ) → words (codes "sfen " ++ text) ≡ codes "sfen" ∷ words text
sfen_head text = words_front (codes "sfen") text (no_space (codes "sfen") sfen_word) (lit≤ tt)

line_starts : (start : Placed) (moves : List (List ℕ)) (text front rest : List ℕ) → IsSound start → text ≡ codes "position " ++ (front ++ rest) → StartText start front → HasMoves (words rest) moves → EndsWord rest → Starts (words text) start moves
line_starts start moves text front rest s e (inl h) has ends =
    let f = e ∙ ap (λ x. codes "position " ++ (x ++ rest)) h.1 in
    let w : words text ≡ codes "position" ∷ codes "startpos" ∷ words rest =
    head_words text (codes "startpos") rest f ends ∙ ap (λ t. codes "position" ∷ (t ++ words rest)) (words_alone (codes "startpos") (no_space (codes "startpos") startpos_word) (lit≤ tt)) in
    inl ((words rest, w, has), h.0)
line_starts start moves text front rest s e (inr h) has ends =
    let sfen = sfen_text start in
    let none = sfen_no_moves start s in
    let f = e ∙ ap (λ x. codes "position " ++ (x ++ rest)) h.1 in
    let w : words text ≡ codes "position" ∷ codes "sfen" ∷ (words sfen ++ words rest) =
    head_words text (codes "sfen " ++ sfen) rest f ends ∙ ap (λ t. codes "position" ∷ (t ++ words rest)) (sfen_head sfen) in
    inr (words sfen, record { tail = words rest; whole = w; some = none.1; before = none.0; following = has }, again start s)

-- what is written for a line is read back as its start and its moves
pub line_again : (start : Placed) (moves : List Move) (text : List ℕ) → IsSound start → IsGame start moves → length moves ≤ 10000 → LineText start moves text → UsiLine (words text) start moves
line_again start moves text s game few (front, rest, e, begins, follow) =
    let b = following start moves rest follow in (
      b.moves,
      line_starts start b.moves text front rest s e begins b.has b.ends,
      game_plays start [] moves b.moves game few b.match,
    )

-- a line as it is written, piece by piece
pub line_text : (start found : Placed) (moves shown : List Move) (a b text front rest : List ℕ) → found ≡ start → shown ≡ moves → a ≡ codes "position " → b ≡ a ++ front → text ≡ b ++ rest → StartText found front → AfterStart found shown rest → LineText start moves text
line_text start found moves shown a b text front rest same stated first second third begins follows = (
  front,
  rest,
  third ∙ (ap (λ t. t ++ rest) (second ∙ ap (λ t. t ++ front) first) ∙ append_assoc (codes "position ") front rest),
  subst (λ (p : Placed). StartText p front) same begins,
  subst (λ (p : Placed). AfterStart p moves rest) same (subst (λ (ms : List Move). AfterStart found ms rest) stated follows),
)
