-- The lines that a bridge sends are whole, and their bytes are cut back into them.
use Rattle.std.proofs.Common.{◌≡◌, ℕ, ◌≤◌, ◌++◌, inl, inr, List, [], ◌∷◌, Option, Some, None, codes, decimal, arith, refl, sym, subst, append-nil}
use Rattle.std.specs.List.{AllByRecursion, flat_map}
use Rattle.shogi_board.specs.declared.color.Color.{Color}
use Rattle.shogi_board.specs.declared.color.Color.TheVariants.{Black, White}
use Rattle.shogi_board.specs.declared.kind.Kind.{Kind}
use Rattle.shogi_board.specs.declared.kind.Kind.TheVariants.{Pawn, Lance, Knight, Silver, Gold, Bishop, Rook, King, ProPawn, ProLance, ProKnight, ProSilver, Horse, Dragon}
use Rattle.shogi_board.specs.declared.kind.Piece.{Piece}
use Rattle.shogi_board.specs.Placed.{Placed}
use Rattle.shogi_board.specs.declared.moves.Move.{Move as TheMove}
use Rattle.shogi_board.specs.declared.moves.Move.TheVariants.{Walk, Put}
use Rattle.shogi_board.specs.After.{after}
use Rattle.csa_text.specs.Codes.{move_text}
use Rattle.csa_cutting.specs.Lines.{Lines}
use Rattle.usi_text.proofs.Clean.{board_bytes, side_word}
use Rattle.usi_text.proofs.Spelt.{side_low}
use Rattle.usi_text.specs.Hands.{count_text, pile_text}
use Rattle.usi_text.specs.Letters.{letter, side_letter}
use Rattle.usi_text.specs.LineText.{AfterStart, LineText, MovesText, StartText}
use Rattle.usi_text.specs.Moves.{UsiMove}
use Rattle.usi_text.specs.Sfen.{side_text}
use Rattle.usi_text.specs.SfenText.{both_piles, board_text, hands_text, sfen_text}
use Rattle.session_lines.specs.LineTexts as texts
use Rattle.usi_text.specs.EngineTexts as usi_texts
use Rattle.session_lines.specs.declared.server_words.GameResult.{GameResult}
use Rattle.session_lines.specs.declared.server_words.GameResult.TheVariants.{Win, Lose, Draw, Censored, Chudan}
use Rattle.session_lines.specs.Texts.{text_of, without_last_spaces}
use Rattle.host_and_sample.proofs.WholeLines.{IsVisible, IsWhole, AllWhole, following, both, cut_back, decimal_visible, login_word, move_visible, number, plain_visible, text, stated_run, unspaced_all, visible_more, visible_run, word}
use Rattle.bridge_table.specs.declared.config.Config.{Config}
use Rattle.bridge_table.specs.declared.state.EngineState.{EngineState}
use Rattle.bridge_table.specs.Asking.{Asks, asked, go_line, left, not_asked}
use Rattle.bridge_table.specs.Events.{Event, Out, no_lines}
use Rattle.bridge_table.specs.Row.{Row, TableRow, answer_line, gameover_line, in_table, login_line, unnamed}
use Rattle.bridge_table.specs.Row as row
use Rattle.bridge_table.specs.State.{Match, State}
use Rattle.shogi_session.specs.Configs.{IsConfig}

-- 1. Parts of a position line
letter_visible : (kind : Kind) → 33 ≤ letter kind
letter_visible Pawn = omega arith
letter_visible Lance = omega arith
letter_visible Knight = omega arith
letter_visible Silver = omega arith
letter_visible Gold = omega arith
letter_visible Bishop = omega arith
letter_visible Rook = omega arith
letter_visible King = omega arith
letter_visible ProPawn = omega arith
letter_visible ProLance = omega arith
letter_visible ProKnight = omega arith
letter_visible ProSilver = omega arith
letter_visible Horse = omega arith
letter_visible Dragon = omega arith

each_visible : {X : Type 0} (part : X → List ℕ) (xs : List X) → ((x : X) → IsVisible (part x)) → IsVisible (flat_map part xs)
each_visible part [] h = tt
each_visible part (x ∷ xs) h = visible_more (part x) (flat_map part xs) (h x) (each_visible part xs h)

count_visible : (count : Option ℕ) → IsVisible (count_text count)
count_visible None = tt
count_visible (Some n) = decimal_visible n

pile_visible : (count : Option ℕ) (p : Piece) → IsVisible (count_text count ++ side_letter p ∷ [])
pile_visible count p = visible_more (count_text count) (side_letter p ∷ []) (count_visible count) (omega (arith, side_low p), tt)

-- the type of piles has no name here
hands_visible : (piles : _) → IsVisible (hands_text piles)
hands_visible [] = (omega arith, tt)
hands_visible (p ∷ ps) = each_visible pile_text (p ∷ ps) (λ pile. pile_visible pile.count pile.piece)

sfen_whole : (p : Placed) → IsWhole (sfen_text p)
sfen_whole p =
    let space = stated_run (codes " ") refl in
    let hands = hands_text (both_piles p) in
    let numbered = following hands (codes " 1") (visible_run hands (hands_visible (both_piles p))) (text (codes " 1") refl refl (omega arith)) in
    let with_hands = following (codes " ") (hands ++ codes " 1") space numbered in
    let with_side = following (side_text p.side) _ (visible_run (side_text p.side) (side_word p.side)) with_hands in
    following (board_text p.material.board) _ (visible_run (board_text p.material.board) (board_bytes p.material.board)) (following (codes " ") _ space with_side)

start_whole : (p : Placed) (front : List ℕ) → StartText p front → IsWhole front
start_whole p front (inl even) = subst IsWhole (sym even.1) (text (codes "startpos") refl refl (omega arith))
start_whole p front (inr other) = subst IsWhole (sym other.1) (following (codes "sfen ") (sfen_text p) (stated_run (codes "sfen ") refl) (sfen_whole p))

usi_word : (p : Placed) (m : TheMove) (bytes : List ℕ) → UsiMove p bytes m → IsWhole bytes
usi_word p (Walk from to turned) bytes (mover, at, inl keeps) =
    subst IsWhole (sym keeps.0) (word _ (omega arith) (omega arith, (omega arith, (omega arith, (omega arith, tt)))))
usi_word p (Walk from to turned) bytes (mover, at, inr turns) =
    subst IsWhole (sym turns.0) (word _ (omega arith) (omega arith, (omega arith, (omega arith, (omega arith, (omega arith, tt))))))
usi_word p (Put to dropped) bytes (hand, same) =
    subst IsWhole (sym same) (word _ (omega arith) (letter_visible dropped, (omega arith, (omega arith, (omega arith, tt)))))

moves_whole : (p : Placed) (m : TheMove) (ms : List TheMove) (bytes : List ℕ) → MovesText p (m ∷ ms) bytes → IsWhole bytes
moves_whole p m [] bytes (first, rest, same, spelt, none) =
    let alone : IsWhole (first ++ rest) = subst (λ x. IsWhole (first ++ x)) (sym none) (subst IsWhole (sym (append-nil first)) (usi_word p m first spelt)) in
    subst IsWhole (sym same) (following (codes " ") (first ++ rest) (stated_run (codes " ") refl) alone)
moves_whole p m (n ∷ ns) bytes (first, rest, same, spelt, more) =
    let joined = following first rest (usi_word p m first spelt).run (moves_whole (after p m) n ns rest more) in
    subst IsWhole (sym same) (following (codes " ") (first ++ rest) (stated_run (codes " ") refl) joined)

with_moves : (p : Placed) (ms : List TheMove) (front rest : List ℕ) → IsWhole front → AfterStart p ms rest → IsWhole (front ++ rest)
with_moves p [] front rest whole none = subst (λ x. IsWhole (front ++ x)) (sym none) (subst IsWhole (sym (append-nil front)) whole)
with_moves p (m ∷ ms) front rest whole (stated, same, spelt) =
    following front rest whole.run (subst IsWhole (sym same) (following (codes " moves") stated (stated_run (codes " moves") refl) (moves_whole p m ms stated spelt)))

position_whole : (p : Placed) (ms : List TheMove) (line : List ℕ) → LineText p ms line → IsWhole line
position_whole p ms line (front, rest, same, start, after_start) =
    subst IsWhole (sym same)
    (following (codes "position ") (front ++ rest) (stated_run (codes "position ") refl) (with_moves p ms front rest (start_whole p front start) after_start))

-- 2. The other lines
go_whole : (c : Config) (g : Match) → IsWhole (go_line c g)
go_whole c g =
    let black = decimal (left c g Black) in
    let white = decimal (left c g White) in
    let last = following usi_texts.byoyomi (decimal c.byoyomi_ms) (stated_run usi_texts.byoyomi refl) (number c.byoyomi_ms) in
    let whites = following usi_texts.white_time _ (stated_run usi_texts.white_time refl) (following white _ (number (left c g White)).run last) in
    following usi_texts.go_black_time _ (stated_run usi_texts.go_black_time refl) (following black _ (number (left c g Black)).run whites)

asks_whole : (c : Config) (g : Match) (old : EngineState) (lines : List (List ℕ)) (now : EngineState) → Asks c g old lines now → AllWhole lines
asks_whole c g old lines now a =
    elim a [
      | asked may stated e ↦ rw (stated.whole) (position_whole _ _ stated.position stated.of_game, (go_whole c g, tt))
      | not_asked never none e ↦ rw none tt
    ]

login_whole : (c : Config) → IsConfig c → IsWhole (login_line c)
login_whole c h =
    let password = following texts.space c.password.bytes (stated_run texts.space refl) (login_word c.password.bytes h.password) in
    following texts.login_front _ (stated_run texts.login_front refl) (following c.name.bytes _ (visible_run c.name.bytes (plain_visible c.name.bytes h.name.plain)) password)

move_whole : (color : Color) (m : TheMove) → IsWhole (move_text color m)
move_whole color m = word (move_text color m) (omega arith) (move_visible color m)

gameover_whole : (o : GameResult) → IsWhole (gameover_line o)
gameover_whole Win = text _ refl refl (omega arith)
gameover_whole Lose = text _ refl refl (omega arith)
gameover_whole Draw = text _ refl refl (omega arith)
gameover_whole Censored = text _ refl refl (omega arith)
gameover_whole Chudan = text _ refl refl (omega arith)

-- 3. Each row
abbrev Fits : Out → Type 0
Fits out = AllWhole out.to_engine × AllWhole out.to_server

silent : (out : Out) → out ≡ no_lines → Fits out
silent out e = subst Fits (sym e) (tt, tt)

table_row : (c : Config) (s : State) (e : Event) (out : Out) (t : State) → IsConfig c → TableRow c s e out t → Fits out
table_row c s e out t h r =
    elim r [
      | row.begins a b o n ↦ subst Fits (sym o) ((text usi_texts.usi refl refl (omega arith), tt), tt)
      | row.greeted line a b l o n ↦ subst Fits (sym o) ((text usi_texts.is_ready refl refl (omega arith), tt), tt)
      | row.readied line a b l o n ↦ subst Fits (sym o) (tt, (login_whole c h, tt))
      | row.login_taken line a b l o n ↦ silent out o
      | row.login_refused a b o n ↦ silent out o
      | row.summary_begins a b o n ↦ silent out o
      | row.summary_line lines line k new a b l m q o n ↦ silent out o
      | row.summary_ends k offer a b l o n ↦ subst Fits (sym o) (tt, (text texts.agree refl refl (omega arith), tt))
      | row.summary_fails k a b l o n ↦ silent out o
      | row.started offer line lines now a b l q o n ↦ subst Fits (sym o) ((text usi_texts.new_game refl refl (omega arith), asks_whole c _ _ lines now q), tt)
      | row.rejected offer line a b l o n ↦ silent out o
      | row.engine_moves g line bytes m a b k l q o n ↦ subst Fits (sym o) (tt, (move_whole g.client m, tt))
      | row.engine_resigns g line a b k l o n ↦ subst Fits (sym o) (tt, (text texts.toryo refl refl (omega arith), tt))
      | row.engine_wins g line a b k l o n ↦ subst Fits (sym o) (tt, (text texts.kachi refl refl (omega arith), tt))
      | row.engine_slips g line bytes a b k l q o n ↦ subst Fits (sym o) (tt, (text texts.toryo refl refl (omega arith), tt))
      | row.engine_late line bytes a b k l o n ↦ silent out o
      | row.move_refused p line cause a b l q o n ↦ silent out o
      | row.move_unsent p line color m a b l q k o n ↦ silent out o
      | row.move_confirmed p line color m lines now a b l q k asking o n ↦ subst Fits (sym o) (asks_whole c _ _ lines now asking, tt)
      | row.ending_stated p line kept a b l q o n ↦ silent out o
      | row.reason_stated g f line a b l q o n ↦ silent out o
      | row.result_stated g f line result a b l o n ↦
          subst Fits (sym o) ((gameover_whole result, (text usi_texts.quit refl refl (omega arith), tt)), (text texts.logout refl refl (omega arith), tt))
      | row.closes g f result a b o n ↦ silent out o
      | row.engine_gone a b o n ↦ silent out o
      | row.server_gone a b k o n ↦ silent out o
      | row.line_too_long b o n ↦ silent out o
    ]

any_row : (c : Config) (s : State) (e : Event) (out : Out) (t : State) → IsConfig c → Row c s e out t → Fits out
any_row c s e out t h r =
    elim r [
      | in_table k ↦ table_row c s e out t h k.1
      | unnamed none o n ↦ silent out o
    ]

-- 4. The bytes, cut into lines
pub engine_cut : (c : Config) (s t : State) (e : Event) (out : Out) → IsConfig c → Row c s e out t → Lines (text_of out.to_engine) out.to_engine []
engine_cut c s t e out h r = cut_back [] out.to_engine tt (any_row c s e out t h r).0

pub server_cut : (c : Config) (s t : State) (e : Event) (out : Out) → IsConfig c → Row c s e out t → Lines (text_of out.to_server) out.to_server []
server_cut c s t e out h r = cut_back [] out.to_server tt (any_row c s e out t h r).1

pub all_unspaced : (c : Config) (s t : State) (e : Event) (out : Out) → IsConfig c → Row c s e out t
    → AllByRecursion (λ line. without_last_spaces line ≡ line) (out.to_engine ++ out.to_server)
all_unspaced c s t e out h r =
    let fits = any_row c s e out t h r in
    unspaced_all (out.to_engine ++ out.to_server) (both out.to_engine out.to_server fits.0 fits.1)
