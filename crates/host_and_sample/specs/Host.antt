-- The table of a host, which plays the even start with black to move.
use Rattle.std.specs.Prelude.{◌≡◌, ◌≢◌, ℕ, ◌≤◌, ◌<◌, ◌++◌, ◌⊎◌, true, List, [], ◌∷◌, length, Option, Some, None, decimal, if◌then◌else◌}
use Rattle.std.specs.List.{AllByRecursion}
use Rattle.shogi_board.specs.declared.color.Color.{Color}
use Rattle.shogi_board.specs.declared.color.Color.TheVariants.{Black, White}
use Rattle.shogi_board.specs.Pieces.{same_color}
use Rattle.shogi_board.specs.Placed.{even_start}
use Rattle.shogi_rules.specs.declared.line.Verdict.TheVariants as verdict
use Rattle.shogi_board.specs.declared.moves.Move.{Move}
use Rattle.shogi_rules.specs.Order.{IsFirstLegal}
use Rattle.shogi_rules.specs.Play.{Answers}
use Rattle.shogi_rules.specs.Positions.{Played, now_of, max_moves}
use Rattle.shogi_rules.specs.Positions.{Over}
use Rattle.shogi_rules.specs.Verdicts.{NoLegalMove, Stands}
use Rattle.csa_text.specs.Codes.{sign, move_text}
use Rattle.usi_text.specs.Words.{words, nth_word}
use Rattle.host_and_sample.specs.declared.config.HostConfig.{HostConfig}
use Rattle.host_and_sample.specs.declared.outcome.Outcome.{Outcome}
use Rattle.host_and_sample.specs.declared.outcome.Outcome.TheVariants.{Repetition, Perpetual, MaxMoves}
use Rattle.session_lines.specs.LineTexts as texts
use Rattle.session_lines.specs.MoveLines.{is_move_line, TellsMove}
use Rattle.session_lines.specs.Texts.{with_time}

pub data HostState : Type 0 where
  -- before login
  waiting : HostState
  -- after the summary, sent to a client of this name
  offered : List ℕ → HostState
  -- after these moves, with the client to move
  playing : Played → HostState
  -- after a result
  decided : HostState
  ended : HostState

-- 1. Login and summary
-- 1 to 32 bytes from 0x21 to 0x7E
pub record IsLoginWord (word : List ℕ) : Type 0 where
  pub some : 1 ≤ length word
  pub short : length word ≤ 32
  pub plain : AllByRecursion (λ b. (0x21 ≤ b) × (b ≤ 0x7E)) word

-- what callers must give for a host's game
pub record IsHostConfig (c : HostConfig) : Type 0 where
  pub some_moves : 1 ≤ c.max_moves
  pub few_moves : c.max_moves ≤ max_moves
  pub id : IsLoginWord c.id.bytes
  pub name : IsLoginWord c.name.bytes

-- `LOGIN n p`
pub record IsLogin (line n p : List ℕ) : Type 0 where
  pub words_are : words line ≡ texts.login ∷ n ∷ p ∷ []
  pub name : IsLoginWord n
  pub password : IsLoginWord p

-- the word alone or followed by one more
abbrev pub IsWordAndOne : List ℕ → List ℕ → Type 0
IsWordAndOne line word = (words line ≡ word ∷ []) ⊎ ((w : List ℕ) × (words line ≡ word ∷ w ∷ []))

-- the client's name for its side, the host's for the other
abbrev pub name_for : HostConfig → List ℕ → Color → List ℕ
name_for c n color = if same_color color c.client then n else c.name.bytes

abbrev pub summary_lines : HostConfig → List ℕ → List (List ℕ)
summary_lines c n =
    texts.begin_summary
    ∷ (texts.game_id ++ c.id.bytes)
    ∷ (texts.black_name ++ name_for c n Black)
    ∷ (texts.white_name ++ name_for c n White)
    ∷ (texts.your_turn ++ sign c.client ∷ [])
    ∷ texts.black_to_move
    ∷ (texts.most_moves ++ decimal c.max_moves)
    ∷ texts.begin_position
    ∷ texts.even_start
    ∷ texts.black
    ∷ texts.end_position
    ∷ texts.end_summary
    ∷ []

-- 2. Moves and results
-- the game with one move more
abbrev pub with_move : Played → Move → Played
with_move g m = record g { moves = g.moves ++ m ∷ [] }

-- the line of the move, with its time
abbrev pub moved_line : Played → Move → ℕ → List ℕ
moved_line g m seconds = with_time (move_text (now_of g).side m) seconds

-- after a move: what ends the game, or nothing, and it goes on
abbrev pub AfterMove : HostConfig → Played → Option Outcome → Type 0
AfterMove c g (Some Repetition) = Stands g verdict.Repetition
AfterMove c g (Some (Perpetual loser)) = Stands g (verdict.Perpetual loser)
AfterMove c g (Some MaxMoves) = (Over g → ⊥) × (c.max_moves ≤ length g.moves)
AfterMove c g None = (Over g → ⊥) × (length g.moves < c.max_moves)

-- the reason, and the result for the client
abbrev pub outcome_lines : HostConfig → Outcome → List (List ℕ)
outcome_lines c Repetition = texts.sennichite ∷ texts.draw ∷ []
outcome_lines c (Perpetual loser) =
    texts.oute_sennichite ∷ (if same_color loser c.client then texts.lose else texts.win) ∷ []
outcome_lines c MaxMoves = texts.max_moves ∷ texts.censored ∷ []

-- the host's move is the first legal one; without one it resigns
pub data HostMoves (c : HostConfig)
    (g : Played) (lines : List (List ℕ)) (t : HostState) : Type 0 where
  moves : (m : Move)
      → IsFirstLegal (now_of g) m → AfterMove c (with_move g m) None
      → lines ≡ moved_line g m 0 ∷ [] → t ≡ playing (with_move g m)
      → HostMoves c g lines t
  moves_last : (m : Move) (outcome : Outcome)
      → IsFirstLegal (now_of g) m → AfterMove c (with_move g m) (Some outcome)
      → lines ≡ moved_line g m 0 ∷ outcome_lines c outcome → t ≡ decided
      → HostMoves c g lines t
  resigns :
      NoLegalMove (now_of g)
      → lines ≡ with_time texts.toryo 0 ∷ texts.resign ∷ texts.win ∷ [] → t ≡ decided
      → HostMoves c g lines t

-- the client's line is a move that may be played
abbrev pub IsGoodMove : Played → List ℕ → Move → Type 0
IsGoodMove g line m = (color : Color) × TellsMove line color m × Answers g color m None

-- 3. The table, for a line without the spaces at its end
pub data BeforeLogin (c : HostConfig)
    (line : List ℕ) (lines : List (List ℕ)) (t : HostState) : Type 0 where
  logs_in : (n p : List ℕ)
      → IsLogin line n p
      → lines ≡ (texts.login_answer ++ (n ++ texts.ok)) ∷ summary_lines c n → t ≡ offered n
      → BeforeLogin c line lines t
  login_incorrect :
      nth_word (words line) 0 ≡ texts.login → ((n p : List ℕ) → IsLogin line n p → ⊥)
      → lines ≡ texts.login_incorrect ∷ [] → t ≡ waiting
      → BeforeLogin c line lines t

abbrev pub even_game : Played
even_game = record { start = even_start; moves = [] }

pub data AfterSummary (c : HostConfig)
    (n line : List ℕ) (lines : List (List ℕ)) (t : HostState) : Type 0 where
  agrees :
      IsWordAndOne line texts.agree → c.client ≡ Black
      → lines ≡ (texts.start ++ c.id.bytes) ∷ [] → t ≡ playing even_game
      → AfterSummary c n line lines t
  agrees_host_first : (more : List (List ℕ))
      → IsWordAndOne line texts.agree → c.client ≡ White → HostMoves c even_game more t
      → lines ≡ (texts.start ++ c.id.bytes) ∷ more
      → AfterSummary c n line lines t
  rejects :
      IsWordAndOne line texts.reject
      → lines ≡ (texts.rejected ++ (c.id.bytes ++ (texts.by ++ n))) ∷ [] → t ≡ ended
      → AfterSummary c n line lines t

pub data InPlay (c : HostConfig) (g : Played)
    (line : List ℕ) (seconds : ℕ) (lines : List (List ℕ)) (t : HostState) : Type 0 where
  client_moves : (m : Move) (more : List (List ℕ))
      → is_move_line line ≡ true → IsGoodMove g line m
      → AfterMove c (with_move g m) None → HostMoves c (with_move g m) more t
      → lines ≡ moved_line g m seconds ∷ more
      → InPlay c g line seconds lines t
  client_moves_last : (m : Move) (outcome : Outcome)
      → is_move_line line ≡ true → IsGoodMove g line m
      → AfterMove c (with_move g m) (Some outcome)
      → lines ≡ moved_line g m seconds ∷ outcome_lines c outcome → t ≡ decided
      → InPlay c g line seconds lines t
  client_errs :
      is_move_line line ≡ true → ((m : Move) → IsGoodMove g line m → ⊥)
      → lines ≡ texts.illegal_move ∷ texts.lose ∷ [] → t ≡ decided
      → InPlay c g line seconds lines t
  client_resigns :
      line ≡ texts.toryo
      → lines ≡ with_time texts.toryo seconds ∷ texts.resign ∷ texts.lose ∷ [] → t ≡ decided
      → InPlay c g line seconds lines t
  -- declarations are not judged
  client_declares :
      line ≡ texts.kachi
      → lines ≡ with_time texts.kachi seconds ∷ texts.jishogi ∷ texts.win ∷ [] → t ≡ decided
      → InPlay c g line seconds lines t

pub data HostTableRow (c : HostConfig) (s : HostState)
    (line : List ℕ) (seconds : ℕ) (lines : List (List ℕ)) (t : HostState) : Type 0 where
  before_login : s ≡ waiting → BeforeLogin c line lines t → HostTableRow c s line seconds lines t
  after_summary : (n : List ℕ) → s ≡ offered n
      → AfterSummary c n line lines t → HostTableRow c s line seconds lines t
  in_play : (g : Played) → s ≡ playing g
      → InPlay c g line seconds lines t → HostTableRow c s line seconds lines t
  logs_out :
      s ≢ ended → line ≡ texts.logout
      → lines ≡ texts.logout_completed ∷ [] → t ≡ ended
      → HostTableRow c s line seconds lines t

-- no row applies to the line
abbrev pub HasNoHostRow : HostConfig → HostState → List ℕ → ℕ → Type 0
HasNoHostRow c s line seconds =
    (lines : List (List ℕ)) (t : HostState) → HostTableRow c s line seconds lines t → ⊥

-- a row of the table; or no row applies to the line, and it is skipped
pub data HostRow (c : HostConfig) (s : HostState)
    (line : List ℕ) (seconds : ℕ) (lines : List (List ℕ)) (t : HostState) : Type 0 where
  in_table : HostTableRow c s line seconds lines t → HostRow c s line seconds lines t
  skipped : HasNoHostRow c s line seconds → lines ≡ [] → t ≡ s → HostRow c s line seconds lines t
