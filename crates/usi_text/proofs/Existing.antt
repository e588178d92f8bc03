-- All words have an answer: they give a position or a line, or they have a first fault.
use Rattle.std.proofs.Common.{◌≡◌, ℕ, ◌+◌, ◌<◌, inl, inr, List, [], ◌∷◌, ◌++◌, Option, Some, None, Result, Ok, Err, length, refl, subst}
use Rattle.std.proofs.lemmas.Bool.{cases_lt}
use Rattle.shogi_board.specs.declared.color.Color.{Color}
use Rattle.shogi_board.specs.declared.kind.Piece.{Piece}
use Rattle.shogi_board.specs.declared.setup.SetupFault.{SetupFault}
use Rattle.shogi_board.specs.declared.setup.SetupFault.TheVariants.{OpponentInCheck}
use Rattle.shogi_board.specs.Layout.{Layout}
use Rattle.shogi_board.specs.Pieces.{opponent}
use Rattle.shogi_board.specs.Placed.{Placed, even_start}
use Rattle.shogi_board.specs.Reach.{InCheck}
use Rattle.shogi_board.specs.Setup.{position_of}
use Rattle.shogi_rules.specs.Positions.{max_moves, line_of}
use Rattle.shogi_rules.specs.Rules.{Kept}
use Rattle.shogi_board.specs.Rules.{all_rules, IsFirstBroken}
use Rattle.shogi_board.specs.declared.moves.Move.{Move}
use Rattle.shogi_board.specs.declared.rule.Rule.{Rule}
use Rattle.usi_text.specs.Hands.{Pile}
use Rattle.usi_text.specs.declared.fault.SfenFault.{SfenFault}
use Rattle.usi_text.specs.declared.fault.SfenFault.TheVariants.{BadBoard, BadSide, BadHands, BadNumber, Start}
use Rattle.usi_text.specs.declared.fault.UsiFault.{UsiFault}
use Rattle.usi_text.specs.declared.fault.UsiFault.TheVariants.{BadLine, BadMoveText, Broken, TooManyMoves, OutOfMemory}
use Rattle.usi_text.specs.declared.fault.UsiFault.TheVariants as usi
use Rattle.usi_text.specs.Lines.{EvenLine, SfenLine, Starts, IsPlayed, WordFault, Plays, UsiLine, LineFault, position_now}
use Rattle.usi_text.specs.Moves.{UsiMove}
use Rattle.usi_text.specs.Setting.{set_up, Finishes}
use Rattle.usi_text.specs.Sfen.{Shape, Sfen, FirstFault}
use Rattle.usi_text.proofs.LineOnce.{Breaking}
use Rattle.usi_text.proofs.Played.{OfWord, fault_of_line}

abbrev Words : Type 0
Words = List (List ℕ)

abbrev NoSfen : Words → Type 0
NoSfen ws = (p : Placed) → Sfen ws p → ⊥

abbrev NoSfenFault : Words → Type 0
NoSfenFault ws = (fault : SfenFault) → FirstFault ws fault → ⊥

finished : (ws : Words) (cells : List (Option Piece)) (side : Color) (piles : List Pile) (set : Result Layout SetupFault)
    → set ≡ set_up cells piles → Shape ws cells side piles → NoSfen ws → NoSfenFault ws → ⊥
finished ws cells side piles (Err fault) e shape none sound =
    sound (Start fault) (cells, side, piles, shape, subst (λ r. Finishes r side (Err fault)) e refl)
finished ws cells side piles (Ok s) e shape none sound =
    let safe : InCheck s.material.board (opponent side) → ⊥ = λ check. sound (Start OpponentInCheck) (cells, side, piles, shape, subst (λ r. Finishes r side (Err OpponentInCheck)) e (check, refl)) in
    none (position_of s side) (record {
      cells = cells;
      piles = piles;
      shape = shape;
      stands = subst (λ r. Finishes r side (Ok (position_of s side))) e (safe, refl);
    })

pub sfen_some : (ws : Words) → NoSfen ws → NoSfenFault ws → ⊥
sfen_some ws none sound =
    sound BadBoard (λ board. sound BadSide (
      board,
      λ side. sound BadHands (
        board,
        side,
        λ hands. sound BadNumber (
          board,
          side,
          hands,
          λ number.
              finished ws board.0 side.0 hands.0 (set_up board.0 hands.0) refl (record { board = board.1; turn = side.1; hands = hands.1; number = number }) none sound,
        ),
      ),
    ))

broken_some : (kept : Rule → Type 0) (rules : List Rule) → ((broken : Option Rule) → IsFirstBroken kept rules broken → ⊥) → ⊥
broken_some kept [] none = none None refl
broken_some kept (rule ∷ rules) none =
    none (Some rule) (inl (λ k. broken_some kept rules (λ broken h. none broken (inr (k, h))), refl))

-- the word is no move that is played, or it has no fault
abbrev NotPlayed : Placed → List Move → List ℕ → Type 0
NotPlayed start before w = (m : Move) → IsPlayed start before w m → ⊥

abbrev NoWordFault : Placed → List Move → List ℕ → Type 0
NoWordFault start before w = (fault : UsiFault) → WordFault start before w fault → ⊥

judged : (start : Placed) (before : List Move) (w : List ℕ) (m : Move) (broken : Option Rule) → length before < max_moves → UsiMove (position_now start before) w m
    → Breaking start before m broken → NotPlayed start before w → NoWordFault start before w → ⊥
judged start before w m None few spelt h none sound = none m (spelt, (few, h))
judged start before w m (Some rule) few spelt h none sound = sound (Broken (length before + 1) rule) (refl, m, spelt, (few, h))

spelt_some : (start : Placed) (before : List Move) (w : List ℕ) (m : Move) → length before < max_moves → UsiMove (position_now start before) w m → NotPlayed start before w → NoWordFault start before w → ⊥
spelt_some start before w m few spelt none sound =
    let line = line_of start before in
    broken_some (Kept line (position_now start before).side m) all_rules (λ broken h. judged start before w m broken few spelt h none sound)

word_some : (start : Placed) (before : List Move) (w : List ℕ) → NotPlayed start before w → NoWordFault start before w → ⊥
word_some start before w none sound =
    elim (cases_lt (length before) max_moves) [
      | inl few ↦ sound (BadMoveText (length before + 1)) (refl, few, λ m spelt. spelt_some start before w m few spelt none sound)
      | inr full ↦ sound TooManyMoves full
    ]

plays_some : (start : Placed) (before : List Move) (ws : Words) → ((moves : List Move) → Plays start before ws (Ok moves) → ⊥)
    → ((fault : UsiFault) → OfWord start fault → Plays start before ws (Err fault) → ⊥) → ⊥
plays_some start before [] none sound = none before refl
plays_some start before (w ∷ ws) none sound =
    word_some start before w
    (λ m played. plays_some start (before ++ m ∷ []) ws (λ moves h. none moves (inr (m, played, h))) (λ fault of h. sound fault of (inr (m, played, h))))
    (λ fault h. sound fault (before, w, h) (inl (fault, h, refl)))

abbrev NoLine : Words → Type 0
NoLine ws = (start : Placed) (moves : List Move) → UsiLine ws start moves → ⊥

abbrev NoLineFault : Words → Type 0
NoLineFault ws = (fault : UsiFault) → LineFault ws fault → ⊥

started_some : (ws : Words) (start : Placed) (words : Words) → Starts ws start words → NoLine ws → NoLineFault ws → ⊥
started_some ws start words s none sound =
    plays_some start [] words (λ moves h. none start moves (words, s, h)) (λ fault of h. sound fault (fault_of_line ws start words fault s of h))

pub line_some : (ws : Words) → NoLine ws → NoLineFault ws → ⊥
line_some ws none sound =
    let even : (moves : Words) → EvenLine ws moves → ⊥ = λ moves line. started_some ws even_start moves (inl (line, refl)) none sound in
    let by_sfen : (sfen moves : Words) → SfenLine ws sfen moves → ⊥ = λ sfen moves line. sfen_some sfen (λ p s. started_some ws p moves (inr (sfen, line, s)) none sound) (λ fault f. sound (usi.Sfen fault) (sfen, moves, line, f)) in
    sound BadLine (even, by_sfen)
