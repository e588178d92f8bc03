-- The position line that is written for a start and moves.
use Rattle.std.specs.Prelude.{◌≡◌, ◌≢◌, ℕ, ◌⊎◌, List, [], ◌∷◌, ◌++◌, codes}
use Rattle.shogi_board.specs.Placed.{Placed, even_start}
use Rattle.shogi_board.specs.declared.moves.Move.{Move}
use Rattle.shogi_board.specs.After.{after}
use Rattle.usi_text.specs.EngineTexts as texts
use Rattle.usi_text.specs.Moves.{UsiMove}
use Rattle.usi_text.specs.SfenText.{sfen_text}

-- startpos exactly if the start is the even one with black to move, else its SFEN
abbrev pub StartText : Placed → List ℕ → Type 0
StartText p text =
    ((p ≡ even_start) × (text ≡ codes "startpos"))
    ⊎ ((p ≢ even_start) × (text ≡ codes "sfen " ++ sfen_text p))

-- a space and the move's text in the position that it is played in, for each move
abbrev pub MovesText : Placed → List Move → List ℕ → Type 0
MovesText p [] text = text ≡ []
MovesText p (m ∷ ms) text =
    (word : List ℕ) × (rest : List ℕ) × (text ≡ codes " " ++ (word ++ rest)) × UsiMove p word m
    × MovesText (after p m) ms rest

-- the word moves only if there are moves
abbrev pub AfterStart : Placed → List Move → List ℕ → Type 0
AfterStart p [] text = text ≡ []
AfterStart p (m ∷ ms) text = (rest : List ℕ) × (text ≡ codes " moves" ++ rest)
    × MovesText p (m ∷ ms) rest

abbrev pub LineText : Placed → List Move → List ℕ → Type 0
LineText start moves text =
    (front : List ℕ) × (rest : List ℕ) × (text ≡ texts.position_front ++ (front ++ rest))
    × StartText start front × AfterStart start moves rest
