-- What is answered of a record that arrives in pieces.
use Rattle.std.specs.Prelude.{◌≡◌, ℕ, List, [], ◌∷◌, ◌++◌, Result, Ok, Err}
use Rattle.record_game.specs.declared.fault.Refusal.{Refusal}
use Rattle.record_game.specs.Game.{Game}
use Rattle.record_game.specs.Refused.{Refused}
use Rattle.record_game.specs.Tells.{Tells}

-- the bytes of all pieces
abbrev pub joined : List (List ℕ) → List ℕ
joined [] = []
joined (piece ∷ pieces) = piece ++ joined pieces

-- what a reader returns that is fed these pieces one after another (contract of
-- `csa_record::read_pieces`): the game; the refusal of a piece, which is that of the bytes so far,
-- whatever follows; or the refusal at the end. Memory is not considered
pub data ReadsPieces (pieces : List (List ℕ)) : Result Game Refusal → Type 0 where
  accepted : (g : Game) → Tells (joined pieces) g → ReadsPieces pieces (Ok g)
  refused : (front : List (List ℕ)) (piece : List ℕ) (others : List (List ℕ)) (r : Refusal)
      → pieces ≡ front ++ piece ∷ others
      → ((more : List ℕ) → Refused ((joined front ++ piece) ++ more) r.number r.offset r.why)
      → ReadsPieces pieces (Err r)
  refused_at_end : (r : Refusal) → Refused (joined pieces) r.number r.offset r.why
      → ReadsPieces pieces (Err r)
