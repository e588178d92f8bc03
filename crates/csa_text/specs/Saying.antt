-- What a statement says, apart from where its bytes lie.
use Rattle.std.specs.Prelude.{ℕ, List, Option}
use Rattle.shogi_board.specs.declared.color.Color.{Color}
use Rattle.shogi_board.specs.declared.kind.Piece.{Piece}
use Rattle.shogi_board.specs.declared.moves.Move.{Move}
use Rattle.csa_text.specs.declared.ending.Ending.{Ending}
use Rattle.csa_text.specs.declared.item.Item.{Item}
use Rattle.csa_text.specs.declared.item.Item.TheVariants as items
use Rattle.csa_text.specs.declared.pair.Pair.{Pair}
use Rattle.csa_text.specs.declared.pairs.Pairs.{Pairs}

-- what a statement says
pub data Saying : Type 0 where
  version : Saying
  name : Color → List ℕ → Saying
  header : List ℕ → List ℕ → Saying
  even : List Pair → Saying
  rank : ℕ → List (Option Piece) → Saying
  pieces : Color → List Pair → Saying
  turn : Color → Saying
  walked : Color → Move → Saying
  time : ℕ → Saying
  ending : Ending → Saying

-- the pairs that its bytes spell
abbrev pub pairs_of : Pairs → List Pair
pairs_of p = p.are_pairs.0

abbrev pub saying_of : Item → Saying
saying_of items.Version = version
saying_of (items.Name color text) = name color text.now
saying_of (items.Header key text) = header key.now text.now
saying_of (items.Even pairs) = even (pairs_of pairs)
saying_of (items.Rank number cells) = rank number cells
saying_of (items.Pieces color pairs) = pieces color (pairs_of pairs)
saying_of (items.Turn color) = turn color
saying_of (items.Walked color m) = walked color m
saying_of (items.Time thousandths) = time thousandths
saying_of (items.Ending e) = ending e
