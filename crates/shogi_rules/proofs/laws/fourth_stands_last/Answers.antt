use Rattle.shogi_rules.proofs.Games.{game-fourth, game-last}
use Rattle.shogi_rules.proofs.laws.fourth_stands_last.Goals as goal

pub returns : goal.returns
returns c = record {
  last = λ line p game over. game-last line.start line.moves game p over;
  place = λ line game over. game-fourth line.start line.moves game over;
}
