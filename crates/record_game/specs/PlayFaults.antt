-- A fault of playing a move, as the fault of the move's statement.
use Rattle.shogi_rules.specs.declared.line.PlayFault.{PlayFault}
use Rattle.shogi_rules.specs.declared.line.PlayFault.TheVariants as playing
use Rattle.record_game.specs.declared.fault.OrderFault.TheVariants.{TooManyMoves}
use Rattle.record_game.specs.declared.fault.Why.{Why}
use Rattle.record_game.specs.declared.fault.Why.TheVariants.{Order, Rule, OutOfMemory}

abbrev pub why_of : PlayFault → Why
why_of playing.TooManyMoves = Order TooManyMoves
why_of (playing.Broken rule) = Rule rule
why_of playing.OutOfMemory = OutOfMemory
