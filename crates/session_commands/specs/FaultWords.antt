-- The words of a fault, in the last line of a log. They are those in which the fault is printed.
use Rattle.std.specs.Prelude.{ℕ, List, codes}
use Rattle.bridge_table.specs.declared.fault.SessionFault.{SessionFault}
use Rattle.bridge_table.specs.declared.fault.SessionFault.TheVariants as session
use Rattle.csa_text.specs.declared.fault.TextFault.{TextFault}
use Rattle.csa_text.specs.declared.fault.TextFault.TheVariants as text
use Rattle.record_game.specs.declared.fault.OrderFault.{OrderFault}
use Rattle.record_game.specs.declared.fault.OrderFault.TheVariants as order
use Rattle.record_game.specs.declared.fault.Why.{Why}
use Rattle.record_game.specs.declared.fault.Why.TheVariants as why
use Rattle.session_setup.specs.declared.fault.MatchFault.{MatchFault}
use Rattle.session_setup.specs.declared.fault.MatchFault.TheVariants as game
use Rattle.shogi_board.specs.declared.rule.Rule.{Rule}
use Rattle.shogi_board.specs.declared.rule.Rule.TheVariants as rule
use Rattle.shogi_board.specs.declared.setup.SetupFault.{SetupFault}
use Rattle.shogi_board.specs.declared.setup.SetupFault.TheVariants as setup

abbrev pub rule_words : Rule → List ℕ
rule_words rule.WrongSide = codes "rule 1 WrongSide"
rule_words rule.RepetitionOver = codes "rule 2 RepetitionOver"
rule_words rule.NoPiece = codes "rule 3 NoPiece"
rule_words rule.WrongKind = codes "rule 4 WrongKind"
rule_words rule.Occupied = codes "rule 5 Occupied"
rule_words rule.CannotReach = codes "rule 6 CannotReach"
rule_words rule.BadPromotion = codes "rule 7 BadPromotion"
rule_words rule.MustPromote = codes "rule 8 MustPromote"
rule_words rule.DoubledPawn = codes "rule 9 DoubledPawn"
rule_words rule.LeavesKing = codes "rule 10 LeavesKing"
rule_words rule.PawnDropMate = codes "rule 11 PawnDropMate"

abbrev pub text_words : TextFault → List ℕ
text_words text.StatementTooLong = codes "C1 StatementTooLong"
text_words text.BadVersion = codes "C2 BadVersion"
text_words text.BadHeader = codes "C3 BadHeader"
text_words text.BadPosition = codes "C4 BadPosition"
text_words text.BadMove = codes "C5 BadMove"
text_words text.BadTime = codes "C6 BadTime"
text_words text.UnknownEnding = codes "C7 UnknownEnding"
text_words text.Unknown = codes "C8 Unknown"

abbrev pub order_words : OrderFault → List ℕ
order_words order.VersionOutOfPlace = codes "G1 VersionOutOfPlace"
order_words order.RepeatedName = codes "G2 RepeatedName"
order_words order.RepeatedHeader = codes "G3 RepeatedHeader"
order_words order.TooManyHeaders = codes "G4 TooManyHeaders"
order_words order.MixedStart = codes "G5 MixedStart"
order_words order.PositionLate = codes "G6 PositionLate"
order_words order.MoveBeforeTurn = codes "G7 MoveBeforeTurn"
order_words order.RepeatedTurn = codes "G8 RepeatedTurn"
order_words order.LooseTime = codes "G9 LooseTime"
order_words order.AfterEnding = codes "G10 AfterEnding"
order_words order.TooManyMoves = codes "G11 TooManyMoves"
order_words order.MissingTurn = codes "G12 MissingTurn"

abbrev pub setup_words : SetupFault → List ℕ
setup_words setup.SquareTaken = codes "S1 SquareTaken"
setup_words setup.TooMany = codes "S2 TooMany"
setup_words setup.SecondKing = codes "S3 SecondKing"
setup_words setup.NotForHand = codes "S4 NotForHand"
setup_words setup.NotThere = codes "S5 NotThere"
setup_words setup.OpponentInCheck = codes "S6 OpponentInCheck"
setup_words setup.AfterRest = codes "S7 AfterRest"

abbrev pub why_words : Why → List ℕ
why_words (why.Text fault) = text_words fault
why_words (why.Order fault) = order_words fault
why_words (why.Start fault) = setup_words fault
why_words (why.Rule rule) = rule_words rule
why_words why.OutOfMemory = codes "out of memory"
why_words why.Failed = codes "failed"

abbrev pub session_words : SessionFault → List ℕ
session_words session.LoginRefused = codes "B1 LoginRefused"
session_words session.Rejected = codes "B2 Rejected"
session_words session.BadSummary = codes "B3 BadSummary"
session_words (session.BadServerMove cause) = codes "B4 BadServerMove"
session_words session.EngineGone = codes "B5 EngineGone"
session_words session.ServerGone = codes "B6 ServerGone"
session_words session.LineTooLong = codes "B7 LineTooLong"

abbrev pub match_words : MatchFault → List ℕ
match_words (game.Session fault) = session_words fault
match_words game.Endless = codes "read fault"
match_words game.Write = codes "write fault"
match_words game.OutOfMemory = codes "out of memory"
