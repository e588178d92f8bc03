-- What playing a move returns after the order faults.
use Rattle.std.proofs.Common.{◌≡◌, Option, Some, Err, refl}
use Rattle.shogi_board.specs.declared.color.Color.{Color}
use Rattle.shogi_board.specs.declared.moves.Move.{Move}
use Rattle.record_game.specs.declared.fault.OrderFault.{OrderFault}
use Rattle.record_game.specs.declared.fault.Why.{Why}
use Rattle.record_game.specs.declared.fault.Why.TheVariants.{Order}
use Rattle.record_game.specs.Answer.{IsAnswer}
use Rattle.record_game.specs.Course.{Course, play_fault, PlayAnswers, PlayAnswersAfter}

pub after : (fault : Option OrderFault) (c : Course) (color : Color) (m : Move) (answer : Option Why) → play_fault c ≡ fault → PlayAnswersAfter fault c color m answer → PlayAnswers c color m answer
after fault c color m answer is h = rw is h

pub answer_fault : (c : Course) (color : Color) (m : Move) (fault : OrderFault) → play_fault c ≡ Some fault → (answer : Option Why) × PlayAnswers c color m answer × IsAnswer answer (Err (Order fault))
answer_fault c color m fault is = (Some (Order fault), after (Some fault) c color m (Some (Order fault)) is refl, refl)
