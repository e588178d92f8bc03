-- For private functions of `csa_record`: what taking the next item comes to.
-- A reader of the public contracts may skip this file.
use Rattle.std.specs.Prelude.{List, [], ◌∷◌, ◌++◌, Option, Result, OnOk, ◌≡◌, Ok, Err}
use Rattle.csa_text.specs.Saying.{Saying}
use Rattle.record_game.specs.declared.fault.Why.{Why}
use Rattle.record_game.specs.Answer.{IsAnswer}
use Rattle.record_game.specs.Refused.{AnswersItem}
use Rattle.record_game.specs.Keeping.{Kept, HasKept}
use Rattle.shogi_board.specs.declared.setup.SetupFault.{SetupFault}
use Rattle.shogi_board.specs.Layout.{Layout}
use Rattle.shogi_board.specs.Placing.{Placing, place_all}
use Rattle.record_game.specs.Laying.{Laid, Lays}

-- the next item was taken, or refused for the first fault that it has after the items before it
abbrev pub TakenOrRefused : List Saying → Saying → Result (Unit {0}) Why → Kept → Type 0
TakenOrRefused before s result new =
    (answer : Option Why) × AnswersItem before s answer × IsAnswer answer result
    × OnOk result (HasKept (before ++ s ∷ []) new)

-- the next item was taken, or refused for the first fault that it has after the items before it
abbrev pub LaidOrRefused : List Saying → Saying → Result (Unit {0}) Why → Laid → Type 0
LaidOrRefused before s result new =
    (answer : Option Why) × AnswersItem before s answer × IsAnswer answer result
    × OnOk result (Lays (before ++ s ∷ []) new)

-- all of these are placed, or the fault is that of the first that cannot be
abbrev pub Places : Layout → List Placing → Result (Unit {0}) SetupFault → Layout → Type 0
Places old ps (Ok u) new = place_all old ps ≡ Ok new
Places old ps (Err fault) new = place_all old ps ≡ Err fault
