use Rattle.bridge_table.proofs.LogGames.{game_so_far, none_stated, game_once, no_headers_stated, fault_stated, lost_stated}
use Rattle.bridge_table.proofs.laws.game_so_far.Goals as goal

pub returns-clause-log : goal.returns-clause-log
returns-clause-log c = game_so_far

pub returns-clause-none : goal.returns-clause-none
returns-clause-none c = none_stated

pub returns-clause-once : goal.returns-clause-once
returns-clause-once c = game_once

pub returns-clause-no_headers : goal.returns-clause-no_headers
returns-clause-no_headers c = no_headers_stated

pub returns-clause-fault : goal.returns-clause-fault
returns-clause-fault c = fault_stated

pub returns-clause-lost : goal.returns-clause-lost
returns-clause-lost c = lost_stated
