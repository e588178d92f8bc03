-- What a call returns if an item has this fault, memory aside, or none.
use Rattle.std.specs.Prelude.{◌≡◌, Option, Some, None, Result, Ok, Err}
use Rattle.record_game.specs.declared.fault.Why.{Why}
use Rattle.record_game.specs.declared.fault.Why.TheVariants.{OutOfMemory}

-- the fault, whatever memory there is; lack of memory only if there is no fault
abbrev pub IsAnswer : Option Why → Result (Unit {0}) Why → Type 0
IsAnswer None (Ok u) = Unit {0}
IsAnswer None (Err why) = why ≡ OutOfMemory
IsAnswer (Some fault) (Ok u) = ⊥
IsAnswer (Some fault) (Err why) = why ≡ fault
