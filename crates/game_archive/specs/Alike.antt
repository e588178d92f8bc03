-- When two entries of an archive are alike.
use Rattle.std.specs.Prelude.{◌≡◌, ◌<◌, ℕ, List, map, Result, Ok, Err, ⊤}
use Rattle.csa_record.specs.declared.flow.FlowFault.{FlowFault}
use Rattle.csa_record.specs.declared.flow.FlowFault.TheVariants as flow
use Rattle.record_game.specs.declared.likeness.Likeness.{Likeness}
use Rattle.record_game.specs.declared.likeness.Likeness.TheVariants as likeness
use Rattle.record_game.specs.Game.{Game, move_of}
use Rattle.record_game.specs.Refused.{Refused}
use Rattle.record_game.specs.Tells.{Tells}

-- what a reading of these bytes may come to: the game that they contain, or why they are refused;
-- or it fails, or there is no memory
abbrev pub ReadsAs : List ℕ → Result Game FlowFault → Type 0
ReadsAs bytes (Ok g) = Tells bytes g
ReadsAs bytes (Err (flow.Refused r)) = Refused bytes r.number r.offset r.why
ReadsAs bytes (Err flow.ReadFault) = ⊤
ReadsAs bytes (Err flow.WriteFault) = ⊤
ReadsAs bytes (Err flow.OutOfMemory) = ⊤

-- each time that the entry is read, it gives these bytes
abbrev pub GivesOnly : (Result Game FlowFault → Type 0) → List ℕ → Type 0
GivesOnly Reads bytes = (result : Result Game FlowFault) → Reads result → ReadsAs bytes result

-- each entry gives its bytes, each time that it is read
abbrev pub GiveBytes : ℕ → (ℕ → Result Game FlowFault → Type 0) → (ℕ → List ℕ) → Type 0
GiveBytes size Reads bytes = (i : ℕ) → i < size → GivesOnly (Reads i) (bytes i)

-- both contain one game, or games with one start and the same moves
abbrev pub AreAlike : Likeness → List ℕ → List ℕ → Type 0
AreAlike likeness.Game one other = (g : Game) × Tells one g × Tells other g
AreAlike likeness.Moves one other = (g : Game) × (h : Game) × Tells one g × Tells other h
    × (g.start ≡ h.start) × (map move_of g.moves ≡ map move_of h.moves)
