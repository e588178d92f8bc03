-- What is noted of the readings of an archive's entries.
use Rattle.std.specs.Prelude.{◌↔◌, ℕ, ◌+◌, List, [], ◌∷◌, ◌++◌, length, slice_index_or, Result, Ok, Err}
use Rattle.csa_record.specs.declared.flow.FlowFault.{FlowFault}
use Rattle.csa_record.specs.declared.flow.FlowFault.TheVariants as flow
use Rattle.record_game.specs.Game.{Game}

-- what a reading of the entry at each place may come to
abbrev pub Readings : Type 1
Readings = ℕ → Result Game FlowFault → Type 0

-- the places of the entries that could not be read, and of those whose record was refused: each
-- time, in order
pub record Noted : Type 0 where
  pub failed : List ℕ
  pub refused : List ℕ

abbrev pub nothing_noted : Noted
nothing_noted = record { failed = []; refused = [] }

-- how many readings are noted
abbrev pub how_many : Noted → ℕ
how_many noted = length noted.failed + length noted.refused

-- what is noted after a reading at this place that gave no record
abbrev pub noted_at : Noted → ℕ → FlowFault → Noted
noted_at old at (flow.Refused r) = record old { refused = old.refused ++ at ∷ [] }
noted_at old at flow.ReadFault = record old { failed = old.failed ++ at ∷ [] }
noted_at old at flow.WriteFault = old
noted_at old at flow.OutOfMemory = old

-- what is noted after a reading at this place that came to this
abbrev pub noted_after : {T : Type 0} → Noted → ℕ → Result T FlowFault → Noted
noted_after old at (Ok x) = old
noted_after old at (Err fault) = noted_at old at fault

-- the one, and then the other
abbrev pub noted_with : Noted → Noted → Noted
noted_with old more = record {
  failed = old.failed ++ more.failed;
  refused = old.refused ++ more.refused;
}

-- all of these, in order
abbrev pub all_noted : List Noted → Noted
all_noted [] = nothing_noted
all_noted (noted ∷ notes) = noted_with noted (all_noted notes)

-- what is noted for an entry
abbrev pub note_at : List Noted → ℕ → Noted
note_at notes at = slice_index_or notes at nothing_noted

-- a reading of an entry may come to the same as before
abbrev pub ReadAlike : Readings → Readings → Type 0
ReadAlike Old New = (at : ℕ) (result : Result Game FlowFault) → Old at result ↔ New at result
