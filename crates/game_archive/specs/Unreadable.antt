-- Why an entry is unreadable or refused, and when none is unreadable.
use Rattle.std.specs.Prelude.{◌≡◌, ◌≢◌, ◌⊎◌, ◌↔◌, ℕ, ◌<◌, List, length, Err}
use Rattle.csa_record.specs.declared.flow.FlowFault.{FlowFault}
use Rattle.csa_record.specs.declared.flow.FlowFault.TheVariants as flow
use Rattle.game_archive.specs.Alike.{AreAlike}
use Rattle.game_archive.specs.Digests.{Collides, HaveOneDigest}
use Rattle.game_archive.specs.Groups.{HasLeader, InOneGroup, placing_at}
use Rattle.game_archive.specs.Readings.{Noted, Readings, all_noted, note_at, noted_at, noted_with, nothing_noted}
use Rattle.game_archive.specs.declared.grouping.Placing.{Placing}
use Rattle.game_archive.specs.declared.grouping.Placing.TheVariants as placing
use Rattle.record_game.specs.declared.likeness.Likeness.{Likeness}
use Rattle.record_game.specs.declared.fault.Refusal.{Refusal}
use Rattle.record_game.specs.Refused.{Refused}

-- the entry is compared with this leader of an earlier group: the keys of both have one digest; or
-- the leader collides with another, and is compared with each entry
abbrev pub IsComparedWith : Likeness → (List ℕ → List ℕ) → Readings → List Placing → ℕ → ℕ → Type 0
IsComparedWith likeness digest_of Reads placings at leader =
    HasLeader placings leader leader × (leader < at)
    × (HaveOneDigest likeness digest_of Reads leader at
    ⊎ Collides likeness digest_of Reads placings leader)

-- the entry is unreadable for this fault of a reading at this place: its own reading failed; or it
-- is compared with a leader, which could not be read again, or was refused then
abbrev pub IsUnreadFor : Likeness → (List ℕ → List ℕ) → Readings → List Placing → ℕ → ℕ
    → FlowFault → Type 0
IsUnreadFor likeness digest_of Reads placings at place fault =
    ((place ≡ at) × (fault ≡ flow.ReadFault))
    ⊎ (IsComparedWith likeness digest_of Reads placings at place
    × (fault ≢ flow.WriteFault) × (fault ≢ flow.OutOfMemory))

-- what is noted for the entry: nothing if it is in a group, and else the one reading that it is
-- refused or unreadable for
abbrev pub IsNotedFor : Likeness → (List ℕ → List ℕ) → Readings → List Placing → ℕ → Placing
    → Noted → Type 0
IsNotedFor likeness digest_of Reads placings at (placing.Group leader) note = note ≡ nothing_noted
IsNotedFor likeness digest_of Reads placings at (placing.Refused r) note =
    Reads at (Err (flow.Refused r)) × (note ≡ noted_at nothing_noted at (flow.Refused r))
IsNotedFor likeness digest_of Reads placings at placing.Unreadable note =
    (place : ℕ) × (fault : FlowFault)
    × IsUnreadFor likeness digest_of Reads placings at place fault
    × Reads place (Err fault) × (note ≡ noted_at nothing_noted place fault)

-- what was noted since was noted for one entry after another
pub record HaveCauses (likeness : Likeness) (digest_of : List ℕ → List ℕ) (Reads : Readings)
    (since : Noted) (placings : List Placing) : Type 0 where
  pub notes : List Noted
  pub whole : since ≡ all_noted notes
  pub many : length notes ≡ length placings
  pub each : (at : ℕ) → at < length placings
      → IsNotedFor likeness digest_of Reads placings at (placing_at placings at) (note_at notes at)

-- so between these two
abbrev pub HaveCausesBetween : Likeness → (List ℕ → List ℕ) → Readings → Noted → Noted
    → List Placing → Type 0
HaveCausesBetween likeness digest_of Reads old new placings = (since : Noted)
    × (new ≡ noted_with old since) × HaveCauses likeness digest_of Reads since placings

-- two entries are in one group exactly if their bytes are alike, and an entry is refused in a way
-- exactly if its bytes are
pub record IsExact (likeness : Likeness) (bytes : ℕ → List ℕ) (placings : List Placing)
    : Type 0 where
  pub together : (i j : ℕ) → i < length placings → j < length placings
      → (InOneGroup placings i j ↔ AreAlike likeness (bytes i) (bytes j))
  pub refused : (at : ℕ) (r : Refusal) → at < length placings
      → ((placing_at placings at ≡ placing.Refused r)
      ↔ Refused (bytes at) r.number r.offset r.why)
