-- The digests of the keys of entries, which narrow the search for those that are alike.
use Rattle.std.specs.Prelude.{◌≡◌, ◌<◌, ℕ, List, Ok}
use Rattle.game_archive.specs.Groups.{HasLeader}
use Rattle.game_archive.specs.Keying.{IsKeyOf}
use Rattle.game_archive.specs.Readings.{Readings}
use Rattle.game_archive.specs.declared.grouping.Placing.{Placing}
use Rattle.record_game.specs.declared.likeness.Likeness.{Likeness}
use Rattle.record_game.specs.Game.{Game}

-- the record of the entry could be read, and this is the digest of its key
abbrev pub HasDigest : Likeness → (List ℕ → List ℕ) → Readings → ℕ → List ℕ → Type 0
HasDigest likeness digest_of Reads at digest = (g : Game) × (key : List ℕ)
    × Reads at (Ok g) × IsKeyOf likeness g key × (digest ≡ digest_of key)

-- the keys of both entries have one digest
abbrev pub HaveOneDigest : Likeness → (List ℕ → List ℕ) → Readings → ℕ → ℕ → Type 0
HaveOneDigest likeness digest_of Reads one other = (digest : List ℕ)
    × HasDigest likeness digest_of Reads one digest
    × HasDigest likeness digest_of Reads other digest

-- the leader of an earlier group has the digest of this one
abbrev pub Collides : Likeness → (List ℕ → List ℕ) → Readings → List Placing → ℕ → Type 0
Collides likeness digest_of Reads placings leader = (first : ℕ) × (first < leader)
    × HasLeader placings first first × HaveOneDigest likeness digest_of Reads first leader
