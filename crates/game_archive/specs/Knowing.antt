-- For private functions: what is known of the entries that were placed so far.
-- A reader of the public contracts may skip this file.
use Rattle.std.specs.Prelude.{◌≡◌, ◌⊎◌, ◌+◌, ℕ, ◌≤◌, List, [], ◌∷◌, ◌++◌, length, true, cond, is_some, Some, Ok, Err}
use Rattle.std.specs.BTreeMap.{BTreeMap, btree_map_len, get, is_at}
use Rattle.std.specs.Cmp.Lexicographic.{slice_cmp}
use Rattle.std.specs.List.{All, Contains}
use Rattle.std.specs.Ordering.{nat_cmp}
use Rattle.csa_record.specs.declared.flow.FlowFault.{FlowFault}
use Rattle.game_archive.specs.Digests.{Collides, HasDigest}
use Rattle.game_archive.specs.Groups.{HasLeader, outside, placing_at}
use Rattle.game_archive.specs.Keying.{IsKeyOf}
use Rattle.game_archive.specs.Readings.{Noted, Readings, how_many, noted_at, noted_with}
use Rattle.game_archive.specs.Unreadable.{HaveCauses}
use Rattle.game_archive.specs.declared.grouping.Placing.{Placing}
use Rattle.game_archive.specs.declared.grouping.Placing.TheVariants as placing
use Rattle.record_game.specs.declared.likeness.Likeness.{Likeness}
use Rattle.record_game.specs.declared.fault.Refusal.{Refusal}
use Rattle.record_game.specs.Game.{Game}
use Rattle.record_game.specs.Refused.{Refused}
use Rattle.record_game.specs.Tells.{Tells}

-- the bytes contain a game, and this is its key
abbrev pub HasKey : Likeness → List ℕ → List ℕ → Type 0
HasKey likeness bytes key = (g : Game) × Tells bytes g × IsKeyOf likeness g key

-- what is kept at digests and in the list are leaders
pub record HoldsLeaders (placings : List Placing) (by_digest : BTreeMap (List ℕ) ℕ)
    (colliding : List ℕ) : Type 0 where
  pub at_digests : (digest : List ℕ) (leader : ℕ)
      → get (slice_cmp nat_cmp) by_digest digest ≡ Some leader → HasLeader placings leader leader
  pub elsewhere : All (λ leader. HasLeader placings leader leader) colliding

-- of each entry at most one thing is kept: its place at its digest, or its place in the list
abbrev pub KeepsFew : List Placing → BTreeMap (List ℕ) ℕ → List ℕ → Type 0
KeepsFew placings by_digest colliding =
    btree_map_len by_digest + length colliding ≤ length placings

-- the leader is kept at the digest of its key, or in the list
abbrev pub IsKept : (List ℕ → List ℕ) → BTreeMap (List ℕ) ℕ → List ℕ → List ℕ → ℕ → Type 0
IsKept digest_of by_digest colliding key leader =
    (get (slice_cmp nat_cmp) by_digest (digest_of key) ≡ Some leader) ⊎ Contains colliding leader

-- entries of one group have one key, and no two groups do; each leader is kept; and the bytes of a
-- refused entry are refused in that way
pub record KnowsGroups (likeness : Likeness) (bytes : ℕ → List ℕ) (digest_of : List ℕ → List ℕ)
    (placings : List Placing) (by_digest : BTreeMap (List ℕ) ℕ) (colliding : List ℕ) : Type 0 where
  pub led : (at leader : ℕ) → HasLeader placings at leader
      → (leader ≤ at) × HasLeader placings leader leader
      × ((key : List ℕ) × HasKey likeness (bytes leader) key × HasKey likeness (bytes at) key)
  pub one : (a b : ℕ) (key : List ℕ) → HasLeader placings a a → HasLeader placings b b
      → HasKey likeness (bytes a) key → HasKey likeness (bytes b) key → a ≡ b
  pub kept : (leader : ℕ) (key : List ℕ) → HasLeader placings leader leader
      → HasKey likeness (bytes leader) key → IsKept digest_of by_digest colliding key leader
  pub refused : (at : ℕ) (r : Refusal) → placing_at placings at ≡ placing.Refused r
      → Refused (bytes at) r.number r.offset r.why

-- neither the entry kept at this digest nor one of the list has this key
abbrev pub LeadsNone : Likeness → (ℕ → List ℕ) → List ℕ → BTreeMap (List ℕ) ℕ → List ℕ
    → List ℕ → Type 0
LeadsNone likeness bytes digest by_digest colliding key =
    ((leader : ℕ) → get (slice_cmp nat_cmp) by_digest digest ≡ Some leader
    → HasKey likeness (bytes leader) key → ⊥)
    × All (λ leader. HasKey likeness (bytes leader) key → ⊥) colliding

-- what is kept at digests has these digests, and what is in the list collides with what is there
pub record HoldsDigests (likeness : Likeness) (digest_of : List ℕ → List ℕ) (Reads : Readings)
    (placings : List Placing) (by_digest : BTreeMap (List ℕ) ℕ) (colliding : List ℕ)
    : Type 0 where
  pub at_digests : (digest : List ℕ) (leader : ℕ)
      → get (slice_cmp nat_cmp) by_digest digest ≡ Some leader
      → HasDigest likeness digest_of Reads leader digest
  pub elsewhere : All (Collides likeness digest_of Reads placings) colliding

-- the leader is added at its digest, or to the list if there is one at that digest
abbrev pub AddsLeader : BTreeMap (List ℕ) ℕ → List ℕ → ℕ → List ℕ → BTreeMap (List ℕ) ℕ
    → List ℕ → Type 0
AddsLeader old colliding leader digest new colliding' =
    ((colliding' ≡ colliding) × ((q : List ℕ) → get (slice_cmp nat_cmp) new q
    ≡ cond (is_at (slice_cmp nat_cmp digest) q) (Some leader) (get (slice_cmp nat_cmp) old q)))
    ⊎ ((is_some (get (slice_cmp nat_cmp) old digest) ≡ true) × (new ≡ old)
    × (colliding' ≡ colliding ++ leader ∷ []))

-- the record of the entry could be read, and this is its key
abbrev pub HadKey : Likeness → Readings → ℕ → List ℕ → Type 0
HadKey likeness Reads at key = (g : Game) × Reads at (Ok g) × IsKeyOf likeness g key

-- the causes so far, and after what was noted since
abbrev pub KeepsCauses : Likeness → (List ℕ → List ℕ) → Readings → Noted → Noted → Noted
    → List Placing → Type 0
KeepsCauses likeness digest_of Reads old new since placings =
    (more : Noted) × (new ≡ noted_with old more)
    × HaveCauses likeness digest_of Reads (noted_with since more) placings

-- why an entry with this digest was not compared with a leader
abbrev pub IsNotCompared : Likeness → (List ℕ → List ℕ) → Readings → Noted → Noted
    → List Placing → List ℕ → FlowFault → Type 0
IsNotCompared likeness digest_of Reads old new placings digest fault = (leader : ℕ)
    × HasLeader placings leader leader
    × (HasDigest likeness digest_of Reads leader digest
    ⊎ Collides likeness digest_of Reads placings leader)
    × Reads leader (Err fault) × (new ≡ noted_at old leader fault)

-- as many readings that gave no record are noted more as entries are in no group
abbrev pub KeepsCount : Noted → Noted → List Placing → List Placing → Type 0
KeepsCount old new before after = how_many new + outside before ≡ how_many old + outside after
