-- For private functions: the groups of `same`, how they are printed, and how files are counted.
-- A reader of the public contracts may skip this file.
use Rattle.std.specs.Prelude.{◌≡◌, ◌⊎◌, ℕ, ◌+◌, ◌<◌, ◌==◌, ◌&&◌, nat_lt, List, [], ◌∷◌, ◌++◌, length, take, Bool, if◌then◌else◌, Option, Result}
use Rattle.std.specs.Io.KnownBytes.{Appends}
use Rattle.archive_commands.specs.Lists.{code_of}
use Rattle.archive_commands.specs.ManyPrinted.{no_file}
use Rattle.archive_commands.specs.declared.many.Tally.{Tally}
use Rattle.archive_commands.specs.declared.same.Comparison.{Comparison}
use Rattle.csa_record.specs.declared.flow.FlowFault.{FlowFault}
use Rattle.csa_record.specs.declared.flow.FlowFault.TheVariants as flow
use Rattle.game_archive.specs.Alike.{GiveBytes}
use Rattle.game_archive.specs.Groups.{IsGrouped, outside}
use Rattle.game_archive.specs.Listing.{IsInOrder, ListsOnce, ListsShared}
use Rattle.game_archive.specs.Readings.{Noted, how_many}
use Rattle.game_archive.specs.Unreadable.{HaveCausesBetween, IsExact}
use Rattle.game_archive.specs.declared.grouping.Placing.{Placing}
use Rattle.game_archive.specs.declared.grouping.Placing.TheVariants as placing
use Rattle.record_game.specs.Game.{Game}
use Rattle.sha2.specs.Sha256.{sha256}
use Rattle.shogi_words.specs.declared.request.PathEnd.{PathEnd}
use Rattle.archive_commands.specs.Same.{path_at}

-- the line of a file, after an empty one if it begins a further group
abbrev pub group_line : PathEnd → Bool → List ℕ → List ℕ
group_line end begins_group path =
    (if begins_group then code_of end ∷ [] else []) ++ (path ++ code_of end ∷ [])

-- the lines of these members of groups, in order, if so many lines are before them
abbrev pub group_lines : PathEnd → List (List ℕ) → ℕ → List (ℕ × ℕ) → List ℕ
group_lines end paths before [] = []
group_lines end paths before (member ∷ members) =
    group_line end (nat_lt 0 before && (member.0 == member.1)) (path_at paths member.1)
    ++ group_lines end paths (before + 1) members

-- the tally with a file more
abbrev pub counted_with : Tally → Placing → Tally
counted_with t (placing.Group leader) = record t { accepted = t.accepted + 1 }
counted_with t (placing.Refused r) = record t { refused = t.refused + 1 }
counted_with t placing.Unreadable = record t { unreadable = t.unreadable + 1 }

-- the tally with all of these more
abbrev pub tally_from : Tally → List Placing → Tally
tally_from t [] = t
tally_from t (p ∷ ps) = tally_from (counted_with t p) ps

-- the files are placed in groups, and these are the members of those with others
pub record AreGroups (comparison : Comparison) (Reads : ℕ → Result Game FlowFault → Type 0)
    (before after : Noted) (paths : List (List ℕ)) (placings : List Placing)
    (members : List (ℕ × ℕ)) : Type 0 where
  pub whole : length placings ≡ length paths
  pub grouped : (bytes : ℕ → List ℕ) → GiveBytes (length paths) Reads bytes
      → IsGrouped comparison.likeness bytes placings
  pub causes : HaveCausesBetween comparison.likeness sha256 Reads before after placings
  pub counted : how_many after ≡ how_many before + outside placings
  pub exact : (bytes : ℕ → List ℕ) → GiveBytes (length paths) Reads bytes
      → after.failed ≡ before.failed → IsExact comparison.likeness bytes placings
  pub shared : ListsShared placings members
  pub once : ListsOnce members
  pub sorted : IsInOrder members

-- the members of the groups are printed, and each file is counted
pub record PrintsGroups (comparison : Comparison) (Reads : ℕ → Result Game FlowFault → Type 0)
    (before after : Noted) (paths : List (List ℕ)) (old new : Option (List ℕ)) (tally : Tally)
    : Type 0 where
  pub placings : List Placing
  pub members : List (ℕ × ℕ)
  pub groups : AreGroups comparison Reads before after paths placings members
  pub tally_is : tally ≡ tally_from no_file placings
  pub printed : Appends old new (group_lines comparison.path_end paths 0 members)

-- there is no memory for a line, and those before it were printed; or a line cannot be written
abbrev pub StopsPrinting : PathEnd → List (List ℕ) → List (ℕ × ℕ) → Option (List ℕ)
    → Option (List ℕ) → FlowFault → Type 0
StopsPrinting end paths members old new flow.OutOfMemory = (k : ℕ) × (k < length members)
    × Appends old new (group_lines end paths 0 (take k members))
StopsPrinting end paths members old new flow.WriteFault = 0 < length members
StopsPrinting end paths members old new (flow.Refused r) = ⊥
StopsPrinting end paths members old new flow.ReadFault = ⊥

-- there is no memory, and nothing was printed; or the printing of the groups stops
abbrev pub StopsGroups : Comparison → (ℕ → Result Game FlowFault → Type 0) → Noted → Noted
    → List (List ℕ) → Option (List ℕ) → Option (List ℕ) → FlowFault → Type 0
StopsGroups comparison Reads before after paths old new fault =
    ((fault ≡ flow.OutOfMemory) × (new ≡ old))
    ⊎ ((placings : List Placing) × (members : List (ℕ × ℕ))
    × AreGroups comparison Reads before after paths placings members
    × StopsPrinting comparison.path_end paths members old new fault)
