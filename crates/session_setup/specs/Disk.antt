-- How a text takes the place of what is at a path.
use Rattle.std.specs.Prelude.{◌≡◌, ◌≢◌, ◌⊎◌, ◌+◌, ◌<◌, ◌≤◌, ◌++◌, ⊤, ℕ, Bool, true, false, List, [], ◌∷◌, length, slice_index, Option, None, Some, Result, Ok, Err, codes, decimal, is_some}
use Rattle.session_setup.specs.Faults.{IsFileFault}
use Rattle.session_setup.specs.declared.disk.Found.{Found}
use Rattle.session_setup.specs.declared.disk.Found.TheVariants.{File, Link, NoFile, Other, Nothing}
use Rattle.session_setup.specs.declared.fault.MatchFault.{MatchFault}
use Rattle.session_setup.specs.declared.fault.MatchFault.TheVariants.{OutOfMemory, Write}

-- one act on a disk
pub data Act : Type 0 where
  -- a new, empty file is created and opened at the path, where nothing was
  creates : List ℕ → Act
  -- what is at the path is opened, and emptied if it is a file
  opens : List ℕ → Act
  -- all of these bytes are written to what was opened last
  writes : List ℕ → Act
  -- what was written to it is on the device
  syncs : Act
  -- the file at the first path is now at the second, in place of what was there
  renames : List ℕ → List ℕ → Act
  -- the file at the path is gone
  removes : List ℕ → Act
  -- the file at the path has these permissions
  permits : List ℕ → ℕ → Act

-- an act was done, or refused, and took a disk to another state
abbrev pub Acts : Type 0 → Type 1
Acts D = D → Act → Bool → D → Type 0

-- this is at the path
abbrev pub Finds : Type 0 → Type 1
Finds D = D → List ℕ → Found → Type 0

-- the link at the first path leads to the second
abbrev pub LeadsTo : Type 0 → Type 1
LeadsTo D = D → List ℕ → List ℕ → Type 0

-- all of these acts were done, in order, and nothing else
abbrev pub DoesAll : {D : Type 0} → Acts D → D → List Act → D → Type 0
DoesAll acts d [] e = e ≡ d
DoesAll {D} acts d (act ∷ more) f = (e : D) × acts d act true e × DoesAll acts e more f

-- one of these acts was refused, those before it were done, and nothing else
abbrev pub StopsIn : {D : Type 0} → Acts D → D → List Act → D → Type 0
StopsIn acts d [] e = ⊥
StopsIn {D} acts d (act ∷ more) f =
    acts d act false f ⊎ ((e : D) × acts d act true e × StopsIn acts e more f)

-- what puts a text in the place of a target: it is written to a new file, which then takes the
-- target's name
abbrev pub puts : List ℕ → List ℕ → List ℕ → List Act
puts new target text = writes text ∷ syncs ∷ renames new target ∷ []

abbrev pub HasNoSlash : List ℕ → Type 0
HasNoSlash name = (i : ℕ) → i < length name → slice_index name i ≢ 47

-- the path of a new file, by its number and the target in whose folder it is
pub data IsBeside (number : ℕ) (new : List ℕ) : List ℕ → Type 0 where
  in_folder : (folder name : List ℕ) → HasNoSlash name
      → new ≡ folder ++ (codes "/.shogi_part_" ++ decimal number)
      → IsBeside number new (folder ++ 47 ∷ name)
  without_folder : (name : List ℕ) → HasNoSlash name
      → new ≡ codes ".shogi_part_" ++ decimal number → IsBeside number new name

-- so many new files beside a target were not created
pub data Tried {D : Type 0} (acts : Acts D) (target : List ℕ) (d : D) : ℕ → D → Type 0 where
  untried : Tried acts target d 0 d
  tried : (number : ℕ) (new : List ℕ) (e f : D) → Tried acts target d number e
      → IsBeside number new target → acts e (creates new) false f
      → Tried acts target d (number + 1) f

-- a new file, the file whose place it is to take, and whether one is there
pub record Draft : Type 0 where
  pub new : List ℕ
  pub target : List ℕ
  pub replaces : Bool

-- a file was to have these permissions, if any are known
abbrev pub AsksFor : {D : Type 0} → Acts D → Option ℕ → List ℕ → D → D → Type 0
AsksFor acts None new d e = e ≡ d
AsksFor acts (Some mode) new d e = (done : Bool) × acts d (permits new mode) done e

-- the file whose place is to be taken, and its permissions if it is there
pub data IsTarget {D : Type 0} (finds : Finds D) (leads : LeadsTo D) (path : List ℕ) (d : D)
    : List ℕ → Option ℕ → Type 0 where
  nothing : finds d path Nothing → IsTarget finds leads path d path None
  file : (mode : ℕ) → finds d path (File mode) → IsTarget finds leads path d path (Some mode)
  link : (mode : ℕ) (target : List ℕ) → finds d path (Link mode) → leads d path target
      → IsTarget finds leads path d target (Some mode)

-- the first new file that could be created beside a target is this
pub record CreatesBeside {D : Type 0}
    (acts : Acts D) (mode : Option ℕ) (target : List ℕ) (d e : D) (new : List ℕ) : Type 0 where
  pub number : ℕ
  pub before : D
  pub after : D
  pub tried : Tried acts target d number before
  pub is_beside : IsBeside number new target
  pub created : acts before (creates new) true after
  pub asked : AsksFor acts mode new after e

-- no new file was created beside a target; with the fault that is reported
pub data CreatesNone {D : Type 0} (acts : Acts D) (target : List ℕ) (d e : D)
    : MatchFault → Type 0 where
  not_created : (number : ℕ) → 1 ≤ number → Tried acts target d number e
      → CreatesNone acts target d e Write
  -- there was not enough memory for its name
  no_name : (number : ℕ) → Tried acts target d number e → CreatesNone acts target d e OutOfMemory

-- where a text for a path is to be written: to a new file; or to what is at the path, since that is
-- no file, no link to one and not nothing
pub data Begins {D : Type 0} (finds : Finds D) (leads : LeadsTo D) (acts : Acts D)
    (path : List ℕ) (d e : D) : Option Draft → Type 0 where
  beside : (draft : Draft) (mode : Option ℕ) → IsTarget finds leads path d draft.target mode
      → draft.replaces ≡ is_some mode → CreatesBeside acts mode draft.target d e draft.new
      → Begins finds leads acts path d e (Some draft)
  in_place : finds d path Other → e ≡ d → Begins finds leads acts path d e None

-- no file can be named whose place a text is to take; with the fault that is reported
pub data HasNoTarget {D : Type 0} (finds : Finds D) (path : List ℕ) (d : D)
    : MatchFault → Type 0 where
  lost_link : (mode : ℕ) (fault : MatchFault) → finds d path (Link mode) → IsFileFault fault
      → HasNoTarget finds path d fault
  no_file : finds d path NoFile → HasNoTarget finds path d Write
  -- there was not enough memory for its name
  no_memory : HasNoTarget finds path d OutOfMemory

-- no text can be written for a path; with the fault that is reported
pub data BeginsNot {D : Type 0} (finds : Finds D) (leads : LeadsTo D) (acts : Acts D)
    (path : List ℕ) (d e : D) : MatchFault → Type 0 where
  no_target : (fault : MatchFault) → HasNoTarget finds path d fault → e ≡ d
      → BeginsNot finds leads acts path d e fault
  none_beside : (target : List ℕ) (mode : Option ℕ) (fault : MatchFault)
      → IsTarget finds leads path d target mode → CreatesNone acts target d e fault
      → BeginsNot finds leads acts path d e fault

-- whether a file is there whose place a text takes
abbrev pub replaces_of : Option Draft → Bool
replaces_of None = false
replaces_of (Some draft) = draft.replaces

-- a new file has the text and took the target's name; or it has not, and is removed
pub data Fills {D : Type 0} (acts : Acts D) (draft : Draft) (text : List ℕ) (d e : D)
    : Result ⊤ MatchFault → Type 0 where
  filled : (done : ⊤) → DoesAll acts d (puts draft.new draft.target text) e
      → Fills acts draft text d e (Ok done)
  not_filled : (after : D) (is_removed : Bool)
      → StopsIn acts d (puts draft.new draft.target text) after
      → acts after (removes draft.new) is_removed e → Fills acts draft text d e (Err Write)

-- the new file was filled; or there is none, and what is at the path was opened and written to
pub data Finishes {D : Type 0} (acts : Acts D) (path text : List ℕ) (d e : D)
    : Option Draft → Result ⊤ MatchFault → Type 0 where
  fills : (draft : Draft) (answer : Result ⊤ MatchFault) → Fills acts draft text d e answer
      → Finishes acts path text d e (Some draft) answer
  written : (done : ⊤) → DoesAll acts d (opens path ∷ writes text ∷ []) e
      → Finishes acts path text d e None (Ok done)
  not_written : StopsIn acts d (opens path ∷ writes text ∷ []) e
      → Finishes acts path text d e None (Err Write)

-- the new file is removed, if there is one
abbrev pub Abandons : {D : Type 0} → Acts D → Option Draft → D → D → Type 0
Abandons acts None d e = e ≡ d
Abandons acts (Some draft) d e = (is_removed : Bool) × acts d (removes draft.new) is_removed e
