-- The text of a log.
use Rattle.std.specs.Prelude.{◌≡◌, ◌≢◌, ◌⊎◌, ◌==◌, ◌++◌, ◌/◌, ◌%◌, ℕ, Bool, true, List, [], ◌∷◌, Option, codes, decimal, if◌then◌else◌, nat_lt}
use Rattle.std.specs.Io.KnownBytes.{Appends}
use Rattle.std.specs.List.{before_first}
use Rattle.csa_record.specs.Flow.{AppendsFront}
use Rattle.session_lines.specs.LineTexts.{login_front}
use Rattle.session_commands.specs.Logging.{Entry, Notes, entry_of}
use Rattle.session_commands.specs.declared.bridging.Peer.{Peer}
use Rattle.session_commands.specs.declared.bridging.Peer.TheVariants.{Engine, Server}
use Rattle.session_commands.specs.declared.log.LogState.{LogState}
use Rattle.session_commands.specs.declared.log.LogState.TheVariants.{Whole, Unwritten, OutOfMemory}
use Rattle.session_commands.specs.declared.log.LogDirection.{LogDirection}
use Rattle.session_commands.specs.declared.log.LogDirection.TheVariants.{From, To}
use Rattle.session_setup.specs.declared.fault.MatchFault.{MatchFault}
use Rattle.session_setup.specs.declared.fault.MatchFault.TheVariants as fault
use Rattle.shogi_session.specs.Host.{IsLoginWord}

-- seconds that take less than three digits are moved to the right
abbrev pub margin : ℕ → List ℕ
margin seconds =
    if nat_lt seconds 10 then codes "  " else if nat_lt seconds 100 then codes " " else []

abbrev pub seconds_text : ℕ → List ℕ
seconds_text seconds = margin seconds ++ decimal seconds

-- three places after the point
abbrev pub places_text : ℕ → List ℕ
places_text ms = decimal (ms / 100 % 10) ++ (decimal (ms / 10 % 10) ++ decimal (ms % 10))

-- a time in thousandths of a second, in seconds
abbrev pub time_text : ℕ → List ℕ
time_text ms = seconds_text (ms / 1000) ++ (codes "." ++ places_text ms)

-- the peer, and the direction of a line
abbrev pub sign : Peer → LogDirection → List ℕ
sign Engine From = codes " engine > "
sign Engine To = codes " engine < "
sign Server From = codes " server > "
sign Server To = codes " server < "

-- each line after the front, and with its line end; the bytes may begin in the middle of a line
abbrev pub each_after : List ℕ → Bool → List ℕ → List ℕ
each_after front begins_line [] = if begins_line then [] else 10 ∷ []
each_after front begins_line (b ∷ more) =
    (if begins_line then front else []) ++ b ∷ each_after front (b == 10) more

-- lines for the server without the password: of a login its name alone is left
pub data HidesPassword (lines shown : List ℕ) : Type 0 where
  login : (rest : List ℕ) → lines ≡ login_front ++ rest
      → shown ≡ login_front ++ before_first (λ b. b == 32) rest ++ codes " ***"
      → HidesPassword lines shown
  other : ((rest : List ℕ) → lines ≡ login_front ++ rest → ⊥) → shown ≡ lines
      → HidesPassword lines shown

-- what is shown of lines
abbrev pub IsShown : Peer → LogDirection → List ℕ → List ℕ → Type 0
IsShown Engine From lines shown = shown ≡ lines
IsShown Engine To lines shown = shown ≡ lines
IsShown Server From lines shown = shown ≡ lines
IsShown Server To lines shown = HidesPassword lines shown

-- the text of an entry: each of its lines after a time that the clock shows, the peer and the
-- direction
pub record IsEntryText (shows : ℕ → Type 0) (entry : Entry) (text : List ℕ) : Type 0 where
  pub time : ℕ
  pub is_time : shows time
  pub shown : List ℕ
  pub is_shown : IsShown entry.peer entry.direction entry.lines shown
  pub text_is : text ≡ each_after (time_text time ++ sign entry.peer entry.direction) true shown

-- exactly the text of an entry was added, if the bytes are known
abbrev pub AppendsEntry : (ℕ → Type 0) → Option (List ℕ) → Option (List ℕ) → Entry → Type 0
AppendsEntry shows old new entry =
    (text : List ℕ) × IsEntryText shows entry text × Appends old new text

-- a front of the text of an entry was added, which may be empty or the whole text, if the bytes are
-- known
abbrev pub AppendsCut : (ℕ → Type 0) → Option (List ℕ) → Option (List ℕ) → Entry → Type 0
AppendsCut shows old new entry =
    (text : List ℕ) × IsEntryText shows entry text × AppendsFront old new text

-- the text of an entry was not all written; or there was not enough memory, and nothing was added
abbrev pub IsUnnoted : (ℕ → Type 0) → Option (List ℕ) → Option (List ℕ) → Entry → MatchFault
    → Type 0
IsUnnoted shows old new entry why =
    ((why ≡ fault.Write) × AppendsCut shows old new entry)
    ⊎ ((why ≡ fault.OutOfMemory) × (new ≡ old))

-- a log took an entry: exactly its text was added to one that is whole, or a front of its text, if
-- not all of it could be written; one that is not whole stays as it is; and one without memory for
-- the text gets nothing
pub data NotesText (shows : ℕ → Type 0) (before : LogState) (old : Option (List ℕ)) (entry : Entry)
    (after : LogState) (new : Option (List ℕ)) : Type 0 where
  noted : before ≡ Whole → after ≡ Whole → AppendsEntry shows old new entry
      → NotesText shows before old entry after new
  not_whole : before ≢ Whole → after ≡ before → new ≡ old
      → NotesText shows before old entry after new
  no_memory : before ≡ Whole → after ≡ OutOfMemory → new ≡ old
      → NotesText shows before old entry after new
  unwritten : before ≡ Whole → after ≡ Unwritten → AppendsCut shows old new entry
      → NotesText shows before old entry after new

-- a log refused a text at its end: the beginning of the text, perhaps nothing or all of it, was
-- added to a log that was whole, and is not from then on; one that was not stays as it is
abbrev pub CutsText : LogState → Option (List ℕ) → List ℕ → LogState → Option (List ℕ) → Type 0
CutsText Whole old text after new = (after ≡ Unwritten) × AppendsFront old new text
CutsText Unwritten old text after new = (after ≡ Unwritten) × (new ≡ old)
CutsText OutOfMemory old text after new = (after ≡ OutOfMemory) × (new ≡ old)

-- the fault of a log that was in this state when it was closed; the last text may be unwritten too
abbrev pub closing_fault : LogState → MatchFault
closing_fault Whole = fault.Write
closing_fault Unwritten = fault.Write
closing_fault OutOfMemory = fault.OutOfMemory

-- what is known of a text log took an entry, at a time that the clock shows
abbrev pub notes_text : (ℕ → Type 0) → Notes (LogState × Option (List ℕ))
notes_text shows l entry m = NotesText shows l.0 l.1 entry m.0 m.1

-- the text of a log in which these entries were noted
abbrev pub IsLogText : (ℕ → Type 0) → List Entry → List ℕ → Type 0
IsLogText shows [] text = text ≡ []
IsLogText shows (entry ∷ more) text = (first rest : List ℕ) × IsEntryText shows entry first
    × IsLogText shows more rest × (text ≡ first ++ rest)

-- exactly the text of these entries was added, if the bytes are known
abbrev pub AppendsEntries : (ℕ → Type 0) → Option (List ℕ) → Option (List ℕ) → List Entry → Type 0
AppendsEntries shows old new entries =
    (text : List ℕ) × IsLogText shows entries text × Appends old new text

-- the beginning of the text of a log in which these entries were noted: nothing; or a front of the
-- text of the first one; or all of that, and the beginning of the text of the others
abbrev pub IsLogFront : (ℕ → Type 0) → List Entry → List ℕ → Type 0
IsLogFront shows [] text = text ≡ []
IsLogFront shows (entry ∷ more) text = (text ≡ [])
    ⊎ (((cut : List ℕ) × IsEntryText shows entry (text ++ cut))
    ⊎ ((first rest : List ℕ) × IsEntryText shows entry first
    × IsLogFront shows more rest × (text ≡ first ++ rest)))

-- exactly the beginning of the text of these entries was added, if the bytes are known
abbrev pub AppendsFrontOf : (ℕ → Type 0) → Option (List ℕ) → Option (List ℕ) → List Entry → Type 0
AppendsFrontOf shows old new entries =
    (text : List ℕ) × IsLogFront shows entries text × Appends old new text

-- lines for the server with which a client of this name logs in, by any password
abbrev pub login_entry : List ℕ → List ℕ → Entry
login_entry name password = entry_of Server To (login_front ++ name ++ 32 ∷ password)

-- the same entries, but for the passwords of logins
pub data DifferInPasswords : List Entry → List Entry → Type 0 where
  no_entries : DifferInPasswords [] []
  same : (entry : Entry) (more others : List Entry) → DifferInPasswords more others
      → DifferInPasswords (entry ∷ more) (entry ∷ others)
  logins : (name one other : List ℕ) (more others : List Entry)
      → IsLoginWord name → DifferInPasswords more others
      → DifferInPasswords (login_entry name one ∷ more) (login_entry name other ∷ others)
