-- A machine that answers the lines that come over a wire.
use Rattle.std.specs.Prelude.{◌≡◌, ℕ, ◌-◌, ◌^◌, ◌≤◌, Bool, true, false, if◌then◌else◌, List, [], ◌∷◌, ◌++◌, length, Option}
use Rattle.std.specs.Io.KnownBytes.{Appends, Consumes, IsAtEnd, Keeps}
use Rattle.csa_cutting.specs.Lines.{Lines}
use Rattle.csa_cutting.specs.LineCutting.{BeginsTooLong}
use Rattle.session_setup.specs.Faults.{IsReadFault}
use Rattle.session_setup.specs.declared.fault.TalkFault.{TalkFault}
use Rattle.session_setup.specs.declared.fault.TalkFault.TheVariants.{LineTooLong, Read, Write, OutOfMemory}
use Rattle.session_commands.specs.declared.talk.MachineState.{MachineState}
use Rattle.session_commands.specs.declared.talk.MachineState.TheVariants.{Running, Ended}

-- the bytes that a reader will still give, and those that a writer holds, if they are known
pub record Passing : Type 0 where
  pub coming : Option (List ℕ)
  pub written : Option (List ℕ)

-- one call took a wire to another state
abbrev pub Calls : Type 0 → Type 1
Calls W = W → W → Type 0

-- a call, with the bytes that passed, took a wire to another state
abbrev pub Passes : Type 0 → Type 1
Passes W = W → List ℕ → W → Type 0

abbrev pub state_of : Bool → MachineState
state_of ended = if ended then Ended else Running

-- these bytes came from what the reader gives, and nothing was written
abbrev pub BytesCome : Passes Passing
BytesCome s bytes t = Consumes s.coming t.coming bytes × (t.written ≡ s.written)

-- the end came, and nothing was written
abbrev pub EndComes : Calls Passing
EndComes s t = Consumes s.coming t.coming [] × IsAtEnd t.coming × (t.written ≡ s.written)

-- these bytes were written after what the writer holds, and nothing was read
abbrev pub BytesGo : Passes Passing
BytesGo s bytes t = Appends s.written t.written bytes × (t.coming ≡ s.coming)

-- nothing came, and nothing was written
abbrev pub NothingComes : Calls Passing
NothingComes s t = Keeps s.coming t.coming × (t.written ≡ s.written)

-- not all of these bytes were written, and nothing was read
abbrev pub BytesStop : Passes Passing
BytesStop s bytes t = t.coming ≡ s.coming

-- a machine, a line, the bytes of its answer, whether the machine has ended, and its next state
abbrev pub MachineRow : Type 0 → Type 1
MachineRow M = M → List ℕ → List ℕ → MachineState → M → Type 0

-- after these lines of the bytes, this one is next, and has ended
abbrev pub IsNextOf : List ℕ → List (List ℕ) → List ℕ → Type 0
IsNextOf bytes lines line =
    (front after : List ℕ) × (bytes ≡ front ++ after) × Lines front (lines ++ line ∷ []) []

-- after these lines of the bytes, the next one has more than 65,536 bytes
abbrev pub IsLongNext : List ℕ → List (List ℕ) → Type 0
IsLongNext bytes lines =
    (front after rest : List ℕ) × (bytes ≡ front ++ after)
    × Lines front lines rest × BeginsTooLong 65536 (rest ++ after)

-- what passed from the first wire and machine on: the bytes that came; whether the end did, which
-- ends a line as LF does; and the lines that were answered
pub data Talked {W M : Type 0} (came : Passes W) (ends : Calls W) (went : Passes W)
    (answers : MachineRow M) (wire : W) (machine : M)
    : List ℕ → Bool → List (List ℕ) → W → M → Type 0 where
  nothing : Talked came ends went answers wire machine [] false [] wire machine
  -- more bytes come only once each line that has ended was answered
  bytes_came : (bytes more rest : List ℕ) (lines : List (List ℕ)) (v u : W) (m : M)
      → Talked came ends went answers wire machine bytes false lines v m
      → Lines bytes lines rest → came v more u
      → Talked came ends went answers wire machine (bytes ++ more) false lines u m
  -- so does the end
  end_came : (bytes rest : List ℕ) (lines : List (List ℕ)) (v u : W) (m : M)
      → Talked came ends went answers wire machine bytes false lines v m
      → Lines bytes lines rest → ends v u
      → Talked came ends went answers wire machine (bytes ++ 10 ∷ []) true lines u m
  -- the next line is answered, and its answer is sent at once
  line_answered : (bytes line text : List ℕ)
      (over : Bool) (lines : List (List ℕ)) (v u : W) (m n : M)
      → Talked came ends went answers wire machine bytes over lines v m
      → IsNextOf bytes lines line → length line ≤ 65536
      → answers m line text Running n → went v text u
      → Talked came ends went answers wire machine bytes over (lines ++ line ∷ []) u n

-- the next line was answered, which ended the machine, and its answer was sent
pub record IsEnded {W M : Type 0} (came : Passes W) (ends : Calls W) (went : Passes W)
    (answers : MachineRow M) (wire : W) (machine : M) (v : W) (m : M) : Type 0 where
  pub bytes : List ℕ
  pub over : Bool
  pub lines : List (List ℕ)
  pub before : W
  pub last : M
  pub talked : Talked came ends went answers wire machine bytes over lines before last
  pub line : List ℕ
  pub next : IsNextOf bytes lines line
  pub short : length line ≤ 65536
  pub text : List ℕ
  pub answered : answers last line text Ended m
  pub sent : went before text v

-- each line was answered up to the end, and none ended the machine
pub record IsAnswered {W M : Type 0} (came : Passes W) (ends : Calls W) (went : Passes W)
    (answers : MachineRow M) (wire : W) (machine : M) (v : W) (m : M) : Type 0 where
  pub bytes : List ℕ
  pub lines : List (List ℕ)
  pub talked : Talked came ends went answers wire machine bytes true lines v m
  pub all : Lines bytes lines []

-- the machine has answered each line, or those up to the one that ended it
abbrev pub HasAnswered : {W M : Type 0}
    → Passes W → Calls W → Passes W → MachineRow M → W → M → MachineState → W → M → Type 0
HasAnswered came ends went answers wire machine Ended v m =
    IsEnded came ends went answers wire machine v m
HasAnswered came ends went answers wire machine Running v m =
    IsAnswered came ends went answers wire machine v m

-- a line has no answer, as memory ran out, or its answer was not sent
pub data IsUnsent {W M : Type 0} (blocked : Passes W)
    (answers : MachineRow M) (u : W) (n : M) (line : List ℕ) (v : W) : TalkFault → Type 0 where
  no_answer : v ≡ u → IsUnsent blocked answers u n line v OutOfMemory
  not_sent : (text : List ℕ) (state : MachineState) (m : M)
      → answers n line text state m → blocked u text v
      → IsUnsent blocked answers u n line v Write

-- why a talk went no further than this wire and machine, and the wire after it
pub data Breaks {W M : Type 0} (silent : Calls W) (blocked : Passes W) (answers : MachineRow M)
    (bytes : List ℕ) (over : Bool) (lines : List (List ℕ)) (u : W) (n : M) (v : W)
    : TalkFault → Type 0 where
  -- the next line is too long
  line_too_long : IsLongNext bytes lines
      → v ≡ u → Breaks silent blocked answers bytes over lines u n v LineTooLong
  -- no more could be received
  not_received : (rest : List ℕ) (fault : TalkFault)
      → IsReadFault fault → Lines bytes lines rest → silent u v
      → Breaks silent blocked answers bytes over lines u n v fault
  -- the end has not come
  endless : (rest : List ℕ) → Lines bytes lines rest → 2 ^ 64 - 1 ≤ length bytes → v ≡ u
      → Breaks silent blocked answers bytes over lines u n v Read
  -- the next line has no answer, or the answer was not sent
  not_answered : (line : List ℕ) (fault : TalkFault)
      → IsNextOf bytes lines line → IsUnsent blocked answers u n line v fault
      → Breaks silent blocked answers bytes over lines u n v fault
  -- there was not enough memory for the next line
  not_cut : v ≡ u → Breaks silent blocked answers bytes over lines u n v OutOfMemory

-- the lines up to a fault were answered
pub record BreaksOff {W M : Type 0}
    (came : Passes W) (ends : Calls W) (went : Passes W) (silent : Calls W) (blocked : Passes W)
    (answers : MachineRow M) (wire : W) (machine : M) (fault : TalkFault) (v : W) : Type 0 where
  pub bytes : List ℕ
  pub over : Bool
  pub lines : List (List ℕ)
  pub before : W
  pub last : M
  pub talked : Talked came ends went answers wire machine bytes over lines before last
  pub breaks : Breaks silent blocked answers bytes over lines before last v fault
