-- For private functions: a talk that is going on, piece by piece.
use Rattle.std.specs.Prelude.{◌≡◌, ◌≤◌, ℕ, false, List, [], ◌++◌, length, drop, Option, None, Some, Result, Ok, Err}
use Rattle.csa_cutting.specs.Lines.{Lines}
use Rattle.csa_cutting.specs.LineCutting.{LineCutting}
use Rattle.session_commands.specs.Talks.{BreaksOff, Calls, HasAnswered, IsEnded, MachineRow, Passes, Talked}
use Rattle.session_setup.specs.declared.fault.TalkFault.{TalkFault}
use Rattle.session_commands.specs.declared.talk.MachineState.{MachineState}
use Rattle.session_commands.specs.declared.talk.MachineState.TheVariants.{Running, Ended}

-- a line was answered, and its answer was sent
abbrev pub IsReply : {W M : Type 0}
    → Passes W → MachineRow M → W → M → List ℕ → MachineState → W → M → Type 0
IsReply {W} {M} went answers u n line state v m =
    (text : List ℕ) × answers n line text state m × went u text v

-- a talk that is going on, after this number of pieces: what came is cut, except for what is left,
-- and the lines so far were answered
pub record Talking {W M : Type 0}
    (came : Passes W) (ends : Calls W) (went : Passes W) (answers : MachineRow M) (wire : W)
    (machine : M) (pieces : ℕ) (cutter : LineCutting) (left : List ℕ) (v : W) (m : M) : Type 0 where
  pub used : List ℕ
  pub lines : List (List ℕ)
  pub talked : Talked came ends went answers wire machine (used ++ left) false lines v m
  pub cut : Lines used lines cutter.held
  pub least : pieces ≤ length (used ++ left)
  pub limit : cutter.limit ≡ 65536
  pub sound : cutter.failed ≡ false
  pub short : length cutter.held ≤ 65536

-- wherever a talk began, it goes on
abbrev pub TalkGoesOn : {W M : Type 0} → Passes W → Calls W
    → Passes W → MachineRow M → LineCutting → List ℕ → W → M → LineCutting → List ℕ → W → M → Type 0
TalkGoesOn {W} {M} came ends went answers old piece u n new left v m =
    (wire : W) (machine : M) (pieces : ℕ)
    → Talking came ends went answers wire machine pieces old piece u n
    → Talking came ends went answers wire machine pieces new left v m

-- wherever a talk began, the machine ends it
abbrev pub Finishes : {W M : Type 0}
    → Passes W → Calls W → Passes W → MachineRow M → LineCutting → List ℕ → W → M → W → M → Type 0
Finishes {W} {M} came ends went answers old piece u n v m =
    (wire : W) (machine : M) (pieces : ℕ)
    → Talking came ends went answers wire machine pieces old piece u n
    → IsEnded came ends went answers wire machine v m

-- wherever a talk began, it breaks off
abbrev pub Stops : {W M : Type 0} → Passes W → Calls W → Passes W
    → Calls W → Passes W → MachineRow M → LineCutting → List ℕ → W → M → TalkFault → W → Type 0
Stops {W} {M} came ends went silent blocked answers old piece u n fault v =
    (wire : W) (machine : M) (pieces : ℕ)
    → Talking came ends went answers wire machine pieces old piece u n
    → BreaksOff came ends went silent blocked answers wire machine fault v

abbrev pub TakesNext : {W M : Type 0}
    → Passes W → Calls W → Passes W → Calls W → Passes W → MachineRow M
    → LineCutting → List ℕ → W → M → Result (Option ℕ) TalkFault → LineCutting → W → M → Type 0
TakesNext came ends went silent blocked answers old piece u n (Ok (Some used)) new v m =
    TalkGoesOn came ends went answers old piece u n new (drop used piece) v m
TakesNext came ends went silent blocked answers old piece u n (Ok None) new v m =
    Finishes came ends went answers old piece u n v m
TakesNext came ends went silent blocked answers old piece u n (Err fault) new v m =
    Stops came ends went silent blocked answers old piece u n fault v

abbrev pub TakesPiece : {W M : Type 0}
    → Passes W → Calls W → Passes W → Calls W → Passes W → MachineRow M
    → LineCutting → List ℕ → W → M → Result MachineState TalkFault → LineCutting → W → M → Type 0
TakesPiece came ends went silent blocked answers old piece u n (Ok Running) new v m =
    TalkGoesOn came ends went answers old piece u n new [] v m
TakesPiece came ends went silent blocked answers old piece u n (Ok Ended) new v m =
    Finishes came ends went answers old piece u n v m
TakesPiece came ends went silent blocked answers old piece u n (Err fault) new v m =
    Stops came ends went silent blocked answers old piece u n fault v

-- the end came, and the unfinished line was answered
abbrev pub EndsTalk : {W M : Type 0} → Passes W → Calls W → Passes W → Calls W → Passes W
    → MachineRow M → LineCutting → W → M → Result MachineState TalkFault → W → M → Type 0
EndsTalk {W} {M} came ends went silent blocked answers old u n (Ok state) v m =
    (wire : W) (machine : M) (pieces : ℕ) (before : W)
    → Talking came ends went answers wire machine pieces old [] before n → ends before u
    → HasAnswered came ends went answers wire machine state v m
EndsTalk {W} {M} came ends went silent blocked answers old u n (Err fault) v m =
    (wire : W) (machine : M) (pieces : ℕ) (before : W)
    → Talking came ends went answers wire machine pieces old [] before n → ends before u
    → BreaksOff came ends went silent blocked answers wire machine fault v
