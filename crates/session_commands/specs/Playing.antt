-- For private functions: what `play` does between two ends, and with the game that was played.
use Rattle.std.specs.Prelude.{◌≡◌, ◌⊎◌, ◌++◌, ⊤, ℕ, Bool, List, [], ◌∷◌, Option, Result, Ok, Err, codes, decimal}
use Rattle.std.specs.Io.KnownBytes.{Appends}
use Rattle.csa_record.specs.Flow.{AppendsFront}
use Rattle.session_setup.specs.declared.fault.MatchFault.TheVariants.{OutOfMemory, Endless, Write, Session as SessionFailed}
use Rattle.session_commands.specs.declared.children.SessionEnd.{SessionEnd}
use Rattle.session_commands.specs.declared.children.SessionEnd.TheVariants.{BrokenOff, Finished}
use Rattle.session_setup.specs.declared.fault.LoginFault.{LoginFault}
use Rattle.session_setup.specs.declared.fault.MatchFault.{MatchFault}
use Rattle.session_setup.specs.declared.fault.PlayCommandFault.{PlayCommandFault}
use Rattle.session_setup.specs.declared.fault.PlayCommandFault.TheVariants.{Login as LoginFailed, Match as MatchFailed}
use Rattle.session_setup.specs.declared.login.Login.{Login}
use Rattle.session_commands.specs.Noting.{Noted, NotedBefore, NotedEndless}
use Rattle.session_commands.specs.Plays.{Gives, Misses, Takes}
use Rattle.bridge_table.specs.declared.event.Status.TheVariants.{Done, Failed}
use Rattle.bridge_table.specs.declared.fault.SessionFault.{SessionFault}
use Rattle.shogi_session.specs.Host.{IsLoginWord}
use Rattle.shogi_session.specs.Promises.{Session}
use Rattle.shogi_session.specs.State.{first_state}
use Rattle.session_commands.specs.Endings.{Ended, end_text, nothing_said}
use Rattle.session_setup.specs.Faults.{IsFileFault}
use Rattle.session_commands.specs.Kept.{Drops, KeepsRecord, RefusesText, TakesText}
use Rattle.shogi_words.specs.declared.play.Plan.{Plan}

-- the line of `play`: the number of moves
abbrev pub played_line : ℕ → List ℕ
played_line moves = codes "played " ++ decimal moves ++ 10 ∷ []

-- the outcome of a session that took both ends and the bridge from these states to those, with
-- what is kept of the end
pub data CameOut {E : Type 0} (came : Gives E) (missed : Misses E) (went gone : Takes E)
    (e : E) (s : Session) (f : E) (t : Session) (ended : Ended) : Result ⊤ MatchFault → Type 0 where
  done : (over : ⊤) → Noted came went gone e s nothing_said f t ended Done
      → CameOut came missed went gone e s f t ended (Ok over)
  failed : (why : SessionFault) → Noted came went gone e s nothing_said f t ended (Failed why)
      → CameOut came missed went gone e s f t ended (Err (SessionFailed why))
  out_of_memory : NotedBefore came missed went gone e s nothing_said f t ended
      → CameOut came missed went gone e s f t ended (Err OutOfMemory)
  endless : NotedEndless came went gone e s nothing_said f t ended
      → CameOut came missed went gone e s f t ended (Err Endless)

-- how a session ended, this text, was added to its log, if there is one, and the log is whole; or
-- the log refused it, or there was not enough memory to say it, and that is reported in place of
-- what became of the game
pub data ClosesLog {E : Type 0} (closed unclosed : E → List ℕ → E → Type 0)
    (text : List ℕ) (e f : E) (kept : Result ℕ MatchFault)
    : Result ℕ MatchFault → Type 0 where
  is_closed : closed e text f → ClosesLog closed unclosed text e f kept kept
  not_closed : (fault : MatchFault) → unclosed e text f → IsFileFault fault
      → ClosesLog closed unclosed text e f kept (Err fault)
  no_text : f ≡ e → ClosesLog closed unclosed text e f kept (Err OutOfMemory)

-- how a session with this outcome ended
abbrev pub session_end : Result ⊤ MatchFault → SessionEnd
session_end (Ok _) = Finished
session_end (Err _) = BrokenOff

-- a session was played to its outcome and its game was kept in what was begun for it; with how the
-- session ended, and the number of moves or the fault to report
pub record PlaysAndKeeps {E P D : Type 0} (came : Gives E) (missed : Misses E)
    (went gone : Takes E) (closed unclosed : E → List ℕ → E → Type 0) (took : TakesText P D)
    (refused : RefusesText P D) (dropped : Drops P D) (replaced : D → Bool) (draft : D)
    (e : E) (s : Session) (p : P) (f : E) (t : Session) (q : P)
    (end : SessionEnd) (answer : Result ℕ MatchFault) : Type 0 where
  pub outcome : Result ⊤ MatchFault
  pub between : E
  pub game : Result ℕ MatchFault
  pub ended : Ended
  pub reached : CameOut came missed went gone e s between t ended outcome
  pub kept : KeepsRecord took refused dropped replaced draft t.state.client outcome p q game
  pub logged : ClosesLog closed unclosed (end_text ended outcome) between f game answer
  pub over : end ≡ session_end outcome

-- a bridge to which nothing has happened, as `play` configures it by its plan and its login, whose
-- name a client can log in with
pub record IsFirst (plan : Plan) (login : Login) (s : Session) : Type 0 where
  pub state : s.state ≡ first_state
  pub name : s.config.name.bytes ≡ login.name.bytes
  pub word : IsLoginWord s.config.name.bytes
  pub password : s.config.password.bytes ≡ login.password.bytes
  pub total : s.config.total_ms ≡ plan.total_ms
  pub byoyomi : s.config.byoyomi_ms ≡ plan.byoyomi_ms

-- a game in a launcher: it started these programs with these ends, a session was played between the
-- ends, and it stopped the programs; or it did not start them, and its fault is reported
pub data PlaysIn {H E P R D : Type 0} (started : H → Plan → E → R → H → Type 0)
    (unstarted : H → Plan → MatchFault → H → Type 0) (stopped : H → E → R → SessionEnd → H → Type 0)
    (came : Gives E) (missed : Misses E) (went gone : Takes E)
    (closed unclosed : E → List ℕ → E → Type 0)
    (took : TakesText P D) (refused : RefusesText P D) (dropped : Drops P D)
    (replaced : D → Bool) (draft : D)
    (plan : Plan) (login : Login) (h : H) (p : P) (k : H) (q : P)
    : Result ℕ MatchFault → Type 0 where
  played_in : (between : H) (ends over : E) (running : R)
      (first last : Session) (end : SessionEnd) (answer : Result ℕ MatchFault)
      → started h plan ends running between → IsFirst plan login first
      → PlaysAndKeeps came missed went gone closed unclosed took refused dropped replaced draft
      ends first p over last q end answer
      → stopped between over running end k
      → PlaysIn started unstarted stopped came missed went gone closed unclosed took refused
      dropped replaced draft plan login h p k q answer
  not_started : (fault : MatchFault) → unstarted h plan fault k → dropped p draft q
      → PlaysIn started unstarted stopped came missed went gone closed unclosed took refused
      dropped replaced draft plan login h p k q (Err fault)
  no_bridge : (between : H) (ends : E) (running : R)
      → started h plan ends running between → dropped p draft q
      → stopped between ends running BrokenOff k
      → PlaysIn started unstarted stopped came missed went gone closed unclosed took refused
      dropped replaced draft plan login h p k q (Err OutOfMemory)

-- a record was begun in a place before a game was played for it; or none could be, and nothing was
-- started
pub data PlaysFor {H E P R D : Type 0} (started : H → Plan → E → R → H → Type 0)
    (unstarted : H → Plan → MatchFault → H → Type 0) (stopped : H → E → R → SessionEnd → H → Type 0)
    (came : Gives E) (missed : Misses E) (went gone : Takes E)
    (closed unclosed : E → List ℕ → E → Type 0)
    (begun : P → D → P → Type 0) (unbegun : P → MatchFault → P → Type 0) (took : TakesText P D)
    (refused : RefusesText P D) (dropped : Drops P D) (replaced : D → Bool)
    (plan : Plan) (login : Login) (h : H) (p : P) (k : H) (q : P)
    : Result ℕ MatchFault → Type 0 where
  played_for : (draft : D) (between : P) (answer : Result ℕ MatchFault) → begun p draft between
      → PlaysIn started unstarted stopped came missed went gone closed unclosed took refused
      dropped replaced draft plan login h between k q answer
      → PlaysFor started unstarted stopped came missed went gone closed unclosed begun unbegun
      took refused dropped replaced plan login h p k q answer
  not_tried : (fault : MatchFault) → unbegun p fault q → k ≡ h
      → PlaysFor started unstarted stopped came missed went gone closed unclosed begun unbegun
      took refused dropped replaced plan login h p k q (Err fault)

-- a front of the line was printed, which may be empty or the whole line; or there was not enough
-- memory for it, and nothing was printed
abbrev pub IsUnreported : {O : Type 0}
    → (O → Option (List ℕ)) → List ℕ → O → O → MatchFault → Type 0
IsUnreported contents line out after fault =
    ((fault ≡ Write) × AppendsFront (contents out) (contents after) line)
    ⊎ ((fault ≡ OutOfMemory) × (after ≡ out))

-- a game was played, with a number of moves, and exactly the line with it was printed, or a front
-- of it; or a fault came of it, and nothing was printed
pub data IsReported {O : Type 0} (played_with : Result ℕ MatchFault → Type 0)
    (contents : O → Option (List ℕ)) (out after : O) : Result ⊤ MatchFault → Type 0 where
  reported : (done : ⊤) (moves : ℕ) → played_with (Ok moves)
      → Appends (contents out) (contents after) (played_line moves)
      → IsReported played_with contents out after (Ok done)
  not_reported : (moves : ℕ) (fault : MatchFault) → played_with (Ok moves)
      → IsUnreported contents (played_line moves) out after fault
      → IsReported played_with contents out after (Err fault)
  not_played : (fault : MatchFault) → played_with (Err fault) → after ≡ out
      → IsReported played_with contents out after (Err fault)

-- a game was played and reported with the login of its plan; or there is none, and nothing was done
pub data IsPlayed (is_login : Login → Type 0) (has_no_login : LoginFault → Type 0)
    (reported : Login → Result ⊤ MatchFault → Type 0) (untouched : Type 0)
    : Result ⊤ PlayCommandFault → Type 0 where
  played : (login : Login) (done : ⊤) → is_login login → reported login (Ok done)
      → IsPlayed is_login has_no_login reported untouched (Ok done)
  failed_to_play : (login : Login) (fault : MatchFault)
      → is_login login → reported login (Err fault)
      → IsPlayed is_login has_no_login reported untouched (Err (MatchFailed fault))
  not_begun : (fault : LoginFault) → has_no_login fault → untouched
      → IsPlayed is_login has_no_login reported untouched (Err (LoginFailed fault))

-- a game was played as planned; or its fault was noted and is reported; or it could not be noted,
-- and that is reported in its place
pub data NotesIfNone {H : Type 0} (noted unnoted : H → PlayCommandFault → H → Type 0)
    (played_to : H → Result ⊤ PlayCommandFault → Type 0) (k : H)
    : Result ⊤ PlayCommandFault → Type 0 where
  no_fault : (done : ⊤) → played_to k (Ok done) → NotesIfNone noted unnoted played_to k (Ok done)
  fault_noted : (between : H) (fault : PlayCommandFault) → played_to between (Err fault)
      → noted between fault k → NotesIfNone noted unnoted played_to k (Err fault)
  fault_unnoted : (between : H) (fault : PlayCommandFault) (why : MatchFault)
      → played_to between (Err fault) → unnoted between fault k → IsFileFault why
      → NotesIfNone noted unnoted played_to k (Err (MatchFailed why))
