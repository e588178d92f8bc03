-- For private functions: what `serve` does at a door, and with the client who came there.
use Rattle.std.specs.Prelude.{◌≡◌, ◌⊎◌, ◌++◌, ◌∷◌, [], ⊤, ℕ, List, Option, Result, Ok, Err}
use Rattle.std.specs.Io.KnownBytes.{Appends}
use Rattle.shogi_session.specs.Hosting.{HostSession}
use Rattle.shogi_words.specs.declared.serve.Service.{Service}
use Rattle.session_setup.specs.Faults.{IsReadFault}
use Rattle.session_commands.specs.Offering.{OffersGame}
use Rattle.session_commands.specs.Ports.{port_line}
use Rattle.session_commands.specs.Talks.{BreaksOff, Calls, HasAnswered, MachineRow, Passes}
use Rattle.session_setup.specs.declared.fault.ServeFault.{ServeFault}
use Rattle.session_setup.specs.declared.fault.ServeFault.TheVariants.{ClientGone, Talk}
use Rattle.session_setup.specs.declared.fault.TalkFault.{TalkFault}
use Rattle.session_setup.specs.declared.fault.TalkFault.TheVariants.{Write, OutOfMemory}
use Rattle.session_commands.specs.declared.talk.MachineState.TheVariants.{Running, Ended}

-- the port that was asked for, what listens, and on which port
abbrev pub Listens : Type 0 → Type 0 → Type 1
Listens D L = D → ℕ → L → ℕ → D → Type 0

-- nothing listens on this port
abbrev pub ListensNot : Type 0 → Type 1
ListensNot D = D → ℕ → D → Type 0

-- a client came to what listens
abbrev pub Enters : Type 0 → Type 0 → Type 0 → Type 1
Enters D L W = D → L → W → D → Type 0

-- none came to it
abbrev pub EntersNot : Type 0 → Type 0 → Type 1
EntersNot D L = D → L → D → Type 0

-- the bytes that a writer holds, if they are known
abbrev pub Contents : Type 0 → Type 0
Contents O = O → Option (List ℕ)

-- a line was not printed whole, or there was not enough memory for it
abbrev pub IsUnprinted : {O : Type 0} → O → O → TalkFault → Type 0
IsUnprinted out after fault = (fault ≡ Write) ⊎ ((fault ≡ OutOfMemory) × (after ≡ out))

-- this listens for the service, and exactly the line with its own port was printed
pub record IsAnnounced {D L O : Type 0} (listens : Listens D L) (contents : Contents O)
    (service : Service) (door : D) (out : O) (listener : L) (between : D) (after : O)
    : Type 0 where
  pub port : ℕ
  pub listening : listens door service.port listener port between
  pub printed : Appends (contents out) (contents after) (port_line port ++ 10 ∷ [])

-- what passed between that host and its client, and the answer: the session is over, or the client
-- ended before it, or the talk broke off; or there was no memory for a host
pub data HasServed {W : Type 0} (came : Passes W) (ends : Calls W) (went : Passes W)
    (silent : Calls W) (blocked : Passes W) (answers : MachineRow HostSession)
    (service : Service) (wire last : W) : Result ⊤ ServeFault → Type 0 where
  session_over : (done : ⊤) (old new : HostSession) → OffersGame service old
      → HasAnswered came ends went answers wire old Ended last new
      → HasServed came ends went silent blocked answers service wire last (Ok done)
  client_gone : (old new : HostSession) → OffersGame service old
      → HasAnswered came ends went answers wire old Running last new
      → HasServed came ends went silent blocked answers service wire last (Err ClientGone)
  broke_off : (old : HostSession) (fault : TalkFault) → OffersGame service old
      → BreaksOff came ends went silent blocked answers wire old fault last
      → HasServed came ends went silent blocked answers service wire last (Err (Talk fault))
  no_host : last ≡ wire
      → HasServed came ends went silent blocked answers service wire last (Err (Talk OutOfMemory))

-- what a host did at a door, and its answer: it announced itself, and only then a client came, who
-- was served, or none came; or nothing listened, or it was not announced
pub data HasHosted {D L W O : Type 0} (listens : Listens D L) (listens_not : ListensNot D)
    (enters : Enters D L W) (enters_not : EntersNot D L) (contents : Contents O)
    (came : Passes W) (ends : Calls W) (went : Passes W) (silent : Calls W) (blocked : Passes W)
    (answers : MachineRow HostSession) (service : Service) (door last : D) (out after : O)
    : Result ⊤ ServeFault → Type 0 where
  served : (listener : L) (between : D) (wire over : W) (answer : Result ⊤ ServeFault)
      → IsAnnounced listens contents service door out listener between after
      → enters between listener wire last
      → HasServed came ends went silent blocked answers service wire over answer
      → HasHosted listens listens_not enters enters_not contents
      came ends went silent blocked answers service door last out after answer
  nobody_came : (listener : L) (between : D) (fault : TalkFault)
      → IsAnnounced listens contents service door out listener between after
      → enters_not between listener last → IsReadFault fault
      → HasHosted listens listens_not enters enters_not contents
      came ends went silent blocked answers service door last out after (Err (Talk fault))
  not_listening : (fault : TalkFault)
      → listens_not door service.port last → after ≡ out → IsReadFault fault
      → HasHosted listens listens_not enters enters_not contents
      came ends went silent blocked answers service door last out after (Err (Talk fault))
  not_announced : (listener : L) (port : ℕ) (fault : TalkFault)
      → listens door service.port listener port last → IsUnprinted out after fault
      → HasHosted listens listens_not enters enters_not contents
      came ends went silent blocked answers service door last out after (Err (Talk fault))
