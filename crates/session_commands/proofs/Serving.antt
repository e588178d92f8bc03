-- What became of the client of `serve`, by how the answering of its lines ended.
use Rattle.std.proofs.Common.{◌≡◌, Result, Ok, Err, IfOk, IfErr, IsOk, IsErrOf, OnOk, refl, sym, subst}
use Rattle.std.specs.Bool.{⊤}
use Rattle.shogi_session.specs.Hosting.{HostSession}
use Rattle.shogi_words.specs.declared.serve.Service.{Service}
use Rattle.session_commands.specs.Door.{Contents, Enters, EntersNot, HasHosted, HasServed, Listens, ListensNot, broke_off, client_gone, no_host, nobody_came, not_announced, not_listening, served, session_over}
use Rattle.session_commands.specs.Offering.{OffersGame}
use Rattle.session_commands.specs.Talks.{BreaksOff, Calls, HasAnswered, MachineRow, Passes}
use Rattle.session_setup.specs.declared.fault.ServeFault.{ServeFault}
use Rattle.session_setup.specs.declared.fault.ServeFault.TheVariants as serve
use Rattle.session_setup.specs.declared.fault.TalkFault.{TalkFault}
use Rattle.session_commands.specs.declared.talk.MachineState.{MachineState}
use Rattle.session_commands.specs.declared.talk.MachineState.TheVariants.{Running, Ended}

pub has_served : {W : Type 0} (came : Passes W) (ends : Calls W) (went : Passes W) (silent : Calls W) (blocked : Passes W) (answers : MachineRow HostSession)
    (service : Service) (wire last : W) (old new : HostSession) (answered : Result MachineState TalkFault) (result : Result ⊤ ServeFault)
    → (answered ≡ Ok Ended → IsOk result) → (answered ≡ Ok Running → IsErrOf result serve.ClientGone)
    → ((f : TalkFault) → answered ≡ Err f → IsErrOf result (serve.Talk f)) → OffersGame service old
    → IfOk answered (λ over. HasAnswered came ends went answers wire old over last new)
    → IfErr answered (λ f. BreaksOff came ends went silent blocked answers wire old f last)
    → HasServed came ends went silent blocked answers service wire last result
has_served came ends went silent blocked answers service wire last old new (Ok Ended) (Ok done) over gone broken offered has breaks =
    session_over done old new offered has
has_served came ends went silent blocked answers service wire last old new (Ok Ended) (Err e) over gone broken offered has breaks =
    let is = over refl in absurd cc
has_served came ends went silent blocked answers service wire last old new (Ok Running) result over gone broken offered has breaks =
    subst (λ r. HasServed came ends went silent blocked answers service wire last r) (sym (gone refl)) (client_gone old new offered has)
has_served came ends went silent blocked answers service wire last old new (Err f) result over gone broken offered has breaks =
    subst (λ r. HasServed came ends went silent blocked answers service wire last r) (sym (broken f refl)) (broke_off old f offered breaks)

-- a well answer is that of a whole session
pub whole_session : {W : Type 0} (came : Passes W) (ends : Calls W) (went : Passes W) (silent : Calls W) (blocked : Passes W) (answers : MachineRow HostSession)
    (service : Service) (wire last : W) (result : Result ⊤ ServeFault)
    → HasServed came ends went silent blocked answers service wire last result
    → OnOk result ((before after : W) × (old new : HostSession) × OffersGame service old × HasAnswered came ends went answers before old Ended after new)
whole_session came ends went silent blocked answers service wire last result (session_over done old new offered has) = (wire, last, old, new, offered, has)
whole_session came ends went silent blocked answers service wire last result (client_gone old new offered has) = tt
whole_session came ends went silent blocked answers service wire last result (broke_off old fault offered breaks) = tt
whole_session came ends went silent blocked answers service wire last result (no_host same) = tt

-- and of one who came in at a door
pub hosted_session : {D L W O : Type 0} (listens : Listens D L) (listens_not : ListensNot D) (enters : Enters D L W) (enters_not : EntersNot D L) (contents : Contents O)
    (came : Passes W) (ends : Calls W) (went : Passes W) (silent : Calls W) (blocked : Passes W) (answers : MachineRow HostSession)
    (service : Service) (door last : D) (out after : O) (result : Result ⊤ ServeFault)
    → HasHosted listens listens_not enters enters_not contents came ends went silent blocked answers service door last out after result
    → OnOk result ((before over : W) × (old new : HostSession) × OffersGame service old × HasAnswered came ends went answers before old Ended over new)
hosted_session listens listens_not enters enters_not contents came ends went silent blocked answers service door last out after result (served listener between wire over answer announced entered has) =
    whole_session came ends went silent blocked answers service wire over result has
hosted_session listens listens_not enters enters_not contents came ends went silent blocked answers service door last out after result (nobody_came listener between fault announced none is) = tt
hosted_session listens listens_not enters enters_not contents came ends went silent blocked answers service door last out after result (not_listening fault none same is) = tt
hosted_session listens listens_not enters enters_not contents came ends went silent blocked answers service door last out after result (not_announced listener port fault listening unprinted) = tt
