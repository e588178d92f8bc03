-- The faults of `play`, by its steps.
use Rattle.std.proofs.Common.{◌≢◌, Result, Ok, Err, IfErr}
use Rattle.std.specs.Bool.{⊤}
use Rattle.session_commands.specs.Playing.{IsPlayed, failed_to_play, not_begun, played}
use Rattle.session_setup.specs.Paths.{HasSoundWords, IsFilesFault}
use Rattle.session_setup.specs.declared.fault.LoginFault.{LoginFault}
use Rattle.session_setup.specs.declared.fault.MatchFault.{MatchFault}
use Rattle.session_setup.specs.declared.fault.PlayCommandFault.{PlayCommandFault}
use Rattle.session_setup.specs.declared.fault.PlayCommandFault.TheVariants.{Plan as PlanFailed, Login as LoginFailed, Match as MatchFailed}
use Rattle.session_setup.specs.declared.login.Login.{Login}
use Rattle.session_setup.specs.declared.plan_fault.PlanFault.TheVariants.{NoPort}
use Rattle.session_commands.specs.Runs.{IsNoPlanFault, IsRunFault, other}
use Rattle.shogi_words.specs.declared.play.Plan.{Plan}

-- a game that was not played has no fault of its plan
pub no_plan_fault : {is_login : Login → Type 0} {has_no_login : LoginFault → Type 0} {reported : Login → Result ⊤ MatchFault → Type 0} {untouched : Type 0}
    (answer : Result ⊤ PlayCommandFault) → IsPlayed is_login has_no_login reported untouched answer → IfErr answer IsNoPlanFault
no_plan_fault _ (played login done met told) = tt
no_plan_fault _ (failed_to_play login fault met told) = λ why e. absurd cc
no_plan_fault _ (not_begun fault none kept) = λ why e. absurd cc

-- files do not say that there is no port
pub no_port_missed : (fault : PlayCommandFault) → IsFilesFault fault → fault ≢ PlanFailed NoPort
no_port_missed (PlanFailed why) differs = λ e. differs cc
no_port_missed (LoginFailed why) none = absurd none
no_port_missed (MatchFailed why) is = λ e. absurd cc

-- nor does the fault of a game
pub match_missed : (fault : MatchFault) → MatchFailed fault ≢ PlanFailed NoPort
match_missed fault = λ e. absurd cc

-- nor does what came of a game
pub fault_of_run : (plan : Plan) (answer : Result ⊤ PlayCommandFault) → HasSoundWords plan → IfErr answer IsNoPlanFault → IfErr answer (IsRunFault plan)
fault_of_run plan (Ok done) sound none = tt
fault_of_run plan (Err fault) sound none = other fault sound (none NoPort)
