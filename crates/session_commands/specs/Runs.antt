-- What `play` returns, by the words of its plan.
use Rattle.std.specs.Prelude.{◌≢◌}
use Rattle.session_setup.specs.Paths.{HasSoundWords, IsPlanFault}
use Rattle.session_setup.specs.declared.fault.PlayCommandFault.{PlayCommandFault}
use Rattle.session_setup.specs.declared.fault.PlayCommandFault.TheVariants.{Plan as PlanFailed}
use Rattle.session_setup.specs.declared.plan_fault.PlanFault.{PlanFault}
use Rattle.session_setup.specs.declared.plan_fault.PlanFault.TheVariants.{NoPort}
use Rattle.shogi_words.specs.declared.play.Plan.{Plan}

-- it is no fault of a plan
abbrev pub IsNoPlanFault : PlayCommandFault → Type 0
IsNoPlanFault fault = (why : PlanFault) → fault ≢ PlanFailed why

-- the fault of the plan's words, or another if these go together
pub data IsRunFault (plan : Plan) : PlayCommandFault → Type 0 where
  unsound : (why : PlanFault) → IsPlanFault plan why → IsRunFault plan (PlanFailed why)
  other : (fault : PlayCommandFault) → HasSoundWords plan → fault ≢ PlanFailed NoPort
      → IsRunFault plan fault
