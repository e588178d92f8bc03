use Rattle.std.proofs.Common.{refl}
use Rattle.session_setup.specs.declared.plan_fault.Written.TheVariants.{Log, Record}
use Rattle.session_setup.proofs.Planning.{none_written, unless}
use Rattle.session_setup.proofs.paths.apart.Goals as goal

pub returns-then-log_takes-clause-overwrites : goal.returns-then-log_takes-clause-overwrites
returns-then-log_takes-clause-overwrites c = (Log, c.log_takes.ensures.0 c.if-log_takes.true, refl)

pub returns-then-is_same-clause-overwrites : goal.returns-then-is_same-clause-overwrites
returns-then-is_same-clause-overwrites c = (Record, c.is_same.ensures.0 c.if-is_same.true, refl)

pub returns-clause-apart : goal.returns-clause-apart
returns-clause-apart c = none_written c.args.plan.now c.args.path.now (unless c.log_takes.result c.log_takes.ensures c.if-log_takes.false) (unless c.is_same.result c.is_same.ensures c.if-is_same.false)
