use Rattle.usi_text.proofs.LineOnce.{line_once, line_no_fault, line_fault_once}
use Rattle.usi_text.proofs.Existing.{line_some}
use Rattle.usi_text.proofs.laws.line_once.Goals as goal

pub returns-clause-one : goal.returns-clause-one
returns-clause-one c = line_once

pub returns-clause-either : goal.returns-clause-either
returns-clause-either c = line_no_fault

pub returns-clause-first : goal.returns-clause-first
returns-clause-first c = line_fault_once

pub returns-clause-some : goal.returns-clause-some
returns-clause-some c = line_some
