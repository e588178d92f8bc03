use Rattle.usi_text.proofs.SfenOnce.{sfen_once, sfen_no_fault, fault_once}
use Rattle.usi_text.proofs.Existing.{sfen_some}
use Rattle.usi_text.proofs.laws.sfen_once.Goals as goal

pub returns-clause-one : goal.returns-clause-one
returns-clause-one c = sfen_once

pub returns-clause-either : goal.returns-clause-either
returns-clause-either c = sfen_no_fault

pub returns-clause-first : goal.returns-clause-first
returns-clause-first c = fault_once

pub returns-clause-some : goal.returns-clause-some
returns-clause-some c = sfen_some
