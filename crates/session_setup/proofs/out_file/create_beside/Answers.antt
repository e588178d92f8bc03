use Rattle.std.proofs.Common.{arith}
use Rattle.std.proofs.lemmas.Result.{err_from_is_err_and}
use Rattle.session_setup.specs.Disk.{no_name, not_created, tried, untried}
use Rattle.session_setup.proofs.out_file.create_beside.Goals as goal

pub loop-number-init : goal.loop-number-init
loop-number-init g c = untried

pub returns-in_err-path-clause-not_created : goal.returns-in_err-path-clause-not_created
returns-in_err-path-clause-not_created g c =
    let p = err_from_is_err_and c.from_residual.result c.from_residual.ensures.1 in
    rw (p.1, p.2) (no_name _ c.loop-number.invariant)

pub returns-in-Ok-clause-created : goal.returns-in-Ok-clause-created
returns-in-Ok-clause-created g c = record {
  number = c.loop-number.number;
  before = c.loop-number.disk;
  after = c.create.new.self;
  tried = c.loop-number.invariant;
  is_beside = rw c.as_str.ensures.value at c.in_ok-path.ensures;
  created = rw c.as_str-in-loop-number.ensures.value at c.in-Ok.ensures.act;
  asked = rw c.as_str-in-Ok.ensures.value at c.ask_for.ensures;
}

pub returns-in-Err-Failed-clause-not_created : goal.returns-in-Err-Failed-clause-not_created
returns-in-Err-Failed-clause-not_created g c =
    not_created _ (omega arith) (tried _ _ _ _ c.loop-number.invariant (rw c.as_str.ensures.value at c.in_ok-path.ensures) (rw c.as_str-in-loop-number.ensures.value at c.in-Err-Failed.ensures.act))

pub loop-number-preserved : goal.loop-number-preserved
loop-number-preserved g c =
    tried _ _ _ _ c.loop-number.invariant (rw c.as_str.ensures.value at c.in_ok-path.ensures) (rw c.as_str-in-loop-number.ensures.value at c.in-Err-Taken.ensures.act)

pub returns-clause-not_created : goal.returns-clause-not_created
returns-clause-not_created g c = not_created _ (omega (arith, c.loop-number-test.false)) c.loop-number.invariant
