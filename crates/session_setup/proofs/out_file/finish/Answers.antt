use Rattle.std.proofs.lemmas.Result.{err_from_is_err_and}
use Rattle.session_setup.specs.Disk.{fills, not_written, written}
use Rattle.session_setup.proofs.out_file.finish.Goals as goal

pub returns-in_err-write_to-in-None : goal.returns-in_err-write_to-in-None
returns-in_err-write_to-in-None g c =
    let p = err_from_is_err_and c.from_residual.result c.from_residual.ensures.1 in
    rw (c.in-None.is, p.1, p.2) (not_written c.in_err-write_to-in-None.ensures.unwritten)

pub returns-in-Some : goal.returns-in-Some
returns-in-Some g c = rw c.in-Some.is (fills _ _ c.fill.ensures)

pub returns-in_ok-write_to-in-None : goal.returns-in_ok-write_to-in-None
returns-in_ok-write_to-in-None g c = rw c.in-None.is (written tt c.in_ok-write_to-in-None.ensures.written)
