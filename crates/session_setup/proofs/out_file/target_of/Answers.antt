use Rattle.std.proofs.lemmas.Result.{err_from_is_err_and}
use Rattle.session_setup.specs.Disk.{file, link, lost_link, no_file, no_memory, nothing}
use Rattle.session_setup.proofs.out_file.target_of.Goals as goal

pub returns-in_err-from_str-in-Nothing-clause-none : goal.returns-in_err-from_str-in-Nothing-clause-none
returns-in_err-from_str-in-Nothing-clause-none g c =
    let p = err_from_is_err_and c.from_residual.result c.from_residual.ensures.1 in
    rw (p.1, p.2) no_memory

pub returns-in_err-from_str-in-File-clause-none : goal.returns-in_err-from_str-in-File-clause-none
returns-in_err-from_str-in-File-clause-none g c =
    let p = err_from_is_err_and c.from_residual-in_err-from_str-in-File.result c.from_residual-in_err-from_str-in-File.ensures.1 in
    rw (p.1, p.2) no_memory

pub returns-in_err-target-in-Link-clause-none : goal.returns-in_err-target-in-Link-clause-none
returns-in_err-target-in-Link-clause-none g c =
    let p = err_from_is_err_and c.from_residual-in_err-target-in-Link.result c.from_residual-in_err-target-in-Link.ensures.1 in
    rw (p.1, p.2) (lost_link _ _ (rw c.in-Link.is at c.find.ensures.finds) c.in_err-target-in-Link.ensures.faults)

pub returns-in_ok-from_str-in-Nothing-clause-target : goal.returns-in_ok-from_str-in-Nothing-clause-target
returns-in_ok-from_str-in-Nothing-clause-target g c = rw c.in_ok-from_str-in-Nothing.ensures.ok (nothing (rw c.in-Nothing.is at c.find.ensures.finds))

pub returns-in_ok-from_str-in-File-clause-target : goal.returns-in_ok-from_str-in-File-clause-target
returns-in_ok-from_str-in-File-clause-target g c = rw c.in_ok-from_str-in-File.ensures.ok (file _ (rw c.in-File.is at c.find.ensures.finds))

pub returns-in_ok-target-in-Link-clause-target : goal.returns-in_ok-target-in-Link-clause-target
returns-in_ok-target-in-Link-clause-target g c = link _ _ (rw c.in-Link.is at c.find.ensures.finds) c.in_ok-target-in-Link.ensures.leads

pub returns-in-NoFile-clause-none : goal.returns-in-NoFile-clause-none
returns-in-NoFile-clause-none g c = no_file (rw c.in-NoFile.is at c.find.ensures.finds)
