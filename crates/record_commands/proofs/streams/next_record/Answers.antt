use Rattle.std.proofs.lemmas.Result.{err_from_is_err_and}
use Rattle.std.proofs.Common.{Err, ap}
use Rattle.record_commands.specs.Inputs.{path_of}
use Rattle.record_commands.proofs.Recording.{gets_record, none_read}
use Rattle.record_commands.proofs.streams.next_record.Goals as goal

pub returns-in_err-input : goal.returns-in_err-input
returns-in_err-input g c =
    let path = path_of c.args.file in
    let p = err_from_is_err_and c.from_residual.result c.from_residual.ensures.1 in
    rw p.1 (none_read (g.I.Inputs.opens_not c.args.inputs.now path) (g.I.Inputs.opens c.args.inputs.now path) g.I.Input.Read.remaining c.in_err-input.field-0.0 p.0 (λ is. c.in_err-input.ensures.failed (ap Err is)) p.2)

pub returns : goal.returns
returns g c =
    let path = path_of c.args.file in
    let h = c.read.ensures in
    let after = c.read.new.source in
    gets_record (g.I.Inputs.opens_not c.args.inputs.now path) (g.I.Inputs.opens c.args.inputs.now path) g.I.Input.Read.remaining
    c.in_ok-input.input c.new.result.inner after.inner after.ended c.new.result.failures after.failures c.read.result
    c.in_ok-input.ensures.opened c.new.ensures.inner c.new.ensures.failures h.stated h.ended h.refused h.read_fault h.quiet h.memory h.no_write
