use Rattle.std.proofs.Common.{ap, arith, ◌∙◌}
use Rattle.session_setup.specs.Logins.{first_line}
use Rattle.session_setup.proofs.LoginWords.{front_read, no_word_given, read_fails, word_given}
use Rattle.session_setup.proofs.login.password_in.Goals as goal

pub returns-in-Err-clause-none : goal.returns-in-Err-clause-none
returns-in-Err-clause-none g c = read_fails _ c.read_fault.result c.read_fault.ensures

pub returns-clause-given : goal.returns-clause-given
returns-clause-given g c =
    let front = front_read g.F.Read.remaining c.take.result c.args.file 64 c.new-bytes.result.items c.read_to_end.new.buf.items c.take.ensures.limit c.take.ensures.inner c.new-bytes.ensures.items c.in_default.ensures.bytes in
    let line = c.first_line.ensures ∙ ap first_line c.as_slice.ensures.value in
    rw c.ok_or.ensures.value (word_given (λ w. w.bytes) (g.F.Read.remaining c.args.file) 64 c.read_to_end.new.buf.items c.first_line.result.now c.credential.result (omega arith) front line c.credential.ensures)

pub returns-clause-none : goal.returns-clause-none
returns-clause-none g c =
    let front = front_read g.F.Read.remaining c.take.result c.args.file 64 c.new-bytes.result.items c.read_to_end.new.buf.items c.take.ensures.limit c.take.ensures.inner c.new-bytes.ensures.items c.in_default.ensures.bytes in
    let line = c.first_line.ensures ∙ ap first_line c.as_slice.ensures.value in
    rw c.ok_or.ensures.value (no_word_given (λ w. w.bytes) (g.F.Read.remaining c.args.file) 64 c.read_to_end.new.buf.items c.first_line.result.now c.credential.result (omega arith) front line c.credential.ensures)
