use Rattle.session_setup.proofs.Porting.{not_other, not_unread, not_zero, port_is_text, read_same, written_so}
use Rattle.session_setup.proofs.port.port_in.Goals as goal

pub returns-in_default : goal.returns-in_default
returns-in_default c = λ port is same. port_is_text port c.args.digits.now is same c.in_default.ensures.cases.0

pub returns-in_default-parse : goal.returns-in_default-parse
returns-in_default-parse c = λ port is same.
    not_unread port c.args.digits.now c.in-Ok.text.now c.parse.result c.in_default-parse.field-0 c.in_default-parse.is is same c.in-Ok.ensures.cases.0 c.parse.ensures.value.0

pub returns-then-port-eq0 : goal.returns-then-port-eq0
returns-then-port-eq0 c = λ port is same.
    let text = c.in-Ok.text.now in
    let read = c.in-Ok-parse.port in
    not_zero port read is (read_same port c.args.digits.now text c.parse.result read c.in-Ok-parse.is is same c.in-Ok.ensures.cases.0 c.parse.ensures.value.0) c.if-port-eq0.true

pub returns-then-ne : goal.returns-then-ne
returns-then-ne c = λ port is same.
    let digits = c.args.digits.now in
    let text = c.in-Ok.text.now in
    let read = c.in-Ok-parse.port in
    let number = read_same port digits text c.parse.result read c.in-Ok-parse.is is same c.in-Ok.ensures.cases.0 c.parse.ensures.value.0 in
    not_other c.format.result.now text c.if-ne.ensures (written_so port digits text c.format.result.now read number same c.in-Ok.ensures.cases.0 c.format.ensures.text)
