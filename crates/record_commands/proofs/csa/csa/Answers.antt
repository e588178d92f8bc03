use Rattle.std.proofs.Common.{Err, subst, sym, ◌≡◌, ◌≢◌, ◌⊎◌, ◌∙◌, ap}
use Rattle.std.specs.Io.KnownBytes.{Appends}
use Rattle.record_game.specs.Canon.{canon}
use Rattle.usi_text.specs.Lines.{LineFault, LineNeedsMemory, UsiLine}
use Rattle.usi_text.specs.Words.{words}
use Rattle.usi_text.specs.declared.fault.UsiFault.TheVariants as usi
use Rattle.record_commands.specs.Inputs.{path_of}
use Rattle.record_commands.specs.OneLine.{FailsToConvert, IsOneLine}
use Rattle.record_commands.specs.declared.fault.PositionLineFault.TheVariants as line_faults
use Rattle.record_commands.proofs.Converting.{line_refused, no_one_line, returned, unopened}
use Rattle.record_commands.proofs.csa.csa.Goals as goal

pub returns-clause-accepted : goal.returns-clause-accepted
returns-clause-accepted g c =
    let line = c.in_ok-line.line in
    let alone = subst (λ b. IsOneLine b c.in_ok-text.text.items) c.in_ok-lines.ensures.bytes c.in_ok-text.ensures.line in
    let says = subst (λ xs. UsiLine (words xs) line.start line.moves) c.as_slice.ensures.value c.in_ok-line.ensures.stated in
    record {
      line = line;
      read = (c.in_ok-open.field-0, c.in_ok-open.ensures.opened, (c.in_ok-text.text.items, alone, says));
      printed = subst (λ xs. Appends (g.W.Write.contents c.args.out.now) (g.W.Write.contents c.write_all.new.writer) xs)
          (c.as_slice-2.ensures.value ∙ (c.in_ok-text-2.ensures.text ∙ ap canon c.in-Ok.ensures.ok)) c.in_ok-write_all.ensures.bytes;
    }

pub returns-in_err-open-clause-fails : goal.returns-in_err-open-clause-fails
returns-in_err-open-clause-fails g c =
    let path = path_of c.args.file in
    let Unopened = g.I.Inputs.opens_not c.args.inputs.now path in
    let Opened = g.I.Inputs.opens c.args.inputs.now path in
    let bytes = g.I.Input.Read.remaining in
    returned (FailsToConvert Unopened Opened bytes) _ c.from_residual.result c.from_residual.ensures.1
    (λ fault gives. unopened Unopened Opened bytes c.in_err-open.field-0.0 fault (λ is. c.in_err-open.ensures.failed (ap Err is)) gives)

pub returns-in_err-text-clause-fails : goal.returns-in_err-text-clause-fails
returns-in_err-text-clause-fails g c =
    let path = path_of c.args.file in
    let Unopened = g.I.Inputs.opens_not c.args.inputs.now path in
    let Opened = g.I.Inputs.opens c.args.inputs.now path in
    let bytes = g.I.Input.Read.remaining in
    let h = c.one_line.ensures in
    let fails = no_one_line Unopened Opened bytes c.in_ok-open.field-0 c.in_ok-lines.lines c.one_line.new.lines c.one_line.result c.in_err-text.field-0.0 c.in_err-text.was
    c.in_ok-open.ensures.opened c.in_ok-lines.ensures.bytes c.in_ok-lines.ensures.open h.bad h.long h.read h.refused h.unwritten in
    returned (FailsToConvert Unopened Opened bytes) _ c.from_residual-in_err-text.result c.from_residual-in_err-text.ensures.1
    (λ fault gives. subst (FailsToConvert Unopened Opened bytes) (sym gives) fails)

pub returns-in_err-line-clause-fails : goal.returns-in_err-line-clause-fails
returns-in_err-line-clause-fails g c =
    let path = path_of c.args.file in
    let Unopened = g.I.Inputs.opens_not c.args.inputs.now path in
    let Opened = g.I.Inputs.opens c.args.inputs.now path in
    let bytes = g.I.Input.Read.remaining in
    let f = c.in_err-line.field-0.0 in
    let alone = subst (λ b. IsOneLine b c.in_ok-text.text.items) c.in_ok-lines.ensures.bytes c.in_ok-text.ensures.line in
    let stated = subst (λ xs. ((f ≡ usi.OutOfMemory) × LineNeedsMemory (words xs)) ⊎ LineFault (words xs) f) c.as_slice.ensures.value c.in_err-line.ensures.stated in
    returned (FailsToConvert Unopened Opened bytes) _ c.from_residual-in_err-line.result c.from_residual-in_err-line.ensures.1
    (λ fault gives. line_refused Unopened Opened bytes c.in_ok-open.field-0 c.in_ok-text.text.items (LineNeedsMemory (words c.in_ok-text.text.items)) f fault c.in_ok-open.ensures.opened alone stated gives)

pub returns-in_err-write_all-clause-fails : goal.returns-in_err-write_all-clause-fails
returns-in_err-write_all-clause-fails g c =
    let path = path_of c.args.file in
    let Unopened = g.I.Inputs.opens_not c.args.inputs.now path in
    let Opened = g.I.Inputs.opens c.args.inputs.now path in
    let bytes = g.I.Input.Read.remaining in
    let line = c.in_ok-line.line in
    let alone = subst (λ b. IsOneLine b c.in_ok-text.text.items) c.in_ok-lines.ensures.bytes c.in_ok-text.ensures.line in
    let says = subst (λ xs. UsiLine (words xs) line.start line.moves) c.as_slice.ensures.value c.in_ok-line.ensures.stated in
    returned (FailsToConvert Unopened Opened bytes) _ c.from_residual-in_err-write_all.result c.from_residual-in_err-write_all.ensures.1
    (λ fault gives. subst (FailsToConvert Unopened Opened bytes) (sym gives) (line, (c.in_ok-open.field-0, c.in_ok-open.ensures.opened, (c.in_ok-text.text.items, alone, says))))

pub returns-in_err-text-2-clause-fails : goal.returns-in_err-text-2-clause-fails
returns-in_err-text-2-clause-fails g c =
    let path = path_of c.args.file in
    let Unopened = g.I.Inputs.opens_not c.args.inputs.now path in
    let Opened = g.I.Inputs.opens c.args.inputs.now path in
    let bytes = g.I.Input.Read.remaining in
    returned (FailsToConvert Unopened Opened bytes) _ c.from_residual-in_err-text-2.result c.from_residual-in_err-text-2.ensures.1
    (λ fault gives. subst (FailsToConvert Unopened Opened bytes) (sym gives) tt)

pub returns-in_err-write_all-clause-unwritten : goal.returns-in_err-write_all-clause-unwritten
returns-in_err-write_all-clause-unwritten g c =
    returned (λ fault. fault ≢ line_faults.Write → c.write_all.new.writer ≡ c.args.out.now) _ c.from_residual-in_err-write_all.result c.from_residual-in_err-write_all.ensures.1
    (λ fault gives other. absurd (other gives))
