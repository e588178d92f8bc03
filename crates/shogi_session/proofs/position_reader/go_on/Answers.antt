use Rattle.std.proofs.Common.{◌++◌, subst}
use Rattle.session_lines.specs.Texts.{ended_line}
use Rattle.shogi_session.specs.PositionTexts.{HasCome, IsTaken}
use Rattle.shogi_session.proofs.BlockReads.{none_more}
use Rattle.shogi_session.proofs.position_reader.go_on.Goals as goal

pub returns-in_default : goal.returns-in_default
returns-in_default c = λ text come. none_more text (ended_line c.args.line.now) (subst (HasCome text) c.in_default.is come)

pub returns-in-Taken : goal.returns-in-Taken
returns-in-Taken c = λ text come.
    subst (λ b. IsTaken (text ++ ended_line c.args.line.now) b c.take_line.new.reader) c.in-Taken.is
    (c.in_ok-take_line.ensures text (subst (HasCome text) c.in-Reading.is come))

pub returns-in-Refused : goal.returns-in-Refused
returns-in-Refused c = λ text come.
    subst (λ b. IsTaken (text ++ ended_line c.args.line.now) b c.take_line.new.reader) c.in-Refused.is
    (c.in_ok-take_line.ensures text (subst (HasCome text) c.in-Reading.is come))
