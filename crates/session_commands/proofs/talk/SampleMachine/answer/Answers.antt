use Rattle.session_lines.specs.Texts.{text_of}
use Rattle.std.proofs.Common.{◌≡◌}
use Rattle.shogi_session.specs.Sample.{SampleRow, quit}
use Rattle.session_commands.proofs.Talks.{answered_so}
use Rattle.session_commands.proofs.talk.SampleMachine.answer.Goals as goal

pub returns : goal.returns
returns c = record {
  answer = answered_so c.step.result (λ out. out.lines) (λ out. out.ended) (λ lines. SampleRow c.args.self.now c.args.line.now lines c.step.new.self) text_of (c.step.new.self ≡ quit)
      c.step.ensures.row c.step.ensures.lines c.step.ensures.ended;
}
