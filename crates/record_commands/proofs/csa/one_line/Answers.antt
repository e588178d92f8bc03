use Rattle.std.proofs.Common.{rules, refl}
use Rattle.record_commands.proofs.Telling.{line_alone, line_then_long, line_twice, broke_off, line_broke_off}
use Rattle.record_commands.proofs.csa.one_line.Goals as goal

pub returns-in-End-2-clause-line : goal.returns-in-End-2-clause-line
returns-in-End-2-clause-line g c =
    line_alone c.args.lines.now.bytes c.args.lines.now.bytes c.read_line.new.self.bytes c.read_line-2.new.self.bytes c.in_ok-line.line.items c.line.result.now c.read_line.new.self.line
    refl c.in_ok-line.ensures.items c.line.ensures.value
    (c.in_ok-read_line.ensures.line c.in-Line.is) (c.in_ok-read_line.ensures.short c.in-Line.is) (c.in_ok-read_line-2.ensures.end c.in-End-2.is)

pub returns-in-Line-2-clause-bad : goal.returns-in-Line-2-clause-bad
returns-in-Line-2-clause-bad g c = λ is.
    line_twice c.args.lines.now.bytes c.args.lines.now.bytes c.read_line.new.self.bytes c.read_line-2.new.self.bytes c.read_line.new.self.line c.read_line-2.new.self.line
    refl (c.in_ok-read_line.ensures.line c.in-Line.is) (c.in_ok-read_line.ensures.short c.in-Line.is)
    (c.in_ok-read_line-2.ensures.line c.in-Line-2.is) (c.in_ok-read_line-2.ensures.short c.in-Line-2.is)

pub returns-in-Long-2-clause-long : goal.returns-in-Long-2-clause-long
returns-in-Long-2-clause-long g c = λ is.
    line_then_long c.args.lines.now.bytes c.args.lines.now.bytes c.read_line.new.self.bytes c.read_line-2.new.self.bytes c.read_line.new.self.line
    refl (c.in_ok-read_line.ensures.line c.in-Line.is) (c.in_ok-read_line-2.ensures.long c.in-Long-2.is)

pub returns-in-Line-2-clause-line : goal.returns-in-Line-2-clause-line
returns-in-Line-2-clause-line g c = search rules

pub returns-in-Failed-clause-read : goal.returns-in-Failed-clause-read
returns-in-Failed-clause-read g c = λ going _.
    let h = c.in_ok-read_line.ensures in
    broke_off c.args.lines.now c.read_line.new.self c.in_ok-read_line.field-0 going c.in-Failed.is h.over (h.failed c.in-Failed.is)

pub returns-in-Failed-2-clause-read : goal.returns-in-Failed-2-clause-read
returns-in-Failed-2-clause-read g c = λ going _.
    let h = c.in_ok-read_line.ensures in
    let i = c.in_ok-read_line-2.ensures in
    line_broke_off c.args.lines.now c.read_line.new.self c.read_line-2.new.self c.in_ok-read_line.field-0 c.in_ok-read_line-2.field-0
    going c.in-Line.is h.over (h.line c.in-Line.is) c.in-Failed-2.is i.over (i.failed c.in-Failed-2.is)
