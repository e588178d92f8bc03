use Rattle.std.proofs.Common.{◌≡◌, arith}
use Rattle.std.proofs.lemmas.Grind.{common_steps}
use Rattle.csa_text.specs.Moment.{moment_text, moment_of}
use Rattle.csa_text.proofs.Moments.{moment_spelled}
use Rattle.csa_text.proofs.calendar.Moment.text.Goals as goal

pub returns-in-Some-clause-read_back : goal.returns-in-Some-clause-read_back
returns-in-Some-clause-read_back c =
    let whole : c.push_time.new.text.bytes ≡ moment_text (moment_of c.args.self.now) = grind (arith, common_steps) in
    let m = c.args.self.now in
    rw whole (moment_spelled m.date.year m.date.month m.date.day m.time m.year_in.0 m.year_in.1 (m.date.year_in, m.date.month_in, m.date.day_in))

pub returns-in_default-clause-read_back : goal.returns-in_default-clause-read_back
returns-in_default-clause-read_back c =
    let whole : c.push_date.new.text.bytes ≡ moment_text (moment_of c.args.self.now) = grind (arith, common_steps) in
    let m = c.args.self.now in
    rw whole (moment_spelled m.date.year m.date.month m.date.day m.time m.year_in.0 m.year_in.1 (m.date.year_in, m.date.month_in, m.date.day_in))
