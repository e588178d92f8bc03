use Rattle.std.proofs.Common.{◌≡◌, ◌≤◌, ◌∙◌, ap, sym, arith, rules, [], ◌++◌, ◌+◌, length, take, drop, false}
use Rattle.std.proofs.KnownBytes.{Consumes-trans}
use Rattle.std.proofs.lemmas.List.{append_assoc, append-nil, length-append, length-take-le, take-append-le}
use Rattle.archive_commands.specs.LineNumbers.{line_ends}
use Rattle.archive_commands.proofs.explain.line_at.Goals as goal

pub loop-left-preserved : goal.loop-left-preserved
loop-left-preserved g c =
    let before = c.loop-left.invariant in
    let taken = c.in-Ok.taken in
    let buffer = c.read_uninterrupted.new.buffer in
    let piece = take taken buffer in
    let long : length piece ≡ taken = length-take-le taken buffer c.in-Ok.ensures.within in
    let same = take-append-le taken buffer (drop c.min-most.result c.loop-left.piece) c.in-Ok.ensures.within in
    let within : taken ≤ c.loop-left.left = search rules in
    record {
      front = before.front ++ piece;
      read = Consumes-trans (g.B.Read.remaining c.args.input.now) (g.B.Read.remaining c.loop-left.input) (g.B.Read.remaining c.read_uninterrupted.new.reader) before.front piece before.read c.in-Ok.ensures.bytes.0;
      left = omega (arith, length-append before.front piece, long, within, before.left);
      few = omega (arith, c.count.ensures.bound, ap length same, long, length-append before.front piece, before.few);
      counted = λ more. ap (line_ends false) (append_assoc before.front piece more) ∙ before.counted (piece ++ more)
          ∙ ap (λ p. c.loop-left.ends.number + line_ends c.loop-left.ends.follow_cr (p ++ more)) (sym same) ∙ c.count.ensures.counted more;
    }

pub returns : goal.returns
returns g c =
    let end = c.loop-left.invariant in
    let all : line_ends false end.front ≡ c.loop-left.ends.number + 0 = sym (ap (line_ends false) (append-nil end.front)) ∙ end.counted [] in
    (end.front, end.read, omega (arith, end.left, c.loop-left-test.false), omega (arith, all))
