use Rattle.std.proofs.Common.{◌≡◌, ◌+◌, ◌<◌, false, get_or, length, arith}
use Rattle.std.proofs.lemmas.Option.{slice_get-get_or}
use Rattle.shogi_board.specs.declared.color.Color.TheVariants.{Black}
use Rattle.shogi_rules.specs.declared.seen.Turn.{Turn}
use Rattle.shogi_rules.proofs.Places.{pressed-at}
use Rattle.shogi_rules.proofs.repetition.gave_check.Goals as goal

pub returns : goal.returns
returns c = λ ps are.
    let turns = c.args.turns.now in
    let place = c.args.place in
    let other : Turn = record { side = Black; in_check = false } in
    let low : place < length turns = omega (arith, c.requires) in
    let side : (get_or turns place other).side ≡ c.args.color = grind arith in
    pressed-at ps turns place c.args.color (get_or turns place other) (get_or turns (place + 1) other) are (slice_get-get_or turns place other low) (slice_get-get_or turns (place + 1) other c.requires) side
