use Rattle.std.proofs.Common.{lit≤, refl, inl, inr, Some, None, subst, [], arith}
use Rattle.shogi_board.specs.declared.color.Color.{Color}
use Rattle.shogi_rules.specs.Play.{Answers}
use Rattle.shogi_rules.specs.declared.line.PlayFault.TheVariants as play
use Rattle.shogi_rules.specs.Positions.{line_of}
use Rattle.usi_text.specs.declared.fault.UsiFault.TheVariants.{BadMoveText, Broken, OutOfMemory}
use Rattle.usi_text.specs.Words.{words}
use Rattle.usi_text.proofs.Played.{playing_start, playing_stops}
use Rattle.usi_text.proofs.line.fault_without_room.Goals as goal

pub returns-in-Some-judge : goal.returns-in-Some-judge
returns-in-Some-judge c =
    let ws = words c.args.text.now in
    let m = c.in-Some-read_move.mv in
    let w = c.in-Some.word.now in
    let first = c.in-Some.ensures.word in
    let broken = (c.in-Some-judge.ensures {u = tt}).first in
    let judged = subst (λ (s : Color). Answers (line_of c.args.start []) s m (Some (play.Broken c.in-Some-judge.rule))) c.side.ensures.value (omega arith, broken) in
    playing_stops c.args.start ws ws _ [] w (Broken 1 c.in-Some-judge.rule) (playing_start c.args.start ws) first (inr (refl, m, (c.in-Some-read_move.ensures {u = tt}).stated, judged))

pub returns-in-None : goal.returns-in-None
returns-in-None c =
    let ws = words c.args.text.now in
    let m = c.in-Some-read_move.mv in
    let w = c.in-Some.word.now in
    let first = c.in-Some.ensures.word in
    let kept = (c.in-None.ensures {u = tt}).first in
    let judged = subst (λ (s : Color). Answers (line_of c.args.start []) s m None) c.side.ensures.value (omega arith, kept) in
    playing_stops c.args.start ws ws _ [] w OutOfMemory (playing_start c.args.start ws) first (inl (refl, m, ((c.in-Some-read_move.ensures {u = tt}).stated, judged)))

pub returns-in_default-read_move : goal.returns-in_default-read_move
returns-in_default-read_move c =
    let ws = words c.args.text.now in
    let none = (c.in_default-read_move.ensures {u = tt}).stated in
    playing_stops c.args.start ws ws _ [] c.in-Some.word.now (BadMoveText 1) (playing_start c.args.start ws) c.in-Some.ensures.word (inr (refl, lit≤ tt, none))
