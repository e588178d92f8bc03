use Rattle.std.proofs.Common.{◌≡◌, [], ◌∷◌, sym, subst}
use Rattle.bridge_table.specs.State.{game_with}
use Rattle.shogi_session.proofs.GameEnds.{timed_move, taken}
use Rattle.shogi_session.proofs.in_play.play_move.Goals as goal

pub returns-in-Some-clause-ok : goal.returns-in-Some-clause-ok
returns-in-Some-clause-ok c =
    subst (λ x. c.set_time.new.self ≡ game_with c.args.game.now (record { move = c.args.mv; time = x } ∷ [])) (sym c.in-Some.is)
    (timed_move c.args.game.now c.play.new.self c.set_time.new.self c.args.mv c.in-Some.thousandths c.set_time.result c.requires.none
    (taken c.play.result _ c.is_err.result c.is_err.ensures.value c.if-is_err.false c.play.ensures.changed) c.set_time.ensures.ok c.set_time.ensures.changed)
