use Rattle.std.proofs.Common.{[], refl, subst}
use Rattle.shogi_session.specs.declared.phase.GameStage.TheVariants.{Playing}
use Rattle.shogi_session.specs.Phases.{PlayGoesOn}
use Rattle.shogi_session.proofs.in_play.confirm.Goals as goal

pub returns : goal.returns
returns c =
    let p = record c.args.play.now { game = c.play_move.new.game } in
    subst (λ g. PlayGoesOn c.args.config.now c.args.engine.now (record c.args.play.now { game = g }) [] c.in_ok-out.out c.ask_engine.new.engine (record p { stage = Playing }))
    c.in_ok-play_move.ensures.ok
    (subst (λ before. PlayGoesOn c.args.config.now c.args.engine.now p before c.in_ok-out.out c.ask_engine.new.engine (record p { stage = Playing })) c.new.ensures.value
    (c.in_ok-out.ensures.goes_on p refl refl))
