use Rattle.std.proofs.Common.{◌≡◌, ◌∙◌, arith, sym}
use Rattle.shogi_board.specs.Legal.{kind_after}
use Rattle.shogi_board.specs.declared.kind.Kind.TheVariants.{King}
use Rattle.shogi_board.proofs.Check.{checked-by}
use Rattle.shogi_board.proofs.Opened.{no-danger, towards-danger}
use Rattle.shogi_board.proofs.Tests.{fails}
use Rattle.shogi_board.proofs.situation.Situation.danger_after.Goals as goal

pub returns-in-Some : goal.returns-in-Some
returns-in-Some c =
    let i = c.self.inside in
    let free = fails c.is_some.result (checked-by i.position.material.board i.position.side i.checker c.is_some.result c.is_some.ensures c.self.invariant.1) c.if-is_some.false in
    let still : kind_after c.args.mv.now ≡ King → ⊥ = λ e. grind arith in
    rw (← c.self.view_is) (towards-danger i.position c.args.mv.now c.in-Some.from c.self.invariant.0 free still (sym c.source.ensures ∙ c.in-Some.is))

pub returns-in-None : goal.returns-in-None
returns-in-None c =
    let i = c.self.inside in
    let free = fails c.is_some.result (checked-by i.position.material.board i.position.side i.checker c.is_some.result c.is_some.ensures c.self.invariant.1) c.if-is_some.false in
    let still : kind_after c.args.mv.now ≡ King → ⊥ = λ e. grind arith in
    rw (← c.self.view_is) (no-danger i.position c.args.mv.now c.self.invariant.0 free still (sym c.source.ensures ∙ c.in-None.is))
