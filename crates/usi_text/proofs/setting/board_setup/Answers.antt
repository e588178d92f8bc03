use Rattle.std.proofs.lemmas.Result.{err_from_is_err_and}
use Rattle.usi_text.proofs.Settings.{putting_start, putting_none, putting_some, putting_fault}
use Rattle.usi_text.proofs.setting.board_setup.Goals as goal
use Rattle.usi_text.proofs.setting.board_setup.Goals.{in-Some+in_ok-place, in_default}

pub loop-n-init : goal.loop-n-init
loop-n-init c = rw c.empty-setup.ensures.value (putting_start c.args.cells.now)

pub loop-n-preserved : goal.loop-n-preserved
loop-n-preserved c =
    elim c.match-cell.branch [
      | in-Some+in_ok-place w ↦
          rw w.setup-is (putting_some c.args.cells.now c.loop-n.setup w.place.new.self c.loop-n.n w.in-Some.piece w.board_square.result c.loop-n.invariant c.loop-n-test.true w.in-Some.is w.board_square.ensures w.in_ok-place.ensures.answer w.in_ok-place.ensures.changed)
      | in_default w ↦ rw w.setup-is (putting_none c.args.cells.now c.loop-n.setup c.loop-n.n c.loop-n.invariant c.loop-n-test.true w.in_default.is)
    ]

pub returns-in_err-place : goal.returns-in_err-place
returns-in_err-place c = λ others.
    let p = err_from_is_err_and c.from_residual.result c.from_residual.ensures.1 in
    rw (p.1, p.2)
    (putting_fault c.args.cells.now c.loop-n.setup c.loop-n.n c.in-Some.piece c.board_square.result c.in_err-place.field-0.0 c.loop-n.invariant c.loop-n-test.true c.in-Some.is c.board_square.ensures c.in_err-place.ensures.answer others)
