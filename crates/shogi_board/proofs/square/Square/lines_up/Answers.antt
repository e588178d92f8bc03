use Rattle.std.proofs.Common.{arith, refl, ◌∙◌}
use Rattle.std.proofs.lemmas.Bool.{eqb-true, eq-eqb}
use Rattle.shogi_board.specs.Directions.{IsInLine}
use Rattle.shogi_board.proofs.Between.{as-far, on-diagonal, same-file, same-rank}
use Rattle.shogi_board.proofs.square.Square.lines_up.Goals as goal
use Rattle.shogi_board.proofs.square.Square.lines_up.Goals.{then-files-eq0-via-then-files-eq0, then-files-eq0-via-else-files-eq0+then-ranks-eq0}

pub returns-then-files-eq0 : goal.returns-then-files-eq0
returns-then-files-eq0 c =
    let files = c.abs_diff-files.ensures in
    let ranks = c.abs_diff-ranks.ensures in
    let line : IsInLine c.args.self c.args.other =
    elim c.then-files-eq0.branch [
      | then-files-eq0-via-then-files-eq0 w ↦
          same-file c.args.self c.args.other c.abs_diff-ranks.result (let e = w.if-files-eq0.true in omega (arith, e, files)) ranks
      | then-files-eq0-via-else-files-eq0+then-ranks-eq0 w ↦
          same-rank c.args.self c.args.other c.abs_diff-files.result files (let e = w.if-ranks-eq0.true in omega (arith, e, ranks))
    ] in
    (λ _. line, λ _. refl)

pub returns : goal.returns
returns c =
    let files = c.abs_diff-files.ensures in
    let ranks = c.abs_diff-ranks.ensures in (
      λ same. on-diagonal c.args.self c.args.other c.abs_diff-files.result files (eqb-true _ _ same ∙ ranks),
      λ line. eq-eqb _ _ (as-far c.args.self c.args.other _ _ line files ranks c.if-files-eq0.false c.if-ranks-eq0.false),
    )
