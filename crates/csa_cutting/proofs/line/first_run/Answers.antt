use Rattle.std.proofs.Common.{◌≡◌, ◌<◌, [], length, drop, sym, ap, ◌∙◌}
use Rattle.std.specs.List.{prefix_len, position_or_len}
use Rattle.csa_cutting.specs.Lines.{is_line_end}
use Rattle.csa_cutting.proofs.Fronts.{rest_of}
use Rattle.csa_cutting.proofs.LineCutting.{run_skipping, run_on, nothing, something}
use Rattle.csa_cutting.proofs.line.first_run.Goals as goal
use Rattle.csa_cutting.proofs.line.first_run.Goals.{then-is_empty, else-is_empty}

pub returns : goal.returns
returns c =
    let piece = c.args.piece.now in
    let held = c.args.held.now in
    let start = c.if-is_empty.start in
    let is_run : c.line_length.result ≡ position_or_len is_line_end (drop start piece) =
    c.line_length.ensures.value ∙ ap (position_or_len is_line_end) (rest_of piece start) in
    elim c.if-is_empty.branch [
      | then-is_empty w ↦
          let none : held ≡ [] = nothing held (sym c.is_empty.ensures ∙ w.if-is_empty.true) in
          let is_start : start ≡ prefix_len is_line_end piece = w.start-is ∙ w.line_ends_length-start.ensures.value in
          rw none (run_skipping piece start c.line_length.result is_start is_run)
      | else-is_empty w ↦
          let some : 0 < length held = something held (sym c.is_empty.ensures ∙ w.if-is_empty.false) in
          let first : start ≡ 0 = w.start-is in
          let whole : c.line_length.result ≡ position_or_len is_line_end piece = rw first at is_run in
          rw first (run_on held piece c.line_length.result some whole)
    ]
