use Rattle.std.proofs.Common.{◌∙◌, ◌++◌, ap, codes, append_assoc, length}
use Rattle.usi_text.proofs.Games.{after_stated, none_left}
use Rattle.usi_text.proofs.line_writing.push_moves.Goals as goal

pub returns : goal.returns
returns c =
    let r = c.in_ok-push_each.ensures {u = tt} in
    let moves = c.args.moves.now in (
      codes " moves" ++ r.0,
      after_stated c.args.start moves r.0 (none_left c.is_empty.result (length moves) c.is_empty.ensures c.if-is_empty.false) r.1,
      r.2 ∙ (ap (λ t. t ++ r.0) c.in_ok-extend_from_slice.ensures.items ∙ append_assoc c.args.text.now.items (codes " moves") r.0),
    )
