use Rattle.std.proofs.Common.{rules}
use Rattle.shogi_rules.proofs.Checks.{kept-if-promoted}
use Rattle.shogi_board.proofs.Tests.{fails}
use Rattle.shogi_rules.proofs.evasions.keeps_form.Goals as goal

pub returns : goal.returns
returns c =
    let bare = fails c.keeps.result c.keeps.ensures.answer c.if-keeps.false in
    kept-if-promoted c.args.situation.now c.args.from c.args.to c.args.was c.promoted.result c.is_some_and.result _ c.requires bare c.promoted.ensures.value c.is_some_and.ensures (λ k q. search rules)
