use Rattle.std.proofs.Common.{◌≡◌, ◌∙◌, sym}
use Rattle.shogi_board.proofs.Same.{placed_eq, placed-eq}
use Rattle.shogi_rules.proofs.Searched.{own-order}
use Rattle.shogi_rules.proofs.occurrences.Entry.order.Goals as goal

pub returns-in-Equal : goal.returns-in-Equal
returns-in-Equal c =
    let p = c.args.position.now in
    let q = c.args.self.now.position in
    let same : c.eq.result ≡ placed_eq p q = c.eq.ensures in
    sym (own-order p q ((placed-eq p q).0 (sym same ∙ c.if-eq.true)))
