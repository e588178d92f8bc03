use Rattle.std.proofs.Common.{◌≡◌, ◌≤◌, ◌⊎◌, inl, inr, refl}
use Rattle.shogi_board.specs.Cells.{at, piece}
use Rattle.shogi_board.specs.Kinds.{last_rank, rank_for}
use Rattle.shogi_board.specs.Pieces.{promoted}
use Rattle.shogi_board.specs.Legal.{MayPromote, TargetFree}
use Rattle.shogi_board.specs.declared.moves.Move.TheVariants.{Walk}
use Rattle.std.specs.Prelude.{Some}
use Rattle.shogi_board.specs.declared.kind.Kind.{Kind}
use Rattle.shogi_board.proofs.Tests.{fails, holds, promotes, unmet}
use Rattle.shogi_board.proofs.board_rules.broken_by_walk.Goals as goal

pub returns-then-not-piece_reaches : goal.returns-then-not-piece_reaches
returns-then-not-piece_reaches c =
    let p = c.args.position.now in
    let own : at p.material.board c.args.from ≡ piece p.side c.in-Some.was = c.in-Some.ensures in
    let fits : (c.args.kind ≡ c.in-Some.was) ⊎ (promoted c.in-Some.was ≡ Some c.args.kind) = holds c.becomes.result c.becomes.ensures c.if-not-becomes.false in
    let free : TargetFree p (Walk c.args.from c.args.to c.args.kind) = unmet (λ (k : Kind). at p.material.board c.args.to ≡ piece p.side k) c.own_kind_at-else-not-becomes.result c.is_some.result c.is_some.ensures c.if-is_some.false c.own_kind_at-else-not-becomes.ensures in
    inr ((c.in-Some.was, own), inr ((c.in-Some.was, own, fits), inr (free, inl (fails c.piece_reaches.result c.piece_reaches.ensures c.if-not-piece_reaches.true, refl))))

pub returns-then-not-has_further_move : goal.returns-then-not-has_further_move
returns-then-not-has_further_move c =
    let p = c.args.position.now in
    let own : at p.material.board c.args.from ≡ piece p.side c.in-Some.was = c.in-Some.ensures in
    let fits : (c.args.kind ≡ c.in-Some.was) ⊎ (promoted c.in-Some.was ≡ Some c.args.kind) = holds c.becomes.result c.becomes.ensures c.if-not-becomes.false in
    let free : TargetFree p (Walk c.args.from c.args.to c.args.kind) = unmet (λ (k : Kind). at p.material.board c.args.to ≡ piece p.side k) c.own_kind_at-else-not-becomes.result c.is_some.result c.is_some.ensures c.if-is_some.false c.own_kind_at-else-not-becomes.ensures in
    let reach = holds c.piece_reaches.result c.piece_reaches.ensures c.if-not-piece_reaches.false in
    let may : MayPromote p (Walk c.args.from c.args.to c.args.kind) = promotes p c.args.from c.args.to c.in-Some.was c.args.kind own (rw c.side-side.ensures.value at (holds c.may_promote.result c.may_promote.ensures c.if-not-may_promote.false)) in
    let none : (last_rank c.args.kind ≤ rank_for p.side c.args.to) → ⊥ = rw c.side-side.ensures.value at (fails c.has_further_move.result c.has_further_move.ensures c.if-not-has_further_move.true) in
    inr ((c.in-Some.was, own), inr ((c.in-Some.was, own, fits), inr (free, inr (reach, inr (may, inl (none, refl))))))

pub returns-else-not-has_further_move : goal.returns-else-not-has_further_move
returns-else-not-has_further_move c =
    let p = c.args.position.now in
    let own : at p.material.board c.args.from ≡ piece p.side c.in-Some.was = c.in-Some.ensures in
    let fits : (c.args.kind ≡ c.in-Some.was) ⊎ (promoted c.in-Some.was ≡ Some c.args.kind) = holds c.becomes.result c.becomes.ensures c.if-not-becomes.false in
    record {
      has_piece = (c.in-Some.was, own);
      kind_fits = (c.in-Some.was, own, fits);
      target_free = unmet (λ (k : Kind). at p.material.board c.args.to ≡ piece p.side k) c.own_kind_at-else-not-becomes.result c.is_some.result c.is_some.ensures c.if-is_some.false c.own_kind_at-else-not-becomes.ensures;
      reaches = holds c.piece_reaches.result c.piece_reaches.ensures c.if-not-piece_reaches.false;
      may_promote = promotes p c.args.from c.args.to c.in-Some.was c.args.kind own (rw c.side-side.ensures.value at (holds c.may_promote.result c.may_promote.ensures c.if-not-may_promote.false));
      further_move = rw c.side-side.ensures.value at (holds c.has_further_move.result c.has_further_move.ensures c.if-not-has_further_move.false);
      lone_pawn = tt;
    }
