use Rattle.std.proofs.Common.{◌≡◌, ◌-◌, inl, inr, ap, ◌∙◌, sym, subst, length, arith}
use Rattle.shogi_board.specs.Placed.{Placed}
use Rattle.shogi_rules.specs.Positions.{Played, Over, line_of, now_of, position_after, positions_of}
use Rattle.shogi_rules.specs.Repetition.{IsNth}
use Rattle.shogi_rules.specs.Verdicts.{StandsByMoves, StandsByStretch}
use Rattle.shogi_rules.proofs.Games.{game-fourth, positions-long}
use Rattle.shogi_rules.proofs.line.Line.verdict.Goals as goal

pub returns-then-is_over : goal.returns-then-is_over
returns-then-is_over c =
    let i = c.self.inside in
    let ms = i.moves.items in
    let seen = c.self.invariant.1 in
    let over : Over c.args.self.now = c.is_over.ensures.answer.0 c.if-is_over.true in
    let own : Over (line_of i.start ms) = rw (sym c.self.view_is) at over in
    let long = seen.turns.long in
    let count = positions-long i.start ms in
    let place : length i.seen.turns - 1 ≡ length ms = omega (arith, long, count) in
    let nth : IsNth (positions_of i.start ms) (position_after i.start ms) 4 (length i.seen.turns - 1) =
    rw place (game-fourth i.start ms c.self.invariant.0.game own) in
    let there : StandsByStretch (line_of i.start ms) c.verdict_of_stretch.result = c.verdict_of_stretch.ensures (line_of i.start ms) seen nth in
    record { stands = inl (over, subst (λ (s : Played). StandsByStretch s c.verdict_of_stretch.result) c.self.view_is there) }

pub returns-else-is_over : goal.returns-else-is_over
returns-else-is_over c = record {
  stands = let i = c.self.inside in
      let e : i.last ≡ now_of c.args.self.now = c.self.invariant.2 ∙ ap now_of c.self.view_is in
      let not_over : Over c.args.self.now → ⊥ = λ over.
      let yes = c.is_over.ensures.answer.1 over in
      let no = c.if-is_over.false in
      cc in
      let P : Placed → Type 0 = λ p. StandsByMoves p c.verdict_by_moves.result in
      inr (not_over, subst P e c.verdict_by_moves.ensures);
}
